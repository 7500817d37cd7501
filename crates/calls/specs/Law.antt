-- The law of runs: what holds after whatever calls follow set, each given the job's own rack and net.
use Rattle.std.specs.Prelude.{◌≡◌, ℕ, zero, suc, ◌<◌, List, [], ◌∷◌, ◌++◌, map, length, take, ℤ, pos, ◌+ℤ◌, ◌-ℤ◌, ◌*ℤ◌, is_ok, Some, None, Ok, Err, Decides, Option, Result, slice_index_or, slice_set, unsigned_abs}
use Rattle.unit.specs.Figures.{Figures, Inside}
use Rattle.unit.specs.Pulses.{value}
use Rattle.unit.specs.declared.pulse.Pulse.{Pulse}
use Rattle.unit.specs.declared.refusal.Refusal.{Refusal}
use Rattle.net.specs.Limits.{most_ticks}
use Rattle.net.specs.Records.{record_at}
use Rattle.net.specs.declared.net.Net.{Net}
use Rattle.net.specs.declared.record.Record.{Record}
use Rattle.runs.specs.Histories as runs
use Rattle.runs.specs.Histories.{Wired, Tick, History, IsUnit, Fits, lines, tally, position, all_delivered}
use Rattle.calls.specs.Calls.{FeedAnswers, TickAnswers, Chain, Ended}
use Rattle.calls.specs.Readings.{Reads, ReadAnswers, RowAnswers}
use Rattle.calls.specs.declared.reading.Reading.{Reading}

-- ---- the calls
-- a call that may follow set, with what it was asked and what it answered
pub data Call : Type 0 where
  feed : ℕ → ℤ → Result (Unit {0}) Refusal → Call
  tick : Result (Unit {0}) Refusal → Call
  run : ℕ → ℕ → Option Refusal → Call
  read : ℕ → Result Reading Refusal → Call
  row : ℕ → Result ℕ Refusal → Call

-- calls, the newest first, that lead from the rack us and the net n as they were set to vs and m
pub data Follow {U : Type 0} (figures : U → Figures) (units : ℕ) (us : List U) (n : Net) : List Call → List U → Net → Type 0 where
  at_set : Follow figures units us n [] us n
  then_feed : {cs : List Call} {vs : List U} {m o : Net} (l : ℕ) (v : ℤ) (r : Result (Unit {0}) Refusal) → Follow figures units us n cs vs m → FeedAnswers units vs m l v r o → Follow figures units us n (feed l v r ∷ cs) vs o
  then_tick : {cs : List Call} {vs ws : List U} {m o : Net} (r : Result (Unit {0}) Refusal) → Follow figures units us n cs vs m → TickAnswers figures units vs m r ws o → Follow figures units us n (tick r ∷ cs) ws o
  then_run : {cs : List Call} {vs ws : List U} {m o : Net} (asked made : ℕ) (r : Option Refusal) → Follow figures units us n cs vs m → Chain figures units vs m made ws o → Ended figures units asked made r ws o → Follow figures units us n (run asked made r ∷ cs) ws o
  then_read : {cs : List Call} {vs : List U} {m : Net} (i : ℕ) (r : Result Reading Refusal) → Follow figures units us n cs vs m → ReadAnswers figures units vs m i r → Follow figures units us n (read i r ∷ cs) vs m
  then_row : {cs : List Call} {vs : List U} {m : Net} (i : ℕ) (before later : List ℕ) (r : Result ℕ Refusal) → Follow figures units us n cs vs m → RowAnswers figures units vs m i before r later → Follow figures units us n (row i r ∷ cs) vs m

-- ---- the outside lines, read off the answers
-- what waits on each line, the oldest first, and what the lines gave at each accepted tick, the newest first
pub record Lines : Type 0 where
  pub waiting : List (List ℤ)
  pub given : List (List ℤ)

-- a line gives the oldest of its accepted feeds not yet given, or 0
abbrev pub oldest : List ℤ → ℤ
oldest [] = pos 0
oldest (v ∷ q) = v

abbrev pub without_oldest : List ℤ → List ℤ
without_oldest [] = []
without_oldest (v ∷ q) = q

abbrev pub fed : ℕ → ℤ → Lines → Lines
fed l v s = record { waiting = slice_set s.waiting l (slice_index_or s.waiting l [] ++ (v ∷ [])); given = s.given }

abbrev pub ticked : Lines → Lines
ticked s = record { waiting = map without_oldest s.waiting; given = map oldest s.waiting ∷ s.given }

abbrev pub ticked_by : ℕ → Lines → Lines
ticked_by zero s = s
ticked_by (suc k) s = ticked (ticked_by k s)

-- accepted is a feed or a tick whose answer is no refusal, and a tick that run counts as made
abbrev pub lines_after : List Call → Lines
lines_after [] = record { waiting = [] ∷ [] ∷ [] ∷ [] ∷ []; given = [] }
lines_after (feed l v (Ok _) ∷ cs) = fed l v (lines_after cs)
lines_after (feed l v (Err e) ∷ cs) = lines_after cs
lines_after (tick (Ok _) ∷ cs) = ticked (lines_after cs)
lines_after (tick (Err e) ∷ cs) = lines_after cs
lines_after (run asked made r ∷ cs) = ticked_by made (lines_after cs)
lines_after (read i r ∷ cs) = lines_after cs
lines_after (row i r ∷ cs) = lines_after cs

-- what waits on one line of a net
abbrev pub waits : Option Pulse → List ℤ
waits None = []
waits (Some z) = value z ∷ []

-- ---- the law
-- the units as they stand when the job is set, with their taps
abbrev pub zipped : {U : Type 0} → (U → Figures) → List U → List Record → List Wired
zipped figures [] rs = []
zipped figures (u ∷ us) [] = []
zipped figures (u ∷ us) (r ∷ rs) = record { start = figures u; x = r.x; y = r.y } ∷ zipped figures us rs

abbrev pub wired_units : {U : Type 0} → (U → Figures) → ℕ → List U → Net → List Wired
wired_units figures units us n = take units (zipped figures us n.table.records)

-- modulus times net pulses, plus residue less start residue, is the work; and they differ by less than the modulus
pub record Closes (w : Wired) (f : Figures) (r : Record) : Type 0 where
  pub sum : ((pos w.start.constants.modulus *ℤ r.net) +ℤ f.residue) -ℤ w.start.residue ≡ r.work
  pub near : unsigned_abs (r.work -ℤ (pos w.start.constants.modulus *ℤ r.net)) < w.start.constants.modulus

-- one tick more would be accepted: not all are spent, and no unit would leave its range
pub record NextFits (ws : List Wired) (h : History) (given : List ℤ) : Type 0 where
  pub left : length h < most_ticks
  pub stay : (i : ℕ) (w : Wired) → IsUnit ws i w → Inside w.start.constants (position w h +ℤ tally (lines h) given w.y)

-- what a reading tells, by the history
pub record Tells (i : ℕ) (w : Wired) (h : History) (r : Reading) : Type 0 where
  pub ticks : r.ticks ≡ length h
  pub position : r.position ≡ runs.position w h
  pub residue : r.residue ≡ runs.residue i w h
  pub weight : r.weight ≡ w.start.constants.weight (runs.position w h)
  pub net : r.net ≡ runs.net i h
  pub work : r.work ≡ runs.work w h
  pub line : value r.line ≡ slice_index_or (lines h) i (pos 0)

-- the newest call was stopped by a refused tick
abbrev pub TickRefusedLast : List Call → Type 0
TickRefusedLast [] = ⊥
TickRefusedLast (feed l v r ∷ cs) = ⊥
TickRefusedLast (tick (Ok _) ∷ cs) = ⊥
TickRefusedLast (tick (Err e) ∷ cs) = Unit {0}
TickRefusedLast (run asked made None ∷ cs) = ⊥
TickRefusedLast (run asked made (Some e) ∷ cs) = Unit {0}
TickRefusedLast (read i r ∷ cs) = ⊥
TickRefusedLast (row i r ∷ cs) = ⊥

-- After the calls cs rack and net are us and n: there is one list of pulses that fits start, wires and feeds, and
-- everything that can be read follows from it.
pub record LawHolds {U : Type 0} (figures : U → Figures) (units : ℕ) (ws : List Wired) (cs : List Call) (us : List U) (n : Net) : Type 0 where
  -- no unit is left out
  pub all : length ws ≡ units
  pub history : History
  pub feeds : map (λ t. t.fed) history ≡ (lines_after cs).given
  pub waiting : map waits n.outside ≡ (lines_after cs).waiting
  pub ticks : n.ticks ≡ length history
  -- a
  pub closes : (i : ℕ) (w : Wired) → IsUnit ws i w → (u : U) → Closes w (figures (slice_index_or us i u)) (record_at n.table.records i)
  -- b
  pub delivered : (i : ℕ) (w : Wired) → IsUnit ws i w → (u : U) → (figures (slice_index_or us i u)).position ≡ w.start.position +ℤ all_delivered w.y history
  pub next : (r : Result (Unit {0}) Refusal) (vs : List U) (m : Net) → TickAnswers figures units us n r vs m → Decides (is_ok r) (NextFits ws history (map oldest (lines_after cs).waiting))
  pub stopped : TickRefusedLast cs → NextFits ws history (map oldest (lines_after cs).waiting) → ⊥
  -- c
  pub fits : Fits ws history
  pub only : (g : History) → map (λ t. t.fed) g ≡ map (λ t. t.fed) history → Fits ws g → g ≡ history
  -- what read and row tell
  pub tells : (i : ℕ) (w : Wired) → IsUnit ws i w → (r : Reading) → Reads figures us n i r → Tells i w history r
