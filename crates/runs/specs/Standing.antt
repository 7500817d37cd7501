-- When a rack and a net are what a history made of units wired so, and the tick that takes them one further.
use Rattle.std.specs.Prelude.{◌≡◌, ℕ, ◌≤◌, List, map, length, take, ℤ, pos, slice_index_or}
use Rattle.unit.specs.Figures.{Figures}
use Rattle.unit.specs.Pulses.{value}
use Rattle.net.specs.Records.{record_at}
use Rattle.net.specs.Signals.{or_zero}
use Rattle.net.specs.declared.net.Net.{Net}
use Rattle.net.specs.declared.record.Record.{Record}
use Rattle.runs.specs.Histories.{Wired, Tick, History, IsUnit, lines, position, residue, net, work}

-- unit i, wired as w, with figures f and record r after the history h
pub record Stands (i : ℕ) (w : Wired) (h : History) (f : Figures) (r : Record) : Type 0 where
  pub constants : f.constants ≡ w.start.constants
  pub position : f.position ≡ position w h
  pub residue : f.residue ≡ residue i w h
  pub x : r.x ≡ w.x
  pub y : r.y ≡ w.y
  pub line : value r.line ≡ slice_index_or (lines h) i (pos 0)
  pub net : r.net ≡ net i h
  pub work : r.work ≡ work w h

pub record Describes {U : Type 0} (figures : U → Figures) (ws : List Wired) (h : History) (us : List U) (n : Net) : Type 0 where
  pub count : n.count ≡ length ws
  pub room : length ws ≤ length us
  pub ticks : n.ticks ≡ length h
  pub each : (i : ℕ) (w : Wired) → IsUnit ws i w → (u : U) → Stands i w h (figures (slice_index_or us i u)) (record_at n.table.records i)

-- what the outside lines give at the next tick
abbrev pub next_fed : Net → List ℤ
next_fed n = map (λ o. value (or_zero o)) n.outside

-- the tick that took the net n to m, in a job of so many units
abbrev pub tick_of : ℕ → Net → Net → Tick
tick_of units n m = record { fed = next_fed n; pulses = take units (map (λ r. value r.line) m.table.records) }
