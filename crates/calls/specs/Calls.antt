-- What each call of a job answers and leaves. A refusal is given exactly where its line below says, the earlier checks
-- having passed, and then everything that was lent is what it was.
use Rattle.std.specs.Prelude.{◌≡◌, ℕ, ◌+◌, ◌<◌, ◌≤◌, true, false, ◌⊎◌, List, length, ℤ, is_some, Some, None, Ok, Err, Option, Result, ◌≢◌, slice_index_or, slice_set}
use Rattle.unit.specs.Figures.{Figures, told_modulus}
use Rattle.unit.specs.Pulses.{value}
use Rattle.ticks.specs.Racks.{at_place}
use Rattle.unit.specs.declared.pulse.Pulse.{Pulse}
use Rattle.unit.specs.declared.pulse.Pulse.TheVariants.{Zero}
use Rattle.unit.specs.declared.refusal.Refusal.{Refusal}
use Rattle.unit.specs.declared.refusal.Refusal.TheVariants.{FigureOutOfRange, NoSuchSource, NoSuchFeed, NotThere, OtherRackOrNet, RackFull, TapTaken, PulseWaiting, TicksSpent, LeavesRange, NoUnits, ModulusUntold}
use Rattle.unit.specs.declared.refusal.Returned.{Returned}
use Rattle.wires.specs.Sources.{code_of, there}
use Rattle.wires.specs.Taps.{figure_of}
use Rattle.wires.specs.declared.source.Source.{Source}
use Rattle.wires.specs.declared.tap.Input.{Input}
use Rattle.wires.specs.declared.tap.Input.TheVariants.{X, Y}
use Rattle.wires.specs.declared.tap.Sign.{Sign}
use Rattle.wires.specs.declared.tap.Tap.{Tap}
use Rattle.net.specs.Changes.{UnitAdded, Stored, Waits}
use Rattle.net.specs.Limits.{most_ticks, most_units}
use Rattle.net.specs.Records.{record_at, cleared, with_x, with_y, FirstFree}
use Rattle.net.specs.declared.net.Net.{Net}
use Rattle.net.specs.declared.record.Record.{Record}
use Rattle.ticks.specs.Ticks.{FirstLeaving, AllAccept, Ticked}

-- the rack has a place for each unit of the job, and the net counts the same units
pub record Matches {U : Type 0} (units : ℕ) (us : List U) (n : Net) : Type 0 where
  pub room : units ≤ length us
  pub count : n.count ≡ units

-- Refusal 10 comes first, and the others only where rack and net belong to the job.
pub data Refused {U : Type 0} (units : ℕ) (us : List U) (n : Net) (fault : Refusal → Type 0) : Refusal → Type 0 where
  other : (Matches units us n → ⊥) → Refused units us n fault OtherRackOrNet
  for_fault : {e : Refusal} → Matches units us n → fault e → Refused units us n fault e

-- one tap more in a record: the x tap, or a y tap at the first free place of four; none where that is taken
abbrev pub WithTap : Input → Record → Tap → Option Record → Type 0
WithTap X r tap None = is_some r.x ≡ true
WithTap X r tap (Some s) = (is_some r.x ≡ false) × (s ≡ with_x r tap)
WithTap Y r tap None = FirstFree r.y None
WithTap Y r tap (Some s) = (k : ℕ) × (FirstFree r.y (Some k) × (s ≡ with_y r k tap))

-- a line that there is, and +1 or -1
pub record FeedAsked (l : ℕ) (v : ℤ) (z : Pulse) : Type 0 where
  pub line : l < 4
  pub pulse : value z ≡ v
  pub some : z ≡ Zero → ⊥

-- ---- calls that ask nothing of the units
module _ {U : Type 0} (units : ℕ) (us : List U) (n : Net) where
  -- place
  pub data PlaceFault : Refusal → Type 0 where
    full : (most_units ≤ units) ⊎ (length us ≤ units) → PlaceFault RackFull

  pub record Placed (u : U) (later : ℕ) (vs : List U) (m : Net) : Type 0 where
    pub matches : Matches units us n
    pub below : units < most_units
    pub free : units < length us
    pub units_more : later ≡ units + 1
    pub rack : vs ≡ slice_set us units u
    pub net : UnitAdded n m

  abbrev pub PlaceAnswers : U → Result (Unit {0}) (Returned U) → ℕ → List U → Net → Type 0
  PlaceAnswers u (Ok _) later vs m = Placed u later vs m
  PlaceAnswers u (Err e) later vs m = Refused units us n PlaceFault e.refusal × (e.unit ≡ u) × (later ≡ units) × (vs ≡ us) × (m ≡ n)

  -- plug: the tap that a sign and a source ask for
  pub record TapAsked (figure code : ℕ) (tap : Tap) : Type 0 where
    pub sign : figure_of tap.sign ≡ figure
    pub there : there units tap.source ≡ true
    pub source : code_of tap.source ≡ code

  pub data PlugFault (i : ℕ) (input : Input) (figure code : ℕ) : Refusal → Type 0 where
    no_sign : ((s : Sign) → figure_of s ≢ figure) → PlugFault i input figure code FigureOutOfRange
    no_source : (s : Sign) → figure_of s ≡ figure → ((t : Source) → there units t ≡ true → code_of t ≢ code) → PlugFault i input figure code NoSuchSource
    no_unit : (tap : Tap) → TapAsked figure code tap → units ≤ i → PlugFault i input figure code NotThere
    taken : (tap : Tap) → TapAsked figure code tap → i < units → WithTap input (record_at n.table.records i) tap None → PlugFault i input figure code TapTaken

  pub record Plugged (i : ℕ) (input : Input) (figure code : ℕ) (m : Net) : Type 0 where
    pub matches : Matches units us n
    pub tap : Tap
    pub asked : TapAsked figure code tap
    pub unit : i < units
    pub later : Record
    pub with_tap : WithTap input (record_at n.table.records i) tap (Some later)
    pub stored : Stored n i later m

  abbrev pub PlugAnswers : ℕ → Input → ℕ → ℕ → Result (Unit {0}) Refusal → Net → Type 0
  PlugAnswers i input figure code (Ok _) m = Plugged i input figure code m
  PlugAnswers i input figure code (Err e) m = Refused units us n (PlugFault i input figure code) e × (m ≡ n)

  -- clear
  pub data ClearFault (i : ℕ) : Refusal → Type 0 where
    not_in_job : units ≤ i → ClearFault i NotThere

  abbrev pub ClearAnswers : ℕ → Result (Unit {0}) Refusal → Net → Type 0
  ClearAnswers i (Ok _) m = Matches units us n × (i < units) × Stored n i (cleared (record_at n.table.records i)) m
  ClearAnswers i (Err e) m = Refused units us n (ClearFault i) e × (m ≡ n)

  -- feed
  pub data FeedFault (l : ℕ) (v : ℤ) : Refusal → Type 0 where
    no_feed : ((z : Pulse) → FeedAsked l v z → ⊥) → FeedFault l v NoSuchFeed
    waiting : (z : Pulse) → FeedAsked l v z → is_some (slice_index_or n.outside l None) ≡ true → FeedFault l v PulseWaiting

  pub record Fed (l : ℕ) (v : ℤ) (m : Net) : Type 0 where
    pub matches : Matches units us n
    pub pulse : Pulse
    pub asked : FeedAsked l v pulse
    pub free : is_some (slice_index_or n.outside l None) ≡ false
    pub net : Waits n l pulse m

  abbrev pub FeedAnswers : ℕ → ℤ → Result (Unit {0}) Refusal → Net → Type 0
  FeedAnswers l v (Ok _) m = Fed l v m
  FeedAnswers l v (Err e) m = Refused units us n (FeedFault l v) e × (m ≡ n)

-- ---- calls that ask the units
module _ {U : Type 0} (figures : U → Figures) (units : ℕ) (us : List U) where
  -- every unit below k tells a modulus
  abbrev pub AllTold : ℕ → Type 0
  AllTold k = (i : ℕ) → i < k → (u : U) → told_modulus (at_place figures us i u) ≢ 0

  -- the lowest unit that tells none, if any
  abbrev pub FirstUntold : Option ℕ → Type 0
  FirstUntold None = AllTold units
  FirstUntold (Some k) = (k < units) × AllTold k × ((u : U) → told_modulus (at_place figures us k u) ≡ 0)

module _ {U : Type 0} (figures : U → Figures) (units : ℕ) (us : List U) (n : Net) where
  -- set
  pub data SetFault : Refusal → Type 0 where
    no_units : units ≡ 0 → SetFault NoUnits
    untold : 0 < units → (k : ℕ) → FirstUntold figures units us (Some k) → SetFault (ModulusUntold k)

  -- tick
  pub data TickFault : Refusal → Type 0 where
    spent : n.ticks ≡ most_ticks → TickFault TicksSpent
    leaves : n.ticks < most_ticks → (k : ℕ) → FirstLeaving figures us n (Some k) → TickFault (LeavesRange k)

  pub record TickMade (vs : List U) (m : Net) : Type 0 where
    pub matches : Matches units us n
    pub early : n.ticks < most_ticks
    pub accepted : AllAccept figures us n n.count
    pub ticked : Ticked figures us n vs m

  abbrev pub TickAnswers : Result (Unit {0}) Refusal → List U → Net → Type 0
  TickAnswers (Ok _) vs m = TickMade vs m
  TickAnswers (Err e) vs m = Refused units us n TickFault e × (vs ≡ us) × (m ≡ n)

-- so many accepted ticks, one after the other
pub data Chain {U : Type 0} (figures : U → Figures) (units : ℕ) (us : List U) (n : Net) : ℕ → List U → Net → Type 0 where
  none : Chain figures units us n 0 us n
  more : {k : ℕ} {vs ws : List U} {m o : Net} → Chain figures units us n k vs m → TickMade figures units vs m ws o → Chain figures units us n (k + 1) ws o

-- all that were asked for are made, or the next one is refused
abbrev pub Ended : {U : Type 0} → (U → Figures) → ℕ → ℕ → ℕ → Option Refusal → List U → Net → Type 0
Ended figures units asked made None vs m = Matches units vs m × (made ≡ asked)
Ended figures units asked made (Some e) vs m = Refused units vs m (TickFault figures units vs m) e
