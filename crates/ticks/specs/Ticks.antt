-- One tick of a rack and its net: every input is read from the lines as they stood before it, and every unit steps.
use Rattle.std.specs.Prelude.{◌≡◌, ℕ, ◌+◌, ◌<◌, ◌≤◌, List, length, replicate, ℤ, ◌+ℤ◌, ◌*ℤ◌, Some, None, Option, slice_index_or}
use Rattle.unit.specs.Figures.{Figures, Moved, weight_now}
use Rattle.unit.specs.Pulses.{value}
use Rattle.ticks.specs.Racks.{at_place, Accepts, AcceptsAt}
use Rattle.unit.specs.declared.pulse.Pulse.{Pulse}
use Rattle.net.specs.Records.{record_at}
use Rattle.net.specs.Signals.{delivered, sum}
use Rattle.net.specs.declared.net.Net.{Net}
use Rattle.net.specs.declared.record.Record.{Record}

-- the x pulse and the tally of the unit at place i, from the lines as they stand in the net n
abbrev pub x_pulse : Net → ℕ → Pulse
x_pulse n i = delivered n (record_at n.table.records i).x

abbrev pub tally : Net → ℕ → ℤ
tally n i = sum n (record_at n.table.records i).y

-- one unit's share in a tick with the x pulse x and the tally s: figures f to g, record r to s'
pub record Advanced (x : Pulse) (s : ℤ) (f g : Figures) (r later : Record) : Type 0 where
  pub moved : Moved f x s later.line g
  pub x_tap : later.x ≡ r.x
  pub y_taps : later.y ≡ r.y
  pub net : later.net ≡ r.net +ℤ value later.line
  pub work : later.work ≡ r.work +ℤ (weight_now g *ℤ value x)

-- each unit below k would accept its tally
abbrev pub AllAccept : {U : Type 0} → (U → Figures) → List U → Net → ℕ → Type 0
AllAccept figures us n k = (i : ℕ) → i < k → AcceptsAt figures us i (tally n i)

-- the lowest unit that would leave its range, if any
abbrev pub FirstLeaving : {U : Type 0} → (U → Figures) → List U → Net → Option ℕ → Type 0
FirstLeaving figures us n None = AllAccept figures us n n.count
FirstLeaving {U} figures us n (Some k) = (k < n.count) × AllAccept figures us n k × ((u : U) → Accepts (at_place figures us k u) (tally n k) → ⊥)

-- A whole tick, from the rack us and the net n to vs and m. Units and records beyond the count are what they were.
pub record Ticked {U : Type 0} (figures : U → Figures) (us : List U) (n : Net) (vs : List U) (m : Net) : Type 0 where
  pub count : m.count ≡ n.count
  pub ticks : m.ticks ≡ n.ticks + 1
  pub outside : m.outside ≡ replicate 4 None
  pub places : length vs ≡ length us
  pub each : (i : ℕ) → i < n.count → (u : U) → Advanced (x_pulse n i) (tally n i) (at_place figures us i u) (at_place figures vs i u) (record_at n.table.records i) (record_at m.table.records i)
  pub units_beyond : (i : ℕ) → n.count ≤ i → (u : U) → slice_index_or vs i u ≡ slice_index_or us i u
  pub records_beyond : (i : ℕ) → n.count ≤ i → record_at m.table.records i ≡ record_at n.table.records i
