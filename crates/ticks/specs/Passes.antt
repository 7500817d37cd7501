-- The two passes of a tick: the inputs of all units from the lines as they stand, then the steps with these inputs.
use Rattle.std.specs.Prelude.{◌≡◌, ℕ, ◌+◌, ◌<◌, ◌≤◌, List, length, slice_index_or, slice_set}
use Rattle.unit.specs.Figures.{Figures}
use Rattle.ticks.specs.Racks.{at_place}
use Rattle.net.specs.Changes.{Stored}
use Rattle.net.specs.Bounds.{NetWithin, WorkWithin}
use Rattle.net.specs.Records.{record_at}
use Rattle.net.specs.Signals.{InputsOf}
use Rattle.net.specs.declared.inputs.Inputs.{Inputs}
use Rattle.net.specs.declared.net.Net.{Net}
use Rattle.ticks.specs.Ticks.{Advanced}

-- the inputs of the units below k are gathered
abbrev pub Gathered : Net → List Inputs → ℕ → Type 0
Gathered n inputs k = (i : ℕ) → i < k → (d : Inputs) → InputsOf n i (slice_index_or inputs i d)

-- the record at place i has had fewer ticks than the net counts, so that there is room for a step
pub record RoomAt (n : Net) (i : ℕ) : Type 0 where
  pub before : ℕ
  pub ticks : n.ticks ≡ before + 1
  pub net : NetWithin before (record_at n.table.records i)
  pub work : WorkWithin before (record_at n.table.records i)

-- the unit at place i has stepped with these inputs, and all else of rack and net is what it was
pub record AdvancesAt {U : Type 0} (figures : U → Figures) (us : List U) (n : Net) (i : ℕ) (given : Inputs) (vs : List U) (m : Net) : Type 0 where
  pub units : (u : U) → vs ≡ slice_set us i (slice_index_or vs i u)
  pub advanced : (u : U) → Advanced given.x given.tally.value (at_place figures us i u) (at_place figures vs i u) (record_at n.table.records i) (record_at m.table.records i)
  pub stored : Stored n i (record_at m.table.records i) m

-- the units below k have stepped with these inputs, and all else is what it was
pub record Stepping {U : Type 0} (figures : U → Figures) (us : List U) (n : Net) (inputs : List Inputs) (k : ℕ) (vs : List U) (m : Net) : Type 0 where
  pub count : m.count ≡ n.count
  pub ticks : m.ticks ≡ n.ticks
  pub outside : m.outside ≡ n.outside
  pub places : length vs ≡ length us
  pub each : (i : ℕ) → i < k → (u : U) (d : Inputs) → Advanced (slice_index_or inputs i d).x (slice_index_or inputs i d).tally.value (at_place figures us i u) (at_place figures vs i u) (record_at n.table.records i) (record_at m.table.records i)
  pub units_beyond : (i : ℕ) → k ≤ i → (u : U) → slice_index_or vs i u ≡ slice_index_or us i u
  pub records_beyond : (i : ℕ) → k ≤ i → record_at m.table.records i ≡ record_at n.table.records i
