-- How a net changes: each relation says what is other afterwards and what is as it was.
use Rattle.std.specs.Prelude.{◌≡◌, ℕ, ◌+◌, replicate, Some, None, slice_set}
use Rattle.unit.specs.declared.pulse.Pulse.{Pulse}
use Rattle.net.specs.Limits.{most_units}
use Rattle.net.specs.Records.{blank}
use Rattle.net.specs.Tables.{Emptied}
use Rattle.net.specs.declared.net.Net.{Net}
use Rattle.net.specs.declared.record.Record.{Record}

-- no units, no taps, nothing on any line
pub record Empty (n : Net) : Type 0 where
  pub count : n.count ≡ 0
  pub ticks : n.ticks ≡ 0
  pub outside : n.outside ≡ replicate 4 None
  pub records : n.table.records ≡ replicate most_units blank

-- one unit more, without taps
pub record UnitAdded (n m : Net) : Type 0 where
  pub count : m.count ≡ n.count + 1
  pub ticks : m.ticks ≡ n.ticks
  pub outside : m.outside ≡ n.outside
  pub records : m.table.records ≡ slice_set n.table.records n.count blank

-- another record at place i
pub record Stored (n : Net) (i : ℕ) (r : Record) (m : Net) : Type 0 where
  pub count : m.count ≡ n.count
  pub ticks : m.ticks ≡ n.ticks
  pub outside : m.outside ≡ n.outside
  pub records : m.table.records ≡ slice_set n.table.records i r

-- a pulse that now waits on the outside line l
pub record Waits (n : Net) (l : ℕ) (z : Pulse) (m : Net) : Type 0 where
  pub count : m.count ≡ n.count
  pub ticks : m.ticks ≡ n.ticks
  pub outside : m.outside ≡ slice_set n.outside l (Some z)
  pub records : m.table ≡ n.table

-- nothing on any line, nothing emitted, no work done, no tick counted; the taps stay
pub record Reset (n m : Net) : Type 0 where
  pub count : m.count ≡ n.count
  pub ticks : m.ticks ≡ 0
  pub outside : m.outside ≡ replicate 4 None
  pub records : Emptied n.table.records most_units m.table.records

-- one tick more, and the outside lines empty
pub record TickCounted (n m : Net) : Type 0 where
  pub count : m.count ≡ n.count
  pub ticks : m.ticks ≡ n.ticks + 1
  pub outside : m.outside ≡ replicate 4 None
  pub records : m.table ≡ n.table
