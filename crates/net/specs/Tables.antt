-- The records below k emptied, and the others as they were.
use Rattle.std.specs.Prelude.{◌≡◌, ℕ, ◌<◌, ◌≤◌, List, length}
use Rattle.net.specs.Records.{record_at, emptied}
use Rattle.net.specs.declared.record.Record.{Record}

pub record Emptied (rs : List Record) (k : ℕ) (ss : List Record) : Type 0 where
  pub places : length ss ≡ length rs
  pub each : (i : ℕ) → i < k → record_at ss i ≡ emptied (record_at rs i)
  pub beyond : (i : ℕ) → k ≤ i → record_at ss i ≡ record_at rs i
