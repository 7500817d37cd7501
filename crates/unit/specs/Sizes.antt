-- The largest modulus that a unit tells, which also bounds positions and weights; and the largest tally.
use Rattle.std.specs.Prelude.{ℕ}

abbrev pub largest : ℕ
largest = 4294967296

abbrev pub largest_tally : ℕ
largest_tally = 4
