-- The most ticks that a net counts, and the most units.
use Rattle.std.specs.Prelude.{ℕ}

abbrev pub most_ticks : ℕ
most_ticks = 16777216

abbrev pub most_units : ℕ
most_units = 64
