-- The longest integrator and the largest limit of a servo.
use Rattle.std.specs.Prelude.{ℕ}

abbrev pub longest : ℕ
longest = 24

abbrev pub largest_limit : ℕ
largest_limit = 16777216
