-- The position of a make is small.
use Rattle.std.proofs.Common.{ℕ, ◌≤◌, ℤ, nat_abs, arith, pow_mono}
use Rattle.std.proofs.lemmas.Int.{ints}
use Rattle.makes.specs.Integrators.{Allowed}
use Rattle.sheet.specs.Patches.{largest_position}

pub small_position : (n : ℕ) (p r : ℤ) → Allowed n p r → nat_abs p ≤ largest_position
small_position n p r h = omega (arith, ints, h.position.above, h.position.below, pow_mono {i = n} {j = 24} h.longest)
