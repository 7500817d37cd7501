-- The size of a pulse, and of a weight times a pulse.
use Rattle.std.proofs.Common.{◌+◌, ◌≤◌, ℤ, ◌+ℤ◌, nat_abs, arith}
use Rattle.std.proofs.lemmas.Int.{ints}
use Rattle.unit.specs.Pulses.{value}
use Rattle.unit.specs.declared.pulse.Pulse.{Pulse}
use Rattle.unit.specs.declared.pulse.Pulse.TheVariants.{Minus, Zero, Plus}

pub small : (z : Pulse) → nat_abs (value z) ≤ 1
small Minus = omega arith
small Zero = omega arith
small Plus = omega arith

pub size_sum : (a b : ℤ) → nat_abs (a +ℤ b) ≤ nat_abs a + nat_abs b
size_sum a b = omega (arith, ints)
