-- The opposite pulse is the negated number.
use Rattle.std.proofs.Common.{◌≡◌, neg_ℤ, refl}
use Rattle.unit.specs.Pulses.{value, opposite}
use Rattle.unit.specs.declared.pulse.Pulse.{Pulse}
use Rattle.unit.specs.declared.pulse.Pulse.TheVariants.{Minus, Zero, Plus}

pub opposite_value : (z : Pulse) → value (opposite z) ≡ neg_ℤ (value z)
opposite_value Minus = refl
opposite_value Zero = refl
opposite_value Plus = refl
