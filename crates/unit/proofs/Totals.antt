-- The sum of four pulses, written out.
use Rattle.std.proofs.Common.{◌≡◌, ℕ, List, [], ◌∷◌, length, slice_index_or, ℤ, ◌+ℤ◌, arith}
use Rattle.std.proofs.lemmas.Int.{ints}
use Rattle.unit.specs.Pulses.{value, total}
use Rattle.unit.specs.declared.pulse.Pulse.{Pulse}
use Rattle.unit.specs.declared.pulse.Pulse.TheVariants.{Minus}

abbrev at : List Pulse → ℕ → ℤ
at zs i = value (slice_index_or zs i Minus)

pub total_of_four : (zs : List Pulse) → length zs ≡ 4 → total zs ≡ (at zs 0 +ℤ at zs 1) +ℤ (at zs 2 +ℤ at zs 3)
total_of_four [] e = absurd (omega arith)
total_of_four (a ∷ []) e = absurd (omega arith)
total_of_four (a ∷ b ∷ []) e = absurd (omega arith)
total_of_four (a ∷ b ∷ c ∷ []) e = absurd (omega arith)
total_of_four (a ∷ b ∷ c ∷ d ∷ []) e = omega (arith, ints)
total_of_four (a ∷ b ∷ c ∷ d ∷ f ∷ zs) e = absurd (omega arith)
