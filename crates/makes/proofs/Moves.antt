-- An accepted step of a make, from the parts that it computes.
use Rattle.std.proofs.Common.{◌≡◌, ℤ, ◌+ℤ◌, ◌*ℤ◌, refl, subst}
use Rattle.unit.specs.Pulses.{value}
use Rattle.unit.specs.Solutions.{OnlySolution}
use Rattle.unit.specs.Figures.{Constants, Figures, Inside, Moved}
use Rattle.unit.specs.declared.pulse.Pulse.{Pulse}

abbrev standing : Constants → ℤ → ℤ → Figures
standing k p r = record { constants = k; position = p; residue = r }

pub moves : (k : Constants) (a r : ℤ) (x : Pulse) (s p q : ℤ) (z : Pulse) → p ≡ a +ℤ s → Inside k p → OnlySolution k.modulus k.low (r +ℤ (k.weight p *ℤ value x)) (value z) q → Moved (standing k a r) x s z (standing k p q)
moves k a r x s p q z e inside balance = record {
  inside = subst (Inside k) e inside;
  constants = refl;
  position = e;
  balance = balance;
}
