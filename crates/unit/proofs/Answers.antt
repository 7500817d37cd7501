-- What a lawful unit answers is never larger than the largest modulus that is told.
use Rattle.std.proofs.Common.{◌≡◌, ◌<◌, ◌≤◌, true, false, leb, pos, nat_abs, ⊎_elim, arith}
use Rattle.std.proofs.lemmas.Bool.Decides.{nat_tests, leb_tells}
use Rattle.unit.specs.Figures.{Figures, Lawful, weight_now, told_residue, told_modulus}
use Rattle.unit.specs.Sizes.{largest}

pub weight_now_short : (f : Figures) → Lawful f → nat_abs (weight_now f) ≤ largest
weight_now_short f law = law.short f.position law.position

-- a modulus that is told is told as it is, and so is the residue
pub told : (f : Figures) → f.constants.modulus ≤ largest → (told_modulus f ≡ f.constants.modulus) × (told_residue f ≡ f.residue)
told f h = let e : leb f.constants.modulus largest ≡ true = grind (arith, nat_tests) in (rw e, rw e)

pub untold : (f : Figures) → largest < f.constants.modulus → (told_modulus f ≡ 0) × (told_residue f ≡ pos 0)
untold f h = let e : leb f.constants.modulus largest ≡ false = grind (arith, nat_tests) in (rw e, rw e)

-- the one or the other
pub told_or_not : (f : Figures) {P : Type 0} → (f.constants.modulus ≤ largest → P) → (largest < f.constants.modulus → P) → P
told_or_not f yes-told not-told = ⊎_elim (λ t. yes-told t.1) (λ t. not-told t.1) (leb_tells f.constants.modulus largest)
