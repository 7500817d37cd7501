use Rattle.std.proofs.Common.{◌≡◌, ℤ, pos, ◌+ℤ◌, ap, ◌∙◌, subst, arith, w64, to_z, of_z}
use Rattle.std.proofs.lemmas.Int.{ints, to_z-of_z}
use Rattle.unit.specs.Pulses.{value}
use Rattle.unit.specs.Solutions.{OnlySolution}
use Rattle.makes.proofs.band.renew.Goals as goal

pub returns : goal.returns
returns c =
    let r = c.args.residue in
    let p = c.times.result in
    let sum : to_z w64 (of_z w64 (to_z w64 (of_z w64 r) +ℤ to_z w64 (of_z w64 p))) ≡ r +ℤ p = omega (arith, ints) in
    let weight-fits = c.ranges.weight in
    let product = simp to_z-of_z at c.times.ensures.product in
    let P : ℤ → Type 0 = λ v. OnlySolution c.args.modulus (pos 0) v (value c.divide.result.0) c.divide.result.1 in
    subst P (sum ∙ ap (λ (v : ℤ). r +ℤ v) product) c.divide.ensures
