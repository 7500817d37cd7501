use Rattle.std.proofs.Common.{◌≡◌, ℤ, pos, ◌+ℤ◌, nat_abs, sym, subst, arith, w64, to_z, of_z}
use Rattle.std.proofs.lemmas.Int.{ints}
use Rattle.unit.specs.Pulses.{value}
use Rattle.unit.specs.Solutions.{OnlySolution}
use Rattle.layers.proofs.divider.counted.Goals as goal

pub returns : goal.returns
returns c =
    let k = c.args.divisor in
    let held = pos c.args.count +ℤ value c.args.pulse in
    let z = value c.divide-emitted.result.0 in
    let rest = c.divide-emitted.result.1 in
    let band = c.divide-emitted.ensures.solves.band in
    let back : pos (nat_abs (to_z w64 (of_z w64 rest))) ≡ rest = omega (arith, ints) in
    let value-is = c.from-2.ensures in
    let sum : to_z w64 (of_z w64 (to_z w64 (of_z w64 c.from.result) +ℤ to_z w64 (of_z w64 c.from-3.result))) ≡ held = omega (arith, ints) in
    subst (λ (r : ℤ). OnlySolution k (pos 0) held z r) (sym back)
    (subst (λ (v : ℤ). OnlySolution k (pos 0) v z rest) sum (rw c.from-4.ensures at c.divide-emitted.ensures))
