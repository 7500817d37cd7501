use Rattle.std.proofs.Common.{◌≡◌, pos, arith, w64, SFits, rules}
use Rattle.std.proofs.lemmas.Int.{ints, to_z-of_z}
use Rattle.makes.specs.Servos.{constants_of}
use Rattle.makes.proofs.Moves.{moves}
use Rattle.makes.proofs.servo.ServoUnit.step.Goals as goal

pub returns : goal.returns
returns c =
    let a = c.args.self.now in
    let p = c.in_ok-position.position in
    let fa : SFits w64 a.position = search rules in
    let fp : SFits w64 p = search rules in
    let fw : SFits w64 c.signum.result = search rules in
    let h = c.in_ok-position.ensures in
    let band = c.renew-pulse.ensures.solves.band in
    let none : c.renew-pulse.result.1 ≡ pos 0 = omega (arith, ints) in
    let weight = simp to_z-of_z at c.signum.ensures.value in
    let balance = simp to_z-of_z at c.renew-pulse.ensures in
    simp to_z-of_z (moves (constants_of a.limit) a.position (pos 0) c.args.x c.args.tally.value p (pos 0) c.renew-pulse.result.0
    (simp to_z-of_z at h.0)
    (record { above = omega (arith, ints); below = omega (arith, ints) })
    (simp (weight, none) at balance))
