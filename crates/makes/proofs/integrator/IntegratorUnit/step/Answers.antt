use Rattle.std.proofs.Common.{arith, w64, SFits, rules}
use Rattle.std.proofs.lemmas.Int.{ints, to_z-of_z}
use Rattle.makes.specs.Integrators.{constants_of}
use Rattle.makes.proofs.Moves.{moves}
use Rattle.makes.proofs.integrator.IntegratorUnit.step.Goals as goal

pub returns : goal.returns
returns c =
    let a = c.args.self.now in
    let p = c.in_ok-position.position in
    let fa : SFits w64 a.position = search rules in
    let fr : SFits w64 a.residue = search rules in
    let fp : SFits w64 p = search rules in
    let fq : SFits w64 c.renew-pulse.result.1 = search rules in
    let h = c.in_ok-position.ensures in
    simp to_z-of_z (moves (constants_of a.length) a.position a.residue c.args.x c.args.tally.value p c.renew-pulse.result.1 c.renew-pulse.result.0
    (simp to_z-of_z at h.0)
    (record { above = omega (arith, ints); below = omega (arith, ints) })
    (simp (to_z-of_z, c.modulus_of-modulus.ensures) at c.renew-pulse.ensures))
