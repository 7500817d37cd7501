use Rattle.std.proofs.Common.{arith, rules}
use Rattle.std.proofs.lemmas.Int.{ints, of_z-to_z}
use Rattle.entries.proofs.Makes.{small_position}
use Rattle.entries.proofs.figures.UnitFrame.made.Goals as goal

pub returns-in_ok-house_integrator-in-Integrator : goal.returns-in_ok-house_integrator-in-Integrator
returns-in_ok-house_integrator-in-Integrator c = λ u.
    let allowed = c.in_ok-house_integrator-in-Integrator.ensures.0 in
    let small = small_position _ _ _ allowed.0 in
    record { ranged = search rules; placed = omega (arith, ints, small, c.from.ensures, c.cast_signed-position.ensures); is = search (rules, of_z-to_z) }
