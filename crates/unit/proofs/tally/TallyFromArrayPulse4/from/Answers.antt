use Rattle.std.proofs.Common.{arith}
use Rattle.std.proofs.lemmas.Int.{ints}
use Rattle.unit.proofs.Totals.{total_of_four}
use Rattle.unit.proofs.tally.TallyFromArrayPulse4.from.Goals as goal

pub returns : goal.returns
returns c =
    let whole = total_of_four c.args.pulses (omega arith) in
    let a = c.sum.ensures.sum in
    let b = c.sum-2.ensures.sum in
    omega (arith, ints)
