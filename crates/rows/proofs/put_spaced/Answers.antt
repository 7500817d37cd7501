use Rattle.std.proofs.Common.{arith, rules}
use Rattle.buffer.proofs.Appending.{then, length-rest}
use Rattle.rows.proofs.Rows.{spaced_more, more_within}
use Rattle.rows.proofs.put_spaced.Goals as goal

pub push-requires : goal.push-requires
push-requires c =
    omega (arith, length-rest c.loop-z.invariant, more_within c.args.numbers.now c.loop-z.z-index c.loop-z-test.true (search rules))

pub put_number-requires : goal.put_number-requires
put_number-requires c =
    omega (arith, length-rest c.loop-z.invariant, length-rest c.push.ensures, more_within c.args.numbers.now c.loop-z.z-index c.loop-z-test.true (search rules))

pub loop-z-preserved : goal.loop-z-preserved
loop-z-preserved c =
    rw (spaced_more c.args.numbers.now c.loop-z.z-index c.loop-z-test.true (search rules))
    (then c.loop-z.invariant (then c.push.ensures c.put_number.ensures))
