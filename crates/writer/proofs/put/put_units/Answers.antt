use Rattle.std.proofs.Common.{arith}
use Rattle.buffer.proofs.Appending.{then, length-rest}
use Rattle.writer.proofs.Lining.{unit_within, unit_lines_more}
use Rattle.writer.proofs.put.put_units.Goals as goal

pub put_unit-requires : goal.put_unit-requires
put_unit-requires c = omega (arith, unit_within c.args.units.now c.loop-u.u c.loop-u-test.true, length-rest c.loop-u.invariant)

pub loop-u-preserved : goal.loop-u-preserved
loop-u-preserved c = rw (unit_lines_more c.args.units.now c.loop-u.u c.loop-u-test.true) (then c.loop-u.invariant c.put_unit.ensures)
