use Rattle.std.proofs.Common.{arith}
use Rattle.buffer.proofs.Appending.{then, length-rest}
use Rattle.writer.proofs.Lining.{length-tap_lines, tap_lines_more}
use Rattle.writer.proofs.put.put_taps.Goals as goal

pub put_tap-requires-clause-room : goal.put_tap-requires-clause-room
put_tap-requires-clause-room c = omega (arith, length-tap_lines c.args.taps.now c.loop-plug.plug-index, length-rest c.loop-plug.invariant)

pub loop-plug-preserved : goal.loop-plug-preserved
loop-plug-preserved c = rw (tap_lines_more c.args.taps.now c.loop-plug.plug-index) (then c.loop-plug.invariant c.put_tap.ensures)
