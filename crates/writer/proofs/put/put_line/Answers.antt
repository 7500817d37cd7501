use Rattle.std.proofs.Common.{arith}
use Rattle.buffer.proofs.Appending.{then, length-rest}
use Rattle.hexa.proofs.Widths.{length-hexes}
use Rattle.writer.proofs.put.put_line.Goals as goal

pub push-requires-2 : goal.push-requires-2
push-requires-2 g c =
    omega (arith, length-rest c.push.ensures, length-rest c.put_figures.ensures, length-hexes c.args.widths c.args.values (omega arith))

pub returns : goal.returns
returns g c = then c.push.ensures (then c.put_figures.ensures c.push-2.ensures)
