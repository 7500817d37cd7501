use Rattle.std.proofs.Common.{length, arith}
use Rattle.std.proofs.lemmas.Bool.Decides.{Decides-eqb}
use Rattle.hexa.proofs.Widths.{short, bad, more, done}
use Rattle.hexa.proofs.figures.Goals as goal

pub returns-in_err-part : goal.returns-in_err-part
returns-in_err-part g c = rw c.from_residual.ensures (short c.loop-i.invariant (omega arith) c.in_err-part.ensures.cases)

pub returns-in_err-values : goal.returns-in_err-values
returns-in_err-values g c = rw c.from_residual-in_err-values.ensures (bad c.loop-i.invariant c.in_ok-part.ensures.cases c.in_err-values.ensures)

pub loop-i-preserved : goal.loop-i-preserved
loop-i-preserved g c = more c.loop-i.invariant c.in_ok-part.ensures.cases c.in_ok-values.field-0 (omega arith) c.in_ok-values.ensures.0 c.in_ok-values.ensures.1

pub returns : goal.returns
returns g c = rw (c.then_some.ensures, c.is_empty.ensures) (done c.loop-i.invariant (omega arith) _ (Decides-eqb (length c.loop-i.left.now) 0))
