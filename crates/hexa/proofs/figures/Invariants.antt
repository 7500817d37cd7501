use Rattle.hexa.proofs.Widths.{Sofar}
use Rattle.hexa.proofs.figures.Given as goal

abbrev pub invariant-loop-i : goal.invariant-loop-i
invariant-loop-i g l = Sofar l.digits l.fn.widths l.values l.left l.i
