use Rattle.ticks.specs.Passes.{Gathered}
use Rattle.ticks.specs.Ticks.{AllAccept}
use Rattle.ticks.proofs.passes.gather.Given as goal

abbrev pub invariant-loop-i : goal.invariant-loop-i
invariant-loop-i g l = AllAccept g.U.Unit.figures l.rack l.net l.i × Gathered l.net l.inputs l.i
