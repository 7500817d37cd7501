use Rattle.ticks.specs.Passes.{Stepping}
use Rattle.ticks.proofs.passes.step_all.Given as goal

abbrev pub invariant-loop-i : goal.invariant-loop-i
invariant-loop-i g l = Stepping g.U.Unit.figures l.initial.rack l.initial.net l.inputs l.i l.rack l.net
