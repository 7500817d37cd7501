use Rattle.calls.specs.Calls.{Chain, Matches}
use Rattle.machine.proofs.job.SetJob.run.Given as goal

abbrev pub invariant-loop-made : goal.invariant-loop-made
invariant-loop-made g l = Chain g.U.Unit.figures l.self.units l.initial.rack l.initial.net l.made l.rack l.net × Matches l.self.units l.rack l.net
