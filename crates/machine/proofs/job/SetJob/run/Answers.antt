use Rattle.calls.specs.Calls.{none, more}
use Rattle.calls.proofs.Chains.{still_matches}
use Rattle.machine.proofs.job.SetJob.run.Goals as goal

pub returns-in-Err-clause-chain : goal.returns-in-Err-clause-chain
returns-in-Err-clause-chain g c = none

pub loop-made-init : goal.loop-made-init
loop-made-init g c = (none, c.in_default.ensures)

pub loop-made-preserved : goal.loop-made-preserved
loop-made-preserved g c = let made = c.in_default-tick.ensures in (more c.loop-made.invariant.0 made, still_matches _ _ _ _ _ _ made)
