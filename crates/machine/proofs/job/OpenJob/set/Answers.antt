use Rattle.calls.proofs.Laws.{set_law}
use Rattle.machine.proofs.job.OpenJob.set.Goals as goal

pub returns-clause-law : goal.returns-clause-law
returns-clause-law g c =
    let may = c.in_default.ensures in
    set_law g.U.Unit.figures g.met.U.Unit.lawful c.args.self.units c.args.rack.now c.args.net.now c.reset.new.self may.0 may.2 c.reset.ensures
