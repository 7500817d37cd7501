use Rattle.layers.proofs.Dividing.{divided_moves}
use Rattle.layers.proofs.divider.DividerUnit.step.Goals as goal

pub returns : goal.returns
returns g c =
    let d = c.args.self.now in
    let figures = g.U.Unit.figures in
    divided_moves d.divisor d.count c.counted-emitted.result.1 (figures d.below) (figures c.step.new.self) c.args.x c.args.tally.value c.in_ok-pulse.pulse c.counted-emitted.result.0 c.in_ok-pulse.ensures c.counted-emitted.ensures.solves
