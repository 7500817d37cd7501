use Rattle.layers.proofs.Turning.{turned_moves}
use Rattle.layers.proofs.turn.TurnUnit.step.Goals as goal

pub returns : goal.returns
returns g c =
    let t = c.args.self.now in
    let figures = g.U.Unit.figures in
    rw c.turn_pulse.ensures (turned_moves t.sense (figures t.below) (figures c.step.new.self) c.args.x c.args.tally.value c.in_ok-pulse.pulse c.in_ok-pulse.ensures)
