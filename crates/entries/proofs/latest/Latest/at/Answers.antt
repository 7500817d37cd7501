use Rattle.std.proofs.Common.{◌<◌, arith}
use Rattle.std.proofs.lemmas.Grind.{common_steps}
use Rattle.entries.proofs.latest.Latest.at.Goals as goal

pub returns-in-Greater : goal.returns-in-Greater
returns-in-Greater c = λ above n turn.
    let taps = turn.so_far in
    let later : c.args.self.unit < c.args.unit = grind (arith, common_steps) in
    record {
      below = omega (arith, taps.below);
      of_unit = taps.no_taps c.args.unit later;
      y_of_unit = taps.no_ys c.args.unit later;
      no_taps = λ v lt. taps.no_taps v (omega arith);
      no_ys = λ v lt. taps.no_ys v (omega arith);
      few = omega (arith, taps.few);
    }
