use Rattle.std.proofs.Common.{refl, arith}
use Rattle.frames.specs.Faults.{no_digits}
use Rattle.frames.specs.Frames.{last}
use Rattle.entries.proofs.Letters.{bad_figure}
use Rattle.entries.proofs.tails.last_entry.Goals as goal

pub returns-in_default : goal.returns-in_default
returns-in_default c = λ count latest above n w. no_digits (last 0 0) _ w.stand refl c.in_default.ensures

pub returns-then-step-lt-SHORTEST_STEP : goal.returns-then-step-lt-SHORTEST_STEP
returns-then-step-lt-SHORTEST_STEP c = λ count latest above n w. bad_figure above _ _ c.in-Some.ensures w.stand tt (λ r. omega (arith, r))
