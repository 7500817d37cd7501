use Rattle.std.proofs.Common.{refl}
use Rattle.worked.proofs.Tables.{all_hold}
use Rattle.worked.proofs.worked_examples.Goals as goal

pub returns : goal.returns
returns c = record { count = refl; hold = all_hold }
