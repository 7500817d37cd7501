use Rattle.std.proofs.Common.{arith}
use Rattle.std.proofs.lemmas.List.Elements.{All-replicate}
use Rattle.net.specs.Bounds.{NetWithin, WorkWithin, Wired}
use Rattle.net.specs.Limits.{most_units}
use Rattle.net.specs.Records.{blank}
use Rattle.net.proofs.net.Net.empty.Goals as goal

pub invariant_of-result-clause-emitted : goal.invariant_of-result-clause-emitted
invariant_of-result-clause-emitted c = rw c.blank.ensures (All-replicate (NetWithin 0) most_units blank (omega arith))

pub invariant_of-result-clause-worked : goal.invariant_of-result-clause-worked
invariant_of-result-clause-worked c = rw c.blank.ensures (All-replicate (WorkWithin 0) most_units blank (omega arith))

pub invariant_of-result-clause-wired : goal.invariant_of-result-clause-wired
invariant_of-result-clause-wired c = rw c.blank.ensures (All-replicate (Wired 0) most_units blank tt)
