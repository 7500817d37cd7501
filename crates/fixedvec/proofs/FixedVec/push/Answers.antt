use Rattle.std.proofs.Common.{rules, ◌∙◌}
use Rattle.std.proofs.lemmas.List.{length-set}
use Rattle.fixedvec.proofs.Places.{spare_after}
use Rattle.fixedvec.proofs.FixedVec.push.Goals as goal

pub invariant_of-self : goal.invariant_of-self
invariant_of-self g c =
    let s = c.args.self.now in
    record { few = search rules; full = length-set _ _ _ ∙ s.full; spare = spare_after _ _ _ _ _ s.spare }
