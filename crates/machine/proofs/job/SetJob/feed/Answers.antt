use Rattle.std.proofs.Common.{sym, refl, ◌∙◌}
use Rattle.std.proofs.lemmas.Int.{to_z-of_z}
use Rattle.calls.specs.Calls.{for_fault, waiting}
use Rattle.machine.proofs.job.SetJob.feed.Goals as goal

pub returns-then-waits : goal.returns-then-waits
returns-then-waits g c =
    let fits = c.ranges.value in
    let asked = rw c.in_ok-pulse.ensures.ok_part at c.feed_of.ensures in
    (for_fault c.in_ok-belongs.ensures (waiting c.in_ok-pulse.pulse (simp to_z-of_z at asked) (sym c.waits.ensures ∙ c.if-waits.true)), refl)
