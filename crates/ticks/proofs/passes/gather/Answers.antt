use Rattle.std.proofs.Common.{◌<◌, ◌≢◌, length, sym, arith, below_more}
use Rattle.std.proofs.lemmas.List.{get_or-set_same, get_or-set_other, length-take-le}
use Rattle.ticks.proofs.Fronts.{read_in_front}
use Rattle.ticks.proofs.passes.gather.Goals as goal

pub loop-i-preserved : goal.loop-i-preserved
loop-i-preserved g c =
    let rack = c.args.rack.now in
    let front = length-take-le c.count.result rack (omega arith) in
    let within : c.loop-i.i < length c.loop-i.inputs = omega (arith, c.args.net.now.few) in
    let unit = read_in_front rack c.count.result c.loop-i.i c.unit-item.result (omega arith) c.loop-i-test.true c.unit-item.is in (
      below_more _ _ c.loop-i.invariant.0 (λ u. rw (sym (unit u), sym c.inputs-given.ensures.tally) (c.accepts.ensures.0 c.if-not-accepts.false)),
      below_more _ _
          (λ k h d. let other : k ≢ c.loop-i.i = omega arith in rw get_or-set_other (c.loop-i.invariant.1 k h d))
          (λ d. rw get_or-set_same c.inputs-given.ensures),
    )
