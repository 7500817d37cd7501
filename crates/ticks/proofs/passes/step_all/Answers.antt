use Rattle.std.proofs.Common.{◌≡◌, ℕ, ◌≤◌, length, sym, subst, arith, rules}
use Rattle.std.proofs.lemmas.List.{length-take-le}
use Rattle.ticks.specs.Passes.{Stepping}
use Rattle.ticks.proofs.Fronts.{read_in_front}
use Rattle.ticks.proofs.Stepping.{stepping_more, stepped_all, no_inputs}
use Rattle.ticks.proofs.passes.step_all.Goals as goal

pub loop-i-preserved : goal.loop-i-preserved
loop-i-preserved g c =
    let inputs = c.args.inputs.now in
    let given = c.given-item.result in
    let room : c.count.result ≤ length inputs = omega (arith, c.count_tick.new.self.few) in
    let read = read_in_front inputs c.count.result c.loop-i.i given room c.loop-i-test.true c.given-item.is in
    let long : length c.advance.new.rack ≡ length c.loop-i.rack = search rules in
    stepping_more g.U.Unit.figures c.args.rack.now c.count_tick.new.self inputs c.loop-i.i c.loop-i.rack c.loop-i.net given c.advance.new.rack c.advance.new.net
    c.loop-i.invariant (λ d. sym (read d)) long c.advance.ensures

pub returns : goal.returns
returns g c =
    let n = c.args.net.now in
    let counted = c.count_tick.new.self in
    let inputs = c.args.inputs.now in
    let front = length-take-le c.count.result inputs (omega (arith, c.count_tick.new.self.few)) in
    let all : c.loop-i.i ≡ n.count = omega arith in
    let P : ℕ → Type 0 = λ k. Stepping g.U.Unit.figures c.args.rack.now counted inputs k c.loop-i.rack c.loop-i.net in
    stepped_all g.U.Unit.figures c.args.rack.now n counted inputs no_inputs c.loop-i.rack c.loop-i.net c.count_tick.ensures c.requires.gathered (subst P all c.loop-i.invariant)
