use Rattle.std.proofs.Common.{◌<◌, ◌≤◌, length, get_or, nat_abs, arith, w64, SFits, rules}
use Rattle.std.proofs.lemmas.Int.{to_z-of_z}
use Rattle.std.proofs.lemmas.List.{get_or_read}
use Rattle.unit.proofs.Answers.{weight_now_short}
use Rattle.unit.specs.Sizes.{largest}
use Rattle.ticks.proofs.Advancing.{net_kept, work_kept, advances}
use Rattle.ticks.proofs.passes.advance.Goals as goal
use Rattle.ticks.proofs.passes.advance.Goals.{After-times-work}

-- the work is as small as the weights
light : (g : _) (c : After-times-work g) → nat_abs c.times-work.result ≤ largest
light g c =
    let u = get_or c.step_at-pulse.new.rack c.args.i c.index-rack-i.result in
    let w : SFits w64 c.weight.result = search rules in
    let d : SFits w64 c.times-work.result = search rules in
    let short : nat_abs c.weight.result ≤ largest = simp c.weight.ensures (weight_now_short (g.U.Unit.figures u) (g.met.U.Unit.lawful u)) in
    let within = simp to_z-of_z at c.times-work.ensures.light in
    omega arith

pub emitted-record-requires-clause-more : goal.emitted-record-requires-clause-more
emitted-record-requires-clause-more g c =
    let d : SFits w64 c.times-work.result = search rules in
    let small = light g (goal.at.emitted-record-requires-clause-more g c).After-times-work in
    simp to_z-of_z (omega arith)

pub store-requires : goal.store-requires
store-requires g c =
    let n = c.args.net.now in
    let d : SFits w64 c.times-work.result = search rules in
    let small = light g (goal.at.store-requires g c).After-times-work in
    let emitted = simp (to_z-of_z, c.record.ensures) at c.emitted-record.ensures in
    record {
      there = c.requires.few;
      net = net_kept n c.args.i c.requires.room c.step_at-pulse.result c.times-work.result small c.emitted-record.result emitted;
      work = work_kept n c.args.i c.requires.room c.step_at-pulse.result c.times-work.result small c.emitted-record.result emitted;
      wired = search rules;
    }

pub returns : goal.returns
returns g c =
    let n = c.args.net.now in
    let w : SFits w64 c.weight.result = search rules in
    let d : SFits w64 c.times-work.result = search rules in
    let there : c.args.i < length n.table.records = omega (arith, n.table.full, c.requires.few) in
    let emitted = simp (to_z-of_z, c.record.ensures) at c.emitted-record.ensures in
    let work = simp to_z-of_z at c.times-work.ensures.product in
    advances g.U.Unit.figures c.args.rack.now n c.args.i c.args.given c.step_at-pulse.new.rack c.store.new.self c.step_at-pulse.result c.weight.result c.times-work.result c.emitted-record.result
    there c.step_at-pulse.ensures (λ u. search (rules, get_or_read)) work emitted c.store.ensures
