use Rattle.std.proofs.Common.{◌+◌, arith}
use Rattle.std.proofs.lemmas.List.Elements.{All-set, All-weaker}
use Rattle.net.specs.Bounds.{NetWithin, WorkWithin, Wired}
use Rattle.net.specs.Records.{blank}
use Rattle.net.proofs.Bounded.{wired_more}
use Rattle.net.proofs.net.Net.add_unit.Goals as goal

pub invariant_of-self-clause-emitted : goal.invariant_of-self-clause-emitted
invariant_of-self-clause-emitted c =
    let n = c.args.self.now in
    rw (c.put.ensures, c.from.ensures) (All-set (NetWithin n.ticks) n.table.records n.count blank (omega arith) n.emitted)

pub invariant_of-self-clause-worked : goal.invariant_of-self-clause-worked
invariant_of-self-clause-worked c =
    let n = c.args.self.now in
    rw (c.put.ensures, c.from.ensures) (All-set (WorkWithin n.ticks) n.table.records n.count blank (omega arith) n.worked)

pub invariant_of-self-clause-wired : goal.invariant_of-self-clause-wired
invariant_of-self-clause-wired c =
    let n = c.args.self.now in
    let kept = All-weaker (Wired n.count) (Wired (n.count + 1)) (wired_more n.count) n.table.records n.wired in
    rw (c.put.ensures, c.from.ensures) (All-set (Wired (n.count + 1)) n.table.records n.count blank tt kept)
