use Rattle.std.proofs.Common.{◌<◌, T, arith}
use Rattle.unit.specs.declared.refusal.Refusal.TheVariants.{NoSuchSource, NotThere, TapTaken}
use Rattle.wires.specs.Sources.{there}
use Rattle.net.specs.Limits.{most_units}
use Rattle.calls.specs.Calls.{PlugFault, no_source, no_unit, taken, TapAsked}
use Rattle.machine.proofs.Refusing.{refused_for}
use Rattle.machine.proofs.Wiring.{with_tap_storable, storable}
use Rattle.machine.proofs.job.OpenJob.plug.Goals as goal
use Rattle.machine.proofs.job.OpenJob.plug.Goals.{In_ok-source}

-- the tap that is asked for
asked : (g : _) (c : In_ok-source g) → TapAsked c.args.self.now.units c.args.rack.now c.args.net.now c.args.sign c.args.source (record { sign = c.in_ok-sign.sign; source = c.in_ok-source.source })
asked g c = let source = rw c.in_ok-source.ensures.ok_part at c.of.ensures in record { sign = c.in_ok-sign.ensures; there = source.0; source = source.1 }

pub returns-in_err-source : goal.returns-in_err-source
returns-in_err-source g c =
    let a = c.args in
    let none = rw c.in_err-source.ensures.ok_part at c.of.ensures in
    let fault : PlugFault a.self.now.units a.rack.now a.net.now a.unit a.input a.sign a.source NoSuchSource = no_source c.in_ok-sign.sign c.in_ok-sign.ensures none in
    grind (arith, refused_for)

pub returns-in_err-place : goal.returns-in_err-place
returns-in_err-place g c =
    let a = c.args in
    let fault : PlugFault a.self.now.units a.rack.now a.net.now a.unit a.input a.sign a.source NotThere =
    no_unit _ (asked g (goal.at.returns-in_err-place g c).In_ok-source) c.in_err-place.ensures.0 in
    grind (arith, refused_for)

pub returns-in_err-record : goal.returns-in_err-record
returns-in_err-record g c =
    let a = c.args in
    let none = rw (c.in_err-record.ensures.ok_part, c.record.ensures, c.in_ok-place.ensures.1) at c.with_tap.ensures in
    let fault : PlugFault a.self.now.units a.rack.now a.net.now a.unit a.input a.sign a.source TapTaken =
    taken _ (asked g (goal.at.returns-in_err-record g c).In_ok-source) c.in_ok-place.ensures.0 none in
    grind (arith, refused_for)

pub store-requires : goal.store-requires
store-requires g c =
    let n = c.args.net.now in
    let few : c.in_ok-place.place < most_units = omega (arith, c.args.self.now.few, c.in_ok-place.ensures) in
    let found = rw c.in_ok-record.ensures.ok_part at c.with_tap.ensures in
    let is-there : T (there n.count c.in_ok-source.source) = rw (c.in_ok-belongs.ensures.count, (asked g (goal.at.store-requires g c).In_ok-source).there) tt in
    let s = with_tap_storable n c.args.input c.record.result _ c.in_ok-record.record is-there (rw c.record.ensures (storable n c.in_ok-place.place few)) found in
    record { there = few; net = s.net; work = s.work; wired = s.wired }
