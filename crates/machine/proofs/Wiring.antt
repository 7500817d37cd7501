-- One tap more: the record keeps the bounds of the net, and its taps read what is there.
use Rattle.std.proofs.Common.{ℕ, zero, suc, ◌<◌, T, List, [], ◌∷◌, set, Some, Option, sym, subst, arith}
use Rattle.unit.proofs.Truth.{both, joined}
use Rattle.wires.specs.Sources.{there}
use Rattle.wires.specs.declared.tap.Input.{Input}
use Rattle.wires.specs.declared.tap.Input.TheVariants.{X, Y}
use Rattle.wires.specs.declared.tap.Tap.{Tap}
use Rattle.net.specs.Bounds.{NetWithin, WorkWithin, Wired, tap_there, taps_there}
use Rattle.net.specs.Limits.{most_units}
use Rattle.net.specs.Records.{record_at, blank, with_x, with_y}
use Rattle.net.specs.declared.net.Net.{Net}
use Rattle.net.specs.declared.record.Record.{Record}
use Rattle.calls.specs.Calls.{WithTap}

set_there : (units : ℕ) (taps : List (Option Tap)) (k : ℕ) (tap : Option Tap) → T (tap_there units tap) → T (taps_there units taps) → T (taps_there units (set taps k tap))
set_there units [] zero tap h all = tt
set_there units [] (suc k) tap h all = tt
set_there units (t ∷ taps) zero tap h all = joined _ _ h (both (tap_there units t) (taps_there units taps) all).1
set_there units (t ∷ taps) (suc k) tap h all =
    let p = both (tap_there units t) (taps_there units taps) all in
    joined _ _ p.0 (set_there units taps k tap h p.1)

-- what a store asks of a record
pub record Storable (n : Net) (s : Record) : Type 0 where
  pub net : NetWithin n.ticks s
  pub work : WorkWithin n.ticks s
  pub wired : Wired n.count s

with_x_storable : (n : Net) (r : Record) (tap : Tap) → T (there n.count tap.source) → Storable n r → Storable n (with_x r tap)
with_x_storable n r tap h s = record {
  net = s.net;
  work = s.work;
  wired = joined (there n.count tap.source) (taps_there n.count r.y) h (both (tap_there n.count r.x) (taps_there n.count r.y) s.wired).1;
}

with_y_storable : (n : Net) (r : Record) (k : ℕ) (tap : Tap) → T (there n.count tap.source) → Storable n r → Storable n (with_y r k tap)
with_y_storable n r k tap h s =
    let p = both (tap_there n.count r.x) (taps_there n.count r.y) s.wired in
    record {
      net = s.net;
      work = s.work;
      wired = joined (tap_there n.count r.x) (taps_there n.count (set r.y k (Some tap))) p.0 (set_there n.count r.y k (Some tap) h p.1);
    }

pub with_tap_storable : (n : Net) (input : Input) (r : Record) (tap : Tap) (s : Record) → T (there n.count tap.source) → Storable n r → WithTap input r tap (Some s) → Storable n s
with_tap_storable n X r tap s h b w = subst (Storable n) (sym w.1) (with_x_storable n r tap h b)
with_tap_storable n Y r tap s h b w = subst (Storable n) (sym w.1.1) (with_y_storable n r w.0 tap h b)

-- every record of a net may be stored again
pub storable : (n : Net) (i : ℕ) → i < most_units → Storable n (record_at n.table.records i)
storable n i h = record {
  net = n.emitted i blank (omega arith);
  work = n.worked i blank (omega arith);
  wired = n.wired i blank (omega arith);
}
