-- One unit's share in a tick: its new record keeps the bounds of the net, and the parts make up the whole.
use Rattle.std.proofs.Common.{◌≡◌, ℕ, ◌<◌, ◌≤◌, List, length, ℤ, ◌+ℤ◌, ◌*ℤ◌, nat_abs, sym, ap, ◌∙◌, subst, arith}
use Rattle.std.proofs.lemmas.List.{get_or-set_same}
use Rattle.unit.proofs.Sizes.{small, size_sum}
use Rattle.unit.specs.Figures.{Figures, Moved, weight_now}
use Rattle.unit.specs.Pulses.{value}
use Rattle.ticks.specs.Racks.{at_place, MovesAt}
use Rattle.unit.specs.Sizes.{largest}
use Rattle.unit.specs.declared.pulse.Pulse.{Pulse}
use Rattle.net.specs.Bounds.{NetWithin, WorkWithin}
use Rattle.net.specs.Changes.{Stored}
use Rattle.net.specs.Records.{record_at, blank, Emitted}
use Rattle.net.specs.declared.inputs.Inputs.{Inputs}
use Rattle.net.specs.declared.net.Net.{Net}
use Rattle.net.specs.declared.record.Record.{Record}
use Rattle.ticks.specs.Passes.{RoomAt, AdvancesAt}
use Rattle.ticks.specs.Ticks.{Advanced}

module _ (n : Net) (i : ℕ) (room : RoomAt n i) (z : Pulse) (w : ℤ) (light : nat_abs w ≤ largest) (s : Record) (e : Emitted (record_at n.table.records i) z w s) where
  pub net_kept : NetWithin n.ticks s
  net_kept =
      let r = record_at n.table.records i in
      let grows = ap nat_abs e.net in
      let sum = size_sum r.net (value z) in
      let one = small z in
      omega (arith, room.net, room.ticks)

  pub work_kept : WorkWithin n.ticks s
  work_kept =
      let r = record_at n.table.records i in
      let grows = ap nat_abs e.done in
      let sum = size_sum r.work w in
      omega (arith, room.work, room.ticks)

-- z is emitted, w the weight after the step, done the work
pub advances : {U : Type 0} (figures : U → Figures) (us : List U) (n : Net) (i : ℕ) (given : Inputs) (vs : List U) (m : Net) (z : Pulse) (w done : ℤ) (s : Record)
    → i < length n.table.records → MovesAt figures us i given.x given.tally.value z vs → ((u : U) → w ≡ weight_now (at_place figures vs i u)) → done ≡ w *ℤ value given.x
    → Emitted (record_at n.table.records i) z done s → Stored n i s m → AdvancesAt figures us n i given vs m
advances {U} figures us n i given vs m z w done s there moves weight work e stored =
    let now-there : record_at m.table.records i ≡ s = ap (λ (rs : List Record). record_at rs i) stored.records ∙ get_or-set_same n.table.records i s blank there in
    let whole : (u : U) → Advanced given.x given.tally.value (at_place figures us i u) (at_place figures vs i u) (record_at n.table.records i) s =
    λ u. record {
      moved = subst (λ (p : Pulse). Moved (at_place figures us i u) given.x given.tally.value p (at_place figures vs i u)) (sym e.line) (moves u).0;
      x_tap = e.x;
      y_taps = e.y;
      net = let line = ap value e.line in let n = e.net in cc;
      work = e.done ∙ ap (λ (d : ℤ). (record_at n.table.records i).work +ℤ d) (work ∙ ap (λ (v : ℤ). v *ℤ value given.x) (weight u));
    } in
    record {
      units = λ u. (moves u).1;
      advanced = λ u. subst (λ (t : Record). Advanced given.x given.tally.value (at_place figures us i u) (at_place figures vs i u) (record_at n.table.records i) t) (sym now-there) (whole u);
      stored = subst (λ (t : Record). Stored n i t m) (sym now-there) stored;
    }
