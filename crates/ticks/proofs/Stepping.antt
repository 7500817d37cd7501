-- The second pass, place by place.
use Rattle.std.proofs.Common.{◌≡◌, ℕ, ◌+◌, ◌≢◌, List, length, get_or, pos, sym, ap, ◌∙◌, subst, arith, below_more}
use Rattle.std.proofs.lemmas.List.{get_or-set_other}
use Rattle.unit.specs.Figures.{Figures}
use Rattle.ticks.specs.Racks.{at_place}
use Rattle.unit.specs.declared.pulse.Pulse.TheVariants.{Zero}
use Rattle.net.specs.Changes.{TickCounted}
use Rattle.net.specs.Records.{record_at, blank}
use Rattle.net.specs.declared.inputs.Inputs.{Inputs}
use Rattle.net.specs.declared.net.Net.{Net}
use Rattle.net.specs.declared.record.Record.{Record}
use Rattle.ticks.specs.Passes.{AdvancesAt, Gathered, Stepping}
use Rattle.ticks.specs.Ticks.{Advanced, Ticked, tally}

pub no_inputs : Inputs
no_inputs = record { x = Zero; tally = record { value = pos 0; bounded = omega arith } }

-- one unit more has stepped
pub stepping_more : {U : Type 0} (figures : U → Figures) (us : List U) (n : Net) (inputs : List Inputs) (k : ℕ) (vs : List U) (m : Net) (given : Inputs) (ws : List U) (o : Net)
    → Stepping figures us n inputs k vs m → ((d : Inputs) → get_or inputs k d ≡ given) → length ws ≡ length vs → AdvancesAt figures vs m k given ws o → Stepping figures us n inputs (k + 1) ws o
stepping_more {U} figures us n inputs k vs m given ws o s now-given long a =
    let unit_kept : (i : ℕ) → i ≢ k → (u : U) → get_or ws i u ≡ get_or vs i u = λ i ne u. ap (λ (l : List U). get_or l i u) (a.units u) ∙ get_or-set_other vs k i (get_or ws k u) u ne in
    let record-kept : (i : ℕ) → i ≢ k → record_at o.table.records i ≡ record_at m.table.records i = λ i ne. ap (λ (rs : List Record). record_at rs i) a.stored.records ∙ get_or-set_other m.table.records k i (record_at o.table.records k) blank ne in
    record {
      count = a.stored.count ∙ s.count;
      ticks = a.stored.ticks ∙ s.ticks;
      outside = a.stored.outside ∙ s.outside;
      places = long ∙ s.places;
      each =
          below_more _ _
          (λ i h u d.
          let ne : i ≢ k = omega arith in
          let P : U → Record → Type 0 = λ v r. Advanced (get_or inputs i d).x (get_or inputs i d).tally.value (at_place figures us i u) (figures v) (record_at n.table.records i) r in
          subst (λ v. P v (record_at o.table.records i)) (sym (unit_kept i ne u)) (subst (λ r. P (get_or vs i u) r) (sym (record-kept i ne)) (s.each i h u d)))
          (λ u d.
          let P : Inputs → U → Record → Type 0 = λ p v r. Advanced p.x p.tally.value (figures v) (at_place figures ws k u) r (record_at o.table.records k) in
          subst (λ p. P p (get_or us k u) (record_at n.table.records k)) (sym (now-given d))
          (subst (λ v. P given v (record_at n.table.records k)) (s.units_beyond k (omega arith) u)
          (subst (λ r. P given (get_or vs k u) r) (s.records_beyond k (omega arith)) (a.advanced u))));
      units_beyond = λ i h u. let ne : i ≢ k = omega arith in unit_kept i ne u ∙ s.units_beyond i (omega arith) u;
      records_beyond = λ i h. let ne : i ≢ k = omega arith in record-kept i ne ∙ s.records_beyond i (omega arith);
    }

-- all units have stepped: a tick
pub stepped_all : {U : Type 0} (figures : U → Figures) (us : List U) (n c : Net) (inputs : List Inputs) (d : Inputs) (vs : List U) (m : Net) → TickCounted n c → Gathered n inputs n.count → Stepping figures us c inputs n.count vs m → Ticked figures us n vs m
stepped_all {U} figures us n c inputs d vs m counted gathered s =
    let same : (i : ℕ) → record_at c.table.records i ≡ record_at n.table.records i = λ i. ap (λ t. record_at t.records i) counted.records in
    record {
      count = s.count ∙ counted.count;
      ticks = s.ticks ∙ counted.ticks;
      outside = s.outside ∙ counted.outside;
      places = s.places;
      each = λ i h u.
          let given = gathered i h d in
          let P : _ → _ → Record → Type 0 = λ x t r. Advanced x t (at_place figures us i u) (at_place figures vs i u) r (record_at m.table.records i) in
          subst (λ x. P x (tally n i) (record_at n.table.records i)) given.x
          (subst (λ t. P (get_or inputs i d).x t (record_at n.table.records i)) given.tally
          (subst (λ r. P (get_or inputs i d).x (get_or inputs i d).tally.value r) (same i) (s.each i h u d)));
      units_beyond = s.units_beyond;
      records_beyond = λ i h. s.records_beyond i h ∙ same i;
    }
