-- A job that is set stands at the beginning of its run.
use Rattle.std.proofs.Common.{◌≡◌, ℕ, zero, suc, ◌<◌, ◌≤◌, List, [], ◌∷◌, map, length, get_or, ℤ, pos, ◌+ℤ◌, ◌-ℤ◌, ◌*ℤ◌, sym, refl, ap, ◌∙◌, arith}
use lib.IntN.{*ℤ-zero}
use Rattle.std.proofs.lemmas.List.{get_or-take, length-take-le}
use Rattle.std.proofs.lemmas.Int.{ints}
use Rattle.unit.specs.Figures.{Figures}
use Rattle.unit.specs.Pulses.{value}
use Rattle.net.specs.Changes.{Reset}
use Rattle.net.specs.Limits.{most_units}
use Rattle.net.specs.Records.{record_at, blank}
use Rattle.net.specs.declared.net.Net.{Net}
use Rattle.net.specs.declared.record.Record.{Record}
use Rattle.runs.specs.Histories.{Wired, IsUnit}
use Rattle.runs.specs.Standing.{Stands}
use Rattle.calls.specs.Calls.{Matches}
use Rattle.calls.specs.Law.{waits, lines_after, zipped, wired_units}
use Rattle.calls.proofs.Runs.{Kept}

abbrev wired : Figures → Record → Wired
wired f r = record { start = f; x = r.x; y = r.y }

zipped_long : {U : Type 0} (figures : U → Figures) (us : List U) (rs : List Record) (k : ℕ) → k ≤ length us → k ≤ length rs → k ≤ length (zipped figures us rs)
zipped_long figures [] rs k a b = a
zipped_long figures (u ∷ us) [] k a b = b
zipped_long figures (u ∷ us) (r ∷ rs) zero a b = omega arith
zipped_long figures (u ∷ us) (r ∷ rs) (suc k) a b = let h = zipped_long figures us rs k (omega arith) (omega arith) in omega arith

zipped_at : {U : Type 0} (figures : U → Figures) (us : List U) (rs : List Record) (i : ℕ) (w : Wired) (u : U) (r : Record) → i < length us → i < length rs → get_or (zipped figures us rs) i w ≡ wired (figures (get_or us i u)) (get_or rs i r)
zipped_at figures [] rs i w u r a b = absurd (omega arith)
zipped_at figures (x ∷ us) [] i w u r a b = absurd (omega arith)
zipped_at figures (x ∷ us) (y ∷ rs) zero w u r a b = refl
zipped_at figures (x ∷ us) (y ∷ rs) (suc i) w u r a b = zipped_at figures us rs i w u r (omega arith) (omega arith)

no_history : (start m : ℤ) → start ≡ (start +ℤ pos 0) -ℤ (m *ℤ pos 0)
no_history start m = let z = *ℤ-zero m in omega (arith, ints)

module _ {U : Type 0} (figures : U → Figures) (units : ℕ) (us : List U) (n m : Net) (belongs : Matches units us n) (reset : Reset n m) where
  abbrev ws : List Wired
  ws = wired_units figures units us m

  few : units ≤ length m.table.records
  few = let f = m.few in let t = m.table.full in let c = reset.count in let b = belongs.count in omega arith

  pub as_many : length ws ≡ units
  as_many = length-take-le units (zipped figures us m.table.records) (zipped_long figures us m.table.records units belongs.room few)

  -- the unit with number i, as it was wired
  pub wired_is : (i : ℕ) (w : Wired) → IsUnit ws i w → (u : U) → w ≡ wired (figures (get_or us i u)) (record_at m.table.records i)
  wired_is i w is u =
      let below : i < units = let e = as_many in omega (arith, is.0) in
      sym is.1 ∙ get_or-take units (zipped figures us m.table.records) i w below
      ∙ zipped_at figures us m.table.records i w u blank (let r = belongs.room in omega arith) (let f = few in omega arith)

  stands : (i : ℕ) (w : Wired) → IsUnit ws i w → (u : U) → Stands i w [] (figures (get_or us i u)) (record_at m.table.records i)
  stands i w is u =
      let e = wired_is i w is u in
      let small : i < most_units = let a = as_many in let f = few in let t = m.table.full in omega (arith, is.0) in
      let empty = reset.records.each i small in
      record {
        constants = sym (ap (λ (v : Wired). v.start.constants) e);
        position = sym (ap (λ (v : Wired). v.start.position) e);
        residue = sym (ap (λ (v : Wired). v.start.residue) e) ∙ no_history w.start.residue (pos w.start.constants.modulus);
        x = sym (ap (λ (v : Wired). v.x) e);
        y = sym (ap (λ (v : Wired). v.y) e);
        line = ap (λ (r : Record). value r.line) empty;
        net = ap (λ (r : Record). r.net) empty;
        work = ap (λ (r : Record). r.work) empty;
      }

  pub begins : Kept figures units ws (lines_after []) us m
  begins = record {
    matches = record { room = belongs.room; count = reset.count ∙ belongs.count };
    history = [];
    feeds = refl;
    waiting = ap (map waits) reset.outside;
    fits = tt;
    describes = record {
      count = reset.count ∙ belongs.count ∙ sym as_many;
      room = let r = belongs.room in let a = as_many in omega arith;
      ticks = reset.ticks;
      each = stands;
    };
  }
