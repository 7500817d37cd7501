-- The law of runs, by induction over the calls that follow set.
use Rattle.std.proofs.Common.{◌≡◌, ℕ, ◌<◌, ◌≤◌, List, [], get_or, ℤ, pos, ◌+ℤ◌, ◌-ℤ◌, ◌*ℤ◌, nat_abs, Some, None, Ok, Err, sym, ap, ◌∙◌, subst, arith}
use Rattle.std.proofs.lemmas.Int.{ints}
use Rattle.unit.proofs.Answers.{told, untold, told_or_not}
use Rattle.unit.specs.Figures.{Figures, Constants, Banded, Lawful}
use Rattle.unit.specs.Pulses.{value}
use Rattle.unit.specs.Sizes.{largest}
use Rattle.unit.specs.Solutions.{InBand}
use Rattle.unit.specs.declared.refusal.Refusal.{Refusal}
use Rattle.net.specs.Changes.{Reset}
use Rattle.net.specs.Records.{record_at}
use Rattle.net.specs.declared.net.Net.{Net}
use Rattle.runs.specs.Histories as runs
use Rattle.runs.specs.Histories.{Wired, IsUnit}
use Rattle.runs.proofs.Delivering.{position_delivered}
use Rattle.runs.proofs.Extending.{pick}
use Rattle.runs.proofs.Uniqueness.{only_one_fits}
use Rattle.calls.specs.Calls.{Matches, Refused, TickFault, AllTold}
use Rattle.calls.specs.Law.{Call, Follow, at_set, then_feed, then_tick, then_run, then_read, then_row, Lines, lines_after, wired_units, Closes, Tells, TickRefusedLast, LawHolds}
use Rattle.calls.specs.Readings.{Reads}
use Rattle.calls.specs.declared.reading.Reading.{Reading}
use Rattle.calls.proofs.Beginning.{wired_is, as_many, begins}
use Rattle.calls.proofs.Runs.{Kept, kept_tick, kept_feed, kept_chain, refused_fits_not, decides_next}

-- modulus times net and residue against work
summed : (mnet work start f : ℤ) → f ≡ (start +ℤ work) -ℤ mnet → (mnet +ℤ f) -ℤ start ≡ work
summed mnet work start f e = omega (arith, ints)

near_by : (m : ℕ) (low mnet work start f : ℤ) → f ≡ (start +ℤ work) -ℤ mnet → InBand m low f → InBand m low start → nat_abs (work -ℤ mnet) < m
near_by m low mnet work start f e a b =
    let fa = a.above in
    let fb = a.below in
    let sa = b.above in
    let sb = b.below in
    omega (arith, ints)

module _ {U : Type 0} (figures : U → Figures) (law : (u : U) → Lawful (figures u)) (units : ℕ) (ws : List Wired) (us : List U) (n : Net) (start : Kept figures units ws (lines_after []) us n) where
  kept_after : {cs : List Call} {vs : List U} {m : Net} → Follow figures units us n cs vs m → Kept figures units ws (lines_after cs) vs m
  kept_after at_set = start
  kept_after (then_feed {cs = cs} {vs = vs} {m = m} {o = o} l v (Ok x) f a) = kept_feed figures law units ws (lines_after cs) vs m l v o (kept_after f) a
  kept_after (then_feed {cs = cs} {vs = vs} {m = m} {o = o} l v (Err e) f a) = subst (Kept figures units ws (lines_after cs) vs) (sym a.1) (kept_after f)
  kept_after (then_tick {cs = cs} {vs = vs} {ws = xs} {m = m} {o = o} (Ok x) f a) = kept_tick figures law units ws (lines_after cs) vs m xs o (kept_after f) a
  kept_after (then_tick {cs = cs} {vs = vs} {ws = xs} {m = m} {o = o} (Err e) f a) =
      subst (λ (p : Net). Kept figures units ws (lines_after cs) xs p) (sym a.2) (subst (λ (rack : List U). Kept figures units ws (lines_after cs) rack m) (sym a.1) (kept_after f))
  kept_after (then_run {cs = cs} {vs = vs} {m = m} asked made r f chain ended) = kept_chain figures law units ws (lines_after cs) vs m (kept_after f) chain
  kept_after (then_read i r f a) = kept_after f
  kept_after (then_row i before later r f a) = kept_after f

  -- a refused tick, or the one that stopped a run, would have left a range or was one too many
  stopped_by : {cs : List Call} {vs : List U} {m : Net} → Follow figures units us n cs vs m → TickRefusedLast cs → (e : Refusal) × Refused units vs m (TickFault figures units vs m) e
  stopped_by at_set t = absurd t
  stopped_by (then_feed l v r f a) t = absurd t
  stopped_by (then_tick (Ok x) f a) t = absurd t
  stopped_by (then_tick {vs = vs} {ws = xs} {m = m} {o = o} (Err e) f a) t =
      (e, subst (λ (p : Net). Refused units xs p (TickFault figures units xs p) e) (sym a.2) (subst (λ (rack : List U). Refused units rack m (TickFault figures units rack m) e) (sym a.1) a.0))
  stopped_by (then_run asked made None f chain ended) t = absurd t
  stopped_by (then_run asked made (Some e) f chain ended) t = (e, ended)
  stopped_by (then_read i r f a) t = absurd t
  stopped_by (then_row i before later r f a) t = absurd t

  module _ (lawful : (i : ℕ) (w : Wired) → IsUnit ws i w → Lawful w.start) (small : (i : ℕ) (w : Wired) → IsUnit ws i w → w.start.constants.modulus ≤ largest) where
    closes : (s : Lines) (vs : List U) (m : Net) (k : Kept figures units ws s vs m) (i : ℕ) (w : Wired) → IsUnit ws i w → (u : U) → Closes w (figures (get_or vs i u)) (record_at m.table.records i)
    closes s vs m k i w is u =
        let here = k.describes.each i w is u in
        let M = pos w.start.constants.modulus in
        let h = k.history in
        let nets = ap (λ (x : ℤ). M *ℤ x) here.net in
        let same : runs.work w h -ℤ (M *ℤ runs.net i h) ≡ (record_at m.table.records i).work -ℤ (M *ℤ (record_at m.table.records i).net) = let a = here.work in let b = nets in cc in
        let band = subst (λ (c : Constants). Banded c (figures (get_or vs i u)).residue) here.constants (law (get_or vs i u)).residue in
        record {
          sum = ap (λ (x : ℤ). (x +ℤ (figures (get_or vs i u)).residue) -ℤ w.start.residue) nets ∙ summed (M *ℤ runs.net i h) (runs.work w h) w.start.residue (figures (get_or vs i u)).residue here.residue ∙ sym here.work;
          near = subst (λ (x : ℤ). nat_abs x < w.start.constants.modulus) same
              (near_by w.start.constants.modulus w.start.constants.low (M *ℤ runs.net i h) (runs.work w h) w.start.residue (figures (get_or vs i u)).residue here.residue band (lawful i w is).residue);
        }

    tells : (s : Lines) (vs : List U) (m : Net) (k : Kept figures units ws s vs m) (i : ℕ) (w : Wired) → IsUnit ws i w → (r : Reading) → Reads figures vs m i r → Tells i w k.history r
    tells s vs m k i w is r reads =
        let u = pick vs i (let room = k.describes.room in omega (arith, is.0)) in
        let here = k.describes.each i w is u in
        let within : (figures (get_or vs i u)).constants.modulus ≤ largest = rw (ap (λ (c : Constants). c.modulus) here.constants) (small i w is) in
        record {
          ticks = reads.ticks ∙ k.describes.ticks;
          position = reads.position u ∙ here.position;
          residue = reads.residue u ∙ (told (figures (get_or vs i u)) within).1 ∙ here.residue;
          weight = reads.weight u ∙ ap (λ (c : Constants). c.weight (figures (get_or vs i u)).position) here.constants ∙ ap w.start.constants.weight here.position;
          net = reads.net ∙ here.net;
          work = reads.work ∙ here.work;
          line = ap value reads.line ∙ here.line;
        }

    law_holds : (cs : List Call) (vs : List U) (m : Net) → Follow figures units us n cs vs m → LawHolds figures units ws cs vs m
    law_holds cs vs m f =
        let k = kept_after f in
        record {
          all = sym k.describes.count ∙ k.matches.count;
          history = k.history;
          feeds = k.feeds;
          waiting = k.waiting;
          ticks = k.describes.ticks;
          closes = closes (lines_after cs) vs m k;
          delivered = λ i w is u. (k.describes.each i w is u).position ∙ position_delivered w k.history;
          next = decides_next figures law units ws (lines_after cs) vs m k;
          stopped = λ t. let r = stopped_by f t in refused_fits_not figures law units ws (lines_after cs) vs m k r.0 r.1;
          fits = k.fits;
          only = λ g e fits. only_one_fits ws g k.history e fits k.fits;
          tells = tells (lines_after cs) vs m k;
        }

-- from what set leaves
pub set_law : {U : Type 0} (figures : U → Figures) (law : (u : U) → Lawful (figures u)) (units : ℕ) (us : List U) (n m : Net) → Matches units us n → AllTold figures units us units → Reset n m
    → (cs : List Call) (vs : List U) (o : Net) → Follow figures units us m cs vs o → LawHolds figures units (wired_units figures units us m) cs vs o
set_law {U} figures law units us n m belongs all reset =
    let ws = wired_units figures units us m in
    let unit : (i : ℕ) (w : Wired) → IsUnit ws i w → U = λ i w is. pick us i (let a = as_many figures units us n m belongs reset in let r = belongs.room in omega (arith, is.0)) in
    let start_is : (i : ℕ) (w : Wired) (is : IsUnit ws i w) → w.start ≡ figures (get_or us i (unit i w is)) = λ i w is. ap (λ (v : Wired). v.start) (wired_is figures units us n m belongs reset i w is (unit i w is)) in
    law_holds figures law units ws us m (begins figures units us n m belongs reset)
    (λ i w is. subst Lawful (sym (start_is i w is)) (law (get_or us i (unit i w is))))
    (λ i w is.
    let f = figures (get_or us i (unit i w is)) in
    let below : i < units = let a = as_many figures units us n m belongs reset in omega (arith, is.0) in
    subst (λ (g : Figures). g.constants.modulus ≤ largest) (sym (start_is i w is)) (told_or_not f (λ few. few) (λ large. absurd (all i below (unit i w is) (untold f large).0))))
