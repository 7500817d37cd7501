-- What a run keeps true from call to call: its history, its lines, its figures.
use Rattle.std.proofs.Common.{◌≡◌, ℕ, ◌<◌, T, List, [], ◌∷◌, ◌++◌, map, length, get_or, set, ℤ, ◌+ℤ◌, is_ok, Ok, Err, Decides, Result, sym, refl, ap, ◌∙◌, subst, arith}
use Rattle.unit.proofs.Truth.{both}
use Rattle.unit.specs.Figures.{Figures, Constants, Inside, Lawful}
use Rattle.unit.specs.Pulses.{value}
use Rattle.unit.specs.declared.refusal.Refusal.{Refusal}
use Rattle.net.specs.Bounds.{tap_there, taps_there}
use Rattle.net.specs.Records.{record_at, blank}
use Rattle.net.specs.declared.net.Net.{Net}
use Rattle.net.specs.declared.table.Table.{Table}
use Rattle.ticks.specs.Racks.{Accepts}
use Rattle.ticks.specs.Ticks as ticks
use Rattle.runs.specs.Histories as runs
use Rattle.runs.specs.Histories.{Wired, Tick, History, IsUnit, Fits}
use Rattle.runs.specs.Standing.{Stands, Describes, next_fed, tick_of}
use Rattle.runs.proofs.Extending.{describes_more, fits_more, pick, sum_is}
use Rattle.runs.proofs.Uniqueness.{unit_at}
use Rattle.calls.specs.Calls.{Matches, Refused, other, for_fault, Fed, TickFault, spent, leaves, TickMade, TickAnswers, Chain, none, more}
use Rattle.calls.specs.Law.{Lines, NextFits, oldest, waits, fed, ticked, ticked_by}
use Rattle.calls.proofs.Chains.{still_matches}
use Rattle.calls.proofs.Lines.{given_by, emptied_by, fed_by, ticked_more}

pub record Kept {U : Type 0} (figures : U → Figures) (units : ℕ) (ws : List Wired) (s : Lines) (us : List U) (n : Net) : Type 0 where
  pub matches : Matches units us n
  pub history : History
  pub feeds : map (λ t. t.fed) history ≡ s.given
  pub waiting : map waits n.outside ≡ s.waiting
  pub fits : Fits ws history
  pub describes : Describes figures ws history us n

-- the y taps of a unit of the job read what is there
wired_y : (n : Net) (i : ℕ) → i < n.count → T (taps_there n.count (record_at n.table.records i).y)
wired_y n i h = (both (tap_there n.count (record_at n.table.records i).x) (taps_there n.count (record_at n.table.records i).y) (n.wired i blank (let f = n.few in omega arith))).1

module _ {U : Type 0} (figures : U → Figures) (law : (u : U) → Lawful (figures u)) (units : ℕ) (ws : List Wired) where
  next_given : (s : Lines) (us : List U) (n : Net) → Kept figures units ws s us n → next_fed n ≡ map oldest s.waiting
  next_given s us n k = sym (given_by n.outside) ∙ ap (map oldest) k.waiting

  pub kept_tick : (s : Lines) (us : List U) (n : Net) (vs : List U) (m : Net) → Kept figures units ws s us n → TickMade figures units us n vs m → Kept figures units ws (ticked s) vs m
  kept_tick s us n vs m k t = record {
    matches = still_matches figures units us n vs m t;
    history = tick_of (length ws) n m ∷ k.history;
    feeds = (let a = next_given s us n k in let b = k.feeds in cc);
    waiting = ap (map waits) t.ticked.outside ∙ emptied_by n.outside n.four ∙ ap (map _) k.waiting;
    fits = fits_more figures law ws k.history us n k.describes vs m t.ticked k.fits;
    describes = describes_more figures law ws k.history us n k.describes vs m t.ticked;
  }

  -- a feed changes what waits, and no figure
  pub kept_feed : (s : Lines) (us : List U) (n : Net) (l : ℕ) (v : ℤ) (m : Net) → Kept figures units ws s us n → Fed units us n l v m → Kept figures units ws (fed l v s) us m
  kept_feed s us n l v m k f =
      let d = k.describes in
      let same : n.table ≡ m.table = sym f.net.records in
      record {
        matches = record { room = k.matches.room; count = f.net.count ∙ k.matches.count };
        history = k.history;
        feeds = k.feeds;
        waiting = ap (map waits) f.net.outside ∙ fed_by n.outside l f.pulse f.free
            ∙ ap (λ (q : List (List ℤ)). set q l (get_or q l [] ++ (value f.pulse ∷ []))) k.waiting
            ∙ ap (λ (x : ℤ). set s.waiting l (get_or s.waiting l [] ++ (x ∷ []))) f.asked.pulse;
        fits = k.fits;
        describes = record {
          count = f.net.count ∙ d.count;
          room = d.room;
          ticks = f.net.ticks ∙ d.ticks;
          each = λ i w is u. subst (λ (t : Table). Stands i w k.history (figures (get_or us i u)) (record_at t.records i)) same (d.each i w is u);
        };
      }

  pub kept_chain : (s : Lines) (us : List U) (n : Net) {c : ℕ} {vs : List U} {m : Net} → Kept figures units ws s us n → Chain figures units us n c vs m → Kept figures units ws (ticked_by c s) vs m
  kept_chain s us n k none = k
  kept_chain s us n k (more {k = c} {vs = vs} {ws = xs} {m = m} {o = o} chain t) =
      subst (λ (q : Lines). Kept figures units ws q xs o) (sym (ticked_more c s)) (kept_tick (ticked_by c s) vs m xs o (kept_chain s us n k chain) t)

  -- ---- the next tick
  module _ (s : Lines) (us : List U) (n : Net) (k : Kept figures units ws s us n) where
    -- where unit i would stand after one tick more
    next_is : (i : ℕ) (w : Wired) → IsUnit ws i w → (u : U) → (figures (get_or us i u)).position +ℤ ticks.tally n i ≡ runs.position w k.history +ℤ runs.tally (runs.lines k.history) (map oldest s.waiting) w.y
    next_is i w is u =
        let d = k.describes in
        let here = d.each i w is u in
        let few : i < n.count = let c = d.count in omega (arith, is.0) in
        let sum = sum_is figures ws k.history us n d (record_at n.table.records i).y (wired_y n i few) in
        let given = ap (λ (g : List ℤ). runs.tally (runs.lines k.history) g w.y) (next_given s us n k) in
        let taps = ap (runs.tally (runs.lines k.history) (next_fed n)) here.y in
        let p = here.position in
        cc

    stays_from : (i : ℕ) (w : Wired) → IsUnit ws i w → (u : U) → Accepts (figures (get_or us i u)) (ticks.tally n i) → Inside w.start.constants (runs.position w k.history +ℤ runs.tally (runs.lines k.history) (map oldest s.waiting) w.y)
    stays_from i w is u a = subst (Inside w.start.constants) (next_is i w is u) (subst (λ (c : Constants). Inside c ((figures (get_or us i u)).position +ℤ ticks.tally n i)) (k.describes.each i w is u).constants a)

    accepts_from : (i : ℕ) (w : Wired) → IsUnit ws i w → (u : U) → Inside w.start.constants (runs.position w k.history +ℤ runs.tally (runs.lines k.history) (map oldest s.waiting) w.y) → Accepts (figures (get_or us i u)) (ticks.tally n i)
    accepts_from i w is u a = subst (λ (c : Constants). Inside c ((figures (get_or us i u)).position +ℤ ticks.tally n i)) (sym (k.describes.each i w is u).constants) (subst (Inside w.start.constants) (sym (next_is i w is u)) a)

    some : (i : ℕ) → i < length ws → U
    some i h = pick us i (let r = k.describes.room in omega arith)

    pub made_fits : (vs : List U) (m : Net) → TickMade figures units us n vs m → NextFits ws k.history (map oldest s.waiting)
    made_fits vs m t = record {
      left = let e = k.describes.ticks in let early = t.early in omega arith;
      stay = λ i w is. let u = some i is.0 in stays_from i w is u (t.accepted i (let c = k.describes.count in omega (arith, is.0)) u);
    }

    pub refused_fits_not : (e : Refusal) → Refused units us n (TickFault figures units us n) e → NextFits ws k.history (map oldest s.waiting) → ⊥
    refused_fits_not e (other not) f = not k.matches
    refused_fits_not e (for_fault matches (spent all)) f = let c = k.describes.ticks in let l = f.left in omega arith
    refused_fits_not e (for_fault matches (leaves early j first)) f =
        let there : j < length ws = let c = k.describes.count in omega (arith, first.0) in
        let w = unit_at ws j there in
        let u = some j there in
        first.2 u (accepts_from j w.0 w.1 u (f.stay j w.0 w.1))

    pub decides_next : (r : Result (Unit {0}) Refusal) (vs : List U) (m : Net) → TickAnswers figures units us n r vs m → Decides (is_ok r) (NextFits ws k.history (map oldest s.waiting))
    decides_next (Ok x) vs m t = (λ e. made_fits vs m t, λ f. refl)
    decides_next (Err e) vs m t = (λ z. let no_way : ◌≡◌ {A = ℕ} 0 1 = cc in absurd (omega arith), λ f. absurd (refused_fits_not e t.0 f))
