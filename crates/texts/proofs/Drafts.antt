-- Lawful frames, as far as they go, are those of a patch that is not whole yet.
use Rattle.std.proofs.Common.{◌≡◌, ℕ, ◌+◌, ◌<◌, ◌≤◌, List, [], ◌∷◌, ◌++◌, length, pos, sym, refl, ap, ◌∙◌, subst, ⊎_elim, arith, w32, to_z}
use Rattle.std.specs.List.{All}
use Rattle.std.proofs.lemmas.List.{length_push}
use Rattle.std.proofs.lemmas.List.Elements.{All-nil, All-push}
use Rattle.std.proofs.lemmas.Int.{ints, of_z-to_z}
use Rattle.std.proofs.lemmas.Bool.{cases_lt}
use Rattle.entries.specs.Turns.{Taps}
use Rattle.entries.proofs.Makes.{small_position}
use Rattle.entries.proofs.Letters.{below_count}
use Rattle.entries.proofs.Turning.{add_x, add_y, no_taps_yet}
use Rattle.frames.specs.Frames.{Frame, count, integrator, servo, tap, last, Fits}
use Rattle.frames.specs.Rules.{Lawful, InRange, Ordered, Sourced, counted, latest, how_many, is_unit, is_last}
use Rattle.frames.proofs.Counts.{counted_few}
use Rattle.sheet.specs.Patches.{unit_frame, tap_frame, unit_frames, tap_frames, Placed, HasSource}
use Rattle.sheet.specs.declared.parts.MakeFigures.TheVariants.{Integrator, Servo}
use Rattle.sheet.specs.declared.parts.Plug.{Plug}
use Rattle.sheet.specs.declared.parts.UnitFigures.{UnitFigures}
use Rattle.sheet.proofs.Counting.{units_counted, units_many, units_no_latest, taps_counted, taps_units}
use Rattle.sheet.proofs.Slices.{units_push, taps_push}
use Rattle.wires.specs.declared.tap.Input.{Input}
use Rattle.wires.specs.declared.tap.Input.TheVariants.{X, Y}

-- the unit and the tap that a lawful frame says

pub record UnitOf (u : ℕ) (f : Frame) : Type 0 where
  pub figures : UnitFigures
  pub is : unit_frame u figures ≡ f
  pub placed : Placed figures

integrator_of : (u n p r k s : ℕ) → Fits (integrator u n p r k s) → InRange (integrator u n p r k s) → UnitOf u (integrator u n p r k s)
integrator_of u n p r k s h g = record {
  figures = record { make = Integrator n r; position = to_z w32 p; divisor = k; sense = g.2.0 };
  is = λ i. integrator u n (of_z-to_z w32 p h.1.1.0 i) r k (g.2.1 i);
  placed = small_position n (to_z w32 p) (pos r) g.0;
}

servo_of : (u l p k s : ℕ) → Fits (servo u l p k s) → InRange (servo u l p k s) → UnitOf u (servo u l p k s)
servo_of u l p k s h g = record {
  figures = record { make = Servo l; position = to_z w32 p; divisor = k; sense = g.2.0 };
  is = λ i. servo u l (of_z-to_z w32 p h.1.1.0 i) k (g.2.1 i);
  placed = omega (arith, ints, g.0.position.above, g.0.position.below, g.0.most);
}

pub record TapOf (c : ℕ) (f : Frame) : Type 0 where
  pub plug : Plug
  pub is : tap_frame plug ≡ f
  pub sourced : HasSource c plug

tap_of : (above : List Frame) (i : Input) (u g t : ℕ) → InRange (tap i u g t) → Sourced above (tap i u g t) → TapOf (counted above) (tap i u g t)
tap_of above i u g t r s = record {
  plug = record { unit = u; input = i; tap = record { sign = r.0; source = s.0 } };
  is = λ j. tap i u (r.1 j) (s.2 j);
  sourced = s.1;
}

-- some of c units, and taps; the latest unit is u, and so many taps and y taps are its own
pub record Draft (a : List Frame) : Type 0 where
  pub c : ℕ
  pub u : ℕ
  pub taps : ℕ
  pub ys : ℕ
  pub us : List UnitFigures
  pub ps : List Plug
  pub frames_are : a ≡ tap_frames (unit_frames c us (length us)) ps (length ps)
  pub few : length us ≤ c
  pub full : 0 < length ps → length us ≡ c
  pub room : length ps ≤ 320
  pub placed : All Placed us
  pub sourced : All (HasSource c) ps
  pub latest_is : latest a ≡ u
  pub so_far : Taps a u taps ys (length ps)
  pub some : ys ≤ taps
  pub one_x : taps ≤ ys + 1
  pub four : ys ≤ 4

pub counts : {a : List Frame} (d : Draft a) → (counted a ≡ d.c) × (how_many is_unit a ≡ length d.us)
counts d =
    let base = unit_frames d.c d.us (length d.us) in
    let n = length d.ps in
    (ap counted d.frames_are ∙ taps_counted base d.ps n ∙ units_counted d.c d.us (length d.us), ap (how_many is_unit) d.frames_are ∙ taps_units base d.ps n ∙ units_many d.c d.us (length d.us))

start : (c : ℕ) → Draft (count c ∷ [])
start c = record {
  c = c;
  u = 0;
  taps = 0;
  ys = 0;
  us = [];
  ps = [];
  frames_are = refl;
  few = omega arith;
  full = λ h. absurd (omega arith);
  room = omega arith;
  placed = All-nil Placed;
  sourced = All-nil (HasSource c);
  latest_is = refl;
  so_far = no_taps_yet c [] 0 0;
  some = omega arith;
  one_x = omega arith;
  four = omega arith;
}

-- no tap stands yet, where a unit is still to come
no_tap : {a : List Frame} (d : Draft a) → length d.us < d.c → a ≡ unit_frames d.c d.us (length d.us)
no_tap d lt =
    let none : length d.ps ≡ 0 = ⊎_elim (λ h. absurd (omega (arith, d.full h))) (λ h. omega arith) (cases_lt 0 (length d.ps)) in
    d.frames_are ∙ ap (tap_frames (unit_frames d.c d.us (length d.us)) d.ps) none

unit_step : (a : List Frame) (f : Frame) (d : Draft a) → UnitOf (length d.us) f → length d.us < d.c → Draft (f ∷ a)
unit_step a f d x lt =
    let us = d.us ++ x.figures ∷ [] in
    let more = length_push d.us x.figures in
    let is : f ∷ a ≡ unit_frames d.c us (length us) = (λ i. sym x.is i ∷ no_tap d lt i) ∙ sym (units_push d.c d.us x.figures) in
    record {
      c = d.c;
      u = 0;
      taps = 0;
      ys = 0;
      us = us;
      ps = [];
      frames_are = is;
      few = omega arith;
      full = λ h. absurd (omega arith);
      room = omega arith;
      placed = All-push Placed d.us x.figures d.placed x.placed;
      sourced = All-nil (HasSource d.c);
      latest_is = ap latest is ∙ units_no_latest d.c us (length us);
      so_far = subst (λ z. Taps z 0 0 0 0) (sym is) (no_taps_yet d.c us (length us) 0);
      some = omega arith;
      one_x = omega arith;
      four = omega arith;
    }

-- the taps of a unit so far, of which no later one has any
pub record Here (a : List Frame) (v n : ℕ) : Type 0 where
  pub taps : ℕ
  pub ys : ℕ
  pub so_far : Taps a v taps ys n
  pub some : ys ≤ taps
  pub one_x : taps ≤ ys + 1
  pub four : ys ≤ 4

here : (a : List Frame) (d : Draft a) (v : ℕ) → latest a ≤ v → Here a v (length d.ps)
here a d v le =
    ⊎_elim
    (λ lt. record {
      taps = 0;
      ys = 0;
      so_far = record { below = le; of_unit = d.so_far.no_taps v lt; y_of_unit = d.so_far.no_ys v lt; no_taps = λ w h. d.so_far.no_taps w (omega arith); no_ys = λ w h. d.so_far.no_ys w (omega arith); few = omega (arith, d.so_far.few, d.one_x, d.four) };
      some = omega arith;
      one_x = omega arith;
      four = omega arith;
    })
    (λ ge. let e : d.u ≡ v = omega (arith, d.latest_is) in record { taps = d.taps; ys = d.ys; so_far = subst (λ w. Taps a w d.taps d.ys (length d.ps)) e d.so_far; some = d.some; one_x = d.one_x; four = d.four })
    (cases_lt d.u v)

-- one tap more
pub record Next (a : List Frame) (i : Input) (v g t n : ℕ) : Type 0 where
  pub taps : ℕ
  pub ys : ℕ
  pub so_far : Taps (tap i v g t ∷ a) v taps ys (n + 1)
  pub some : ys ≤ taps
  pub one_x : taps ≤ ys + 1
  pub four : ys ≤ 4

next : (a : List Frame) (d : Draft a) (i : Input) (v g t : ℕ) → Ordered a (tap i v g t) → Next a i v g t (length d.ps)
next a d X v g t o =
    let h = here a d v o.1 in
    let z : h.taps ≡ 0 = omega (arith, h.so_far.of_unit, o.2) in
    record { taps = 1; ys = 0; so_far = add_x a v g t h.ys (length d.ps) (subst (λ k. Taps a v k h.ys (length d.ps)) z h.so_far) (omega (arith, h.some)); some = omega arith; one_x = omega arith; four = omega arith }
next a d Y v g t o =
    let h = here a d v o.1 in
    record { taps = h.taps + 1; ys = h.ys + 1; so_far = add_y a v g t h.taps h.ys (length d.ps) h.so_far; some = omega (arith, h.some); one_x = omega (arith, h.one_x); four = omega (arith, h.so_far.y_of_unit, o.2) }

tap_step : (a : List Frame) (i : Input) (v g t : ℕ) (d : Draft a) → length d.us ≡ d.c → d.c ≤ 64 → Ordered a (tap i v g t) → TapOf (counted a) (tap i v g t) → Draft (tap i v g t ∷ a)
tap_step a i v g t d whole most o x =
    let m = next a d i v g t o in
    let p = x.plug in
    let low : v < d.c = subst (λ z. v < z) (counts d).0 (below_count a i v g t o) in
    let more = length_push d.ps p in
    record {
      c = d.c;
      u = v;
      taps = m.taps;
      ys = m.ys;
      us = d.us;
      ps = d.ps ++ p ∷ [];
      frames_are = (λ j. sym x.is j ∷ d.frames_are j) ∙ sym (taps_push (unit_frames d.c d.us (length d.us)) d.ps p);
      few = d.few;
      full = λ h. whole;
      room = omega (arith, m.so_far.few, m.one_x, m.four);
      placed = d.placed;
      sourced = All-push (HasSource d.c) d.ps p d.sourced (subst (λ z. HasSource z p) (counts d).0 x.sourced);
      latest_is = refl;
      so_far = subst (Taps (tap i v g t ∷ a) v m.taps m.ys) (sym more) m.so_far;
      some = m.some;
      one_x = m.one_x;
      four = m.four;
    }

most_units : {a : List Frame} (d : Draft a) → Lawful a → d.c ≤ 64
most_units {a} d h = subst (λ z. z ≤ 64) (counts d).0 (counted_few a h)

pub drafts : (f : Frame) (a : List Frame) → Lawful (f ∷ a) → how_many is_last (f ∷ a) ≡ 0 → Draft (f ∷ a)
drafts (count c) a h z = subst (λ b. Draft (count c ∷ b)) (sym h.1.expected) (start c)
drafts (integrator u n p r k s) [] h z = absurd (omega (arith, h.1.expected))
drafts (integrator u n p r k s) (g ∷ a) h z =
    let d = drafts g a h.0 z in
    let e : length d.us ≡ u = sym (counts d).1 ∙ sym h.1.ordered in
    let x = integrator_of u n p r k s h.1.fits h.1.ranged in
    unit_step (g ∷ a) (integrator u n p r k s) d (subst (λ w. UnitOf w (integrator u n p r k s)) (sym e) x) (omega (arith, h.1.expected, (counts d).0, (counts d).1))
drafts (servo u l p k s) [] h z = absurd (omega (arith, h.1.expected))
drafts (servo u l p k s) (g ∷ a) h z =
    let d = drafts g a h.0 z in
    let e : length d.us ≡ u = sym (counts d).1 ∙ sym h.1.ordered in
    let x = servo_of u l p k s h.1.fits h.1.ranged in
    unit_step (g ∷ a) (servo u l p k s) d (subst (λ w. UnitOf w (servo u l p k s)) (sym e) x) (omega (arith, h.1.expected, (counts d).0, (counts d).1))
drafts (tap i u g t) [] h z = absurd (omega (arith, h.1.expected.some))
drafts (tap i u g t) (f ∷ a) h z =
    let d = drafts f a h.0 z in
    tap_step (f ∷ a) i u g t d (sym (counts d).1 ∙ h.1.expected.all ∙ (counts d).0) (most_units d h.0) h.1.ordered (tap_of (f ∷ a) i u g t h.1.ranged h.1.sourced)
drafts (last t q) a h z = absurd (omega arith)
