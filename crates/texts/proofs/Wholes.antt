-- Lawful frames are the upper frames of some sheet.
use Rattle.std.proofs.Common.{◌≡◌, ℕ, zero, suc, ◌-◌, ◌^◌, ◌<◌, ◌≤◌, List, [], ◌∷◌, ◌++◌, length, get_or, replicate, sym, refl, ap, ◌∙◌, subst, ⊎_elim, append-nil, arith, length-append}
use Rattle.std.specs.List.{All}
use Rattle.std.proofs.lemmas.List.{get_or_past, length-replicate}
use Rattle.std.proofs.lemmas.List.Elements.{All-append, All-replicate}
use Rattle.std.proofs.lemmas.Bool.{cases_lt}
use Rattle.fixedvec.specs.Items.{items}
use Rattle.fixedvec.proofs.Places.{vector_of}
use Rattle.frames.specs.Frames.{Frame, count, integrator, last}
use Rattle.frames.specs.Rules.{Lawful, Keeps, UnitsStand, counted, how_many, is_last}
use Rattle.frames.proofs.Counts.{counted_few, counted_some, ends}
use Rattle.sheet.specs.Patches.{unit_frame, unit_frames, tap_frames, frames, blank_unit, Placed, HasSource}
use Rattle.sheet.specs.Texts.{frames_of}
use Rattle.sheet.specs.declared.parts.Plug.{Plug}
use Rattle.sheet.specs.declared.parts.UnitFigures.{UnitFigures}
use Rattle.sheet.specs.declared.sheet.Sheet.{Sheet}
use Rattle.sheet.proofs.Counting.{units_counted, units_many, units_open, taps_counted, taps_units, taps_open}
use Rattle.sheet.proofs.Sheets.{blank_lawful}
use Rattle.texts.proofs.Drafts.{Draft, drafts, counts}

-- the units that are still to come can be blank ones

blank_keeps : (c : ℕ) (us : List UnitFigures) (j : ℕ) → j < c → c ≤ 64 → Keeps (unit_frames c us j) (integrator j 1 0 0 1 0)
blank_keeps c us j lt most = record {
  expected = omega (arith, units_many c us j, units_counted c us j);
  fits = (omega arith, (omega arith, (omega arith, (omega arith, (omega arith, (omega arith, tt))))));
  ordered = sym (units_many c us j);
  ranged = blank_lawful.0.1.ranged;
  sourced = tt;
}

more_units : (c : ℕ) (us : List UnitFigures) (j : ℕ) → length us ≤ j → j ≤ c → c ≤ 64 → Lawful (unit_frames c us (length us)) → Lawful (unit_frames c us j)
more_units c us zero le few most h = let e : length us ≡ 0 = omega arith in subst (λ n. Lawful (unit_frames c us n)) e h
more_units c us (suc j) le few most h =
    ⊎_elim
    (λ lt. (more_units c us j (omega arith) (omega arith) most h, subst (λ x. Keeps (unit_frames c us j) (unit_frame j x)) (sym (get_or_past us j blank_unit (omega arith))) (blank_keeps c us j (omega arith) most)))
    (λ ge. let e : length us ≡ suc j = omega arith in subst (λ n. Lawful (unit_frames c us n)) e h)
    (cases_lt (length us) (suc j))

above_units : (c : ℕ) (us : List UnitFigures) (k j : ℕ) → k ≤ j → (xs : List Frame) × (unit_frames c us j ≡ xs ++ unit_frames c us k)
above_units c us k zero le = let e : k ≡ 0 = omega arith in ([], sym (ap (unit_frames c us) e))
above_units c us k (suc j) le =
    ⊎_elim
    (λ lt. let r = above_units c us k j (omega arith) in (unit_frame j (get_or us j blank_unit) ∷ r.0, ap (λ b. unit_frame j (get_or us j blank_unit) ∷ b) r.1))
    (λ ge. let e : k ≡ suc j = omega arith in ([], sym (ap (unit_frames c us) e)))
    (cases_lt k (suc j))

-- the units, and blank ones up to the count
abbrev filled : {a : List Frame} → Draft a → List UnitFigures
filled d = d.us ++ replicate (d.c - length d.us) blank_unit

length-filled : {a : List Frame} (d : Draft a) → length (filled d) ≡ d.c
length-filled d = omega (arith, d.few, length-append d.us (replicate (d.c - length d.us) blank_unit), length-replicate (d.c - length d.us) blank_unit)

past_units : (us : List UnitFigures) (m i : ℕ) → get_or (us ++ replicate m blank_unit) i blank_unit ≡ get_or us i blank_unit
past_units [] zero i = refl
past_units [] (suc m) zero = refl
past_units [] (suc m) (suc i) = past_units [] m i
past_units (x ∷ us) m zero = refl
past_units (x ∷ us) m (suc i) = past_units us m i

filled_frames : (c : ℕ) (us : List UnitFigures) (m k : ℕ) → unit_frames c (us ++ replicate m blank_unit) k ≡ unit_frames c us k
filled_frames c us m zero = refl
filled_frames c us m (suc k) = λ i. unit_frame k (past_units us m k i) ∷ filled_frames c us m k i

-- all units and the taps so far
pub record Wired (a : List Frame) (d : Draft a) : Type 0 where
  pub more : List Frame
  pub is : tap_frames (unit_frames d.c d.us d.c) d.ps (length d.ps) ≡ more ++ a
  pub lawful : Lawful (tap_frames (unit_frames d.c d.us d.c) d.ps (length d.ps))

wired : (a : List Frame) (d : Draft a) → Lawful a → d.c ≤ 64 → Wired a d
wired a d h most =
    let k = length d.us in
    let n = length d.ps in
    ⊎_elim
    (λ some.
    let e : a ≡ tap_frames (unit_frames d.c d.us d.c) d.ps n = d.frames_are ∙ ap (λ k. tap_frames (unit_frames d.c d.us k) d.ps n) (d.full some) in
    record { more = []; is = sym e; lawful = subst Lawful e h })
    (λ le.
    let none : n ≡ 0 = omega arith in
    let e : a ≡ unit_frames d.c d.us k = d.frames_are ∙ ap (tap_frames (unit_frames d.c d.us k) d.ps) none in
    let r = above_units d.c d.us k d.c d.few in
    record {
      more = r.0;
      is = ap (tap_frames (unit_frames d.c d.us d.c) d.ps) none ∙ r.1 ∙ ap (λ b. r.0 ++ b) (sym e);
      lawful = subst (λ n. Lawful (tap_frames (unit_frames d.c d.us d.c) d.ps n)) (sym none) (more_units d.c d.us d.c d.few (omega arith) most (subst Lawful e h));
    })
    (cases_lt 0 n)

-- the figures of a last frame
pub record Lasts (t q : ℕ) : Type 0 where
  pub ticks : t < 16 ^ 6
  pub step : q < 16 ^ 6
  pub some : 1 ≤ q

-- a sheet whose frames end in those above, from the top down
pub record SheetWith (a : List Frame) : Type 0 where
  pub sheet : Sheet
  pub more : List Frame
  pub is : frames_of sheet ≡ more ++ a

whole : (a : List Frame) (d : Draft a) → Lawful a → 1 ≤ counted a → (t q : ℕ) → Lasts t q → (s : Sheet) × (frames_of s ≡ last t q ∷ tap_frames (unit_frames d.c d.us d.c) d.ps (length d.ps))
whole a d h low t q l =
    let most : d.c ≤ 64 = subst (λ z. z ≤ 64) (counts d).0 (counted_few a h) in
    let base = unit_frames d.c d.us d.c in
    let all = tap_frames base d.ps (length d.ps) in
    let said : counted all ≡ d.c = taps_counted base d.ps (length d.ps) ∙ units_counted d.c d.us d.c in
    let stand : UnitsStand all = record {
      some = subst (λ z. 1 ≤ z) ((counts d).0 ∙ sym said) low;
      all = taps_units base d.ps (length d.ps) ∙ units_many d.c d.us d.c ∙ sym said;
      open_end = taps_open base d.ps (length d.ps) ∙ units_open d.c d.us d.c;
    } in
    let same : unit_frames (length (filled d)) (filled d) (length (filled d)) ≡ base = (λ i. unit_frames (length-filled d i) (filled d) (length-filled d i)) ∙ filled_frames d.c d.us (d.c - length d.us) d.c in
    let is : frames (filled d) d.ps t q ≡ last t q ∷ all = ap (λ us. last t q ∷ tap_frames us d.ps (length d.ps)) same in
    let v = vector_of (filled d) (subst (λ c. c ≤ 64) (sym (length-filled d)) most) in
    let w = vector_of d.ps d.room in
    let written : frames (items v.0) (items w.0) t q ≡ last t q ∷ all = (λ i. frames (v.1 i) (w.1 i) t q) ∙ is in
    let placed = All-append Placed d.us (replicate (d.c - length d.us) blank_unit) d.placed (All-replicate Placed (d.c - length d.us) blank_unit (omega arith)) in
    let sourced = subst (λ c. All (HasSource c) d.ps) (sym (length-filled d)) d.sourced in
    let lawful : Lawful (last t q ∷ all) = ((wired a d h most).lawful, record { expected = stand; fits = (l.ticks, (l.step, tt)); ordered = tt; ranged = l.some; sourced = tt }) in (
      record {
        units = v.0;
        plugs = w.0;
        ticks = t;
        step = q;
        room = subst (λ (ps : List Plug). length ps ≤ 320) (sym w.1) d.room;
        lawful = ∣ subst Lawful (sym written) lawful ∣₁;
        placed = subst (All Placed) (sym v.1) placed;
        sourced = subst (λ (us : List UnitFigures). All (HasSource (length us)) (items w.0)) (sym v.1) (subst (All (HasSource (length (filled d)))) (sym w.1) sourced);
      },
      written,
    )

first_step : Lasts 0 1
first_step = record { ticks = omega arith; step = omega arith; some = omega arith }

unfinished : (f : Frame) (a : List Frame) → Lawful (f ∷ a) → how_many is_last (f ∷ a) ≡ 0 → SheetWith (f ∷ a)
unfinished f a h z =
    let d = drafts f a h z in
    let most : d.c ≤ 64 = subst (λ n. n ≤ 64) (counts d).0 (counted_few (f ∷ a) h) in
    let w = whole (f ∷ a) d h (counted_some f a h) 0 1 first_step in
    let r = wired (f ∷ a) d h most in
    record { sheet = w.0; more = last 0 1 ∷ r.more; is = w.1 ∙ ap (λ b. last 0 1 ∷ b) r.is }

finished : (t q : ℕ) (a : List Frame) → Lawful (last t q ∷ a) → SheetWith (last t q ∷ a)
finished t q [] h = absurd (omega (arith, h.1.expected.some))
finished t q (f ∷ a) h =
    let d = drafts f a h.0 h.1.expected.open_end in
    let full : length d.us ≡ d.c = sym (counts d).1 ∙ h.1.expected.all ∙ (counts d).0 in
    let w = whole (f ∷ a) d h.0 h.1.expected.some t q (record { ticks = h.1.fits.0; step = h.1.fits.1.0; some = h.1.ranged }) in
    let e : tap_frames (unit_frames d.c d.us d.c) d.ps (length d.ps) ≡ f ∷ a = sym (d.frames_are ∙ ap (λ k. tap_frames (unit_frames d.c d.us k) d.ps (length d.ps)) full) in
    record { sheet = w.0; more = []; is = w.1 ∙ ap (λ b. last t q ∷ b) e }

one_unit : Lawful (count 1 ∷ [])
one_unit = blank_lawful.0.0

pub sheet_with : (a : List Frame) → Lawful a → SheetWith a
sheet_with [] h = let s = unfinished (count 1) [] one_unit refl in record { sheet = s.sheet; more = frames_of s.sheet; is = sym (append-nil (frames_of s.sheet)) }
sheet_with (f ∷ a) h =
    ⊎_elim
    (λ z. unfinished f a h z)
    (λ e. subst SheetWith (sym e.3) (finished e.0 e.1 e.2 (subst Lawful e.3 h)))
    (ends (f ∷ a) h)
