-- The taps of a sheet go by rising unit, so those of one unit stand together.
use Rattle.std.proofs.Common.{◌≡◌, ℕ, zero, suc, ◌+◌, ◌-◌, ◌<◌, ◌≤◌, Bool, true, false, cond, eqb, leb, ltb, List, [], ◌∷◌, length, get_or, take, drop, filter, sym, refl, ap, ◌∙◌, subst, ⊎_elim, add-one, arith}
use mathlib.Core.Logic.{∥∥₁_elim}
use native.Mathlib.Bridge.{le_prop}
use native.Mathlib.Nat.{sub-zero}
use lib.Seq.{take-nil}
use Rattle.std.proofs.lemmas.List.{get_or_default}
use Rattle.std.proofs.lemmas.Bool.{cases_lt, eq-eqb, ne_eqb, ltb-true, ltb-false, leb-true, leb-false}
use Rattle.std.proofs.lemmas.List.Sorted.{IsNonDecreasingBy-from_all_adjacent}
use Rattle.std.specs.List.Sorted.{IsNonDecreasingBy, IsPartitionPoint}
use Rattle.frames.specs.Frames.{Frame, tap}
use Rattle.frames.specs.Rules.{Lawful, Ordered, latest}
use Rattle.wires.specs.declared.tap.Input.{Input}
use Rattle.wires.specs.declared.tap.Input.TheVariants.{X, Y}
use Rattle.sheet.specs.Patches.{tap_frames, unit_frames, blank_plug}
use Rattle.sheet.specs.Views.{units_of, taps_of}
use Rattle.sheet.specs.declared.parts.Plug.{Plug}
use Rattle.sheet.specs.declared.sheet.Sheet.{Sheet}

not_lower : (above : List Frame) (i : Input) (u g t : ℕ) → Ordered above (tap i u g t) → latest above ≤ u
not_lower above X u g t o = o.1
not_lower above Y u g t o = o.1

-- a tap and the one above it
adjacent : (above : List Frame) (ps : List Plug) (n k : ℕ) → Lawful (tap_frames above ps n) → k + 1 < n → (get_or ps k blank_plug).unit ≤ (get_or ps (k + 1) blank_plug).unit
adjacent above ps zero k h lt = absurd (omega arith)
adjacent above ps (suc zero) k h lt = absurd (omega arith)
adjacent above ps (suc (suc n)) k h lt =
    let p = get_or ps (suc n) blank_plug in
    ⊎_elim
    (λ below. adjacent above ps (suc n) k h.0 below)
    (λ at.
    let e : n ≡ k = omega arith in
    subst (λ i. (get_or ps i blank_plug).unit ≤ (get_or ps (i + 1) blank_plug).unit) e (rw add-one (not_lower (tap_frames above ps (suc n)) p.input p.unit _ _ h.1.ordered)))
    (cases_lt (k + 1) (suc n))

pub sheet_rising : (s : Sheet) → IsNonDecreasingBy (λ p. p.unit) (taps_of s)
sheet_rising s =
    let us = units_of s in
    let ps = taps_of s in
    IsNonDecreasingBy-from_all_adjacent (λ (p : Plug). p.unit) ps
    (λ k d lt.
    rw (get_or_default ps k d blank_plug (omega arith), get_or_default ps (k + 1) d blank_plug lt)
    (∥∥₁_elim s.lawful le_prop (λ h. adjacent (unit_frames (length us) us (length us)) ps (length ps) k h.0 lt)))

-- what passes a test from one place up to another, and nowhere else
none_kept : {T : Type 0} (d : T) (test : T → Bool) (xs : List T) → ((k : ℕ) → k < length xs → test (get_or xs k d) ≡ false) → filter test xs ≡ []
none_kept d test [] h = refl
none_kept d test (x ∷ xs) h = ap (λ b. cond b (x ∷ filter test xs) (filter test xs)) (h 0 (omega arith)) ∙ none_kept d test xs (λ k lt. h (suc k) (omega arith))

kept_part : {T : Type 0} (d : T) (test : T → Bool) (xs : List T) (a b : ℕ) → a ≤ b → ((k : ℕ) → k < length xs → k < a → test (get_or xs k d) ≡ false) → ((k : ℕ) → k < length xs → a ≤ k → k < b → test (get_or xs k d) ≡ true) → ((k : ℕ) → k < length xs → b ≤ k → test (get_or xs k d) ≡ false) → take (b - a) (drop a xs) ≡ filter test xs
kept_part d test [] zero b le f g h = take-nil (b - 0)
kept_part d test [] (suc a) b le f g h = take-nil (b - suc a)
kept_part d test (x ∷ xs) zero zero le f g h = sym (none_kept d test (x ∷ xs) (λ k lt. h k lt (omega arith)))
kept_part d test (x ∷ xs) zero (suc b) le f g h =
    let rest = kept_part d test xs 0 b (omega arith) (λ k lt z. absurd (omega arith)) (λ k lt z y. g (suc k) (omega arith) (omega arith) (omega arith)) (λ k lt z. h (suc k) (omega arith) (omega arith)) in
    ap (λ n. take n (x ∷ xs)) (sub-zero (suc b))
    ∙ ap (λ r. x ∷ r) (sym (ap (λ n. take n xs) (sub-zero b)) ∙ rest)
    ∙ sym (ap (λ z. cond z (x ∷ filter test xs) (filter test xs)) (g 0 (omega arith) (omega arith) (omega arith)))
kept_part d test (x ∷ xs) (suc a) zero le f g h = absurd (omega arith)
kept_part d test (x ∷ xs) (suc a) (suc b) le f g h =
    let e : suc b - suc a ≡ b - a = omega arith in
    ap (λ n. take n (drop a xs)) e
    ∙ kept_part d test xs a b (omega arith) (λ k lt z. f (suc k) (omega arith) (omega arith)) (λ k lt z y. g (suc k) (omega arith) (omega arith) (omega arith)) (λ k lt z. h (suc k) (omega arith) (omega arith))
    ∙ sym (ap (λ z. cond z (x ∷ filter test xs) (filter test xs)) (f 0 (omega arith) (omega arith)))

-- The first tap of unit u or a later one, and the first tap of a later one, as `partition_point` finds them
pub record Between (ps : List Plug) (u a b : ℕ) : Type 0 where
  pub within : a ≤ length ps
  pub low : IsPartitionPoint (λ (p : Plug). ltb p.unit u ≡ true) (λ (p : Plug). ltb p.unit u ≡ false) ps a
  pub high : IsPartitionPoint (λ (p : Plug). leb p.unit u ≡ true) (λ (p : Plug). leb p.unit u ≡ false) ps b

pub ordered : (ps : List Plug) (u a b : ℕ) → Between ps u a b → a ≤ b
ordered ps u a b h =
    let p = get_or ps b blank_plug in
    ⊎_elim (λ lt. absurd (omega (arith, ltb-true p.unit u (h.low.0 b blank_plug (omega arith) lt), leb-false p.unit u (h.high.1 b blank_plug (omega arith) (omega (arith, h.within)))))) (λ le. le) (cases_lt b a)

-- .. and what stands between them are the taps of unit u
pub together : (ps : List Plug) (u a b : ℕ) → Between ps u a b → take (b - a) (drop a ps) ≡ filter (λ (p : Plug). eqb p.unit u) ps
together ps u a b h =
    let unit : ℕ → ℕ = λ k. (get_or ps k blank_plug).unit in
    kept_part blank_plug (λ (p : Plug). eqb p.unit u) ps a b (ordered ps u a b h)
    (λ k lt z. ne_eqb (unit k) u (λ e. omega (arith, ltb-true (unit k) u (h.low.0 k blank_plug (omega arith) z))))
    (λ k lt z y. eq-eqb (unit k) u (omega (arith, ltb-false (unit k) u (h.low.1 k blank_plug z lt), leb-true (unit k) u (h.high.0 k blank_plug (omega arith) y))))
    (λ k lt z. ne_eqb (unit k) u (λ e. omega (arith, leb-false (unit k) u (h.high.1 k blank_plug z lt))))
