-- Sheets that are written in the same frames are equal.
use Rattle.std.proofs.Common.{◌≡◌, ℕ, zero, suc, ◌<◌, ◌≤◌, true, List, length, get_or, ℤ, nat_abs, sym, refl, ap, ◌∙◌, subst, ⊎_elim, arith, w32, SFits, to_z, of_z}
use base.Stored.{Coded-set}
use denote.Param.{number}
use denote.Struct.Record.{values_one}
use Rattle.std.proofs.lemmas.List.{ext_get_or}
use Rattle.std.proofs.lemmas.Int.{ints, to_z-of_z}
use Rattle.std.proofs.lemmas.Bool.{and_parts, cases_lt, ltb-true}
use Rattle.std.specs.Coded.{coded_list}
use Rattle.fixedvec.proofs.SameItems.{same_items}
use Rattle.frames.specs.Frames.{Frame}
use Rattle.frames.specs.Rules.{counted}
use Rattle.layers.specs.Turns.{figure_of as sense_figure}
use Rattle.layers.specs.declared.turn.Sense.{Sense}
use Rattle.layers.specs.declared.turn.Sense.TheVariants.{Upright, Inverted}
use Rattle.wires.specs.Sources.{code_of, there}
use Rattle.wires.specs.Taps.{figure_of as sign_figure}
use Rattle.wires.specs.declared.source.Source.{Source}
use Rattle.wires.specs.declared.source.Source.TheVariants.{Place, Outside, Clock}
use Rattle.wires.specs.declared.tap.Sign.{Sign}
use Rattle.wires.specs.declared.tap.Sign.TheVariants.{Plus, Minus}
use Rattle.sheet.specs.Patches.{largest_position, unit_frame, make_frame, tap_frame, unit_frames, tap_frames, blank_unit, blank_plug}
use Rattle.sheet.specs.Texts.{frames_of}
use Rattle.sheet.specs.Views.{units_of, taps_of}
use Rattle.fixedvec.specs.contracts.FixedVec as vector
use Rattle.sheet.specs.contracts.parts.Plug as plug
use Rattle.sheet.specs.contracts.parts.UnitFigures as unit
use Rattle.sheet.specs.contracts.sheet.Sheet as sheet
use Rattle.sheet.specs.contracts.sheet.Sheet.{struct, the_propositions}
use Rattle.sheet.specs.declared.parts.MakeFigures.{MakeFigures}
use Rattle.sheet.specs.declared.parts.MakeFigures.TheVariants.{Integrator, Servo}
use Rattle.sheet.specs.declared.parts.Plug.{Plug}
use Rattle.sheet.specs.declared.parts.UnitFigures.{UnitFigures}
use Rattle.sheet.specs.declared.sheet.Sheet.{Sheet}
use Rattle.sheet.proofs.Counting.{units_long, taps_long}
use Rattle.sheet.proofs.Sheets.{frames_counted}

-- one place of a list of frames

same_sense : (a b : Sense) → sense_figure a ≡ sense_figure b → a ≡ b
same_sense Upright Upright e = refl
same_sense Upright Inverted e = absurd (omega arith)
same_sense Inverted Upright e = absurd (omega arith)
same_sense Inverted Inverted e = refl

same_sign : (a b : Sign) → sign_figure a ≡ sign_figure b → a ≡ b
same_sign Plus Plus e = refl
same_sign Plus Minus e = absurd (omega arith)
same_sign Minus Plus e = absurd (omega arith)
same_sign Minus Minus e = refl

below_64 : (n j : ℕ) → there n (Place j) ≡ true → j < 64
below_64 n j h = ltb-true j 64 (and_parts _ _ h).1

same_source : (n : ℕ) (a b : Source) → there n a ≡ true → there n b ≡ true → code_of a ≡ code_of b → a ≡ b
same_source n (Place i) (Place j) h k e = ap Place e
same_source n (Place i) (Outside l) h k e = absurd (omega (arith, below_64 n i h))
same_source n (Place i) Clock h k e = absurd (omega (arith, below_64 n i h))
same_source n (Outside l) (Place j) h k e = absurd (omega (arith, below_64 n j k))
same_source n (Outside l) (Outside m) h k e = ap Outside (omega arith)
same_source n (Outside l) Clock h k e = absurd (omega (arith, ltb-true l 4 h))
same_source n Clock (Place j) h k e = absurd (omega (arith, below_64 n j k))
same_source n Clock (Outside m) h k e = absurd (omega (arith, ltb-true m 4 k))
same_source n Clock Clock h k e = refl

same_plug : (n : ℕ) (p q : Plug) → there n p.tap.source ≡ true → there n q.tap.source ≡ true → tap_frame p ≡ tap_frame q → p ≡ q
same_plug n p q h k e =
    let i : p.input ≡ q.input = cc in
    let u : p.unit ≡ q.unit = cc in
    let g : sign_figure p.tap.sign ≡ sign_figure q.tap.sign = cc in
    let t : code_of p.tap.source ≡ code_of q.tap.source = cc in
    λ j. record { unit = u j; input = i j; tap = record { sign = same_sign p.tap.sign q.tap.sign g j; source = same_source n p.tap.source q.tap.source h k t j } }

same_position : (p q : ℤ) → nat_abs p ≤ largest_position → nat_abs q ≤ largest_position → of_z w32 p ≡ of_z w32 q → p ≡ q
same_position p q h k e =
    let f : SFits w32 p = omega (arith, ints) in
    let g : SFits w32 q = omega (arith, ints) in
    sym (to_z-of_z w32 p f) ∙ ap (to_z w32) e ∙ to_z-of_z w32 q g

same_make : (u p k s p' k' s' : ℕ) (a b : MakeFigures) → make_frame u a p k s ≡ make_frame u b p' k' s' → (a ≡ b) × (p ≡ p') × (k ≡ k') × (s ≡ s')
same_make u p k s p' k' s' (Integrator n r) (Integrator m q) e = let f : n ≡ m = cc in let g : r ≡ q = cc in ((λ i. Integrator (f i) (g i)), cc, cc, cc)
same_make u p k s p' k' s' (Integrator n r) (Servo l) e = let z : ◌≡◌ {A = ℕ} 0 1 = cc in absurd (omega arith)
same_make u p k s p' k' s' (Servo l) (Integrator n r) e = let z : ◌≡◌ {A = ℕ} 0 1 = cc in absurd (omega arith)
same_make u p k s p' k' s' (Servo l) (Servo m) e = let f : l ≡ m = cc in ((λ i. Servo (f i)), cc, cc, cc)

same_unit : (u : ℕ) (x y : UnitFigures) → nat_abs x.position ≤ largest_position → nat_abs y.position ≤ largest_position → unit_frame u x ≡ unit_frame u y → x ≡ y
same_unit u x y h k e =
    let m = same_make u _ _ _ _ _ _ x.make y.make e in
    let p = same_position x.position y.position h k m.1 in
    let s = same_sense x.sense y.sense m.3 in
    λ i. record { make = m.0 i; position = p i; divisor = m.2 i; sense = s i }

-- all places

units_apart : (c : ℕ) (us vs : List UnitFigures) (k : ℕ) → unit_frames c us k ≡ unit_frames c vs k → (i : ℕ) → i < k → unit_frame i (get_or us i blank_unit) ≡ unit_frame i (get_or vs i blank_unit)
units_apart c us vs zero e i h = absurd (omega arith)
units_apart c us vs (suc k) e i h =
    let head : unit_frame k (get_or us k blank_unit) ≡ unit_frame k (get_or vs k blank_unit) = cc in
    let tail : unit_frames c us k ≡ unit_frames c vs k = cc in
    ⊎_elim (λ lt. units_apart c us vs k tail i lt) (λ le. let q : k ≡ i = omega arith in subst (λ n. unit_frame n (get_or us n blank_unit) ≡ unit_frame n (get_or vs n blank_unit)) q head) (cases_lt i k)

taps_apart : (a b : List Frame) (ps qs : List Plug) (n : ℕ) → tap_frames a ps n ≡ tap_frames b qs n → (a ≡ b) × ((i : ℕ) → i < n → tap_frame (get_or ps i blank_plug) ≡ tap_frame (get_or qs i blank_plug))
taps_apart a b ps qs zero e = (e, λ i h. absurd (omega arith))
taps_apart a b ps qs (suc n) e =
    let head : tap_frame (get_or ps n blank_plug) ≡ tap_frame (get_or qs n blank_plug) = cc in
    let tail : tap_frames a ps n ≡ tap_frames b qs n = cc in
    let r = taps_apart a b ps qs n tail in
    (r.0, λ i h. ⊎_elim (λ lt. r.1 i lt) (λ le. let q : n ≡ i = omega arith in subst (λ k. tap_frame (get_or ps k blank_plug) ≡ tap_frame (get_or qs k blank_plug)) q head) (cases_lt i n))

pub one_sheet : (r s : Sheet) → frames_of r ≡ frames_of s → r ≡ s
one_sheet r s e =
    let us = units_of r in
    let vs = units_of s in
    let ps = taps_of r in
    let qs = taps_of s in
    let ticks : r.ticks ≡ s.ticks = cc in
    let step : r.step ≡ s.step = cc in
    let tail : tap_frames (unit_frames (length us) us (length us)) ps (length ps) ≡ tap_frames (unit_frames (length vs) vs (length vs)) qs (length qs) = cc in
    let count : length us ≡ length vs = sym (frames_counted us ps r.ticks r.step) ∙ ap counted e ∙ frames_counted vs qs s.ticks s.step in
    let taps : length ps ≡ length qs =
    omega (arith, ap length tail, taps_long (unit_frames (length us) us (length us)) ps (length ps), taps_long (unit_frames (length vs) vs (length vs)) qs (length qs), units_long (length us) us (length us), units_long (length vs) vs (length vs)) in
    let p = taps_apart (unit_frames (length us) us (length us)) (unit_frames (length vs) vs (length vs)) ps qs (length qs) (subst (λ n. tap_frames (unit_frames (length us) us (length us)) ps n ≡ tap_frames (unit_frames (length vs) vs (length vs)) qs (length qs)) taps tail) in
    let u = units_apart (length vs) us vs (length vs) (subst (λ n. unit_frames n us n ≡ unit_frames (length vs) vs (length vs)) count p.0) in
    let units : us ≡ vs = ext_get_or blank_unit us vs count (λ i h. same_unit i (get_or us i blank_unit) (get_or vs i blank_unit) (r.placed i blank_unit h) (s.placed i blank_unit (omega arith)) (u i (omega arith))) in
    let plugs : ps ≡ qs = ext_get_or blank_plug ps qs taps (λ i h. same_plug (length vs) (get_or ps i blank_plug) (get_or qs i blank_plug) (subst (λ n. there n (get_or ps i blank_plug).tap.source ≡ true) count (r.sourced i blank_plug h)) (s.sourced i blank_plug (omega arith)) (p.1 i (omega arith))) in
    let units_one : r.units ≡ s.units = same_items (Coded-set (coded_list (unit.the_row).coded)) r.units s.units units in
    let plugs_one : r.plugs ≡ s.plugs = same_items (Coded-set (coded_list (plug.the_row).coded)) r.plugs s.plugs plugs in
    values_one struct (the_propositions (vector.the_row unit.the_row (number 64) _).coded (unit.the_row).coded (vector.the_row plug.the_row (number 320) _).coded (plug.the_row).coded) r s (λ i. (units_one i, (plugs_one i, (ticks i, (step i, tt)))))

pub sheet_set : (r s : Sheet) → IsProp (r ≡ s)
sheet_set r s = Coded-set (sheet.the_row).coded r s
