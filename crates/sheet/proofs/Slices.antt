-- One unit more, and one tap more; the code of a source has one byte.
use Rattle.std.proofs.Common.{◌≡◌, ℕ, zero, suc, ◌<◌, ◌≤◌, true, List, [], ◌∷◌, ◌++◌, length, get_or, refl, ap, ◌∙◌, add-one, arith}
use Rattle.std.proofs.lemmas.List.{get_or_append_left, get_or_push, length_push}
use Rattle.std.proofs.lemmas.Bool.{and_parts, ltb-true}
use Rattle.frames.specs.Frames.{Frame}
use Rattle.wires.specs.Sources.{code_of, there}
use Rattle.wires.specs.declared.source.Source.{Source}
use Rattle.wires.specs.declared.source.Source.TheVariants.{Place, Outside, Clock}
use Rattle.sheet.specs.Patches.{unit_frame, tap_frame, unit_frames, tap_frames, blank_unit, blank_plug}
use Rattle.sheet.specs.Views.{units_of, taps_of}
use Rattle.sheet.specs.declared.parts.Plug.{Plug}
use Rattle.sheet.specs.declared.parts.UnitFigures.{UnitFigures}
use Rattle.sheet.specs.declared.sheet.Sheet.{Sheet}

-- a unit after them changes no frame of the first units
units_kept : (c : ℕ) (us vs : List UnitFigures) (k : ℕ) → k ≤ length us → unit_frames c (us ++ vs) k ≡ unit_frames c us k
units_kept c us vs zero h = refl
units_kept c us vs (suc k) h = λ i. unit_frame k (get_or_append_left us vs blank_unit k (omega arith) i) ∷ units_kept c us vs k (omega arith) i

pub units_push : (c : ℕ) (us : List UnitFigures) (x : UnitFigures) → unit_frames c (us ++ x ∷ []) (length (us ++ x ∷ [])) ≡ unit_frame (length us) x ∷ unit_frames c us (length us)
units_push c us x =
    let vs = us ++ x ∷ [] in
    ap (unit_frames c vs) (length_push us x ∙ add-one (length us)) ∙ (λ i. unit_frame (length us) (get_or_push us x blank_unit (length us) refl i) ∷ units_kept c us (x ∷ []) (length us) (omega arith) i)

-- a tap after them changes no frame of the first taps
taps_kept : (above : List Frame) (ps qs : List Plug) (n : ℕ) → n ≤ length ps → tap_frames above (ps ++ qs) n ≡ tap_frames above ps n
taps_kept above ps qs zero h = refl
taps_kept above ps qs (suc n) h = λ i. tap_frame (get_or_append_left ps qs blank_plug n (omega arith) i) ∷ taps_kept above ps qs n (omega arith) i

pub taps_push : (above : List Frame) (ps : List Plug) (p : Plug) → tap_frames above (ps ++ p ∷ []) (length (ps ++ p ∷ [])) ≡ tap_frame p ∷ tap_frames above ps (length ps)
taps_push above ps p =
    let qs = ps ++ p ∷ [] in
    ap (tap_frames above qs) (length_push ps p ∙ add-one (length ps)) ∙ (λ i. tap_frame (get_or_push ps p blank_plug (length ps) refl i) ∷ taps_kept above ps (p ∷ []) (length ps) (omega arith) i)

-- every source has a code of one byte
pub codes_small : (s : Sheet) (i : ℕ) → i < length (taps_of s) → code_of (get_or (taps_of s) i blank_plug).tap.source ≤ 255
codes_small s i h = small (length (units_of s)) (get_or (taps_of s) i blank_plug).tap.source (s.sourced i blank_plug h)
  where
    small : (n : ℕ) (source : Source) → there n source ≡ true → code_of source ≤ 255
    small n (Place j) e = omega (arith, ltb-true j 64 (and_parts _ _ e).1)
    small n (Outside l) e = omega (arith, ltb-true l 4 e)
    small n Clock e = omega arith
