-- The line of a text's first fault is the first with which no sheet's text agrees so far.
use Rattle.std.proofs.Common.{◌≡◌, ℕ, ◌+◌, ◌-◌, ◌≤◌, List, [], ◌∷◌, ◌++◌, length, take, sym, ap, ◌∙◌, subst, append_assoc, arith}
use mathlib.Core.HLevel.{⊥_prop}
use mathlib.Core.Logic.{∥∥₁_elim}
use Rattle.std.proofs.lemmas.List.{take_at, take_all, length_push}
use Rattle.frames.specs.Faults.{Fault, extent, wrong, missing}
use Rattle.frames.specs.Frames.{Frame}
use Rattle.frames.specs.Rules.{Lawful, how_many, is_last}
use Rattle.lines.specs.Lines.{lines_of}
use Rattle.lines.proofs.Numbering.{lines_cut}
use Rattle.sheet.specs.Texts.{frames_of, written}
use Rattle.sheet.specs.declared.sheet.Sheet.{Sheet}
use Rattle.sheet.proofs.Extents.{sheet_complete}
use Rattle.unit.specs.declared.refusal.Refusal.{Refusal}
use Rattle.texts.specs.Agreement.{AgreeTo, FirstLine}
use Rattle.texts.proofs.Tops.{tops, length-tops, lines_text, lines_whole, no_such_line, no_such_end, tops_below}
use Rattle.texts.proofs.Wholes.{sheet_with}

-- some sheet's text has the lines of lawful frames
agrees : (a : List Frame) → Lawful a → (t : List ℕ) → take (length a) (lines_of t) ≡ tops a → (n : ℕ) → n ≡ length a → (s : Sheet) × AgreeTo n (written s) t
agrees a h t e n q =
    let s = sheet_with a h in (
      s.sheet,
      subst (λ k. AgreeTo k (written s.sheet) t) (sym q) (ap (take (length a)) (lines_whole (frames_of s.sheet) ∙ ap tops s.is) ∙ tops_below s.more a ∙ sym e),
    )

pub first_line : (t : List ℕ) (e : Refusal) (n : ℕ) → Fault t e n → 1 ≤ n → FirstLine t n
first_line t e n (extent x) low = absurd (omega arith)
first_line t e n (wrong a l rest e' x h plain is bad) low =
    let lines : lines_of t ≡ tops a ++ l ∷ lines_of rest = ap lines_of is ∙ lines_text a (l ++ 10 ∷ rest) ∙ ap (λ r. tops a ++ r) (lines_cut l rest plain) in
    let front : take (length a) (lines_of t) ≡ tops a = ap (take (length a)) lines ∙ take_at (tops a) (l ∷ lines_of rest) (length a) (length-tops a) in
    let down : take (length a + 1) (lines_of t) ≡ tops a ++ l ∷ [] =
    ap (take (length a + 1)) (lines ∙ sym (append_assoc (tops a) (l ∷ []) (lines_of rest))) ∙ take_at (tops a ++ l ∷ []) (lines_of rest) (length a + 1) (length_push (tops a) l ∙ ap (λ k. k + 1) (length-tops a)) in
    record {
      above = agrees a h t front (length a + 1 - 1) (omega arith);
      here = λ s q. ∥∥₁_elim s.lawful ⊥_prop (λ k. no_such_line a l e h bad (frames_of s) k (sym (ap (take (length a + 1)) (lines_whole (frames_of s))) ∙ q ∙ down));
    }
first_line t e n (missing a x h is z) low =
    let lines : lines_of t ≡ tops a = ap lines_of is ∙ lines_whole a in
    let front : take (length a) (lines_of t) ≡ tops a = ap (take (length a)) lines ∙ take_all (length a) (tops a) (omega (arith, length-tops a)) in
    let down : take (length a + 1) (lines_of t) ≡ tops a = ap (take (length a + 1)) lines ∙ take_all (length a + 1) (tops a) (omega (arith, length-tops a)) in
    record {
      above = agrees a h t front (length a + 1 - 1) (omega arith);
      here = λ s q. ∥∥₁_elim s.lawful ⊥_prop (λ k.
          let same = no_such_end a (frames_of s) h k (sym (ap (take (length a + 1)) (lines_whole (frames_of s))) ∙ q ∙ down) in
          omega (arith, sheet_complete s, z, ap (how_many is_last) same));
    }
