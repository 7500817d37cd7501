-- The lines of frames, from the top one down.
use Rattle.std.proofs.Common.{◌≡◌, ℕ, ◌+◌, List, [], ◌∷◌, ◌++◌, length, take, sym, refl, ap, ◌∙◌, subst, ⊎_elim, append_assoc, append-nil, arith, length-append, length-take}
use Rattle.std.proofs.lemmas.List.{take_all, take-append-le, same_from_push, length_push}
use Rattle.std.proofs.lemmas.Bool.{cases_lt}
use Rattle.frames.specs.Faults.{LineFault}
use Rattle.frames.specs.Frames.{Frame, line, text}
use Rattle.frames.specs.Rules.{Lawful}
use Rattle.frames.proofs.Fronts.{text_more}
use Rattle.frames.proofs.Lines.{same_frame, line_plain}
use Rattle.frames.proofs.OneFault.{keeps_no_fault}
use Rattle.lines.specs.Lines.{lines_of}
use Rattle.lines.proofs.Numbering.{lines_cut}
use Rattle.unit.specs.declared.refusal.Refusal.{Refusal}

abbrev pub tops : List Frame → List (List ℕ)
tops [] = []
tops (f ∷ above) = tops above ++ line f ∷ []

pub length-tops : (a : List Frame) → length (tops a) ≡ length a
length-tops [] = refl
length-tops (f ∷ a) = omega (arith, length_push (tops a) (line f), length-tops a)

pub lines_text : (a : List Frame) (x : List ℕ) → lines_of (text a ++ x) ≡ tops a ++ lines_of x
lines_text [] x = refl
lines_text (f ∷ a) x =
    ap lines_of (text_more f a x) ∙ lines_text a (line f ++ 10 ∷ x) ∙ ap (λ r. tops a ++ r) (lines_cut (line f) x (line_plain f)) ∙ sym (append_assoc (tops a) (line f ∷ []) (lines_of x))

pub lines_whole : (a : List Frame) → lines_of (text a) ≡ tops a
lines_whole a = ap lines_of (sym (append-nil (text a))) ∙ lines_text a [] ∙ append-nil (tops a)

-- frames are known by their lines
pub same_tops : (a b : List Frame) → Lawful a → Lawful b → tops a ≡ tops b → a ≡ b
same_tops [] [] h k e = refl
same_tops [] (g ∷ b) h k e = absurd (omega (arith, ap length e, length_push (tops b) (line g)))
same_tops (f ∷ a) [] h k e = absurd (omega (arith, ap length e, length_push (tops a) (line f)))
same_tops (f ∷ a) (g ∷ b) h k e =
    let p = same_from_push (tops a) (tops b) (line f) (line g) e in
    λ i. same_frame f g h.1.fits k.1.fits p.1 i ∷ same_tops a b h.0 k.0 p.0 i

-- lawful frames that have the lines above do not have the faulty one
pub no_such_line : (a : List Frame) (l : List ℕ) (e : Refusal) → Lawful a → LineFault a l e → (b : List Frame) → Lawful b → take (length a + 1) (tops b) ≡ tops a ++ l ∷ [] → ⊥
no_such_line a l e h bad [] k q = omega (arith, ap length q, length-take (length a + 1) (tops []), length_push (tops a) l)
no_such_line a l e h bad (f ∷ b) k q =
    ⊎_elim
    (λ short.
    let whole : tops b ++ line f ∷ [] ≡ tops a ++ l ∷ [] = sym (take_all (length a + 1) (tops (f ∷ b)) (omega (arith, length-tops (f ∷ b)))) ∙ q in
    let p = same_from_push (tops b) (tops a) (line f) l whole in
    let s = same_tops b a k.0 h p.0 in
    keeps_no_fault a f l e (subst (λ z. Lawful (f ∷ z)) s k).1 (sym p.1) bad)
    (λ long. no_such_line a l e h bad b k.0 (sym (take-append-le (length a + 1) (tops b) (line f ∷ []) (omega (arith, length-tops b))) ∙ q))
    (cases_lt (length b) (length a + 1))

-- .. nor do they end there
pub no_such_end : (a b : List Frame) → Lawful a → Lawful b → take (length a + 1) (tops b) ≡ tops a → b ≡ a
no_such_end a b h k q =
    ⊎_elim
    (λ short. same_tops b a k h (sym (take_all (length a + 1) (tops b) (omega (arith, length-tops b))) ∙ q))
    (λ long. absurd (omega (arith, ap length q, length-take (length a + 1) (tops b), length-tops a, length-tops b)))
    (cases_lt (length b) (length a + 1))

-- the lines of frames below others
pub tops_below : (xs a : List Frame) → take (length a) (tops (xs ++ a)) ≡ tops a
tops_below [] a = take_all (length a) (tops a) (omega (arith, length-tops a))
tops_below (x ∷ xs) a = take-append-le (length a) (tops (xs ++ a)) (line x ∷ []) (omega (arith, length-tops (xs ++ a), length-append xs a)) ∙ tops_below xs a
