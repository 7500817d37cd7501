-- A text has one fault at most, and none where it is the text of lawful frames to the last.
use Rattle.std.proofs.Common.{◌≡◌, ℕ, ◌+◌, ◌<◌, List, [], ◌∷◌, ◌++◌, length, sym, refl, ap, ◌∙◌, subst, ⊎_elim, append-nil, arith}
use Rattle.std.proofs.lemmas.Bool.{cases_lt}
use Rattle.unit.specs.declared.refusal.Refusal.{Refusal}
use Rattle.frames.specs.Frames.{Frame, line, text}
use Rattle.frames.specs.Rules.{Keeps, Lawful, Complete, how_many, is_last}
use Rattle.frames.specs.Faults.{Extent, NoFeed, Breaks, number, figure, source, LineFault, no_letter, no_digits, breaks, Fault, extent, wrong, missing}
use Rattle.frames.proofs.Lines.{same_frame, same_line, line_plain, good_digits}
use Rattle.frames.proofs.Fronts.{same_frames, next_frame, no_line, Next}

one_break : (above : List Frame) (f : Frame) (e e' : Refusal) → Breaks above f e → Breaks above f e' → e ≡ e'
one_break above f e e' (number n) (number n') = refl
one_break above f e e' (number n) (figure o r) = absurd (n o)
one_break above f e e' (number n) (source o r s) = absurd (n o)
one_break above f e e' (figure o r) (number n) = absurd (n o)
one_break above f e e' (figure o r) (figure o' r') = refl
one_break above f e e' (figure o r) (source o' r' s) = absurd (r r')
one_break above f e e' (source o r s) (number n) = absurd (n o)
one_break above f e e' (source o r s) (figure o' r') = absurd (r' r)
one_break above f e e' (source o r s) (source o' r' s') = refl

one_line_fault : (above : List Frame) (l : List ℕ) (e e' : Refusal) → LineFault above l e → LineFault above l e' → e ≡ e'
one_line_fault above l e e' (no_letter n) (no_letter n') = refl
one_line_fault above l e e' (no_letter n) (no_digits f ds x is bad) = absurd (n f ds x is)
one_line_fault above l e e' (no_letter n) (breaks f g x h is b) = absurd (n f _ x is)
one_line_fault above l e e' (no_digits f ds x is bad) (no_letter n) = absurd (n f ds x is)
one_line_fault above l e e' (no_digits f ds x is bad) (no_digits f' ds' x' is' bad') = refl
one_line_fault above l e e' (no_digits f ds x is bad) (breaks f' g x' h is' b) = absurd (good_digits f' f ds (sym is' ∙ is) bad)
one_line_fault above l e e' (breaks f g x h is b) (no_letter n) = absurd (n f _ x is)
one_line_fault above l e e' (breaks f g x h is b) (no_digits f' ds x' is' bad) = absurd (good_digits f f' ds (sym is ∙ is') bad)
one_line_fault above l e e' (breaks f g x h is b) (breaks f' g' x' h' is' b') =
    one_break above f e e' b (subst (λ z. Breaks above z e') (sym (same_frame f f' h h' (sym is ∙ is'))) b')

-- a frame that keeps the rules has no fault
keeps_not_breaks : (above : List Frame) (f : Frame) (e : Refusal) → Keeps above f → Breaks above f e → ⊥
keeps_not_breaks above f e k (number n) = n k.ordered
keeps_not_breaks above f e k (figure o r) = r k.ranged
keeps_not_breaks above f e k (source o r s) = s k.sourced

pub keeps_no_fault : (above : List Frame) (f : Frame) (l : List ℕ) (e : Refusal) → Keeps above f → l ≡ line f → LineFault above l e → ⊥
keeps_no_fault above f l e k is (no_letter n) = n f _ k.expected is
keeps_no_fault above f l e k is (no_digits g ds x is' bad) = good_digits f g ds (sym is ∙ is') bad
keeps_no_fault above f l e k is (breaks g e' x h is' b) = keeps_not_breaks above f e k (subst (λ z. Breaks above z e) (sym (same_frame f g k.fits h (sym is ∙ is'))) b)

-- where a lawful frame comes next, no other line has a fault, and none is missing
next_no_fault : (above : List Frame) (l rest : List ℕ) (e : Refusal) → NoFeed l → LineFault above l e → Next above (l ++ 10 ∷ rest) → ⊥
next_no_fault above l rest e plain bad n =
    keeps_no_fault above n.frame l e n.lawful.1 (same_line l (line n.frame) rest n.rest plain (line_plain n.frame) n.text_is).0 bad

next_not_missing : (above : List Frame) → Next above [] → ⊥
next_not_missing above n = no_line (line n.frame) n.rest n.text_is

whole : (above : List Frame) → text above ≡ text above ++ []
whole above = sym (append-nil (text above))

-- shorter, as long, or longer
by_length : {P : Type 0} (a b : List Frame) → (length a < length b → P) → (length a ≡ length b → P) → (length b < length a → P) → P
by_length a b less same more = ⊎_elim less (λ le. ⊎_elim more (λ ge. same (omega arith)) (cases_lt (length b) (length a))) (cases_lt (length a) (length b))

pub one_fault : (t : List ℕ) (e e' : Refusal) (n n' : ℕ) → Fault t e n → Fault t e' n' → (e ≡ e') × (n ≡ n')
one_fault t e e' n n' (extent x) (extent x') = (refl, refl)
one_fault t e e' n n' (extent x) (wrong a l r g x' h p is b) = absurd (x x')
one_fault t e e' n n' (extent x) (missing a x' h is z) = absurd (x x')
one_fault t e e' n n' (wrong a l r g x h p is b) (extent x') = absurd (x' x)
one_fault t e e' n n' (missing a x h is z) (extent x') = absurd (x' x)
one_fault t e e' n n' (wrong a l r g x h p is b) (wrong a' l' r' g' x' h' p' is' b') =
    by_length a a'
    (λ lt. absurd (next_no_fault a l r e p b (next_frame a a' _ _ h h' lt (sym is ∙ is'))))
    (λ eq.
    let s = same_frames a a' _ _ h h' eq (sym is ∙ is') in
    let m = same_line l l' r r' p p' s.1 in
    (one_line_fault a l e e' b (subst (λ z. LineFault z l e') (sym s.0) (subst (λ z. LineFault a' z e') (sym m.0) b')), ap (λ k. k + 1) eq))
    (λ gt. absurd (next_no_fault a' l' r' e' p' b' (next_frame a' a _ _ h' h gt (sym is' ∙ is))))
one_fault t e e' n n' (wrong a l r g x h p is b) (missing a' x' h' is' z) =
    by_length a a'
    (λ lt. absurd (next_no_fault a l r e p b (next_frame a a' _ [] h h' lt (sym is ∙ is' ∙ whole a'))))
    (λ eq. absurd (no_line l r (sym (same_frames a a' _ [] h h' eq (sym is ∙ is' ∙ whole a')).1)))
    (λ gt. absurd (next_not_missing a' (next_frame a' a [] _ h' h gt (sym (whole a') ∙ sym is' ∙ is))))
one_fault t e e' n n' (missing a x h is z) (wrong a' l' r' g' x' h' p' is' b') =
    by_length a a'
    (λ lt. absurd (next_not_missing a (next_frame a a' [] _ h h' lt (sym (whole a) ∙ sym is ∙ is'))))
    (λ eq. absurd (no_line l' r' (same_frames a a' [] _ h h' eq (sym (whole a) ∙ sym is ∙ is')).1))
    (λ gt. absurd (next_no_fault a' l' r' e' p' b' (next_frame a' a _ [] h' h gt (sym is' ∙ is ∙ whole a))))
one_fault t e e' n n' (missing a x h is z) (missing a' x' h' is' z') =
    by_length a a'
    (λ lt. absurd (next_not_missing a (next_frame a a' [] [] h h' lt (sym (whole a) ∙ sym is ∙ is' ∙ whole a'))))
    (λ eq. (refl, ap (λ k. k + 1) eq))
    (λ gt. absurd (next_not_missing a' (next_frame a' a [] [] h' h gt (sym (whole a') ∙ sym is' ∙ is ∙ whole a))))

-- lawful frames are known by their text
pub one_list : (a b : List Frame) → Lawful a → Lawful b → text a ≡ text b → a ≡ b
one_list a b h h' e =
    let e' = sym (whole a) ∙ e ∙ whole b in
    by_length a b
    (λ lt. absurd (next_not_missing a (next_frame a b [] [] h h' lt e')))
    (λ eq. (same_frames a b [] [] h h' eq e').0)
    (λ gt. absurd (next_not_missing b (next_frame b a [] [] h' h gt (sym e'))))

-- lawful frames to the last have no fault
pub no_fault : (b : List Frame) (t : List ℕ) (e : Refusal) (n : ℕ) → Lawful b → Complete b → Extent t → t ≡ text b → Fault t e n → ⊥
no_fault b t e n h full x is (extent x') = x' x
no_fault b t e n h full x is (wrong a l r g x' h' p is' bad) =
    by_length a b
    (λ lt. next_no_fault a l r e p bad (next_frame a b _ [] h' h lt (sym is' ∙ is ∙ whole b)))
    (λ eq. no_line l r (sym (same_frames a b _ [] h' h eq (sym is' ∙ is ∙ whole b)).1))
    (λ gt. next_not_missing b (next_frame b a [] _ h h' gt (sym (whole b) ∙ sym is ∙ is')))
no_fault b t e n h full x is (missing a x' h' is' z) = omega (arith, full, z, ap (how_many is_last) (one_list a b h' h (sym is' ∙ is)))
