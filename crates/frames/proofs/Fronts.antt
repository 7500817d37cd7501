-- Two lawful lists of frames at the head of one text: one is the front of the other.
use Rattle.std.proofs.Common.{◌≡◌, ℕ, ◌<◌, List, [], ◌∷◌, ◌++◌, length, sym, refl, ap, ◌∙◌, subst, ⊎_elim, append_assoc, arith, length-append}
use Rattle.std.proofs.lemmas.Bool.{cases_lt}
use Rattle.frames.specs.Frames.{Frame, line, text}
use Rattle.frames.specs.Rules.{Lawful}
use Rattle.frames.proofs.Lines.{same_frame, same_line, line_plain}

-- the lowest line, apart from the text above it
pub text_more : (f : Frame) (above : List Frame) (x : List ℕ) → text (f ∷ above) ++ x ≡ text above ++ (line f ++ 10 ∷ x)
text_more f above x = append_assoc (text above) (line f ++ 10 ∷ []) x ∙ ap (λ r. text above ++ r) (append_assoc (line f) (10 ∷ []) x)

pub same_frames : (a b : List Frame) (x y : List ℕ) → Lawful a → Lawful b → length a ≡ length b → text a ++ x ≡ text b ++ y → (a ≡ b) × (x ≡ y)
same_frames [] [] x y ha hb n e = (refl, e)
same_frames [] (g ∷ b) x y ha hb n e = absurd (omega arith)
same_frames (f ∷ a) [] x y ha hb n e = absurd (omega arith)
same_frames (f ∷ a) (g ∷ b) x y ha hb n e =
    let p = same_frames a b (line f ++ 10 ∷ x) (line g ++ 10 ∷ y) ha.0 hb.0 (omega arith) (sym (text_more f a x) ∙ e ∙ text_more g b y) in
    let q = same_line (line f) (line g) x y (line_plain f) (line_plain g) p.1 in
    ((λ i. same_frame f g ha.1.fits hb.1.fits q.0 i ∷ p.0 i), q.1)

-- the frame of b that comes next below those of a, and what follows it
pub record Next (a : List Frame) (x : List ℕ) : Type 0 where
  pub frame : Frame
  pub rest : List ℕ
  pub lawful : Lawful (frame ∷ a)
  pub text_is : x ≡ line frame ++ 10 ∷ rest

pub next_frame : (a b : List Frame) (x y : List ℕ) → Lawful a → Lawful b → length a < length b → text a ++ x ≡ text b ++ y → Next a x
next_frame a [] x y ha hb n e = absurd (omega arith)
next_frame a (g ∷ b) x y ha hb n e =
    let e' = e ∙ text_more g b y in
    ⊎_elim
    (λ lt. next_frame a b x (line g ++ 10 ∷ y) ha hb.0 lt e')
    (λ le.
    let p = same_frames a b x (line g ++ 10 ∷ y) ha hb.0 (omega arith) e' in
    record { frame = g; rest = y; lawful = subst (λ z. Lawful (g ∷ z)) (sym p.0) hb; text_is = p.1 })
    (cases_lt (length a) (length b))

-- a line is never nothing
pub no_line : (l x : List ℕ) → [] ≡ l ++ 10 ∷ x → ⊥
no_line l x e = omega (arith, ap length e, length-append l (10 ∷ x))
