-- A frame is known by its line, and a line by its text.
use Rattle.std.proofs.Common.{◌≡◌, ℕ, suc, ◌≤◌, cond, eqb, List, [], ◌∷◌, ◌++◌, length, get_or, take, drop, sum, sym, refl, ap, ◌∙◌, subst, ⊎_elim, arith}
use Rattle.std.specs.List.{AllByRecursion}
use Rattle.std.proofs.ByRecursion.{All-get_or, All-append, All-weaker}
use Rattle.std.proofs.lemmas.List.{take_at, drop_at}
use Rattle.hexa.specs.Hex.{hex, hexes, Writable, IsDigit, NoDigits, BadDigits}
use Rattle.hexa.proofs.Widths.{length-hexes}
use Rattle.hexa.proofs.Digits.{length-hex, same_from_hex, digits_hex, digit_high}
use Rattle.wires.specs.declared.tap.Input.TheVariants.{X, Y}
use Rattle.frames.specs.Frames.{Frame, count, integrator, servo, tap, last, letter, values, widths, line, Fits}
use Rattle.frames.specs.Faults.{NoFeed}

-- digits

all_digits : (ws vs : List ℕ) → AllByRecursion IsDigit (hexes ws vs)
all_digits [] vs = tt
all_digits (w ∷ ws) [] = tt
all_digits (w ∷ ws) (v ∷ vs) = All-append IsDigit (hex w v) (hexes ws vs) (digits_hex w v) (all_digits ws vs)

same_front : (a b x y : List ℕ) → length a ≡ length b → a ++ x ≡ b ++ y → (a ≡ b) × (x ≡ y)
same_front a b x y n e = (
  sym (take_at a x (length a) refl) ∙ ap (take (length a)) e ∙ take_at b y (length a) (sym n),
  sym (drop_at a x (length a) refl) ∙ ap (drop (length a)) e ∙ drop_at b y (length a) (sym n),
)

-- figures of the same widths in the same digits
same_values : (ws us vs : List ℕ) → Writable ws us → Writable ws vs → hexes ws us ≡ hexes ws vs → us ≡ vs
same_values [] [] [] h k e = refl
same_values [] [] (v ∷ vs) h k e = absurd k
same_values [] (u ∷ us) vs h k e = absurd h
same_values (w ∷ ws) [] vs h k e = absurd h
same_values (w ∷ ws) (u ∷ us) [] h k e = absurd k
same_values (w ∷ ws) (u ∷ us) (v ∷ vs) h k e =
    let p = same_front (hex w u) (hex w v) (hexes ws us) (hexes ws vs) (length-hex w u ∙ sym (length-hex w v)) e in
    λ i. same_from_hex w u v h.0 k.0 p.0 i ∷ same_values ws us vs h.1 k.1 p.1 i

-- widths by letter, and the frame of a letter and its figures
abbrev widths_at : ℕ → List ℕ
widths_at l = cond (eqb l 80) (2 ∷ []) (cond (eqb l 73) (2 ∷ 2 ∷ 8 ∷ 8 ∷ 2 ∷ 2 ∷ []) (cond (eqb l 83) (2 ∷ 8 ∷ 8 ∷ 2 ∷ 2 ∷ []) (cond (eqb l 71) (6 ∷ 6 ∷ []) (2 ∷ 2 ∷ 2 ∷ []))))

widths_known : (f : Frame) → widths_at (letter f) ≡ widths f
widths_known (count c) = refl
widths_known (integrator u n p r k s) = refl
widths_known (servo u l p k s) = refl
widths_known (tap X u g t) = refl
widths_known (tap Y u g t) = refl
widths_known (last t q) = refl

abbrev frame_at : ℕ → List ℕ → Frame
frame_at l vs =
    let at : ℕ → ℕ = λ i. get_or vs i 0 in
    cond (eqb l 80) (count (at 0))
    (cond (eqb l 73) (integrator (at 0) (at 1) (at 2) (at 3) (at 4) (at 5))
    (cond (eqb l 83) (servo (at 0) (at 1) (at 2) (at 3) (at 4))
    (cond (eqb l 71) (last (at 0) (at 1))
    (cond (eqb l 88) (tap X (at 0) (at 1) (at 2)) (tap Y (at 0) (at 1) (at 2))))))

frame_known : (f : Frame) → frame_at (letter f) (values f) ≡ f
frame_known (count c) = refl
frame_known (integrator u n p r k s) = refl
frame_known (servo u l p k s) = refl
frame_known (tap X u g t) = refl
frame_known (tap Y u g t) = refl
frame_known (last t q) = refl

pub same_widths : (f g : Frame) → letter f ≡ letter g → widths f ≡ widths g
same_widths f g e = sym (widths_known f) ∙ ap widths_at e ∙ widths_known g

pub same_frame : (f g : Frame) → Fits f → Fits g → line f ≡ line g → f ≡ g
same_frame f g hf hg e =
    let l : letter f ≡ letter g = ap (λ x. get_or x 0 0) e in
    let w = same_widths f g l in
    let d : hexes (widths f) (values f) ≡ hexes (widths g) (values g) = ap (drop 1) e in
    let v = same_values (widths g) (values f) (values g) (subst (λ ws. Writable ws (values f)) w hf) hg (sym (ap (λ ws. hexes ws (values f)) w) ∙ d) in
    sym (frame_known f) ∙ (λ i. frame_at (l i) (v i)) ∙ frame_known g

as_many : (f : Frame) → length (widths f) ≡ length (values f)
as_many (count c) = refl
as_many (integrator u n p r k s) = refl
as_many (servo u l p k s) = refl
as_many (tap i u g t) = refl
as_many (last t q) = refl

pub length-line : (f : Frame) → length (line f) ≡ suc (sum (widths f))
length-line f = ap suc (length-hexes (widths f) (values f) (as_many f))

none_bad : (ds : List ℕ) → AllByRecursion IsDigit ds → NoDigits ds → ⊥
none_bad ds h (i, k, n) = let d = All-get_or IsDigit ds i 0 k h in n d.0 d.1 d.2

-- a frame's own digits are as many as its letter asks for, and digits
pub good_digits : (f g : Frame) (ds : List ℕ) → line f ≡ letter g ∷ ds → BadDigits (sum (widths g)) ds → ⊥
good_digits f g ds e bad =
    let w = same_widths f g (ap (λ x. get_or x 0 0) e) in
    let d : hexes (widths f) (values f) ≡ ds = ap (drop 1) e in
    ⊎_elim (λ n. n (sym (ap length d) ∙ length-hexes (widths f) (values f) (as_many f) ∙ ap sum w)) (none_bad ds (subst (AllByRecursion IsDigit) d (all_digits (widths f) (values f)))) bad

-- line feeds

abbrev High : ℕ → Type 0
High b = 48 ≤ b

high_letter : (f : Frame) → High (letter f)
high_letter (count c) = omega arith
high_letter (integrator u n p r k s) = omega arith
high_letter (servo u l p k s) = omega arith
high_letter (tap X u g t) = omega arith
high_letter (tap Y u g t) = omega arith
high_letter (last t q) = omega arith

pub line_plain : (f : Frame) → NoFeed (line f)
line_plain f i k e = omega (arith, All-get_or High (line f) i 0 k (high_letter f, All-weaker IsDigit High digit_high (hexes (widths f) (values f)) (all_digits (widths f) (values f))))

-- a line ends at the first line feed
pub same_line : (l m x y : List ℕ) → NoFeed l → NoFeed m → l ++ 10 ∷ x ≡ m ++ 10 ∷ y → (l ≡ m) × (x ≡ y)
same_line [] [] x y p q e = (refl, cc)
same_line [] (b ∷ m) x y p q e = absurd (q 0 (omega arith) (let s : b ≡ 10 = cc in s))
same_line (a ∷ l) [] x y p q e = absurd (p 0 (omega arith) (let s : a ≡ 10 = cc in s))
same_line (a ∷ l) (b ∷ m) x y p q e =
    let h : a ≡ b = cc in
    let t : l ++ 10 ∷ x ≡ m ++ 10 ∷ y = cc in
    let r = same_line l m x y (λ i k. p (suc i) (omega arith)) (λ i k. q (suc i) (omega arith)) t in
    ((λ i. h i ∷ r.0 i), r.1)
