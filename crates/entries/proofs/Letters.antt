-- What the letter of a line tells, and the faults of a line that is a frame.
use Rattle.std.proofs.Common.{◌≡◌, ℕ, ◌<◌, ◌⊎◌, List, [], ◌∷◌, sym, refl, ap, ◌∙◌, subst, inl, inr, ⊎_elim, Some, None, Ok, Err, Option, Result, MatchOption, arith}
use Rattle.frames.specs.Faults.{LineFault, no_letter, no_digits, breaks, number, figure, source}
use Rattle.frames.specs.Frames.{Frame, count, integrator, servo, tap, last, letter, line}
use Rattle.frames.specs.Rules.{Expected, Ordered, InRange, Sourced, Keeps, UnitsStand, counted, how_many, is_unit}
use Rattle.hexa.specs.Hex.{BadDigits}
use Rattle.lines.specs.Kinds.{letter_of, NoLetter}
use Rattle.lines.specs.declared.frame.Frame.{Frame as Kind}
use Rattle.lines.specs.declared.frame.Frame.TheVariants as kind
use Rattle.lines.specs.declared.reader.Part.{Part}
use Rattle.sheet.specs.Patches.{make_frame}
use Rattle.sheet.specs.declared.parts.MakeFigures.{MakeFigures}
use Rattle.sheet.specs.declared.parts.MakeFigures.TheVariants.{Integrator, Servo}
use Rattle.sheet.specs.declared.parts.UnitFigures.{UnitFigures}
use Rattle.unit.specs.declared.refusal.Refusal.{Refusal}
use Rattle.unit.specs.declared.refusal.Refusal.TheVariants.{FrameOrder, FrameDigits, UnitOrder, FigureOutOfRange, NoSuchSource}
use Rattle.wires.specs.declared.tap.Input.{Input}
use Rattle.wires.specs.declared.tap.Input.TheVariants.{X, Y}
use Rattle.entries.specs.Entries.{Says, UnitSays, UnitWanted, UnitRead, UnitEntry}
use Rattle.entries.specs.Making.{Said, UnitOf}
use Rattle.entries.specs.declared.figures.UnitFrame.{UnitFrame}

-- a line with the letter a, where every letter that may stand is another
other_letter : (above : List Frame) (l ds : List ℕ) (a : ℕ) → l ≡ a ∷ ds → ((f : Frame) → Expected above f → letter f ≡ a → ⊥) → LineFault above l FrameOrder
other_letter above l ds a e none = no_letter (λ f es x e'. none f x (let s : letter f ≡ a = cc in s))

-- the letters at the top, where a unit is wanted, and below the units

top_letter : (f : Frame) → Expected [] f → letter f ≡ 80
top_letter (count c) x = refl
top_letter (integrator u n p r k s) x = absurd (omega arith)
top_letter (servo u l p k s) x = absurd (omega arith)
top_letter (tap i u g t) x = absurd (omega (arith, x.some))
top_letter (last t q) x = absurd (omega (arith, x.some))

pub wants : (above : List Frame) (u : ℕ) → UnitWanted above u → how_many is_unit above < counted above
wants above u w = omega (arith, w.fewer, w.number)

unit_letter : (above : List Frame) (u : ℕ) → UnitWanted above u → (f : Frame) → Expected above f → (letter f ≡ 73) ⊎ (letter f ≡ 83)
unit_letter above u w (count c) x = absurd (omega (arith, w.fewer, ap counted x))
unit_letter above u w (integrator v n p r k s) x = inl refl
unit_letter above u w (servo v l p k s) x = inr refl
unit_letter above u w (tap i v g t) x = absurd (omega (arith, wants above u w, x.all))
unit_letter above u w (last t q) x = absurd (omega (arith, wants above u w, x.all))

tail_letter : (above : List Frame) → UnitsStand above → (f : Frame) → Expected above f → (letter f ≡ 88) ⊎ ((letter f ≡ 89) ⊎ (letter f ≡ 71))
tail_letter above s (count c) x = absurd (omega (arith, s.some, ap counted x))
tail_letter above s (integrator v n p r k t) x = absurd (omega (arith, s.all))
tail_letter above s (servo v l p k t) x = absurd (omega (arith, s.all))
tail_letter above s (tap X v g t) x = inl refl
tail_letter above s (tap Y v g t) x = inr (inl refl)
tail_letter above s (last t q) x = inr (inr refl)

-- lines whose letter may not stand

pub not_top : (l : List ℕ) (f : Kind) (ds : List ℕ) → l ≡ letter_of f ∷ ds → ((d : Part) → f ≡ kind.Count d → ⊥) → LineFault [] l FrameOrder
not_top l (kind.Count d) ds e h = absurd (h d refl)
not_top l (kind.Integrator d) ds e h = other_letter [] l ds 73 e (λ g x q. omega (arith, top_letter g x))
not_top l (kind.Servo d) ds e h = other_letter [] l ds 83 e (λ g x q. omega (arith, top_letter g x))
not_top l (kind.X d) ds e h = other_letter [] l ds 88 e (λ g x q. omega (arith, top_letter g x))
not_top l (kind.Y d) ds e h = other_letter [] l ds 89 e (λ g x q. omega (arith, top_letter g x))
not_top l (kind.Last d) ds e h = other_letter [] l ds 71 e (λ g x q. omega (arith, top_letter g x))

no_unit : (above : List Frame) (u : ℕ) → UnitWanted above u → (l ds : List ℕ) (a : ℕ) → l ≡ a ∷ ds → (a ≡ 73 → ⊥) → (a ≡ 83 → ⊥) → LineFault above l FrameOrder
no_unit above u w l ds a e h k = other_letter above l ds a e (λ g x q. ⊎_elim (λ z. h (sym q ∙ z)) (λ z. k (sym q ∙ z)) (unit_letter above u w g x))

pub not_unit : (above : List Frame) (u : ℕ) → UnitWanted above u → (l : List ℕ) (f : Kind) (ds : List ℕ) → l ≡ letter_of f ∷ ds → ((d : Part) → f ≡ kind.Integrator d → ⊥) → ((d : Part) → f ≡ kind.Servo d → ⊥) → LineFault above l FrameOrder
not_unit above u w l (kind.Count d) ds e h k = no_unit above u w l ds 80 e (λ z. omega arith) (λ z. omega arith)
not_unit above u w l (kind.Integrator d) ds e h k = absurd (h d refl)
not_unit above u w l (kind.Servo d) ds e h k = absurd (k d refl)
not_unit above u w l (kind.X d) ds e h k = no_unit above u w l ds 88 e (λ z. omega arith) (λ z. omega arith)
not_unit above u w l (kind.Y d) ds e h k = no_unit above u w l ds 89 e (λ z. omega arith) (λ z. omega arith)
not_unit above u w l (kind.Last d) ds e h k = no_unit above u w l ds 71 e (λ z. omega arith) (λ z. omega arith)

no_tail : (above : List Frame) → UnitsStand above → (l ds : List ℕ) (a : ℕ) → l ≡ a ∷ ds → (a ≡ 88 → ⊥) → (a ≡ 89 → ⊥) → (a ≡ 71 → ⊥) → LineFault above l FrameOrder
no_tail above s l ds a e h k m = other_letter above l ds a e (λ g x q. ⊎_elim (λ z. h (sym q ∙ z)) (⊎_elim (λ z. k (sym q ∙ z)) (λ z. m (sym q ∙ z))) (tail_letter above s g x))

pub not_tail : (above : List Frame) → UnitsStand above → (l : List ℕ) (f : Kind) (ds : List ℕ) → l ≡ letter_of f ∷ ds → ((d : Part) → f ≡ kind.X d → ⊥) → ((d : Part) → f ≡ kind.Y d → ⊥) → ((d : Part) → f ≡ kind.Last d → ⊥) → LineFault above l FrameOrder
not_tail above s l (kind.Count d) ds e h k m = no_tail above s l ds 80 e (λ z. omega arith) (λ z. omega arith) (λ z. omega arith)
not_tail above s l (kind.Integrator d) ds e h k m = no_tail above s l ds 73 e (λ z. omega arith) (λ z. omega arith) (λ z. omega arith)
not_tail above s l (kind.Servo d) ds e h k m = no_tail above s l ds 83 e (λ z. omega arith) (λ z. omega arith) (λ z. omega arith)
not_tail above s l (kind.X d) ds e h k m = absurd (h d refl)
not_tail above s l (kind.Y d) ds e h k m = absurd (k d refl)
not_tail above s l (kind.Last d) ds e h k m = absurd (m d refl)

-- a line that is no frame
pub no_frame : (above : List Frame) (l : List ℕ) (e : Refusal) → (e ≡ FrameOrder) × NoLetter l → LineFault above l e
no_frame above l e (is, none) = rw is (no_letter (λ f ds x. none f ds))

-- faults of a line that is a frame

module _ (above : List Frame) (l : List ℕ) (f : Frame) (s : Says l f) (x : Expected above f) where
  pub bad_number : (Ordered above f → ⊥) → LineFault above l UnitOrder
  bad_number n = breaks f UnitOrder x s.fits s.is (number n)

  pub bad_figure : Ordered above f → (InRange f → ⊥) → LineFault above l FigureOutOfRange
  bad_figure o n = breaks f FigureOutOfRange x s.fits s.is (figure o n)

  pub bad_source : Ordered above f → InRange f → (Sourced above f → ⊥) → LineFault above l NoSuchSource
  bad_source o r n = breaks f NoSuchSource x s.fits s.is (source o r n)

  pub keeps : Ordered above f → InRange f → Sourced above f → Keeps above f
  keeps o r t = record { expected = x; fits = s.fits; ordered = o; ranged = r; sourced = t }

  pub unit_read : (u : ℕ) (y : UnitFigures) → Ordered above f → Sourced above f → Said u f y → UnitRead above u l y
  unit_read u y o t d = record { keeps = subst (Keeps above) (sym d.is) (keeps o d.ranged t); placed = d.placed; is = s.is ∙ ap line (sym d.is) }

-- a unit's line, whatever its make

-- the digits of a line are those of a unit, or wrong
abbrev pub UnitTold : List ℕ → Option UnitFrame → Type 0
UnitTold l r = MatchOption r ((above : List Frame) (u : ℕ) → UnitWanted above u → LineFault above l FrameDigits) (UnitSays l)

pub integrator_told : (l ds : List ℕ) → l ≡ 73 ∷ ds → (r : Option UnitFrame) → MatchOption r (BadDigits 24 ds) (UnitSays (73 ∷ ds)) → UnitTold l r
integrator_told l ds e None bad = λ above u w. no_digits (integrator 0 0 0 0 0 0) ds (wants above u w) e bad
integrator_told l ds e (Some f) told = rw e told

pub servo_told : (l ds : List ℕ) → l ≡ 83 ∷ ds → (r : Option UnitFrame) → MatchOption r (BadDigits 22 ds) (UnitSays (83 ∷ ds)) → UnitTold l r
servo_told l ds e None bad = λ above u w. no_digits (servo 0 0 0 0 0) ds (wants above u w) e bad
servo_told l ds e (Some f) told = rw e told

module _ (above : List Frame) (u : ℕ) (w : UnitWanted above u) where
  unit_expected : (v : ℕ) (m : MakeFigures) (p k s : ℕ) → Expected above (make_frame v m p k s)
  unit_expected v (Integrator n r) p k s = wants above u w
  unit_expected v (Servo l) p k s = wants above u w

  unit_ordered : (m : MakeFigures) (p k s : ℕ) → Ordered above (make_frame u m p k s)
  unit_ordered (Integrator n r) p k s = sym w.number
  unit_ordered (Servo l) p k s = sym w.number

  unit_number : (v : ℕ) (m : MakeFigures) (p k s : ℕ) → Ordered above (make_frame v m p k s) → v ≡ u
  unit_number v (Integrator n r) p k s o = o ∙ w.number
  unit_number v (Servo l) p k s o = o ∙ w.number

  unit_sourced : (m : MakeFigures) (p k s : ℕ) → Sourced above (make_frame u m p k s)
  unit_sourced (Integrator n r) p k s = tt
  unit_sourced (Servo l) p k s = tt

  pub other_unit : (l : List ℕ) (f : UnitFrame) → UnitSays l f → (f.unit ≡ u → ⊥) → LineFault above l UnitOrder
  other_unit l f h n = bad_number above l _ h (unit_expected f.unit f.make f.position f.divisor f.sense) (λ o. n (unit_number f.unit f.make f.position f.divisor f.sense o))

  -- with the number that is wanted
  pub unit_answer : (l : List ℕ) (m : MakeFigures) (p k s : ℕ) → Says l (make_frame u m p k s) → (r : Result UnitFigures Refusal) → UnitOf (λ v. make_frame v m p k s) r → UnitEntry above u l r
  unit_answer l m p k s h (Ok x) d = unit_read above l _ h (unit_expected u m p k s) u x (unit_ordered m p k s) (unit_sourced m p k s) (d u)
  unit_answer l m p k s h (Err e) (is, none) = rw is (bad_figure above l _ h (unit_expected u m p k s) (unit_ordered m p k s) (none u))

pub below_count : (above : List Frame) (i : Input) (u g t : ℕ) → Ordered above (tap i u g t) → u < counted above
below_count above X u g t o = o.0
below_count above Y u g t o = o.0
