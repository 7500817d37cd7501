-- What a line is by its letter.
use Rattle.std.specs.Prelude.{◌≡◌, ℕ, ◌+◌, min, List, ◌∷◌, Ok, Err, Result, ◌≢◌}
use Rattle.frames.specs.Frames as written
use Rattle.lines.specs.declared.frame.Frame.{Frame}
use Rattle.lines.specs.declared.frame.Frame.TheVariants.{Count, Integrator, Servo, X, Y, Last}
use Rattle.lines.specs.declared.reader.Part.{Part}
use Rattle.unit.specs.declared.refusal.Refusal.{Refusal}
use Rattle.unit.specs.declared.refusal.Refusal.TheVariants.{FrameOrder}

abbrev pub letter_of : Frame → ℕ
letter_of (Count d) = 80
letter_of (Integrator d) = 73
letter_of (Servo d) = 83
letter_of (X d) = 88
letter_of (Y d) = 89
letter_of (Last d) = 71

abbrev pub digits_of : Frame → Part
digits_of (Count d) = d
digits_of (Integrator d) = d
digits_of (Servo d) = d
digits_of (X d) = d
digits_of (Y d) = d
digits_of (Last d) = d

-- how many digits a frame has
abbrev pub size_of : Frame → ℕ
size_of (Count d) = 2
size_of (Integrator d) = 24
size_of (Servo d) = 22
size_of (X d) = 6
size_of (Y d) = 6
size_of (Last d) = 12

-- the line is the frame's letter and then its digits, whose place is the one after the letter's, as far as places can be counted
pub record Lettered (line : Part) (f : Frame) : Type 0 where
  pub is : line.bytes.now ≡ letter_of f ∷ (digits_of f).bytes.now
  pub at : (digits_of f).at ≡ min (line.at + 1) 18446744073709551615

-- no frame has the line's letter
abbrev pub NoLetter : List ℕ → Type 0
NoLetter l = (f : written.Frame) (ds : List ℕ) → l ≢ written.letter f ∷ ds

abbrev pub FrameOf : Part → Result Frame Refusal → Type 0
FrameOf line (Ok f) = Lettered line f
FrameOf line (Err e) = (e ≡ FrameOrder) × NoLetter line.bytes.now
