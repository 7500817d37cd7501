-- A frame that is taken out of a text by its line number.
use Rattle.std.specs.Prelude.{◌≡◌, ℕ, ◌+◌, ◌-◌, ◌<◌, ◌≤◌, ◌⊎◌, List, [], ◌∷◌, length, take, drop, Ok, Err, Result, slice_index_or}
use Rattle.hexa.specs.Hex.{Digits, BadDigits}
use Rattle.unit.specs.declared.refusal.Refusal.{Refusal}
use Rattle.unit.specs.declared.refusal.Refusal.TheVariants.{NotThere, FrameOrder, FrameDigits}
use Rattle.lines.specs.Lines.{lines_of, place_after}
use Rattle.lines.specs.Kinds.{letter_of, digits_of, size_of, NoLetter}
use Rattle.lines.specs.declared.frame.Frame.{Frame}

-- line number n of the text, counted from 1
pub record LineIs (t : List ℕ) (n : ℕ) (l : List ℕ) : Type 0 where
  pub low : 1 ≤ n
  pub high : n ≤ length (lines_of t)
  pub is : slice_index_or (lines_of t) (n - 1) [] ≡ l

-- the frame is line n: its letter and its digits, which are that part of the text at the place after the letter's
pub record FrameTaken (t : List ℕ) (n : ℕ) (f : Frame) : Type 0 where
  pub line : LineIs t n (letter_of f ∷ (digits_of f).bytes.now)
  pub digits : Digits (size_of f) (digits_of f).bytes.now
  pub place : (digits_of f).at ≡ place_after (n - 1) t + 1
  pub part : take (length (digits_of f).bytes.now) (drop (digits_of f).at t) ≡ (digits_of f).bytes.now

-- why there is none: the text has no such line, no frame has its letter, or it has not the digits of its letter
pub data NotTaken (t : List ℕ) (n : ℕ) : Refusal → Type 0 where
  no_line : (n ≡ 0) ⊎ (length (lines_of t) < n) → NotTaken t n NotThere
  no_letter : (l : List ℕ) → LineIs t n l → NoLetter l → NotTaken t n FrameOrder
  no_digits : (f : Frame) → LineIs t n (letter_of f ∷ (digits_of f).bytes.now) → BadDigits (size_of f) (digits_of f).bytes.now → NotTaken t n FrameDigits

abbrev pub FrameAt : List ℕ → ℕ → Result Frame Refusal → Type 0
FrameAt t n (Ok f) = FrameTaken t n f
FrameAt t n (Err e) = NotTaken t n e
