-- The first fault of a text: a line is checked by its letter, its digits, its unit number and then its figures, below the frames
-- that stand above it.
use Rattle.std.specs.Prelude.{◌≡◌, ℕ, ◌+◌, ◌-◌, ◌<◌, ◌≤◌, List, ◌∷◌, ◌++◌, length, sum, ◌≢◌, slice_index, slice_index_or}
use Rattle.hexa.specs.Hex.{BadDigits}
use Rattle.unit.specs.declared.refusal.Refusal.{Refusal}
use Rattle.unit.specs.declared.refusal.Refusal.TheVariants.{TextExtent, FrameOrder, FrameDigits, UnitOrder, FigureOutOfRange, NoSuchSource}
use Rattle.frames.specs.Frames.{Frame, letter, widths, line, text, Fits}
use Rattle.frames.specs.Rules.{Expected, Ordered, InRange, Sourced, Lawful, how_many, is_last}

-- the most bytes that a text may have
abbrev pub longest : ℕ
longest = 8192

-- not empty, not too long, and a line feed at the end
pub record Extent (t : List ℕ) : Type 0 where
  pub some : 0 < length t
  pub few : length t ≤ longest
  pub ends : slice_index_or t (length t - 1) 0 ≡ 10

-- a line has no line feed in it
abbrev pub NoFeed : List ℕ → Type 0
NoFeed l = (i : ℕ) → i < length l → slice_index l i ≢ 10

-- the first rule that a frame breaks below the frames above
pub data Breaks (above : List Frame) (f : Frame) : Refusal → Type 0 where
  number : (Ordered above f → ⊥) → Breaks above f UnitOrder
  figure : Ordered above f → (InRange f → ⊥) → Breaks above f FigureOutOfRange
  source : Ordered above f → InRange f → (Sourced above f → ⊥) → Breaks above f NoSuchSource

-- what is wrong with a line below the frames above: no frame with its letter may stand there, or it has not the digits of such
-- a frame, or it is such a frame and breaks a rule
pub data LineFault (above : List Frame) (l : List ℕ) : Refusal → Type 0 where
  no_letter : ((f : Frame) (ds : List ℕ) → Expected above f → l ≢ letter f ∷ ds) → LineFault above l FrameOrder
  no_digits : (f : Frame) (ds : List ℕ) → Expected above f → l ≡ letter f ∷ ds → BadDigits (sum (widths f)) ds → LineFault above l FrameDigits
  breaks : (f : Frame) (e : Refusal) → Expected above f → Fits f → l ≡ line f → Breaks above f e → LineFault above l e

-- the first fault of a text and its line: above it are lawful frames, and then comes a line that is none, or no line at all
-- where the last frame is still to come
pub data Fault (t : List ℕ) : Refusal → ℕ → Type 0 where
  extent : (Extent t → ⊥) → Fault t TextExtent 0
  wrong : (above : List Frame) (l rest : List ℕ) (e : Refusal) → Extent t → Lawful above → NoFeed l → t ≡ text above ++ (l ++ 10 ∷ rest) → LineFault above l e → Fault t e (length above + 1)
  missing : (above : List Frame) → Extent t → Lawful above → t ≡ text above → how_many is_last above ≡ 0 → Fault t FrameOrder (length above + 1)
