-- The lines of a text: which they are, where each begins, and what the reader of lines does.
use Rattle.std.specs.Prelude.{◌≡◌, ℕ, ◌+◌, ◌<◌, ◌≤◌, cond, ◌⊎◌, List, [], ◌∷◌, ◌++◌, length, take, drop, Some, None, sum_by, Option, ◌==◌}
use Rattle.frames.specs.Faults.{NoFeed}
use Rattle.lines.specs.declared.reader.LineReader.{LineReader}
use Rattle.lines.specs.declared.reader.Part.{Part}

-- a byte in front of the first line
abbrev pub begin_with : ℕ → List (List ℕ) → List (List ℕ)
begin_with b [] = (b ∷ []) ∷ []
begin_with b (l ∷ ls) = (b ∷ l) ∷ ls

-- The lines of a text, without their line feeds. A last line without one counts, and after a last line feed there is no line.
abbrev pub lines_of : List ℕ → List (List ℕ)
lines_of [] = []
lines_of (b ∷ t) = cond (b == 10) ([] ∷ lines_of t) (begin_with b (lines_of t))

-- the place where the line after the first k begins: each line above takes its bytes and a line feed
abbrev pub place_after : ℕ → List ℕ → ℕ
place_after k t = sum_by (λ l. length l + 1) (take k (lines_of t))

-- the line that begins at a place of the text, and the place where the next one begins
pub record LineAt (text : List ℕ) (at : ℕ) (l : List ℕ) (next : ℕ) : Type 0 where
  pub plain : NoFeed l
  pub cut : (drop at text ≡ l ++ 10 ∷ drop next text) ⊎ ((drop at text ≡ l) × (next ≡ length text))
  pub on : at < next
  pub within : next ≤ length text

-- one line more is read
pub record Advanced (before : LineReader) (line : Part) (later : LineReader) : Type 0 where
  pub text : later.text.now ≡ before.text.now
  pub at : line.at ≡ before.at
  pub cut : LineAt before.text.now before.at line.bytes.now later.at
  pub lines : before.lines ≤ before.at → later.lines ≡ before.lines + 1

-- the reader is at the end of the text, and as it was
pub record AtEnd (before later : LineReader) : Type 0 where
  pub end : length before.text.now ≤ before.at
  pub same : later ≡ before

abbrev pub NextLine : LineReader → Option Part → LineReader → Type 0
NextLine before (Some line) later = Advanced before line later
NextLine before None later = AtEnd before later
