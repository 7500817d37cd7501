-- The bytes of a table row, and what a buffer holds after a row was written into it.
use Rattle.std.specs.Prelude.{◌≡◌, ℕ, ◌<◌, ◌≤◌, List, [], ◌∷◌, ◌++◌, length, drop, ℤ, Some, None, Option}
use Rattle.std.specs.List.{flat_map}
use Rattle.std.specs.Fmt.{signed_decimal}

-- numbers in decimal, with a space before each
abbrev pub spaced : List ℤ → List ℕ
spaced zs = flat_map (λ z. 32 ∷ signed_decimal z) zs

-- a row: numbers in decimal, with a space between each two and a line feed at the end
abbrev pub row_bytes : List ℤ → List ℕ
row_bytes [] = 10 ∷ []
row_bytes (z ∷ zs) = signed_decimal z ++ (spaced zs ++ 10 ∷ [])

-- the row stands at the start of the buffer and has n bytes, and the bytes after it are as they were
pub record RowStands (fields : List ℤ) (before later : List ℕ) (n : ℕ) : Type 0 where
  pub count : n ≡ length (row_bytes fields)
  pub room : n ≤ length before
  pub bytes : later ≡ row_bytes fields ++ drop n before

-- the row is longer than the buffer, which is as it was
pub record RowTooLong (fields : List ℤ) (before later : List ℕ) : Type 0 where
  pub longer : length before < length (row_bytes fields)
  pub same : later ≡ before

-- a buffer before and after a row was to be written into it, and how many bytes were written, if any
abbrev pub RowWritten : List ℤ → List ℕ → List ℕ → Option ℕ → Type 0
RowWritten fields before later (Some n) = RowStands fields before later n
RowWritten fields before later None = RowTooLong fields before later
