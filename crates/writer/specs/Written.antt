-- What writing a sheet into a buffer answers.
use Rattle.std.specs.Prelude.{◌≡◌, ℕ, ◌<◌, ◌≤◌, List, ◌++◌, length, drop, Ok, Err, Result}
use Rattle.sheet.specs.Texts.{written}
use Rattle.sheet.specs.declared.sheet.Sheet.{Sheet}
use Rattle.unit.specs.declared.refusal.Refusal.{Refusal}
use Rattle.unit.specs.declared.refusal.Refusal.TheVariants.{BufferTooShort}

-- the text stands at the start of the buffer and has n bytes, and the bytes after it are as they were
pub record TextStands (s : Sheet) (before later : List ℕ) (n : ℕ) : Type 0 where
  pub count : n ≡ length (written s)
  pub room : n ≤ length before
  pub bytes : later ≡ written s ++ drop n before

-- the text is longer than the buffer, which is as it was
pub record TextTooLong (s : Sheet) (before later : List ℕ) (e : Refusal) : Type 0 where
  pub longer : length before < length (written s)
  pub same : later ≡ before
  pub refusal : e ≡ BufferTooShort

abbrev pub TextWritten : Sheet → List ℕ → List ℕ → Result ℕ Refusal → Type 0
TextWritten s before later (Ok n) = TextStands s before later n
TextWritten s before later (Err e) = TextTooLong s before later e
