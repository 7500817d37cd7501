-- Where a text stops agreeing with the texts of all sheets.
use Rattle.std.specs.Prelude.{◌≡◌, ℕ, ◌-◌, List, take}
use Rattle.lines.specs.Lines.{lines_of}
use Rattle.sheet.specs.Texts.{written}
use Rattle.sheet.specs.declared.sheet.Sheet.{Sheet}

-- two texts have the same first n lines
abbrev pub AgreeTo : ℕ → List ℕ → List ℕ → Type 0
AgreeTo n t u = take n (lines_of t) ≡ take n (lines_of u)

-- Line n is the first with which no sheet's text agrees so far: some sheet's text has all the lines above it, and none has that
-- line, or no line there, as well.
pub record FirstLine (t : List ℕ) (n : ℕ) : Type 0 where
  pub above : (s : Sheet) × AgreeTo (n - 1) (written s) t
  pub here : (s : Sheet) → AgreeTo n (written s) t → ⊥
