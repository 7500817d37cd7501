-- One number for the verdict on a text.
use Rattle.std.specs.Prelude.{◌≡◌, ℕ, ◌+◌, ◌*◌, ◌⊎◌, List}
use Rattle.frames.specs.Faults.{Fault}
use Rattle.sheet.specs.Texts.{written}
use Rattle.sheet.specs.declared.sheet.Sheet.{Sheet}
use Rattle.unit.specs.Refusals.{number}
use Rattle.unit.specs.declared.refusal.Refusal.{Refusal}

abbrev pub packed : Refusal → ℕ → ℕ
packed e line = number e * 65536 + line

-- 0 for the text of a sheet, else its fault; and each text is the one or has the other
pub record Verdict (t : List ℕ) (r : ℕ) : Type 0 where
  pub accepted : (s : Sheet) → t ≡ written s → r ≡ 0
  pub refused : (e : Refusal) (line : ℕ) → Fault t e line → r ≡ packed e line
  pub either : ((s : Sheet) × (t ≡ written s)) ⊎ ((e : Refusal) × (line : ℕ) × Fault t e line)
