-- What reading a text into a sheet answers.
use Rattle.std.specs.Prelude.{◌≡◌, ℕ, ◌≤◌, List, Ok, Err, Result}
use Rattle.frames.specs.Faults.{Fault}
use Rattle.sheet.specs.Texts.{written}
use Rattle.sheet.specs.declared.sheet.Sheet.{Sheet}
use Rattle.texts.specs.Agreement.{FirstLine}
use Rattle.unit.specs.declared.refusal.Refusal.{Refusal}
use Rattle.unit.specs.declared.refusal.TextFault.{TextFault}

-- the sheet whose text it is, or the text's first fault
abbrev pub Parsed : List ℕ → Result Sheet TextFault → Type 0
Parsed t (Ok s) = t ≡ written s
Parsed t (Err f) = Fault t f.refusal f.line

-- .. into a sheet, which a fault leaves as it was
abbrev pub ReadInto : {X : Type 0} → List ℕ → Sheet → Result X TextFault → Sheet → Type 0
ReadInto t before (Ok _) later = t ≡ written later
ReadInto t before (Err f) later = Fault t f.refusal f.line × (later ≡ before)

-- a text is accepted
abbrev pub Accepted : {X E : Type 0} → Result X E → Type 0
Accepted (Ok _) = Unit {0}
Accepted (Err _) = ⊥

-- No other answer is possible: the text of a sheet is accepted and gives that sheet, and a text with a fault is refused with that
-- fault.
pub record OnlyAnswer {X : Type 0} (t : List ℕ) (r : Result X TextFault) (later : Sheet) : Type 0 where
  pub sheet : (s : Sheet) → t ≡ written s → Accepted r × (later ≡ s)
  pub fault : (e : Refusal) (n : ℕ) → Fault t e n → r ≡ Err (record { refusal = e; line = n })

-- A fault has the first line with which no sheet's text agrees so far; line 0 is a fault of the text as a whole.
abbrev pub FirstFault : {X : Type 0} → List ℕ → Result X TextFault → Type 0
FirstFault t (Ok _) = Unit {0}
FirstFault t (Err f) = 1 ≤ f.line → FirstLine t f.line
