use Rattle.std.proofs.Common.{◌≡◌, ℕ, List, Ok, Err, sym, ◌∙◌}
use Rattle.frames.specs.Faults.{Fault}
use Rattle.frames.proofs.OneFault.{one_fault}
use Rattle.sheet.specs.Texts.{written}
use Rattle.sheet.specs.declared.sheet.Sheet.{Sheet}
use Rattle.sheet.proofs.Exactness.{no_sheet_fault, same_sheet}
use Rattle.texts.proofs.First.{first_line}
use Rattle.unit.specs.declared.refusal.TextFault.{TextFault}
use Rattle.unit.proofs.Exits.{passed_on}
use Rattle.reader.specs.Answers.{OnlyAnswer}
use Rattle.reader.proofs.read.read.Goals as goal

only_sheet : {X : Type 0} (t : List ℕ) (x : X) (found : Sheet) → t ≡ written found → OnlyAnswer {X = X} t (Ok x) found
only_sheet t x found e = record { sheet = λ s e'. (tt, same_sheet found s (sym e ∙ e')); fault = λ k n f. absurd (no_sheet_fault found t k n e f) }

only_fault : {X : Type 0} (t : List ℕ) (f : TextFault) (later : Sheet) → Fault t f.refusal f.line → OnlyAnswer {X = X} t (Err f) later
only_fault t f later h = record {
  sheet = λ s e. absurd (no_sheet_fault s t f.refusal f.line e h);
  fault = λ k n g. let p = one_fault t f.refusal k f.line n h g in λ i. Err (record { refusal = p.0 i; line = p.1 i });
}

pub returns-clause-only : goal.returns-clause-only
returns-clause-only c = only_sheet _ _ c.in_ok-sheet.field-0 c.in_ok-sheet.ensures

pub returns-in_err-sheet-clause-only : goal.returns-in_err-sheet-clause-only
returns-in_err-sheet-clause-only c = rw (passed_on _ c.from_residual.ensures.1) (only_fault _ _ _ c.in_err-sheet.ensures)

pub returns-in_err-sheet-clause-first : goal.returns-in_err-sheet-clause-first
returns-in_err-sheet-clause-first c = rw (passed_on _ c.from_residual.ensures.1) (first_line _ _ _ c.in_err-sheet.ensures)
