use Rattle.std.proofs.Common.{refl, ◌∙◌, inl, inr}
use Rattle.frames.proofs.OneFault.{one_fault}
use Rattle.sheet.proofs.Exactness.{no_sheet_fault}
use Rattle.patch.specs.Verdicts.{packed}
use Rattle.patch.proofs.patch_check.Goals as goal

pub returns-in-Ok : goal.returns-in-Ok
returns-in-Ok c =
    let e = c.in-Ok.ensures in
    let s = c.in-Ok.field-0 in
    record { accepted = λ r e'. refl; refused = λ k n f. absurd (no_sheet_fault s _ k n e f); either = inl (s, e) }

pub returns-in-Err : goal.returns-in-Err
returns-in-Err c =
    let h = c.in-Err.ensures in
    let f = c.in-Err.fault in
    record {
      accepted = λ s e. absurd (no_sheet_fault s _ f.refusal f.line e h);
      refused = λ k n g. let p = one_fault _ f.refusal k f.line n h g in c.pack.ensures ∙ (λ i. packed (p.0 i) (p.1 i));
      either = inr (f.refusal, f.line, h);
    }
