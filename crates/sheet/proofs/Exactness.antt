-- The text of a sheet has no fault, and is no other sheet's.
use Rattle.std.proofs.Common.{◌≡◌, ℕ, List, refl, subst}
use mathlib.Core.HLevel.{⊥_prop}
use mathlib.Core.Logic.{∥∥₁_elim}
use Rattle.frames.specs.Faults.{Fault}
use Rattle.frames.proofs.OneFault.{one_list, no_fault}
use Rattle.unit.specs.declared.refusal.Refusal.{Refusal}
use Rattle.sheet.specs.Texts.{frames_of, written}
use Rattle.sheet.specs.declared.sheet.Sheet.{Sheet}
use Rattle.sheet.proofs.Extents.{sheet_extent, sheet_complete}
use Rattle.sheet.proofs.OneSheet.{one_sheet, sheet_set}

pub no_sheet_fault : (s : Sheet) (t : List ℕ) (e : Refusal) (n : ℕ) → t ≡ written s → Fault t e n → ⊥
no_sheet_fault s t e n is f = ∥∥₁_elim s.lawful ⊥_prop (λ h. no_fault (frames_of s) (written s) e n h (sheet_complete s) (sheet_extent s) refl (subst (λ x. Fault x e n) is f))

pub same_sheet : (r s : Sheet) → written r ≡ written s → r ≡ s
same_sheet r s e = ∥∥₁_elim r.lawful (sheet_set r s) (λ h. ∥∥₁_elim s.lawful (sheet_set r s) (λ k. one_sheet r s (one_list (frames_of r) (frames_of s) h k e)))
