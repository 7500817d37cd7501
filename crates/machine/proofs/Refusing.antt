-- The refusals, as the search for a proof takes them.
use Rattle.std.proofs.Common.{◌≡◌, ℕ, List}
use Rattle.unit.specs.declared.refusal.Refusal.{Refusal}
use Rattle.unit.specs.declared.refusal.Refusal.TheVariants.{OtherRackOrNet}
use Rattle.net.specs.declared.net.Net.{Net}
use Rattle.calls.specs.Calls.{Matches, Refused, other}
pub use Rattle.calls.specs.Calls.{for_fault, full, no_sign, no_source, no_unit, taken, not_in_job, no_feed, waiting, no_units, untold, spent, leaves}
pub use Rattle.calls.specs.Readings.{not_read, no_row, too_short}

pub refused_other : {U : Type 0} {units : ℕ} {us : List U} {n : Net} {fault : Refusal → Type 0} {e : Refusal} → (Matches units us n → ⊥) → e ≡ OtherRackOrNet → Refused units us n fault e
refused_other not is = rw is (other not)

pub refused_for : {U : Type 0} {units : ℕ} {us : List U} {n : Net} {fault : Refusal → Type 0} {e d : Refusal} → Matches units us n → e ≡ d → fault d → Refused units us n fault e
refused_for matches is found = rw is (for_fault matches found)

pub ruleset refusals = (refused_other, refused_for, for_fault, full, no_sign, no_source, no_unit, taken, not_in_job, no_feed, waiting, no_units, untold, spent, leaves, not_read, no_row, too_short)
