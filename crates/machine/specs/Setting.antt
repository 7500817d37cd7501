-- What set answers and leaves, and the law that holds from then on.
use Rattle.std.specs.Prelude.{◌≡◌, ℕ, ◌<◌, List, Ok, Err, Result}
use Rattle.unit.specs.Figures.{Figures}
use Rattle.unit.specs.declared.refusal.Refusal.{Refusal}
use Rattle.net.specs.Changes.{Reset}
use Rattle.net.specs.declared.net.Net.{Net}
use Rattle.calls.specs.Calls.{Matches, Refused, AllTold, SetFault}
use Rattle.calls.specs.Law.{Call, Follow, LawHolds, wired_units}
use Rattle.machine.specs.declared.job.NotSet.{NotSet}
use Rattle.machine.specs.declared.job.SetJob.{SetJob}

-- whether the job may be set
abbrev pub MayBeSet : {U : Type 0} → (U → Figures) → ℕ → List U → Net → Result (Unit {0}) Refusal → Type 0
MayBeSet figures units us n (Ok _) = Matches units us n × (0 < units) × AllTold figures units us units
MayBeSet figures units us n (Err e) = Refused units us n (SetFault figures units us n) e

-- a refused set hands the open job back
abbrev pub SetAnswers : {U : Type 0} → (U → Figures) → ℕ → List U → Net → Result SetJob NotSet → Net → Type 0
SetAnswers figures units us n (Ok job) m = Matches units us n × (0 < units) × AllTold figures units us units × (job.units ≡ units) × Reset n m
SetAnswers figures units us n (Err e) m = Refused units us n (SetFault figures units us n) e.refusal × (e.job.units ≡ units) × (m ≡ n)

-- after any calls that follow, in whatever order, the law holds
abbrev pub SetLaw : {U : Type 0} → (U → Figures) → ℕ → List U → Result SetJob NotSet → Net → Type 0
SetLaw {U} figures units us (Ok job) n = (cs : List Call) (vs : List U) (m : Net) → Follow figures units us n cs vs m → LawHolds figures units (wired_units figures units us n) cs vs m
SetLaw figures units us (Err e) n = Unit {0}
