-- What a job asks first at a call: that rack and net belong to it, and that it has the unit.
use Rattle.std.specs.Prelude.{◌≡◌, ℕ, ◌<◌, ◌≤◌, List, length, Ok, Err, Result}
use Rattle.unit.specs.declared.refusal.Refusal.{Refusal}
use Rattle.unit.specs.declared.refusal.Refusal.TheVariants.{NotThere, OtherRackOrNet}
use Rattle.net.specs.declared.net.Net.{Net}
use Rattle.net.specs.Limits.{most_units}
use Rattle.calls.specs.Calls.{Matches, Refused, PlaceFault}

-- rack and net are those of a job of so many units
abbrev pub Belongs : {U : Type 0} → ℕ → List U → Net → Result (Unit {0}) Refusal → Type 0
Belongs units us n (Ok _) = Matches units us n
Belongs units us n (Err e) = (Matches units us n → ⊥) × (e ≡ OtherRackOrNet)

-- the place of a unit that the job has
abbrev pub PlaceOf : ℕ → ℕ → Result ℕ Refusal → Type 0
PlaceOf unit units (Ok place) = (unit < units) × (place ≡ unit)
PlaceOf unit units (Err e) = (units ≤ unit) × (e ≡ NotThere)

-- the place of the unit that comes next, in the job and in the rack
abbrev pub NextPlace : {U : Type 0} → ℕ → List U → Net → Result ℕ Refusal → Type 0
NextPlace units us n (Ok place) = Matches units us n × (units < most_units) × (units < length us) × (place ≡ units)
NextPlace units us n (Err e) = Refused units us n (PlaceFault units us n) e
