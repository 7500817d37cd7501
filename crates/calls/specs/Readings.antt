-- What read tells of one unit, and the row that row writes.
use Rattle.std.specs.Prelude.{◌≡◌, ℕ, ◌<◌, ◌≤◌, List, [], ◌∷◌, length, ℤ, pos, Ok, Err, Result}
use Rattle.rows.specs.Rows.{row_bytes, RowStands}
use Rattle.unit.specs.Figures.{Figures, weight_now, told_residue}
use Rattle.ticks.specs.Racks.{at_place}
use Rattle.unit.specs.declared.refusal.Refusal.{Refusal}
use Rattle.unit.specs.declared.refusal.Refusal.TheVariants.{NotThere, BufferTooShort}
use Rattle.net.specs.Records.{record_at}
use Rattle.net.specs.declared.net.Net.{Net}
use Rattle.calls.specs.Calls.{Matches, Refused}
use Rattle.calls.specs.declared.reading.Reading.{Reading}

module _ {U : Type 0} (figures : U → Figures) (us : List U) (n : Net) (i : ℕ) where
  -- the figures of the unit at place i
  pub record Reads (r : Reading) : Type 0 where
    pub ticks : r.ticks ≡ n.ticks
    pub position : (u : U) → r.position ≡ (at_place figures us i u).position
    pub residue : (u : U) → r.residue ≡ told_residue (at_place figures us i u)
    pub weight : (u : U) → r.weight ≡ weight_now (at_place figures us i u)
    pub net : r.net ≡ (record_at n.table.records i).net
    pub work : r.work ≡ (record_at n.table.records i).work
    pub line : r.line ≡ (record_at n.table.records i).line

-- tick, unit, position, residue, net pulses and work
abbrev pub fields_of : ℕ → Reading → List ℤ
fields_of i r = pos r.ticks ∷ pos i ∷ r.position ∷ r.residue ∷ r.net ∷ r.work ∷ []

module _ {U : Type 0} (figures : U → Figures) (units : ℕ) (us : List U) (n : Net) (i : ℕ) where
  pub data ReadFault : Refusal → Type 0 where
    not_read : units ≤ i → ReadFault NotThere

  abbrev pub ReadAnswers : Result Reading Refusal → Type 0
  ReadAnswers (Ok r) = Matches units us n × (i < units) × Reads figures us n i r
  ReadAnswers (Err e) = Refused units us n ReadFault e

  pub data RowFault (before : List ℕ) : Refusal → Type 0 where
    no_row : units ≤ i → RowFault before NotThere
    too_short : i < units → (r : Reading) → Reads figures us n i r → length before < length (row_bytes (fields_of i r)) → RowFault before BufferTooShort

  -- the row stands at the start of the buffer, and the rest of it is what it was
  pub record RowMade (before later : List ℕ) (written : ℕ) : Type 0 where
    pub matches : Matches units us n
    pub unit : i < units
    pub reading : Reading
    pub reads : Reads figures us n i reading
    pub stands : RowStands (fields_of i reading) before later written

  abbrev pub RowAnswers : List ℕ → Result ℕ Refusal → List ℕ → Type 0
  RowAnswers before (Ok written) later = RowMade before later written
  RowAnswers before (Err e) later = Refused units us n (RowFault before) e × (later ≡ before)
