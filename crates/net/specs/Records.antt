-- The record of one unit: blank, emptied, without taps, with one tap more, and after a step.
use Rattle.std.specs.Prelude.{◌≡◌, ℕ, ◌<◌, true, List, [], ◌∷◌, ℤ, pos, ◌+ℤ◌, is_some, Some, None, Option, slice_index_or, slice_set}
use Rattle.unit.specs.Pulses.{value}
use Rattle.unit.specs.declared.pulse.Pulse.{Pulse}
use Rattle.unit.specs.declared.pulse.Pulse.TheVariants.{Zero}
use Rattle.wires.specs.declared.tap.Tap.{Tap}
use Rattle.net.specs.declared.record.Record.{Record}

abbrev pub no_taps : List (Option Tap)
no_taps = None ∷ None ∷ None ∷ None ∷ []

abbrev pub blank : Record
blank = record { x = None; y = no_taps; line = Zero; net = pos 0; work = pos 0 }

-- the record at place i
abbrev pub record_at : List Record → ℕ → Record
record_at rs i = slice_index_or rs i blank

abbrev pub emptied : Record → Record
emptied r = record { x = r.x; y = r.y; line = Zero; net = pos 0; work = pos 0 }

abbrev pub cleared : Record → Record
cleared r = record { x = None; y = no_taps; line = r.line; net = r.net; work = r.work }

abbrev pub with_x : Record → Tap → Record
with_x r tap = record { x = Some tap; y = r.y; line = r.line; net = r.net; work = r.work }

abbrev pub with_y : Record → ℕ → Tap → Record
with_y r k tap = record { x = r.x; y = slice_set r.y k (Some tap); line = r.line; net = r.net; work = r.work }

-- after a step that emitted z and did so much work
pub record Emitted (r : Record) (z : Pulse) (work : ℤ) (s : Record) : Type 0 where
  pub x : s.x ≡ r.x
  pub y : s.y ≡ r.y
  pub line : s.line ≡ z
  pub net : s.net ≡ r.net +ℤ value z
  pub done : s.work ≡ r.work +ℤ work

abbrev pub Taken : List (Option Tap) → ℕ → Type 0
Taken y k = (j : ℕ) → j < k → is_some (slice_index_or y j None) ≡ true

-- the first of the four y places that is free, if any
abbrev pub FirstFree : List (Option Tap) → Option ℕ → Type 0
FirstFree y None = Taken y 4
FirstFree y (Some k) = (k < 4) × Taken y k × (slice_index_or y k None ≡ None)
