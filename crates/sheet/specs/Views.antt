-- What a sheet tells of its units and taps.
use Rattle.std.specs.Prelude.{◌≡◌, ℕ, ◌<◌, ◌≤◌, List, [], ◌∷◌, length, Some, None, filter, Option, nat_eq, slice_index_or}
use Rattle.fixedvec.specs.Items.{items}
use Rattle.sheet.specs.Patches.{blank_unit}
use Rattle.sheet.specs.declared.parts.Plug.{Plug}
use Rattle.sheet.specs.declared.parts.UnitFigures.{UnitFigures}
use Rattle.sheet.specs.declared.sheet.Sheet.{Sheet}

-- the units of the sheet, by their numbers
abbrev pub units_of : Sheet → List UnitFigures
units_of s = items s.units

-- the taps of the sheet, in the order of its text
abbrev pub taps_of : Sheet → List Plug
taps_of s = items s.plugs

-- one upright integrator of length 1, no taps, no ticks, step 1
pub record Blank (s : Sheet) : Type 0 where
  pub units : units_of s ≡ blank_unit ∷ []
  pub taps : taps_of s ≡ []
  pub ticks : s.ticks ≡ 0
  pub step : s.step ≡ 1

-- the figures of a unit, or none beyond the count
abbrev pub UnitTold : Sheet → ℕ → Option UnitFigures → Type 0
UnitTold s u (Some x) = (u < length (units_of s)) × (x ≡ slice_index_or (units_of s) u blank_unit)
UnitTold s u None = length (units_of s) ≤ u

-- the taps of one unit
abbrev pub unit_taps : ℕ → Sheet → List Plug
unit_taps u s = filter (λ p. nat_eq p.unit u) (taps_of s)
