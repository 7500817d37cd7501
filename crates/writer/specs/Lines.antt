-- The lines of units and of taps, with the line feed after each.
use Rattle.std.specs.Prelude.{ℕ, zero, suc, List, [], ◌∷◌, ◌++◌, slice_index_or}
use Rattle.frames.specs.Frames.{Frame, line}
use Rattle.sheet.specs.Patches.{unit_frame, tap_frame, blank_unit, blank_plug}
use Rattle.sheet.specs.declared.parts.Plug.{Plug}
use Rattle.sheet.specs.declared.parts.UnitFigures.{UnitFigures}

-- a frame as it stands in a text
abbrev pub full_line : Frame → List ℕ
full_line f = line f ++ 10 ∷ []

-- those of the first k units
abbrev pub unit_lines : List UnitFigures → ℕ → List ℕ
unit_lines us zero = []
unit_lines us (suc k) = unit_lines us k ++ full_line (unit_frame k (slice_index_or us k blank_unit))

-- those of the first k taps
abbrev pub tap_lines : List Plug → ℕ → List ℕ
tap_lines ps zero = []
tap_lines ps (suc k) = tap_lines ps k ++ full_line (tap_frame (slice_index_or ps k blank_plug))
