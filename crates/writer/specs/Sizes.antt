-- How many bytes the lines of units and taps take.
use Rattle.std.specs.Prelude.{ℕ, ◌+◌, List, sum_by, sum}
use Rattle.frames.specs.Frames.{widths}
use Rattle.sheet.specs.Patches.{unit_frame, tap_frame, blank_plug}
use Rattle.sheet.specs.declared.parts.UnitFigures.{UnitFigures}

-- the letter, the digits and the line feed
abbrev pub unit_size : UnitFigures → ℕ
unit_size x = sum (widths (unit_frame 0 x)) + 2

abbrev pub units_size : List UnitFigures → ℕ
units_size us = sum_by unit_size us

-- the same for every tap
abbrev pub tap_size : ℕ
tap_size = sum (widths (tap_frame blank_plug)) + 2
