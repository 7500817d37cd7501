-- The length of a whole text, and its parts put together.
use Rattle.std.proofs.Common.{◌≡◌, ◌+◌, ◌*◌, ◌≤◌, ◌++◌, length, get_or, ap, ◌∙◌, arith, length-append}
use Rattle.std.proofs.lemmas.List.Sums.{sum_by-le}
use Rattle.frames.specs.Frames.{count, last}
use Rattle.sheet.specs.Patches.{unit_frames}
use Rattle.sheet.specs.Texts.{written}
use Rattle.sheet.specs.Views.{units_of, taps_of}
use Rattle.sheet.specs.declared.sheet.Sheet.{Sheet}
use Rattle.sheet.proofs.Extents.{unit_width}
use Rattle.sheet.proofs.Sheets.{few}
use Rattle.writer.specs.Sizes.{unit_size, units_size}
use Rattle.writer.proofs.Lining.{text-unit_frames, text-tap_frames, length-all_units, length-tap_lines, length-full_line}
use Rattle.writer.specs.Lines.{full_line, unit_lines, tap_lines}

-- the text of a sheet by its lines
pub text_by_lines : (s : Sheet) → written s ≡ ((full_line (count (length (units_of s))) ++ unit_lines (units_of s) (length (units_of s))) ++ tap_lines (taps_of s) (length (taps_of s))) ++ full_line (last s.ticks s.step)
text_by_lines s =
    let us = units_of s in
    let ps = taps_of s in
    ap (λ t. t ++ full_line (last s.ticks s.step)) (text-tap_frames (unit_frames (length us) us (length us)) ps (length ps) ∙ ap (λ t. t ++ tap_lines ps (length ps)) (text-unit_frames (length us) us (length us)))

pub written_length : (s : Sheet) → length (written s) ≡ 18 + units_size (units_of s) + 8 * length (taps_of s)
written_length s =
    let us = units_of s in
    let ps = taps_of s in
    let units = full_line (count (length us)) ++ unit_lines us (length us) in
    let taps = tap_lines ps (length ps) in
    omega (
      arith,
      ap length (text_by_lines s),
      length-append (units ++ taps) (full_line (last s.ticks s.step)),
      length-append units taps,
      length-append (full_line (count (length us))) (unit_lines us (length us)),
      length-full_line (count (length us)),
      length-full_line (last s.ticks s.step),
      length-all_units us,
      length-tap_lines ps (length ps),
    )

-- at most 64 units, at most 26 bytes each
pub units_short : (s : Sheet) → units_size (units_of s) ≤ 1664
units_short s = omega (arith, sum_by-le unit_size 26 (units_of s) (λ k d h. omega (arith, unit_width 0 (get_or (units_of s) k d))), few s)
