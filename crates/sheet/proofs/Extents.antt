-- How long the text of a sheet is; it is within the bounds of a text, and complete.
use Rattle.std.proofs.Common.{◌≡◌, ℕ, zero, suc, ◌+◌, ◌*◌, ◌≤◌, List, [], length, get_or, sum, ap, ◌∙◌, arith}
use Rattle.frames.specs.Faults.{Extent}
use Rattle.frames.specs.Frames.{Frame, count, last, widths, text}
use Rattle.frames.specs.Rules.{Complete}
use Rattle.frames.proofs.Lengths.{length-text_more, text_extent}
use Rattle.sheet.specs.Patches.{make_frame, unit_frame, tap_frame, unit_frames, tap_frames, blank_unit, blank_plug}
use Rattle.sheet.specs.Texts.{frames_of, written}
use Rattle.sheet.specs.Views.{units_of, taps_of}
use Rattle.sheet.specs.declared.parts.MakeFigures.{MakeFigures}
use Rattle.sheet.specs.declared.parts.MakeFigures.TheVariants.{Integrator, Servo}
use Rattle.sheet.specs.declared.parts.Plug.{Plug}
use Rattle.sheet.specs.declared.parts.UnitFigures.{UnitFigures}
use Rattle.sheet.specs.declared.sheet.Sheet.{Sheet}
use Rattle.sheet.proofs.Counting.{units_open, taps_open}
use Rattle.sheet.proofs.Sheets.{few}

pub make_width : (u p k s : ℕ) (m : MakeFigures) → sum (widths (make_frame u m p k s)) ≤ 24
make_width u p k s (Integrator n r) = omega arith
make_width u p k s (Servo l) = omega arith

pub unit_width : (u : ℕ) (x : UnitFigures) → sum (widths (unit_frame u x)) ≤ 24
unit_width u x = make_width u _ _ _ x.make

pub units_length : (c : ℕ) (us : List UnitFigures) (k : ℕ) → length (text (unit_frames c us k)) ≤ 4 + 26 * k
units_length c us zero = omega (arith, length-text_more (count c) [])
units_length c us (suc k) = omega (arith, length-text_more (unit_frame k (get_or us k blank_unit)) (unit_frames c us k), units_length c us k, unit_width k (get_or us k blank_unit))

pub taps_length : (above : List Frame) (ps : List Plug) (n : ℕ) → length (text (tap_frames above ps n)) ≡ length (text above) + 8 * n
taps_length above ps zero = omega arith
taps_length above ps (suc n) = omega (arith, length-text_more (tap_frame (get_or ps n blank_plug)) (tap_frames above ps n), taps_length above ps n)

pub sheet_extent : (s : Sheet) → Extent (written s)
sheet_extent s =
    let us = units_of s in
    let ps = taps_of s in
    let units = unit_frames (length us) us (length us) in
    let above = tap_frames units ps (length ps) in
    text_extent (last s.ticks s.step) above
    (omega (arith, length-text_more (last s.ticks s.step) above, taps_length units ps (length ps), units_length (length us) us (length us), few s, s.room))

pub sheet_complete : (s : Sheet) → Complete (frames_of s)
sheet_complete s =
    let us = units_of s in
    ap suc (taps_open (unit_frames (length us) us (length us)) (taps_of s) (length (taps_of s)) ∙ units_open (length us) us (length us))
