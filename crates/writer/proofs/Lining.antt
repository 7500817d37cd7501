-- The lines of units and of taps: how many bytes they have, one more of them, and the text that they make.
use Rattle.std.proofs.Common.{◌≡◌, ℕ, zero, suc, ◌+◌, ◌*◌, ◌<◌, ◌≤◌, List, [], ◌∷◌, ◌++◌, length, get_or, take, pos, sum, sym, refl, ap, ◌∙◌, append_assoc, append-nil, add-one, arith, length-append}
use Rattle.std.proofs.lemmas.List.{get_or_default, take_all}
use Rattle.std.proofs.lemmas.List.Sums.{sum_by_more, sum_by-take-le}
use Rattle.frames.specs.Frames.{Frame, count, widths, line, text}
use Rattle.frames.proofs.Lines.{length-line}
use Rattle.layers.specs.declared.turn.Sense.TheVariants.{Upright}
use Rattle.sheet.specs.Patches.{make_frame, unit_frame, unit_frames, tap_frame, tap_frames, blank_unit, blank_plug}
use Rattle.sheet.specs.declared.parts.MakeFigures.{MakeFigures}
use Rattle.sheet.specs.declared.parts.MakeFigures.TheVariants.{Integrator, Servo}
use Rattle.sheet.specs.declared.parts.Plug.{Plug}
use Rattle.sheet.specs.declared.parts.UnitFigures.{UnitFigures}
use Rattle.writer.specs.Lines.{full_line, unit_lines, tap_lines}
use Rattle.writer.specs.Sizes.{unit_size, units_size}

-- what a read of a list of units names as its default
abbrev pub no_unit : UnitFigures
no_unit = record { make = Integrator 0 0; position = pos 0; divisor = 0; sense = Upright }

pub length-full_line : (f : Frame) → length (full_line f) ≡ sum (widths f) + 2
length-full_line f = omega (arith, length-append (line f) (10 ∷ []), length-line f)

length-make : (u p k s : ℕ) (m : MakeFigures) → length (full_line (make_frame u m p k s)) ≡ sum (widths (make_frame 0 m p k s)) + 2
length-make u p k s (Integrator n r) = length-full_line (make_frame u (Integrator n r) p k s)
length-make u p k s (Servo l) = length-full_line (make_frame u (Servo l) p k s)

-- a unit's line is as long at every number
length-fed_unit : (u : ℕ) (x : UnitFigures) → length (full_line (unit_frame u x)) ≡ unit_size x
length-fed_unit u x = length-make u _ _ _ x.make

length-unit_lines : (us : List UnitFigures) (k : ℕ) → k ≤ length us → length (unit_lines us k) ≡ units_size (take k us)
length-unit_lines us zero h = refl
length-unit_lines us (suc k) h =
    let x = get_or us k blank_unit in
    let more = rw add-one at (sum_by_more unit_size us k blank_unit (omega arith)) in
    omega (arith, more, length-append (unit_lines us k) (full_line (unit_frame k x)), length-fed_unit k x, length-unit_lines us k (omega arith))

-- the lines of all units
pub length-all_units : (us : List UnitFigures) → length (unit_lines us (length us)) ≡ units_size us
length-all_units us = length-unit_lines us (length us) (omega arith) ∙ ap units_size (take_all (length us) us (omega arith))

pub length-tap_lines : (ps : List Plug) (k : ℕ) → length (tap_lines ps k) ≡ 8 * k
length-tap_lines ps zero = refl
length-tap_lines ps (suc k) =
    let f = tap_frame (get_or ps k blank_plug) in
    omega (arith, length-append (tap_lines ps k) (full_line f), length-full_line f, length-tap_lines ps k)

pub unit_lines_more : (us : List UnitFigures) (k : ℕ) → k < length us → unit_lines us (k + 1) ≡ unit_lines us k ++ full_line (unit_frame k (get_or us k no_unit))
unit_lines_more us k h = rw (add-one, get_or_default us k no_unit blank_unit h)

-- the next unit is one of those that the whole size counts
pub unit_within : (us : List UnitFigures) (k : ℕ) → k < length us → length (unit_lines us k) + unit_size (get_or us k no_unit) ≤ units_size us
unit_within us k h = omega (arith, length-unit_lines us k (omega arith), sum_by_more unit_size us k no_unit h, sum_by-take-le unit_size us (k + 1))

pub tap_lines_more : (ps : List Plug) (k : ℕ) → tap_lines ps (k + 1) ≡ tap_lines ps k ++ full_line (tap_frame (get_or ps k blank_plug))
tap_lines_more ps k = rw add-one

-- the count and the lines of the units are the text of their frames, and so on with the taps
pub text-unit_frames : (c : ℕ) (us : List UnitFigures) (k : ℕ) → text (unit_frames c us k) ≡ full_line (count c) ++ unit_lines us k
text-unit_frames c us zero = sym (append-nil (full_line (count c)))
text-unit_frames c us (suc k) = rw (text-unit_frames c us k) (append_assoc (full_line (count c)) (unit_lines us k) _)

pub text-tap_frames : (above : List Frame) (ps : List Plug) (k : ℕ) → text (tap_frames above ps k) ≡ text above ++ tap_lines ps k
text-tap_frames above ps zero = sym (append-nil (text above))
text-tap_frames above ps (suc k) = rw (text-tap_frames above ps k) (append_assoc (text above) (tap_lines ps k) _)
