-- The frames that a patch is written in, from the bottom one up.
use Rattle.std.specs.Prelude.{◌≡◌, ℕ, zero, suc, ◌≤◌, true, List, [], ◌∷◌, length, pos, slice_index_or, unsigned_abs}
use Rattle.std.specs.List.{All}
use Rattle.std.specs.Int.{w32}
use Rattle.std.proofs.Common.{of_z}
use Rattle.frames.specs.Frames.{Frame, count, integrator, servo, tap, last}
use Rattle.frames.specs.Rules.{Lawful}
use Rattle.layers.specs.Turns.{figure_of as sense_figure}
use Rattle.layers.specs.declared.turn.Sense.TheVariants.{Upright}
use Rattle.wires.specs.Sources.{code_of, there}
use Rattle.wires.specs.Taps.{figure_of as sign_figure}
use Rattle.wires.specs.declared.source.Source.TheVariants.{Place}
use Rattle.wires.specs.declared.tap.Input.TheVariants.{X}
use Rattle.wires.specs.declared.tap.Sign.TheVariants.{Plus}
use Rattle.sheet.specs.declared.parts.MakeFigures.{MakeFigures}
use Rattle.sheet.specs.declared.parts.MakeFigures.TheVariants.{Integrator, Servo}
use Rattle.sheet.specs.declared.parts.UnitFigures.{UnitFigures}
use Rattle.sheet.specs.declared.parts.Plug.{Plug}

-- the largest size of a position that any make has
abbrev pub largest_position : ℕ
largest_position = 16777216

-- the frame of unit number u
abbrev pub make_frame : ℕ → MakeFigures → (position divisor sense : ℕ) → Frame
make_frame u (Integrator n r) p k s = integrator u n p r k s
make_frame u (Servo l) p k s = servo u l p k s

abbrev pub unit_frame : ℕ → UnitFigures → Frame
unit_frame u x = make_frame u x.make (of_z w32 x.position) x.divisor (sense_figure x.sense)

abbrev pub tap_frame : Plug → Frame
tap_frame p = tap p.input p.unit (sign_figure p.tap.sign) (code_of p.tap.source)

-- the unit of the blank sheet
abbrev pub blank_unit : UnitFigures
blank_unit = record { make = Integrator 1 0; position = pos 0; divisor = 1; sense = Upright }

-- what a place beyond the last tap reads as
abbrev pub blank_plug : Plug
blank_plug = record { unit = 0; input = X; tap = record { sign = Plus; source = Place 0 } }

-- the count c and the first k units
abbrev pub unit_frames : ℕ → List UnitFigures → ℕ → List Frame
unit_frames c us zero = count c ∷ []
unit_frames c us (suc k) = unit_frame k (slice_index_or us k blank_unit) ∷ unit_frames c us k

-- the first k taps below those
abbrev pub tap_frames : List Frame → List Plug → ℕ → List Frame
tap_frames above ps zero = above
tap_frames above ps (suc k) = tap_frame (slice_index_or ps k blank_plug) ∷ tap_frames above ps k

-- the count, the units by their numbers, the taps, and the last frame
abbrev pub frames : List UnitFigures → List Plug → ℕ → ℕ → List Frame
frames us ps ticks step = last ticks step ∷ tap_frames (unit_frames (length us) us (length us)) ps (length ps)

-- a position that some make has
abbrev pub Placed : UnitFigures → Type 0
Placed x = unsigned_abs x.position ≤ largest_position

-- the source of a tap is there, among c units
abbrev pub HasSource : ℕ → Plug → Type 0
HasSource c p = there c p.tap.source ≡ true

-- A lawful patch: its frames keep the rules, and its positions and sources are as its frames say them.
pub record LawfulPatch (us : List UnitFigures) (ps : List Plug) (ticks step : ℕ) : Type 0 where
  pub room : length ps ≤ 320
  pub lawful : Lawful (frames us ps ticks step)
  pub placed : All Placed us
  pub sourced : All (HasSource (length us)) ps
