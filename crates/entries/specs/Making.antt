-- Figures of a unit frame made into those of a unit.
use Rattle.std.specs.Prelude.{◌≡◌, ℕ, ◌≤◌, Ok, Err, Result, unsigned_abs}
use Rattle.frames.specs.Frames.{Frame}
use Rattle.frames.specs.Rules.{InRange}
use Rattle.sheet.specs.Patches.{unit_frame, largest_position}
use Rattle.sheet.specs.declared.parts.UnitFigures.{UnitFigures}
use Rattle.unit.specs.declared.refusal.Refusal.{Refusal}
use Rattle.unit.specs.declared.refusal.Refusal.TheVariants.{FigureOutOfRange}

-- x is what the frame of unit number u says
pub record Said (u : ℕ) (f : Frame) (x : UnitFigures) : Type 0 where
  pub ranged : InRange f
  pub placed : unsigned_abs x.position ≤ largest_position
  pub is : unit_frame u x ≡ f

-- the unit of a frame, whatever its number, if its figures are in their ranges
abbrev pub UnitOf : (ℕ → Frame) → Result UnitFigures Refusal → Type 0
UnitOf frame (Ok x) = (u : ℕ) → Said u (frame u) x
UnitOf frame (Err e) = (e ≡ FigureOutOfRange) × ((u : ℕ) → InRange (frame u) → ⊥)
