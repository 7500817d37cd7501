-- What one line says below the frames above it, or what is wrong with it.
use Rattle.std.specs.Prelude.{◌≡◌, ℕ, ◌+◌, ◌<◌, ◌≤◌, true, List, [], ◌∷◌, Ok, Err, Result, unsigned_abs}
use Rattle.frames.specs.Faults.{LineFault}
use Rattle.frames.specs.Frames.{Frame, count, tap, last, tap_letter, line, Fits}
use Rattle.frames.specs.Rules.{Keeps, UnitsStand, counted, how_many, is_unit}
use Rattle.sheet.specs.Patches.{make_frame, unit_frame, tap_frame, largest_position}
use Rattle.sheet.specs.declared.parts.Plug.{Plug}
use Rattle.sheet.specs.declared.parts.UnitFigures.{UnitFigures}
use Rattle.unit.specs.declared.refusal.Refusal.{Refusal}
use Rattle.wires.specs.Sources.{there}
use Rattle.wires.specs.declared.tap.Input.{Input}
use Rattle.entries.specs.Turns.{Turn}
use Rattle.entries.specs.declared.figures.UnitFrame.{UnitFrame}
use Rattle.entries.specs.declared.latest.Latest.{Latest}
use Rattle.entries.specs.declared.taps.Tail.{Tail}
use Rattle.entries.specs.declared.taps.Tail.TheVariants.{Tap, Last}

-- the line l is the frame f
pub record Says (l : List ℕ) (f : Frame) : Type 0 where
  pub fits : Fits f
  pub is : l ≡ line f

-- the line is the frame of a unit
abbrev pub UnitSays : List ℕ → UnitFrame → Type 0
UnitSays l f = Says l (make_frame f.unit f.make f.position f.divisor f.sense)

-- the digits are those of a tap of either input
abbrev pub TapSays : List ℕ → ℕ → ℕ → ℕ → Type 0
TapSays ds u g t = (i : Input) → Says (tap_letter i ∷ ds) (tap i u g t)

-- the line at the top
abbrev pub CountEntry : List ℕ → Result ℕ Refusal → Type 0
CountEntry l (Ok c) = Keeps [] (count c) × (l ≡ line (count c))
CountEntry l (Err e) = LineFault [] l e

-- the frame of unit number u is to come
pub record UnitWanted (above : List Frame) (u : ℕ) : Type 0 where
  pub fewer : u < counted above
  pub number : how_many is_unit above ≡ u

-- the line is the frame of unit number u with the figures x
pub record UnitRead (above : List Frame) (u : ℕ) (l : List ℕ) (x : UnitFigures) : Type 0 where
  pub keeps : Keeps above (unit_frame u x)
  pub placed : unsigned_abs x.position ≤ largest_position
  pub is : l ≡ line (unit_frame u x)

abbrev pub UnitEntry : List Frame → ℕ → List ℕ → Result UnitFigures Refusal → Type 0
UnitEntry above u l (Ok x) = UnitRead above u l x
UnitEntry above u l (Err e) = LineFault above l e

-- .. below whatever frames it is wanted
abbrev pub UnitAnswers : ℕ → List ℕ → Result UnitFigures Refusal → Type 0
UnitAnswers u l r = (above : List Frame) → UnitWanted above u → UnitEntry above u l r

-- a tap or the last frame is to come, below n taps
pub record TailWanted (above : List Frame) (c : ℕ) (l : Latest) (n : ℕ) : Type 0 where
  pub stand : UnitsStand above
  pub counted : counted above ≡ c
  pub turn : Turn above l n

-- the line is the frame of the tap p, which is then the latest
pub record TapRead (above : List Frame) (c n : ℕ) (l : List ℕ) (p : Plug) (next : Latest) : Type 0 where
  pub keeps : Keeps above (tap_frame p)
  pub there : there c p.tap.source ≡ true
  pub is : l ≡ line (tap_frame p)
  pub turn : Turn (tap_frame p ∷ above) next (n + 1)

-- the line is the last frame
pub record LastRead (above : List Frame) (l : List ℕ) (ticks step : ℕ) : Type 0 where
  pub keeps : Keeps above (last ticks step)
  pub is : l ≡ line (last ticks step)

abbrev pub TailEntry : List Frame → ℕ → ℕ → List ℕ → Result Tail Refusal → Type 0
TailEntry above c n l (Ok (Tap p next)) = TapRead above c n l p next
TailEntry above c n l (Ok (Last ticks step)) = LastRead above l ticks step
TailEntry above c n l (Err e) = LineFault above l e

-- .. below whatever frames it is wanted
abbrev pub TailAnswers : ℕ → Latest → List ℕ → Result Tail Refusal → Type 0
TailAnswers c latest l r = (above : List Frame) (n : ℕ) → TailWanted above c latest n → TailEntry above c n l r
