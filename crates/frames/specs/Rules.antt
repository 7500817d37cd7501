-- Which frame may stand below which, and what is asked of its unit number, its figures and its source.
use Rattle.std.specs.Prelude.{◌≡◌, ℕ, ◌<◌, ◌≤◌, Bool, true, false, List, [], ◌∷◌, length, pos, filter, ◌==◌}
use Rattle.std.specs.Int.{w32}
use Rattle.std.proofs.Common.{to_z}
use Rattle.layers.specs.Turns.{figure_of as sense_figure}
use Rattle.layers.specs.declared.turn.Sense.{Sense}
use Rattle.makes.specs.Integrators.{Allowed as AllowedIntegrator}
use Rattle.makes.specs.Servos.{Allowed as AllowedServo}
use Rattle.wires.specs.Sources.{code_of, there}
use Rattle.wires.specs.Taps.{figure_of as sign_figure}
use Rattle.wires.specs.declared.source.Source.{Source}
use Rattle.wires.specs.declared.tap.Input.TheVariants.{X, Y}
use Rattle.wires.specs.declared.tap.Sign.{Sign}
use Rattle.frames.specs.Frames.{Frame, count, integrator, servo, tap, last, Fits}

-- kinds of frames

abbrev pub is_unit : Frame → Bool
is_unit (count c) = false
is_unit (integrator u n p r k s) = true
is_unit (servo u l p k s) = true
is_unit (tap i u g t) = false
is_unit (last t q) = false

abbrev pub is_tap_of : ℕ → Frame → Bool
is_tap_of u (count c) = false
is_tap_of u (integrator v n p r k s) = false
is_tap_of u (servo v l p k s) = false
is_tap_of u (tap i v g t) = v == u
is_tap_of u (last t q) = false

abbrev pub is_y_of : ℕ → Frame → Bool
is_y_of u (count c) = false
is_y_of u (integrator v n p r k s) = false
is_y_of u (servo v l p k s) = false
is_y_of u (tap X v g t) = false
is_y_of u (tap Y v g t) = v == u
is_y_of u (last t q) = false

abbrev pub is_last : Frame → Bool
is_last (count c) = false
is_last (integrator u n p r k s) = false
is_last (servo u l p k s) = false
is_last (tap i u g t) = false
is_last (last t q) = true

-- how many frames of a kind there are
abbrev pub how_many : (Frame → Bool) → List Frame → ℕ
how_many kind fs = length (filter kind fs)

-- the number of units that the count frame says; 0 where there is none
abbrev pub counted : List Frame → ℕ
counted [] = 0
counted (count c ∷ above) = c
counted (integrator u n p r k s ∷ above) = counted above
counted (servo u l p k s ∷ above) = counted above
counted (tap i u g t ∷ above) = counted above
counted (last t q ∷ above) = counted above

-- the unit of the tap right above; 0 where what is above is no tap
abbrev pub latest : List Frame → ℕ
latest [] = 0
latest (count c ∷ above) = 0
latest (integrator u n p r k s ∷ above) = 0
latest (servo u l p k s ∷ above) = 0
latest (tap i u g t ∷ above) = u
latest (last t q ∷ above) = 0

-- all units stand, and the last frame does not
pub record UnitsStand (above : List Frame) : Type 0 where
  pub some : 1 ≤ counted above
  pub all : how_many is_unit above ≡ counted above
  pub open_end : how_many is_last above ≡ 0

-- The letter of the frame may stand there: the count at the top, units until there are as many as it says, and then taps, until
-- the last frame.
abbrev pub Expected : List Frame → Frame → Type 0
Expected above (count c) = above ≡ []
Expected above (integrator u n p r k s) = how_many is_unit above < counted above
Expected above (servo u l p k s) = how_many is_unit above < counted above
Expected above (tap i u g t) = UnitsStand above
Expected above (last t q) = UnitsStand above

-- The frame's unit number: units go by their numbers from 0 on. Taps go by rising unit, of units below the count; an X is its
-- unit's first tap, and a unit has four Y taps at most.
abbrev pub Ordered : List Frame → Frame → Type 0
Ordered above (count c) = Unit {0}
Ordered above (integrator u n p r k s) = u ≡ how_many is_unit above
Ordered above (servo u l p k s) = u ≡ how_many is_unit above
Ordered above (tap X u g t) = (u < counted above) × (latest above ≤ u) × (how_many (is_tap_of u) above ≡ 0)
Ordered above (tap Y u g t) = (u < counted above) × (latest above ≤ u) × (how_many (is_y_of u) above < 4)
Ordered above (last t q) = Unit {0}

-- The other figures: 1 to 64 units; what a make or a layer can be made of; a sign; a step of at least 1.
abbrev pub InRange : Frame → Type 0
InRange (count c) = (1 ≤ c) × (c ≤ 64)
InRange (integrator u n p r k s) = AllowedIntegrator n (to_z w32 p) (pos r) × (1 ≤ k) × ((sense : Sense) × (sense_figure sense ≡ s))
InRange (servo u l p k s) = AllowedServo l (to_z w32 p) × (1 ≤ k) × ((sense : Sense) × (sense_figure sense ≡ s))
InRange (tap i u g t) = (sign : Sign) × (sign_figure sign ≡ g)
InRange (last t q) = 1 ≤ q

-- The source of a tap is there: a unit below the count, one of the four outside lines, or the clock.
abbrev pub Sourced : List Frame → Frame → Type 0
Sourced above (count c) = Unit {0}
Sourced above (integrator u n p r k s) = Unit {0}
Sourced above (servo u l p k s) = Unit {0}
Sourced above (tap i u g t) = (source : Source) × (there (counted above) source ≡ true) × (code_of source ≡ t)
Sourced above (last t q) = Unit {0}

-- the frame keeps all rules below the frames above
pub record Keeps (above : List Frame) (f : Frame) : Type 0 where
  pub expected : Expected above f
  pub fits : Fits f
  pub ordered : Ordered above f
  pub ranged : InRange f
  pub sourced : Sourced above f

-- each frame keeps the rules below those above it
abbrev pub Lawful : List Frame → Type 0
Lawful [] = Unit {0}
Lawful (f ∷ above) = Lawful above × Keeps above f

-- the last frame stands, so nothing is missing
abbrev pub Complete : List Frame → Type 0
Complete fs = how_many is_last fs ≡ 1
