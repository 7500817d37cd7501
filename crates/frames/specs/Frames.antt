-- The frames of a patch text, by the numbers that their digits write, and how they are written.
use Rattle.std.specs.Prelude.{ℕ, List, [], ◌∷◌, ◌++◌}
use Rattle.hexa.specs.Hex.{hexes, Writable}
use Rattle.wires.specs.declared.tap.Input.{Input}
use Rattle.wires.specs.declared.tap.Input.TheVariants.{X, Y}

-- a position is in 32-bit two's complement
pub data Frame : Type 0 where
  count : (units : ℕ) → Frame
  integrator : (unit length position residue divisor sense : ℕ) → Frame
  servo : (unit limit position divisor sense : ℕ) → Frame
  tap : (input : Input) (unit sign source : ℕ) → Frame
  last : (ticks step : ℕ) → Frame

-- X and Y
abbrev pub tap_letter : Input → ℕ
tap_letter X = 88
tap_letter Y = 89

-- P, I, S, X or Y, and G
abbrev pub letter : Frame → ℕ
letter (count c) = 80
letter (integrator u n p r k s) = 73
letter (servo u l p k s) = 83
letter (tap i u g t) = tap_letter i
letter (last t q) = 71

-- the figures of a frame, from the left, and with how many digits each is written
abbrev pub values : Frame → List ℕ
values (count c) = c ∷ []
values (integrator u n p r k s) = u ∷ n ∷ p ∷ r ∷ k ∷ s ∷ []
values (servo u l p k s) = u ∷ l ∷ p ∷ k ∷ s ∷ []
values (tap i u g t) = u ∷ g ∷ t ∷ []
values (last t q) = t ∷ q ∷ []

abbrev pub widths : Frame → List ℕ
widths (count c) = 2 ∷ []
widths (integrator u n p r k s) = 2 ∷ 2 ∷ 8 ∷ 8 ∷ 2 ∷ 2 ∷ []
widths (servo u l p k s) = 2 ∷ 8 ∷ 8 ∷ 2 ∷ 2 ∷ []
widths (tap i u g t) = 2 ∷ 2 ∷ 2 ∷ []
widths (last t q) = 6 ∷ 6 ∷ []

-- each figure has room in its digits
abbrev pub Fits : Frame → Type 0
Fits f = Writable (widths f) (values f)

-- the line of a frame: its letter and its digits
abbrev pub line : Frame → List ℕ
line f = letter f ∷ hexes (widths f) (values f)

-- The text of frames that stand below one another, each with a line feed after it. Here and below, a list of frames goes from
-- the bottom one up, as a history goes from its newest tick back.
abbrev pub text : List Frame → List ℕ
text [] = []
text (f ∷ above) = text above ++ (line f ++ 10 ∷ [])
