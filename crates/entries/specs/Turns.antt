-- Whose taps may come next: the taps of the latest unit so far.
use Rattle.std.specs.Prelude.{◌≡◌, ℕ, ◌+◌, ◌*◌, ◌<◌, ◌≤◌, List, ◌∷◌, Some, None, Option}
use Rattle.frames.specs.Frames.{Frame, tap}
use Rattle.frames.specs.Rules.{Ordered, counted, latest, how_many, is_tap_of, is_y_of}
use Rattle.wires.specs.declared.tap.Input.{Input}
use Rattle.entries.specs.declared.latest.Latest.{Latest}

-- of the n taps above, so many are of unit u, so many of them y taps, and no later unit has one
pub record Taps (above : List Frame) (u taps ys n : ℕ) : Type 0 where
  pub below : latest above ≤ u
  pub of_unit : how_many (is_tap_of u) above ≡ taps
  pub y_of_unit : how_many (is_y_of u) above ≡ ys
  pub no_taps : (v : ℕ) → u < v → how_many (is_tap_of v) above ≡ 0
  pub no_ys : (v : ℕ) → u < v → how_many (is_y_of v) above ≡ 0
  pub few : n ≤ 5 * u + taps

-- .. of the unit of the tap right above
pub record Turn (above : List Frame) (l : Latest) (n : ℕ) : Type 0 where
  pub unit : latest above ≡ l.unit
  pub so_far : Taps above l.unit l.taps l.ys n

-- before the first tap
pub record Began (l : Latest) : Type 0 where
  pub unit : l.unit ≡ 0
  pub taps : l.taps ≡ 0
  pub ys : l.ys ≡ 0

-- the taps of unit u so far, if it may still have one
abbrev pub Here : Latest → ℕ → Option Latest → Type 0
Here l u (Some h) = (above : List Frame) (n : ℕ) → Turn above l n → Taps above u h.taps h.ys n
Here l u None = u < l.unit

-- a tap into an input of unit u may stand, and then it is the latest
pub record Stands (u : ℕ) (i : Input) (k : Latest) (above : List Frame) (n g t : ℕ) : Type 0 where
  pub ordered : Ordered above (tap i u g t)
  pub turn : Turn (tap i u g t ∷ above) k (n + 1)

abbrev pub Followed : Latest → ℕ → Input → Option Latest → Type 0
Followed l u i (Some k) = (above : List Frame) (n g t : ℕ) → Turn above l n → u < counted above → Stands u i k above n g t
Followed l u i None = (above : List Frame) (n g t : ℕ) → Turn above l n → Ordered above (tap i u g t) → ⊥
