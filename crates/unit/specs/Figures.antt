-- What a unit means: its figures, the bounds that they keep, a step, and the answers to the five questions.
use Rattle.std.specs.Prelude.{◌≡◌, ℕ, ◌≤◌, cond, ℤ, pos, ◌+ℤ◌, ◌*ℤ◌, neg_ℤ, ◌≤ℤ◌, ◌<ℤ◌, Some, None, Option, nat_le, unsigned_abs}
use Rattle.unit.specs.Pulses.{value}
use Rattle.unit.specs.Sizes.{largest}
use Rattle.unit.specs.Solutions.{InBand, OnlySolution}
use Rattle.unit.specs.declared.pulse.Pulse.{Pulse}

-- what no step changes; the positions go from bottom to top
pub record Constants : Type 0 where
  pub modulus : ℕ
  pub low : ℤ
  pub bottom : ℤ
  pub top : ℤ
  pub weight : ℤ → ℤ

pub record Figures : Type 0 where
  pub constants : Constants
  pub position : ℤ
  pub residue : ℤ

pub record Between (bottom top p : ℤ) : Type 0 where
  pub above : bottom ≤ℤ p
  pub below : p ≤ℤ top

-- the position p is in the range
abbrev pub Inside : Constants → ℤ → Type 0
Inside k p = Between k.bottom k.top p

-- the residue r is in the band
abbrev pub Banded : Constants → ℤ → Type 0
Banded k r = InBand k.modulus k.low r

-- the bounds that hold of the figures of every unit
pub record Lawful (f : Figures) : Type 0 where
  pub modulus : 1 ≤ f.constants.modulus
  pub low_above : neg_ℤ (pos f.constants.modulus) <ℤ f.constants.low
  pub low_below : f.constants.low ≤ℤ pos 0
  pub bottom : neg_ℤ (pos largest) ≤ℤ f.constants.bottom
  pub top : f.constants.top ≤ℤ pos largest
  pub light : (p : ℤ) → Inside f.constants p → unsigned_abs (f.constants.weight p) ≤ f.constants.modulus
  pub short : (p : ℤ) → Inside f.constants p → unsigned_abs (f.constants.weight p) ≤ largest
  pub position : Inside f.constants f.position
  pub residue : Banded f.constants f.residue

-- An accepted step with the x pulse x and the tally s takes the figures f to g and emits z: the position moves by
-- the tally, and pulse and residue are the only ones that balance the weight at the new position.
pub record Moved (f : Figures) (x : Pulse) (s : ℤ) (z : Pulse) (g : Figures) : Type 0 where
  pub inside : Inside f.constants (f.position +ℤ s)
  pub constants : g.constants ≡ f.constants
  pub position : g.position ≡ f.position +ℤ s
  pub balance : OnlySolution f.constants.modulus f.constants.low (f.residue +ℤ (f.constants.weight g.position *ℤ value x)) (value z) g.residue

-- A step of a unit u with its answer: refused where the position would leave the range, and only there.
abbrev pub Stepped : {U : Type 0} → (U → Figures) → U → Pulse → ℤ → Option Pulse → U → Type 0
Stepped figures u x s None v = (Inside (figures u).constants ((figures u).position +ℤ s) → ⊥) × (v ≡ u)
Stepped figures u x s (Some z) v = Moved (figures u) x s z (figures v)

-- the weight at the position where the unit stands
abbrev pub weight_now : Figures → ℤ
weight_now f = f.constants.weight f.position

-- a modulus as it is told: 0 for one above the largest
abbrev pub told_number : ℕ → ℕ
told_number m = cond (nat_le m largest) m 0

abbrev pub told_modulus : Figures → ℕ
told_modulus f = told_number f.constants.modulus

-- the residue as it is told: 0 where the modulus is above the largest
abbrev pub told_residue : Figures → ℤ
told_residue f = cond (nat_le f.constants.modulus largest) f.residue (pos 0)
