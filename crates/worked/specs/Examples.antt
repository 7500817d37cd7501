-- Worked examples as one table: what goes in, what comes out, and what it means that an example holds.
use Rattle.std.specs.Prelude.{◌≡◌, ℕ, List, [], ◌∷◌, ℤ, pos, negsuc, ◌+ℤ◌}
use Rattle.layers.specs.Dividers.{Counted}
use Rattle.layers.specs.Turns.{turned}
use Rattle.layers.specs.declared.turn.Sense.TheVariants.{Inverted}
use Rattle.makes.specs.Integrators.{integrator}
use Rattle.unit.specs.Figures.{Figures, Inside, Moved}
use Rattle.unit.specs.Pulses.{value}
use Rattle.unit.specs.declared.pulse.Pulse.{Pulse}
use Rattle.unit.specs.declared.pulse.Pulse.TheVariants.{Minus, Zero, Plus}

pub data Example : Type 0 where
  -- a step of a unit with this x pulse and tally: its pulse and its new residue
  steps : Figures → Pulse → ℤ → Pulse → ℤ → Example
  -- a tally that a unit accepts, and one that it refuses
  accepts : Figures → ℤ → Example
  refuses : Figures → ℤ → Example
  -- a divider by k at a count, and a pulse from below: the pulse that goes on and the count that stays
  counts : ℕ → ℕ → Pulse → Pulse → ℕ → Example
  -- the clock on x and its own last pulse as tally: pulse and residue at each tick from the first on
  grows : Figures → List (Pulse × ℤ) → Example

-- from figures that last emitted s
abbrev pub Grows : Figures → ℤ → List (Pulse × ℤ) → Type 0
Grows f s [] = Unit {0}
Grows f s (row ∷ rows) = (g : Figures) × (Moved f Plus s row.0 g × (g.residue ≡ row.1) × Grows g (value row.0) rows)

abbrev pub Holds : Example → Type 0
Holds (steps f x s z r) = (g : Figures) × (Moved f x s z g × (g.residue ≡ r))
Holds (accepts f s) = Inside f.constants (f.position +ℤ s)
Holds (refuses f s) = Inside f.constants (f.position +ℤ s) → ⊥
Holds (counts k c z y d) = Counted k c z y d
Holds (grows f rows) = Grows f (pos 0) rows

-- the integrators have length 2, so their modulus is 4
abbrev pub growth_patch : Example
growth_patch = grows (integrator 2 (pos 1) (pos 0)) ((Zero, pos 1) ∷ (Zero, pos 2) ∷ (Zero, pos 3) ∷ (Plus, pos 0) ∷ (Zero, pos 2) ∷ (Plus, pos 0) ∷ (Zero, pos 3) ∷ (Plus, pos 2) ∷ (Plus, pos 2) ∷ [])

abbrev pub examples : List Example
examples =
    growth_patch
    ∷ steps (integrator 2 (pos 4) (pos 3)) Plus (pos 0) Plus (pos 3)
    ∷ steps (integrator 2 (negsuc 0) (pos 0)) Plus (pos 0) Minus (pos 3)
    ∷ steps (turned Inverted (integrator 2 (negsuc 0) (pos 0))) Plus (pos 0) Plus (negsuc 2)
    ∷ accepts (integrator 2 (pos 3) (pos 0)) (pos 1)
    ∷ refuses (integrator 2 (pos 4) (pos 0)) (pos 1)
    ∷ counts 3 2 Plus Plus 0
    ∷ counts 3 0 Minus Minus 2
    ∷ []
