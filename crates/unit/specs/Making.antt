-- How a unit is made, and how a layer is made round one: with the figures asked for where they are allowed, and
-- refused for a figure elsewhere.
use Rattle.std.specs.Prelude.{◌≡◌, ℕ, Ok, Err, Result, ◌≢◌}
use Rattle.unit.specs.Figures.{Figures}
use Rattle.unit.specs.declared.refusal.Refusal.{Refusal}
use Rattle.unit.specs.declared.refusal.Refusal.TheVariants.{FigureOutOfRange}
use Rattle.unit.specs.declared.refusal.Returned.{Returned}

abbrev pub Made : {U : Type 0} → (U → Figures) → Type 0 → Figures → Result U Refusal → Type 0
Made figures allowed f (Ok u) = allowed × (figures u ≡ f)
Made figures allowed f (Err e) = (allowed → ⊥) × (e ≡ FigureOutOfRange)

-- a layer round the unit u: as asked for, round that very unit; or its figure is wrong, and the unit comes back as it was
abbrev pub Enclosed : {U L : Type 0} → (L → U) → (L → Type 0) → Type 0 → U → Result L (Returned U) → Type 0
Enclosed below asked wrong u (Ok l) = asked l × (below l ≡ u)
Enclosed below asked wrong u (Err e) = wrong × (e.refusal ≡ FigureOutOfRange) × (e.unit ≡ u)

-- the thing that goes by the figure n, or the refusal where none does
abbrev pub GoesBy : {T : Type 0} → (T → ℕ) → ℕ → Result T Refusal → Type 0
GoesBy figure_of n (Ok t) = figure_of t ≡ n
GoesBy figure_of n (Err e) = ((t : _) → figure_of t ≢ n) × (e ≡ FigureOutOfRange)
