-- The examples hold: one test that computes over the whole table, and that it tells the truth.
use Rattle.std.proofs.Common.{◌≡◌, ℕ, Bool, true, false, not, ◌&&◌, T, List, [], ◌∷◌, ℤ, pos, ◌+ℤ◌, ◌*ℤ◌, ◌≤ℤ◌, refl, arith}
use lib.Signed.{le_z, lt_z}
use Rattle.std.proofs.lemmas.Int.{ints}
use Rattle.std.specs.List.{AllByRecursion}
use Rattle.unit.proofs.Division.{only_solution}
use Rattle.unit.proofs.Truth.{both, joined}
use Rattle.unit.specs.Figures.{Constants, Figures, Inside, Moved}
use Rattle.unit.specs.Pulses.{value}
use Rattle.unit.specs.Solutions.{OnlySolution}
use Rattle.unit.specs.declared.pulse.Pulse.{Pulse}
use Rattle.unit.specs.declared.pulse.Pulse.TheVariants.{Plus}
use Rattle.worked.specs.Examples.{Example, steps, accepts, refuses, counts, grows, Grows, Holds, examples}

neither : (a : Bool) → T (not a) → T a → ⊥
neither true t = λ u. t
neither false t = λ u. u

-- ---- a division
solving : ℕ → ℤ → ℤ → ℤ → ℤ → Bool
solving m low v z r = (le_z low r && lt_z r (low +ℤ pos m)) && (le_z ((pos m *ℤ z) +ℤ r) v && le_z v ((pos m *ℤ z) +ℤ r))

between : (a b : ℤ) → T (le_z a b) → T (le_z b a) → a ≡ b
between a b p q = let x : a ≤ℤ b = record { le = p } in let y : b ≤ℤ a = record { le = q } in omega (arith, ints)

solved : (m : ℕ) (low v z r : ℤ) → T (solving m low v z r) → OnlySolution m low v z r
unfolding solving
solved m low v z r t =
    let halves = both _ _ t in
    let band = both _ _ halves.0 in
    let equation = both _ _ halves.1 in
    only_solution m low v z r (record {
      equation = between _ _ equation.0 equation.1;
      band = record { above = record { le = band.0 }; below = record { lt = band.1 } };
    })

-- ---- a step
standing : Constants → ℤ → Bool
standing k p = le_z k.bottom p && le_z p k.top

stands : (k : Constants) (p : ℤ) → T (standing k p) → Inside k p
unfolding standing
stands k p t = let ends = both _ _ t in record { above = record { le = ends.0 }; below = record { le = ends.1 } }

outside : (k : Constants) (p : ℤ) → T (not (standing k p)) → Inside k p → ⊥
unfolding standing
outside k p t i = neither _ t (joined (le_z k.bottom p) (le_z p k.top) i.above.le i.below.le)

abbrev after_step : Figures → ℤ → ℤ → Figures
after_step f s r = record { constants = f.constants; position = f.position +ℤ s; residue = r }

moving : Figures → Pulse → ℤ → Pulse → ℤ → Bool
moving f x s z r = standing f.constants (f.position +ℤ s) && solving f.constants.modulus f.constants.low (f.residue +ℤ (f.constants.weight (f.position +ℤ s) *ℤ value x)) (value z) r

moves : (f : Figures) (x : Pulse) (s : ℤ) (z : Pulse) (r : ℤ) → T (moving f x s z r) → Moved f x s z (after_step f s r)
unfolding moving
moves f x s z r t =
    let parts = both _ _ t in
    record { inside = stands _ _ parts.0; constants = refl; position = refl; balance = solved _ _ _ _ _ parts.1 }

-- ---- the table
growing : Figures → ℤ → List (Pulse × ℤ) → Bool
growing f s [] = true
growing f s (row ∷ rows) = moving f Plus s row.0 row.1 && growing (after_step f s row.1) (value row.0) rows

grown : (f : Figures) (s : ℤ) (rows : List (Pulse × ℤ)) → T (growing f s rows) → Grows f s rows
unfolding growing
grown f s [] t = tt
grown f s (row ∷ rows) t =
    let parts = both _ _ t in
    (after_step f s row.1, (moves f Plus s row.0 row.1 parts.0, refl, grown (after_step f s row.1) (value row.0) rows parts.1))

holding : Example → Bool
holding (steps f x s z r) = moving f x s z r
holding (accepts f s) = standing f.constants (f.position +ℤ s)
holding (refuses f s) = not (standing f.constants (f.position +ℤ s))
holding (counts k c z y d) = solving k (pos 0) (pos c +ℤ value z) (value y) (pos d)
holding (grows f rows) = growing f (pos 0) rows

holds : (e : Example) → T (holding e) → Holds e
unfolding holding
holds (steps f x s z r) t = (after_step f s r, (moves f x s z r t, refl))
holds (accepts f s) t = stands _ _ t
holds (refuses f s) t = outside _ _ t
holds (counts k c z y d) t = solved _ _ _ _ _ t
holds (grows f rows) t = grown f (pos 0) rows t

all_holding : List Example → Bool
all_holding [] = true
all_holding (e ∷ es) = holding e && all_holding es

each_holds : (es : List Example) → T (all_holding es) → AllByRecursion Holds es
unfolding all_holding
each_holds [] t = tt
each_holds (e ∷ es) t = let parts = both _ _ t in (holds e parts.0, each_holds es parts.1)

pub all_hold : AllByRecursion Holds examples
unfolding all_holding holding growing moving standing solving
all_hold = each_holds examples tt
