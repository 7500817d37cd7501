use Rattle.std.proofs.Common.{◌≡◌, ℕ, ℤ, pos, ◌+ℤ◌, ◌*ℤ◌, ◌≤ℤ◌, ◌<ℤ◌, arith}
use Rattle.std.proofs.lemmas.Int.{ints}
use Rattle.unit.specs.Solutions.{OnlySolution}
use Rattle.unit.proofs.Division.{only_solution}
use Rattle.makes.proofs.band.divide.Goals as goal

solved : (m : ℕ) (low v z r : ℤ) → (pos m *ℤ z) +ℤ r ≡ v → low ≤ℤ r → r <ℤ (low +ℤ pos m) → OnlySolution m low v z r
solved m low v z r equation above below = only_solution m low v z r (record { equation = equation; band = record { above = above; below = below } })

pub returns-then-v-low : goal.returns-then-v-low
returns-then-v-low c = solved _ _ _ _ _ (omega (arith, ints)) (omega (arith, ints)) (omega (arith, ints))

pub returns-then-v-low-2 : goal.returns-then-v-low-2
returns-then-v-low-2 c = solved _ _ _ _ _ (omega (arith, ints)) (omega (arith, ints)) (omega (arith, ints))

pub returns-else-v-low-2 : goal.returns-else-v-low-2
returns-else-v-low-2 c = solved _ _ _ _ _ (omega (arith, ints)) (omega (arith, ints)) (omega (arith, ints))
