-- A unit behind a divider steps as its count and the unit below do.
use Rattle.std.specs.Prelude.{◌≡◌, ℕ, ◌*◌, ◌<◌, ◌≤◌, ℤ, pos, ◌+ℤ◌, ◌*ℤ◌, neg_ℤ}
use Rattle.std.proofs.Common.{sym, ap, ◌∙◌, mul_comm, mul-one, mul-zero, arith}
use Rattle.std.proofs.Math.Bridge.{le_prop}
use Rattle.std.proofs.lemmas.Int.{ints}
use Rattle.unit.specs.Figures.{Constants, Figures, Moved}
use Rattle.unit.specs.Pulses.{value}
use Rattle.unit.specs.Solutions.{Solves}
use Rattle.unit.specs.declared.pulse.Pulse.{Pulse}
use Rattle.unit.specs.declared.pulse.Pulse.TheVariants.{Minus, Zero, Plus}
use Rattle.unit.proofs.Division.{only_solution}
use Rattle.unit.proofs.Products.{times_neg, times_plus}
use Rattle.layers.specs.declared.divider.Divider.{Divider}
use Rattle.layers.specs.Laws.{stacked}
use Rattle.layers.specs.Dividers.{divided, divided_constants}

swapped : (k m : ℕ) → k * m * 1 ≡ m * (k * 1)
swapped k m = simp mul-one (mul_comm k m)

-- k m z = m (k z)
regrouped : (k m : ℕ) (z : Pulse) → pos (k * m) *ℤ value z ≡ pos m *ℤ (pos k *ℤ value z)
regrouped k m Minus = ap (λ (n : ℕ). neg_ℤ (pos n)) (swapped k m) ∙ sym (times_neg (pos m) (pos (k * 1)))
regrouped k m Zero = ap pos (simp mul-zero)
regrouped k m Plus = ap pos (swapped k m)

added_up : (kmZ mkZ md mc mz q r v : ℤ) → kmZ ≡ mkZ → mkZ +ℤ md ≡ mc +ℤ mz → mz +ℤ q ≡ r +ℤ v → kmZ +ℤ (q +ℤ md) ≡ (r +ℤ mc) +ℤ v
added_up kmZ mkZ md mc mz q r v a b c = omega (arith, ints)

-- the equation below and that of the count, added up
stacked_solution : (k m c d : ℕ) (low r v q : ℤ) (z y : Pulse) → Solves m low (r +ℤ v) (value z) q → Solves k (pos 0) (pos c +ℤ value z) (value y) (pos d) → Solves (k * m) low ((r +ℤ pos (m * c)) +ℤ v) (value y) (q +ℤ pos (m * d))
stacked_solution k m c d low r v q z y below count =
    let end = count.band.below in
    let split = sym (times_plus (pos m) (pos k *ℤ value y) (pos d)) ∙ ap (λ (n : ℤ). pos m *ℤ n) count.equation ∙ times_plus (pos m) (pos c) (value z) in
    record {
      equation = added_up (pos (k * m) *ℤ value y) (pos m *ℤ (pos k *ℤ value y)) (pos (m * d)) (pos (m * c)) (pos m *ℤ value z) q r v (regrouped k m y) split below.equation;
      band = stacked k m d low q (omega (arith, ints)) below.band;
    }

pub divided_moves : (k c d : ℕ) (f g : Figures) (x : Pulse) (t : ℤ) (z y : Pulse) → Moved f x t z g → Solves k (pos 0) (pos c +ℤ value z) (value y) (pos d) → Moved (divided k c f) x t y (divided k d g)
divided_moves k c d f g x t z y m count =
    let solution = stacked_solution k f.constants.modulus c d f.constants.low f.residue (f.constants.weight g.position *ℤ value x) g.residue z y m.balance.solves count in
    let same = ap (λ (n : Constants). n.modulus) m.constants in
    record {
      inside = m.inside;
      constants = ap (divided_constants k) m.constants;
      position = m.position;
      balance = rw same (only_solution _ _ _ _ _ solution);
    }

-- dividers with the same count round the same unit are the same
abbrev holding : {U : Type 0} → (k c : ℕ) → 1 ≤ k → c < k → U → Divider U
holding k c least counted u = record { divisor = k; count = c; below = u; least = least; counted = counted }

pub same_divider : {U : Type 0} (k c : ℕ) (l m : 1 ≤ k) (p q : c < k) (u v : U) → u ≡ v → holding k c l p u ≡ holding k c m q v
same_divider k c l m p q u v e = λ j. holding k c (le_prop l m j) (le_prop p q j) (e j)
