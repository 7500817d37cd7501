-- An upright or inverted unit steps as the unit below does.
use Rattle.std.specs.Prelude.{ℕ, ℤ, pos, ◌+ℤ◌, ◌*ℤ◌, neg_ℤ}
use Rattle.std.proofs.Common.{ap, arith}
use Rattle.std.proofs.lemmas.Int.{ints}
use Rattle.unit.specs.Figures.{Constants, Figures, Moved}
use Rattle.unit.specs.Pulses.{value}
use Rattle.unit.specs.Solutions.{Solves}
use Rattle.unit.specs.declared.pulse.Pulse.{Pulse}
use Rattle.unit.proofs.Division.{only_solution}
use Rattle.unit.proofs.Products.{times_neg, neg_times}
use Rattle.unit.proofs.Signs.{opposite_value}
use Rattle.layers.specs.Laws.{mirrored}
use Rattle.layers.specs.Turns.{turned, turned_pulse}
use Rattle.layers.specs.declared.turn.Sense.{Sense}
use Rattle.layers.specs.declared.turn.Sense.TheVariants.{Upright, Inverted}

mirrored_solution : (m : ℕ) (low r w x z q : ℤ) → Solves m low (r +ℤ (w *ℤ x)) z q → Solves m (neg_ℤ ((low +ℤ pos m) +ℤ neg_ℤ (pos 1))) (neg_ℤ r +ℤ (neg_ℤ w *ℤ x)) (neg_ℤ z) (neg_ℤ q)
mirrored_solution m low r w x z q s =
    let e = s.equation in
    let a = times_neg (pos m) z in
    let b = neg_times w x in
    record { equation = omega (arith, ints); band = mirrored m low q s.band }

pub turned_moves : (s : Sense) (f g : Figures) (x : Pulse) (t : ℤ) (z : Pulse) → Moved f x t z g → Moved (turned s f) x t (turned_pulse s z) (turned s g)
turned_moves Upright f g x t z m = m
turned_moves Inverted f g x t z m = record {
  inside = m.inside;
  constants = ap (λ (k : Constants). (turned Inverted (record { constants = k; position = g.position; residue = g.residue })).constants) m.constants;
  position = m.position;
  balance = only_solution _ _ _ _ _ (rw opposite_value (mirrored_solution _ _ f.residue (f.constants.weight g.position) (value x) _ _ m.balance.solves));
}
