-- The turn layer: what an upright and an inverted unit mean.
use Rattle.std.specs.Prelude.{ℕ, ℤ, pos, ◌+ℤ◌, ◌-ℤ◌, neg_ℤ}
use Rattle.unit.specs.Figures.{Figures}
use Rattle.unit.specs.Pulses.{opposite}
use Rattle.unit.specs.declared.pulse.Pulse.{Pulse}
use Rattle.layers.specs.declared.turn.Sense.{Sense}
use Rattle.layers.specs.declared.turn.Sense.TheVariants.{Upright, Inverted}

abbrev pub turned_pulse : Sense → Pulse → Pulse
turned_pulse Upright z = z
turned_pulse Inverted z = opposite z

abbrev pub turned_number : Sense → ℤ → ℤ
turned_number Upright n = n
turned_number Inverted n = neg_ℤ n

-- the band of an inverted unit is the mirror of the one below
abbrev pub turned : Sense → Figures → Figures
turned Upright f = f
turned Inverted f = record {
  constants = record {
    modulus = f.constants.modulus;
    low = neg_ℤ ((f.constants.low +ℤ pos f.constants.modulus) -ℤ pos 1);
    bottom = f.constants.bottom;
    top = f.constants.top;
    weight = λ p. neg_ℤ (f.constants.weight p);
  };
  position = f.position;
  residue = neg_ℤ f.residue;
}

-- the figure by which each sense is asked for
abbrev pub figure_of : Sense → ℕ
figure_of Upright = 0
figure_of Inverted = 1
