-- Signs: the figure of each, and a sign times a pulse.
use Rattle.std.specs.Prelude.{ℕ}
use Rattle.unit.specs.Pulses.{opposite}
use Rattle.unit.specs.declared.pulse.Pulse.{Pulse}
use Rattle.wires.specs.declared.tap.Sign.{Sign}
use Rattle.wires.specs.declared.tap.Sign.TheVariants.{Plus, Minus}

abbrev pub figure_of : Sign → ℕ
figure_of Plus = 0
figure_of Minus = 1

abbrev pub signed : Sign → Pulse → Pulse
signed Plus z = z
signed Minus z = opposite z
