-- The divider by k that holds back the count c: what the unit in it means.
use Rattle.std.specs.Prelude.{ℕ, ◌*◌, pos, ◌+ℤ◌}
use Rattle.unit.specs.Figures.{Constants, Figures}
use Rattle.unit.specs.Pulses.{value}
use Rattle.unit.specs.Solutions.{OnlySolution}
use Rattle.unit.specs.declared.pulse.Pulse.{Pulse}

-- a pulse z from below at the count c: the pulse y goes on, and the count d stays
abbrev pub Counted : ℕ → ℕ → Pulse → Pulse → ℕ → Type 0
Counted k c z y d = OnlySolution k (pos 0) (pos c +ℤ value z) (value y) (pos d)

abbrev pub divided_constants : ℕ → Constants → Constants
divided_constants k n = record { modulus = k * n.modulus; low = n.low; bottom = n.bottom; top = n.top; weight = n.weight }

abbrev pub divided : ℕ → ℕ → Figures → Figures
divided k c f = record {
  constants = divided_constants k f.constants;
  position = f.position;
  residue = f.residue +ℤ pos (f.constants.modulus * c);
}
