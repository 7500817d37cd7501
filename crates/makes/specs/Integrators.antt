-- The integrator of length n: modulus 2 ^ n, band from 0, range from -2 ^ n to 2 ^ n; its weight is its position.
use Rattle.std.specs.Prelude.{ℕ, ◌^◌, ◌≤◌, ℤ, pos, neg_ℤ}
use Rattle.unit.specs.Figures.{Constants, Figures, Inside, Banded}
use Rattle.makes.specs.Limits.{longest}
use Rattle.makes.specs.declared.integrator.Integrator.{Integrator}

abbrev pub constants_of : ℕ → Constants
constants_of n = record { modulus = 2 ^ n; low = pos 0; bottom = neg_ℤ (pos (2 ^ n)); top = pos (2 ^ n); weight = λ p. p }

abbrev pub integrator : ℕ → ℤ → ℤ → Figures
integrator n p r = record { constants = constants_of n; position = p; residue = r }

-- the lengths, positions and residues that there are
pub record Allowed (n : ℕ) (p r : ℤ) : Type 0 where
  pub shortest : 1 ≤ n
  pub longest : n ≤ longest
  pub position : Inside (constants_of n) p
  pub residue : Banded (constants_of n) r

abbrev pub meaning : Integrator → Figures
meaning a = integrator a.length a.position a.residue
