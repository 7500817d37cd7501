-- The servo of limit l: modulus 1, so that its residue is 0, range from -l to l; its weight is the sign of its position.
use Rattle.std.specs.Prelude.{ℕ, ◌≤◌, ℤ, pos, neg_ℤ}
use Rattle.std.specs.Int.{int_signum}
use Rattle.unit.specs.Figures.{Constants, Figures, Inside}
use Rattle.makes.specs.Limits.{largest_limit}
use Rattle.makes.specs.declared.servo.Servo.{Servo}

abbrev pub constants_of : ℕ → Constants
constants_of l = record { modulus = 1; low = pos 0; bottom = neg_ℤ (pos l); top = pos l; weight = int_signum }

abbrev pub servo : ℕ → ℤ → Figures
servo l p = record { constants = constants_of l; position = p; residue = pos 0 }

-- the limits and positions that there are
pub record Allowed (l : ℕ) (p : ℤ) : Type 0 where
  pub least : 1 ≤ l
  pub most : l ≤ largest_limit
  pub position : Inside (constants_of l) p

abbrev pub meaning : Servo → Figures
meaning a = servo a.limit a.position
