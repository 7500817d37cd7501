-- Division with a band: a quotient and a residue out of m neighbouring numbers, and no others.
use Rattle.std.specs.Prelude.{◌≡◌, ℕ, ℤ, pos, ◌+ℤ◌, ◌*ℤ◌, ◌≤ℤ◌, ◌<ℤ◌}

-- one of the m numbers low, low + 1, .., low + m - 1
pub record InBand (m : ℕ) (low r : ℤ) : Type 0 where
  pub above : low ≤ℤ r
  pub below : r <ℤ (low +ℤ pos m)

-- m z + r = v, with r in the band
pub record Solves (m : ℕ) (low v z r : ℤ) : Type 0 where
  pub equation : (pos m *ℤ z) +ℤ r ≡ v
  pub band : InBand m low r

-- .. and no other two whole numbers do so
pub record OnlySolution (m : ℕ) (low v z r : ℤ) : Type 0 where
  pub solves : Solves m low v z r
  pub only : (z' r' : ℤ) → Solves m low v z' r' → (z' ≡ z) × (r' ≡ r)
