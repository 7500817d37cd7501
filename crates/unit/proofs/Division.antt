-- Division with a band has one answer.
use Rattle.std.proofs.Common.{◌≡◌, ℕ, ◌+◌, ◌*◌, ◌<◌, ◌≤◌, ℤ, pos, ◌+ℤ◌, ◌*ℤ◌, ◌≤ℤ◌, ◌<ℤ◌, mul-add, arith}
use borrow.Author.Differences.{up, down, lt_out}
use Rattle.std.proofs.lemmas.Nat.{mul-le}
use Rattle.std.proofs.lemmas.Int.{ints, by_lt_z}
use Rattle.unit.specs.Solutions.{Solves, OnlySolution}

scaled : (m a b c d : ℕ) → a + b < c + d → m * a + m * b + m ≤ m * c + m * d
scaled m a b c d h =
    omega (arith, mul-le m (a + b + 1) m (c + d) (omega arith) (omega arith), mul-add m (a + b) 1, mul-add m a b, mul-add m c d)

-- one more quotient takes a whole modulus
next_multiple : (m : ℕ) (a b : ℤ) → a <ℤ b → ((pos m *ℤ a) +ℤ pos m) ≤ℤ (pos m *ℤ b)
next_multiple m a b h = let s = scaled m (up a) (down b) (up b) (down a) (lt_out a b h) in omega (arith, ints)

no_less : (m : ℕ) (low v z r y q : ℤ) → Solves m low v z r → Solves m low v y q → z <ℤ y → ⊥
no_less m low v z r y q s t h =
    let n = next_multiple m z y h in
    let e = s.equation in
    let f = t.equation in
    let b = s.band.below in
    let a = t.band.above in
    omega (arith, ints)

same_quotient : (m : ℕ) (low v z r y q : ℤ) → Solves m low v z r → Solves m low v y q → z ≡ y
same_quotient m low v z r y q s t =
    by_lt_z z y
    (λ h. absurd (no_less m low v z r y q s t h))
    (λ h. by_lt_z y z (λ k. absurd (no_less m low v y q z r t s k)) (λ k. omega (arith, ints)))

same_rest : (a r q v : ℤ) → a +ℤ r ≡ v → a +ℤ q ≡ v → r ≡ q
same_rest a r q v e f = omega (arith, ints)

-- a solution is the only one
pub only_solution : (m : ℕ) (low v z r : ℤ) → Solves m low v z r → OnlySolution m low v z r
only_solution m low v z r s = record {
  solves = s;
  only = λ y q t.
      let e = same_quotient m low v y q z r t s in
      (e, same_rest (pos m *ℤ z) q r v (rw e at t.equation) s.equation);
}
