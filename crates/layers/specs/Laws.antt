-- That a layer keeps the bounds of every unit below it. No contract cites this: an `impl` in src/ names these proofs where it owes the
-- law `lawful`, and can name nothing of proofs/.
use Rattle.std.specs.Prelude.{ℕ, ◌+◌, ◌*◌, ◌<◌, ◌≤◌, ℤ, pos, ◌+ℤ◌, neg_ℤ, unsigned_abs}
use Rattle.std.proofs.Common.{mul-add, mul_comm, arith}
use Rattle.std.proofs.lemmas.Nat.{mul-le}
use Rattle.std.proofs.lemmas.Int.{ints}
use Rattle.unit.specs.Figures.{Figures, Lawful}
use Rattle.unit.specs.Solutions.{InBand}
use Rattle.layers.specs.Dividers.{divided}
use Rattle.layers.specs.Turns.{turned}
use Rattle.layers.specs.declared.turn.Sense.{Sense}
use Rattle.layers.specs.declared.turn.Sense.TheVariants.{Upright, Inverted}

pub times_least : (k m : ℕ) → 1 ≤ k → m ≤ k * m
times_least k m h = omega (arith, mul-le 1 m k m h (omega arith))

-- one more count takes one more modulus below, and there is room for k of them
pub room : (k m c : ℕ) → c < k → m * c + m ≤ k * m
room k m c h = omega (arith, mul-le m (c + 1) m k (omega arith) (omega arith), mul-add m c 1, mul_comm m k)

wider : (m n : ℕ) (w : ℤ) → m ≤ n → unsigned_abs w ≤ m → unsigned_abs w ≤ n
wider m n w h l = omega arith

pub stacked : (k m c : ℕ) (low r : ℤ) → c < k → InBand m low r → InBand (k * m) low (r +ℤ pos (m * c))
stacked k m c low r h b =
    let above = b.above in
    let below = b.below in
    let most = room k m c h in
    record { above = omega (arith, ints); below = omega (arith, ints) }

pub divided_lawful : (k c : ℕ) (f : Figures) → c < k → Lawful f → Lawful (divided k c f)
divided_lawful k c f h law =
    let least = times_least k f.constants.modulus (omega arith) in
    let modulus = law.modulus in
    let above = law.low_above in
    record {
      modulus = omega arith;
      low_above = omega (arith, ints);
      low_below = law.low_below;
      bottom = law.bottom;
      top = law.top;
      light = λ p i. wider f.constants.modulus _ (f.constants.weight p) least (law.light p i);
      short = law.short;
      position = law.position;
      residue = stacked k f.constants.modulus c _ _ h law.residue;
    }

same_size : (n : ℕ) (w : ℤ) → unsigned_abs w ≤ n → unsigned_abs (neg_ℤ w) ≤ n
same_size n w h = omega (arith, ints)

pub mirrored : (m : ℕ) (low r : ℤ) → InBand m low r → InBand m (neg_ℤ ((low +ℤ pos m) +ℤ neg_ℤ (pos 1))) (neg_ℤ r)
mirrored m low r b = let above = b.above in let below = b.below in record { above = omega (arith, ints); below = omega (arith, ints) }

pub turned_lawful : (s : Sense) (f : Figures) → Lawful f → Lawful (turned s f)
turned_lawful Upright f law = law
turned_lawful Inverted f law =
    let above = law.low_above in
    let below = law.low_below in
    record {
      modulus = law.modulus;
      low_above = omega (arith, ints);
      low_below = omega (arith, ints);
      bottom = law.bottom;
      top = law.top;
      light = λ p i. same_size _ (f.constants.weight p) (law.light p i);
      short = λ p i. same_size _ (f.constants.weight p) (law.short p i);
      position = law.position;
      residue = mirrored _ _ _ law.residue;
    }
