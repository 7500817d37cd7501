-- One more digit, the digits of a number without its last ones, the length, and that a number is known by its digits.
use Rattle.std.proofs.Common.{◌≡◌, ℕ, zero, suc, ◌+◌, ◌-◌, ◌*◌, ◌/◌, ◌%◌, ◌^◌, ◌<◌, ◌≤◌, [], ◌∷◌, ◌++◌, length, sym, refl, ap, ◌∙◌, pow-add, pow-suc, add-one, arith}
use Rattle.std.proofs.Math.Nat.{div-div-eq-div-mul, div-eq_of_lt, pow-le-pow_right}
use Rattle.std.proofs.lemmas.List.{length_push, same_from_push}
use Rattle.std.proofs.lemmas.Bool.Decides.{nat_tests}
use Rattle.std.specs.List.{AllByRecursion}
use Rattle.std.proofs.ByRecursion.{All-push}
use Rattle.hexa.specs.Hex.{digit, hex, IsDigit}

pub hex_push : (k v x : ℕ) → x < 16 → hex (k + 1) (v * 16 + x) ≡ hex k v ++ digit x ∷ []
unfolding hex
hex_push k v x h =
    let q : (v * 16 + x) / 16 ≡ v = omega arith in
    let m : (v * 16 + x) % 16 ≡ x = omega arith in
    rw (add-one, q, m)

pub length-hex : (k v : ℕ) → length (hex k v) ≡ k
unfolding hex
length-hex zero v = refl
length-hex (suc k) v = length_push (hex k (v / 16)) _ ∙ (rw (length-hex k (v / 16)) (add-one k))

same_from_digit : (x y : ℕ) → x < 16 → y < 16 → digit x ≡ digit y → x ≡ y
same_from_digit x y hx hy e = grind (arith, nat_tests)

-- two numbers of k digits with the same digits are one
pub same_from_hex : (k v w : ℕ) → v < 16 ^ k → w < 16 ^ k → hex k v ≡ hex k w → v ≡ w
unfolding hex
same_from_hex zero v w hv hw e = omega arith
same_from_hex (suc k) v w hv hw e =
    let p = same_from_push _ _ _ _ e in
    let pv : v < 16 ^ k * 16 = rw pow-suc at hv in
    let pw : w < 16 ^ k * 16 = rw pow-suc at hw in
    let q : v / 16 ≡ w / 16 = same_from_hex k (v / 16) (w / 16) (omega arith) (omega arith) p.0 in
    let m : v % 16 ≡ w % 16 = same_from_digit _ _ (omega arith) (omega arith) p.1 in
    omega arith

pub hex_none : (v : ℕ) → hex 0 v ≡ []
unfolding hex
hex_none v = refl

-- one digit more keeps within one power more
pub room_more : (i v x : ℕ) → v < 16 ^ i → x < 16 → v * 16 + x < 16 ^ (i + 1)
room_more i v x hv hx = rw (add-one, pow-suc) (omega arith)

pub hex_last : (i v : ℕ) → 0 < i → hex i v ≡ hex (i - 1) (v / 16) ++ digit (v % 16) ∷ []
hex_last i v h =
    let e : v / 16 * 16 + v % 16 ≡ v = omega arith in
    let s : i - 1 + 1 ≡ i = omega arith in
    sym (ap (λ n. hex n v) s) ∙ ap (λ w. hex (i - 1 + 1) w) (sym e) ∙ hex_push (i - 1) (v / 16) (v % 16) (omega arith)

pub digits_hex : (k v : ℕ) → AllByRecursion IsDigit (hex k v)
unfolding hex
digits_hex zero v = tt
digits_hex (suc k) v = All-push IsDigit (hex k (v / 16)) _ (digits_hex k (v / 16)) (v % 16, omega arith, refl)

pub digit_high : (b : ℕ) → IsDigit b → 48 ≤ b
digit_high b (d, h, e) = grind (arith, nat_tests)

-- a digit has four bits
pub four_bits : (n : ℕ) → 2 ^ (4 * n) ≡ 16 ^ n
four_bits zero = refl
four_bits (suc n) =
    let e : 4 * suc n ≡ 4 * n + 4 = omega arith in
    ap (λ k. 2 ^ k) e ∙ pow-add 2 (4 * n) 4 ∙ ap (λ k. k * 16) (four_bits n) ∙ sym (pow-suc 16 n)

-- no more than eight digits tell anything of 32 bits
pub none_left : (v n : ℕ) → v < 2 ^ 32 → 8 ≤ n → v / 16 ^ n ≡ 0
none_left v n h k = div-eq_of_lt (let p : 16 ^ 8 ≤ 16 ^ n = pow-le-pow_right (omega arith) k in omega arith)

-- the digits down to one place are those above it, and the one there
pub hex_down : (w p v : ℕ) → p < w → hex (w - p) (v / 16 ^ p) ≡ hex (w - (p + 1)) (v / 16 ^ (p + 1)) ++ digit (v / 16 ^ p % 16) ∷ []
hex_down w p v h =
    let less : w - p - 1 ≡ w - (p + 1) = omega arith in
    let more : v / 16 ^ p / 16 ≡ v / 16 ^ (p + 1) = div-div-eq-div-mul v (16 ^ p) 16 ∙ ap (λ k. v / k) (sym (ap (λ k. 16 ^ k) (add-one p) ∙ pow-suc 16 p)) in
    hex_last (w - p) (v / 16 ^ p) (omega arith) ∙ (λ i. hex (less i) (more i) ++ digit (v / 16 ^ p % 16) ∷ [])
