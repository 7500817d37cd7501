-- Capital hexadecimal: the digit of a number below 16, the last k digits of a number, and figures in digits one after another.
use Rattle.std.specs.Prelude.{◌≡◌, ℕ, zero, suc, ◌+◌, ◌/◌, ◌%◌, ◌^◌, ◌<◌, cond, ◌⊎◌, List, [], ◌∷◌, ◌++◌, length, ◌≢◌, nat_lt, slice_index}
use Rattle.std.specs.List.{AllZip}

-- 0 to 9, then A to F
abbrev pub digit : ℕ → ℕ
digit v = cond (nat_lt v 10) (48 + v) (55 + v)

-- the last k digits of v
unfoldable pub hex : ℕ → ℕ → List ℕ
hex zero v = []
hex (suc k) v = hex k (v / 16) ++ digit (v % 16) ∷ []

-- figures one after another, each with as many digits as its width says
abbrev pub hexes : List ℕ → List ℕ → List ℕ
hexes [] vs = []
hexes (w ∷ ws) [] = []
hexes (w ∷ ws) (v ∷ vs) = hex w v ++ hexes ws vs

-- each figure has room in its width
abbrev pub Writable : List ℕ → List ℕ → Type 0
Writable ws vs = AllZip (λ w v. v < 16 ^ w) ws vs

-- the byte is no digit
abbrev pub NoDigit : ℕ → Type 0
NoDigit b = (v : ℕ) → v < 16 → b ≢ digit v

-- the byte is the digit of some number below 16
abbrev pub IsDigit : ℕ → Type 0
IsDigit b = (v : ℕ) × (v < 16) × (b ≡ digit v)

-- k bytes, each of them a digit
pub record Digits (k : ℕ) (ds : List ℕ) : Type 0 where
  pub many : length ds ≡ k
  pub each : (i : ℕ) → i < length ds → IsDigit (slice_index ds i)

-- some byte of the list is no digit
abbrev pub NoDigits : List ℕ → Type 0
NoDigits ds = (i : ℕ) × (i < length ds) × NoDigit (slice_index ds i)

-- not k digits: another number of bytes, or one that is no digit
abbrev pub BadDigits : ℕ → List ℕ → Type 0
BadDigits k ds = (length ds ≢ k) ⊎ NoDigits ds
