use Rattle.std.proofs.Common.{◌≡◌, ℕ, ◌<◌, Bool, true, false, List, length, MatchBool, inr, rules, tests, arith}
use Rattle.std.specs.List.{AllWithin, HoldsAt}
use Rattle.std.proofs.lemmas.Iterator.{cases_from_all, YieldsList-from_slice}
use Rattle.hexa.specs.Hex.{IsDigit, NoDigit, Digits, BadDigits}
use Rattle.hexa.proofs.are_digits.Goals as goal

by_each : (r : Bool) (bs : List ℕ) (n : ℕ) → length bs ≡ n → MatchBool r (AllWithin IsDigit bs 0 (length bs)) ((i : ℕ) × (i < length bs) × HoldsAt NoDigit bs i) → MatchBool r (Digits n bs) (BadDigits n bs)
by_each true bs n many each = record { many = many; each = λ i l. each i 0 (omega arith) l }
by_each false bs n many (i, l, none) = inr (i, l, none 0)

pub returns-then-bytes-count : goal.returns-then-bytes-count
returns-then-bytes-count c =
    let told = cases_from_all _ _ c.all.result IsDigit NoDigit c.all.ensures.ran (YieldsList-from_slice c.args.bytes.now cc) (λ x q k. search (rules, tests)) (λ x q k. search (rules, tests)) in
    by_each _ _ _ c.if-bytes-count.true told
