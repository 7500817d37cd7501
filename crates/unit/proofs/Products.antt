-- Products of whole numbers: over a sum, and with a sign.
use Rattle.std.proofs.Common.{◌≡◌, zero, suc, ℤ, pos, negsuc, ◌+ℤ◌, ◌*ℤ◌, neg_ℤ, sym, ap, ◌∙◌, subst, arith}
use lib.IntN.{suc_ℤ, pred_ℤ, ℤ_ind, *ℤ_comm, *ℤ-zero, *ℤ-negsuc, neg_ℤ-neg_ℤ, zero-*ℤ, suc_ℤ-*ℤ, pred_ℤ-*ℤ, +ℤ_one, -ℤ_one}
use Rattle.std.proofs.lemmas.Int.{ints}

abbrev Splits : ℤ → ℤ → ℤ → Type 0
Splits b c a = a *ℤ (b +ℤ c) ≡ (a *ℤ b) +ℤ (a *ℤ c)

splits_none : (b c : ℤ) → Splits b c (pos zero)
splits_none b c = let x = zero-*ℤ (b +ℤ c) in let y = zero-*ℤ b in let z = zero-*ℤ c in omega (arith, ints)

splits_up : (b c a : ℤ) → Splits b c a → Splits b c (suc_ℤ a)
splits_up b c a h = let x = suc_ℤ-*ℤ a (b +ℤ c) in let y = suc_ℤ-*ℤ a b in let z = suc_ℤ-*ℤ a c in omega (arith, ints)

splits_down : (b c a : ℤ) → Splits b c a → Splits b c (pred_ℤ a)
splits_down b c a h = let x = pred_ℤ-*ℤ a (b +ℤ c) in let y = pred_ℤ-*ℤ a b in let z = pred_ℤ-*ℤ a c in omega (arith, ints)

pub times_plus : (a b c : ℤ) → a *ℤ (b +ℤ c) ≡ (a *ℤ b) +ℤ (a *ℤ c)
times_plus a b c =
    ℤ_ind (Splits b c) (splits_none b c)
    (λ n h. subst (Splits b c) (sym (+ℤ_one (pos n))) (splits_up b c (pos n) h))
    (λ n h. subst (Splits b c) (sym (-ℤ_one (neg_ℤ (pos n)))) (splits_down b c (neg_ℤ (pos n)) h))
    a

pub times_neg : (a b : ℤ) → a *ℤ neg_ℤ b ≡ neg_ℤ (a *ℤ b)
times_neg a (pos zero) = *ℤ-zero a ∙ sym (ap neg_ℤ (*ℤ-zero a))
times_neg a (pos (suc n)) = *ℤ-negsuc a n
times_neg a (negsuc n) = sym (ap neg_ℤ (*ℤ-negsuc a n) ∙ neg_ℤ-neg_ℤ (a *ℤ pos (suc n)))

pub neg_times : (a b : ℤ) → neg_ℤ a *ℤ b ≡ neg_ℤ (a *ℤ b)
neg_times a b = *ℤ_comm (neg_ℤ a) b ∙ times_neg b a ∙ ap neg_ℤ (*ℤ_comm b a)
