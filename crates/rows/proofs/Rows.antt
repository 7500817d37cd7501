-- A row, number by number: one more of them, its length, and its parts.
use Rattle.std.proofs.Common.{◌≡◌, ℕ, zero, suc, ◌+◌, ◌<◌, ◌≤◌, max, List, [], ◌∷◌, ◌++◌, length, get_or, take, ℤ, pos, sym, refl, ap, ◌∙◌, arith, length-append, w64, SFits, to_z, of_z}
use Rattle.std.specs.List.{between}
use Rattle.std.specs.Fmt.{signed_decimal}
use Rattle.std.proofs.lemmas.List.{take_more, flat_map_more}
use Rattle.std.proofs.lemmas.Slice.{first_rest}
use Rattle.std.proofs.lemmas.Int.{to_z-of_z}
use Rattle.rows.specs.Rows.{row_bytes, spaced}

-- the number at a place, as a call is passed it: to its bits and back
abbrev passed : List ℤ → ℕ → ℤ
passed zs i = to_z w64 (of_z w64 (get_or zs i (pos 0)))

pub spaced_more : (zs : List ℤ) (i : ℕ) → i < length zs → SFits w64 (get_or zs i (pos 0)) → spaced (take (i + 1) zs) ≡ spaced (take i zs) ++ 32 ∷ signed_decimal (passed zs i)
spaced_more zs i h fits =
    rw (to_z-of_z w64 (get_or zs i (pos 0)) fits)
    (ap spaced (take_more zs i (pos 0) h) ∙ sym (flat_map_more (λ z. 32 ∷ signed_decimal z) [] (take i zs) (get_or zs i (pos 0))))

length_more : (zs : List ℤ) (i : ℕ) → i < length zs → SFits w64 (get_or zs i (pos 0)) → length (spaced (take (i + 1) zs)) ≡ length (spaced (take i zs)) + length (signed_decimal (passed zs i)) + 1
length_more zs i h fits = omega (arith, simp length-append at (ap length (spaced_more zs i h fits)))

spaced_within : (zs : List ℤ) (i : ℕ) → length (spaced (take i zs)) ≤ length (spaced zs)
spaced_within zs zero = omega arith
spaced_within [] (suc i) = omega arith
spaced_within (z ∷ zs) (suc i) = let within = spaced_within zs i in simp length-append (omega arith)

-- the next number is one of those that the whole length counts
pub more_within : (zs : List ℤ) (i : ℕ) → i < length zs → SFits w64 (get_or zs i (pos 0)) → length (spaced (take i zs)) + length (signed_decimal (passed zs i)) + 1 ≤ length (spaced zs)
more_within zs i h fits = omega (arith, length_more zs i h fits, spaced_within zs (i + 1))

-- the line feed makes up for the space that the first number does without
pub length-row : (zs : List ℤ) → length (row_bytes zs) ≡ max (length (spaced zs)) 1
length-row [] = refl
length-row (z ∷ zs) = simp length-append (omega arith)

pub row_none : (zs : List ℤ) → length zs < 1 → row_bytes zs ≡ 10 ∷ []
row_none [] h = refl
row_none (z ∷ zs) h = absurd (omega arith)

pub row_parts : (zs : List ℤ) → 0 < length zs → SFits w64 (get_or zs 0 (pos 0)) → row_bytes zs ≡ signed_decimal (passed zs 0) ++ (spaced (between 1 (length zs) zs) ++ 10 ∷ [])
row_parts zs h fits = rw (to_z-of_z w64 (get_or zs 0 (pos 0)) fits) (ap row_bytes (first_rest zs (pos 0) h))
