-- Vectors of the same items are equal.
use Rattle.std.proofs.Common.{◌≡◌, ℕ, ◌-◌, ◌≤◌, List, ◌++◌, length, drop, replicate, sym, ap, ◌∙◌, subst, arith, length-take-le}
use Rattle.std.proofs.Math.Bridge.{le_prop}
use Rattle.std.proofs.Math.Nat.{ℕ_set}
use Rattle.fixedvec.specs.Items.{items}
use Rattle.fixedvec.specs.declared.Filler.{Ghosts}
use Rattle.fixedvec.specs.declared.FixedVec.{FixedVec}
use Rattle.fixedvec.proofs.Places.{used_and_spare}

abbrev holding : {T : Type 0} {cap : ℕ} {b : Ghosts T} (xs : List T) (n : ℕ) → n ≤ cap → length xs ≡ cap → drop n xs ≡ replicate (cap - n) b.filler → FixedVec T cap b
holding xs n few full spare = record { places = xs; len = n; few = few; full = full; spare = spare }

same_fields : {T : Type 0} {cap : ℕ} {b : Ghosts T} → IsSet (List T) → (v : FixedVec T cap b) (ys : List T) (m : ℕ) → v.places ≡ ys → v.len ≡ m → (few : m ≤ cap) (full : length ys ≡ cap) (spare : drop m ys ≡ replicate (cap - m) b.filler) → v ≡ holding ys m few full spare
same_fields {T} {cap} {b} set v ys m e k =
    subst (λ (zs : List T). (few : m ≤ cap) (full : length zs ≡ cap) (spare : drop m zs ≡ replicate (cap - m) b.filler) → v ≡ holding zs m few full spare) e
    (subst (λ (n : ℕ). (few : n ≤ cap) (full : length v.places ≡ cap) (spare : drop n v.places ≡ replicate (cap - n) b.filler) → v ≡ holding v.places n few full spare) k
    (λ few full spare j. holding v.places v.len (le_prop v.few few j) (ℕ_set _ _ v.full full j) (set _ _ v.spare spare j)))

pub same_items : {T : Type 0} {cap : ℕ} {b : Ghosts T} → IsSet (List T) → (v w : FixedVec T cap b) → items v ≡ items w → v ≡ w
same_items {T} {cap} {b} set v w e =
    let len : v.len ≡ w.len = sym (length-take-le v.len v.places (omega (arith, v.few, v.full))) ∙ ap length e ∙ length-take-le w.len w.places (omega (arith, w.few, w.full)) in
    let places : v.places ≡ w.places = sym (used_and_spare b.filler v.places v.len cap v.spare) ∙ (λ i. e i ++ replicate (cap - len i) b.filler) ∙ used_and_spare b.filler w.places w.len cap w.spare in
    same_fields set v w.places w.len places len w.few w.full w.spare
