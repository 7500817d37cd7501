-- What a push leaves of the unused places, the places by what is in them, and that there is a vector of any items that have room.
use Rattle.std.proofs.Common.{◌≡◌, ℕ, ◌+◌, ◌-◌, ◌≤◌, List, ◌++◌, length, take, drop, replicate, set, sym, ap, ◌∙◌, arith, take-append-drop, length-append}
use Rattle.std.proofs.lemmas.List.{drop-set-lt, drop-drop, drop-replicate, length-replicate}
use Rattle.std.proofs.Math.Seq.{take-append_seam, drop-append_seam}
use Rattle.fixedvec.specs.Items.{items}
use Rattle.fixedvec.specs.declared.Filler.{Ghosts}
use Rattle.fixedvec.specs.declared.FixedVec.{FixedVec}

pub spare_after : {T : Type 0} (filler x : T) (xs : List T) (n c : ℕ) → drop n xs ≡ replicate (c - n) filler → drop (n + 1) (set xs n x) ≡ replicate (c - (n + 1)) filler
spare_after filler x xs n c spare =
    let less : c - n - 1 ≡ c - (n + 1) = omega arith in
    drop-set-lt (n + 1) xs n x (omega arith)
    ∙ sym (drop-drop 1 n xs)
    ∙ ap (drop 1) spare
    ∙ drop-replicate 1 (c - n) filler
    ∙ ap (λ k. replicate k filler) less

-- the places are the used ones, and fillers behind them
pub used_and_spare : {T : Type 0} (filler : T) (xs : List T) (n c : ℕ) → drop n xs ≡ replicate (c - n) filler → take n xs ++ replicate (c - n) filler ≡ xs
used_and_spare filler xs n c spare = ap (λ ys. take n xs ++ ys) (sym spare) ∙ take-append-drop n xs

pub vector_of : {T : Type 0} {cap : ℕ} {b : Ghosts T} (xs : List T) → length xs ≤ cap → (v : FixedVec T cap b) × (items v ≡ xs)
vector_of {T} {cap} {b} xs h =
    let fillers = replicate (cap - length xs) b.filler in (
      record {
        places = xs ++ fillers;
        len = length xs;
        few = h;
        full = omega (arith, length-append xs fillers, length-replicate (cap - length xs) b.filler);
        spare = drop-append_seam xs fillers;
      },
      take-append_seam xs fillers,
    )
