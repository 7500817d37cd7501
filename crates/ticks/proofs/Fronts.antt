-- A loop over the front of a list reads the elements of the list itself.
use Rattle.std.proofs.Common.{◌≡◌, ℕ, ◌<◌, ◌≤◌, List, length, get_or, take, ◌∙◌, arith}
use Rattle.std.proofs.lemmas.List.{get_or_read, get_or-take, length-take-le}

pub read_in_front : {X : Type 0} (xs : List X) (n i : ℕ) (x : X) → n ≤ length xs → i < length (take n xs) → x ≡ get_or (take n xs) i x → (d : X) → x ≡ get_or xs i d
read_in_front xs n i x fits within is d =
    let front = length-take-le n xs fits in
    get_or_read (take n xs) i x within is d ∙ get_or-take n xs i d (omega arith)
