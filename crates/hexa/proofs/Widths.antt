-- Figures read one after another.
use Rattle.std.proofs.Common.{◌≡◌, ℕ, ◌+◌, ◌^◌, ◌<◌, ◌≤◌, Bool, true, false, List, [], ◌∷◌, ◌++◌, length, get_or, take, set, sum, MatchOption, Decides, sym, ap, ◌∙◌, subst, inl, inr, refl, append_assoc, append-nil, arith, length-append, length-set, take-append-drop}
use Rattle.std.proofs.lemmas.List.Elements.{AllZip-push, length_all_zip}
use Rattle.std.proofs.lemmas.List.{take_more, take_more_set, take_all, nil_from_length, length-take-le, get_or_append_left, get_or-append-add}
use Rattle.std.proofs.lemmas.List.Sums.{sum_by-cons, sum_by_more, sum_by-take-le}
use Rattle.std.proofs.lemmas.Bool.{cases_lt, false≢true}
use Rattle.std.specs.Bool.{then_some}
use Rattle.std.specs.List.{IsSplitAt}
use Rattle.hexa.proofs.Digits.{length-hex}
use Rattle.hexa.specs.Hex.{hex, hexes, Writable, NoDigit, NoDigits, BadDigits}

hexes_push : (ws vs : List ℕ) (w v : ℕ) → length ws ≡ length vs → hexes (ws ++ w ∷ []) (vs ++ v ∷ []) ≡ hexes ws vs ++ hex w v
hexes_push [] [] w v n = append-nil (hex w v)
hexes_push [] (b ∷ vs) w v n = absurd (omega arith)
hexes_push (a ∷ ws) [] w v n = absurd (omega arith)
hexes_push (a ∷ ws) (b ∷ vs) w v n = ap (λ r. hex a b ++ r) (hexes_push ws vs w v (omega arith)) ∙ sym (append_assoc (hex a b) (hexes ws vs) (hex w v))

pub hexes_more : (ws vs : List ℕ) (i : ℕ) → i < length ws → i < length vs → hexes (take (i + 1) ws) (take (i + 1) vs) ≡ hexes (take i ws) (take i vs) ++ hex (get_or ws i 0) (get_or vs i 0)
hexes_more ws vs i h k =
    let a = length-take-le i ws (omega arith) in
    let b = length-take-le i vs (omega arith) in
    (λ j. hexes (take_more ws i 0 h j) (take_more vs i 0 k j)) ∙ hexes_push (take i ws) (take i vs) (get_or ws i 0) (get_or vs i 0) (a ∙ sym b)

abbrev Room : ℕ → ℕ → Type 0
Room w v = v < 16 ^ w

-- the first i figures, vs, are the digits before those that are left
pub record Sofar (ds ws vs left : List ℕ) (i : ℕ) : Type 0 where
  pub digits : ds ≡ hexes (take i ws) (take i vs) ++ left
  pub writable : Writable (take i ws) (take i vs)
  pub long : length vs ≡ length ws

pub length-hexes : (ws vs : List ℕ) → length ws ≡ length vs → length (hexes ws vs) ≡ sum ws
length-hexes [] [] n = refl
length-hexes [] (v ∷ vs) n = absurd (omega arith)
length-hexes (w ∷ ws) [] n = absurd (omega arith)
length-hexes (w ∷ ws) (v ∷ vs) n = omega (arith, length-append (hex w v) (hexes ws vs), length-hex w v, length-hexes ws vs (omega arith), sum_by-cons (λ x. x) w ws)

-- the first i figures and the next are some of those that all widths count
pub length-next : (ws vs : List ℕ) (i : ℕ) → length vs ≡ length ws → i < length ws → length (hexes (take i ws) (take i vs)) + get_or ws i 0 ≤ sum ws
length-next ws vs i n lt =
    let read = length-hexes (take i ws) (take i vs) (length-take-le i ws (omega arith) ∙ sym (length-take-le i vs (omega arith))) in
    omega (arith, read, sum_by_more (λ x. x) ws i 0 lt, sum_by-take-le (λ x. x) ws (i + 1))

module _ {ds ws vs left : List ℕ} {i : ℕ} (sofar : Sofar ds ws vs left i) where
  length-read : length (hexes (take i ws) (take i vs)) ≡ sum (take i ws)
  length-read = length-hexes (take i ws) (take i vs) (length_all_zip Room (take i ws) (take i vs) sofar.writable)

  length-left : length ds ≡ sum (take i ws) + length left
  length-left = omega (arith, length-read, ap length sofar.digits, length-append (hexes (take i ws) (take i vs)) left)

  -- too few digits for the next figure
  pub short : i < length ws → length left < get_or ws i 0 → BadDigits (sum ws) ds
  short lt few = inl (λ n. omega (arith, length-left, sum_by_more (λ x. x) ws i 0 lt, sum_by-take-le (λ x. x) ws (i + 1)))

  -- digits that no figure takes
  pub long : i ≡ length ws → 0 < length left → BadDigits (sum ws) ds
  long e some = inl (λ n. omega (arith, length-left, ap sum (take_all i ws (omega arith))))

  pub whole : i ≡ length ws → length left ≡ 0 → Writable ws vs × (ds ≡ hexes ws vs)
  whole e none =
      let a : take i ws ≡ ws = take_all i ws (omega arith) in
      let b : take i vs ≡ vs = take_all i vs (omega (arith, sofar.long)) in
      let digits : ds ≡ hexes (take i ws) (take i vs) = rw (nil_from_length left none, append-nil) at sofar.digits in
      (rw (a, b) at sofar.writable, rw (a, b) at digits)

  module _ {part after : List ℕ} (split : IsSplitAt left (get_or ws i 0) part after) where
    joined : ds ≡ (hexes (take i ws) (take i vs) ++ part) ++ after
    joined = rw (append_assoc, split.1, split.2, take-append-drop) sofar.digits

    -- a byte that is no digit
    pub bad : NoDigits part → BadDigits (sum ws) ds
    bad (j, l, none) =
        let front = hexes (take i ws) (take i vs) in
        let at : get_or part j 0 ≡ get_or ds (length front + j) 0 = sym (rw (joined, append_assoc, get_or-append-add, get_or_append_left part after 0 j l)) in
        inr (length front + j, omega (arith, ap length joined, length-append (front ++ part) after, length-append front part), subst NoDigit at none)

    pub more : (v : ℕ) → i < length ws → v < 16 ^ length part → part ≡ hex (length part) v → Sofar ds ws (set vs i v) after (i + 1)
    more v lt fits is =
        let w = get_or ws i 0 in
        let a : take (i + 1) ws ≡ take i ws ++ w ∷ [] = take_more ws i 0 lt in
        let b : take (i + 1) (set vs i v) ≡ take i vs ++ v ∷ [] = take_more_set vs i v (omega (arith, sofar.long)) in
        let n = length_all_zip Room (take i ws) (take i vs) sofar.writable in
        record {
          digits = rw (a, b, hexes_push (take i ws) (take i vs) w v n, ← split.3, ← is) joined;
          writable = rw (a, b) (AllZip-push Room (take i ws) (take i vs) w v sofar.writable (rw split.3 at fits));
          long = length-set vs i v ∙ sofar.long;
        }

  -- whether all the digits were read, once all the figures were
  pub done : i ≡ length ws → (b : Bool) → Decides b (length left ≡ 0) → MatchOption (then_some b vs) (BadDigits (sum ws) ds) (λ us. Writable ws us × (ds ≡ hexes ws us))
  done e true empty = whole e (empty.0 refl)
  done e false empty = long e (elim (cases_lt 0 (length left)) [ inl some ↦ some | inr none ↦ absurd (false≢true (empty.1 (omega arith))) ])
