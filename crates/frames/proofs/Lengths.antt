-- How long a text is, and how it ends.
use Rattle.std.proofs.Common.{◌≡◌, ℕ, ◌+◌, ◌-◌, ◌≤◌, List, [], ◌∷◌, ◌++◌, length, get_or, sum, sym, ap, ◌∙◌, arith, length-append}
use Rattle.std.proofs.lemmas.List.{get_or_at, append_assoc}
use Rattle.frames.specs.Faults.{Extent, longest}
use Rattle.frames.specs.Frames.{Frame, widths, line, text}
use Rattle.frames.proofs.Lines.{length-line}

-- a line has its letter, its digits and its line feed
pub length-text_more : (f : Frame) (above : List Frame) → length (text (f ∷ above)) ≡ length (text above) + (sum (widths f) + 2)
length-text_more f above = omega (arith, length-append (text above) (line f ++ 10 ∷ []), length-append (line f) (10 ∷ []), length-line f)

ends_in : (xs : List ℕ) (n : ℕ) → n ≡ length (xs ++ 10 ∷ []) → get_or (xs ++ 10 ∷ []) (n - 1) 0 ≡ 10
ends_in xs n e = get_or_at xs 10 [] 0 (n - 1) (omega (arith, length-append xs (10 ∷ [])))

text_ends : (f : Frame) (above : List Frame) → get_or (text (f ∷ above)) (length (text (f ∷ above)) - 1) 0 ≡ 10
text_ends f above =
    let e : text (f ∷ above) ≡ (text above ++ line f) ++ 10 ∷ [] = sym (append_assoc (text above) (line f) (10 ∷ [])) in
    ap (λ t. get_or t (length (text (f ∷ above)) - 1) 0) e ∙ ends_in (text above ++ line f) (length (text (f ∷ above))) (ap length e)

pub text_extent : (f : Frame) (above : List Frame) → length (text (f ∷ above)) ≤ longest → Extent (text (f ∷ above))
text_extent f above h = record { some = omega (arith, length-text_more f above); few = h; ends = text_ends f above }
