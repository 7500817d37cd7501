-- Nothing appended, one write after another, and how much room a write leaves.
use Rattle.std.proofs.Common.{◌≡◌, ℕ, ◌-◌, List, [], ◌++◌, length, drop, sym, refl, ap, ◌∙◌, append_assoc, append-nil, length-append, length-drop}
use Rattle.std.proofs.lemmas.List.{drop-drop}
use Rattle.buffer.specs.Cursor.{written, rest, Appends}
use Rattle.buffer.specs.declared.Cursor.{Cursor}

pub nothing : (a : Cursor) → Appends [] a a
nothing a = record { same_reference = refl; written_is = sym (append-nil (written a)); rest_is = refl }

pub then : {xs ys : List ℕ} {a b c : Cursor} → Appends xs a b → Appends ys b c → Appends (xs ++ ys) a c
then {xs} {ys} {a} {b} {c} p q = record {
  same_reference = q.same_reference ∙ p.same_reference;
  written_is = q.written_is ∙ ap (λ w. w ++ ys) p.written_is ∙ append_assoc (written a) xs ys;
  rest_is = q.rest_is ∙ ap (drop (length ys)) p.rest_is ∙ drop-drop (length ys) (length xs) (rest a) ∙ ap (λ n. drop n (rest a)) (sym (length-append xs ys));
}

-- how much room a write leaves
pub length-rest : {xs : List ℕ} {a b : Cursor} → Appends xs a b → length (rest b) ≡ length (rest a) - length xs
length-rest {xs} {a} {b} p = ap length p.rest_is ∙ length-drop (length xs) (rest a)
