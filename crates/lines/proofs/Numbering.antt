-- The lines of a text, one after another.
use Rattle.std.specs.Iterator.{Yields, SkipsThenYields}
use Rattle.std.proofs.Common.{◌≡◌, ℕ, suc, ◌+◌, ◌-◌, ◌<◌, ◌≤◌, cond, Some, None, add-zero, List, [], ◌∷◌, ◌++◌, length, get_or, take, drop, sym, refl, ap, ◌∙◌, ⊎_elim, append-nil, arith, length-append, length-drop}
use Rattle.std.proofs.lemmas.List.{drop_all, drop-drop, get_or-drop, take_at}
use Rattle.std.proofs.lemmas.List.Sums.{sum_by_more}
use Rattle.std.proofs.lemmas.Bool.{ne_eqb}
use Rattle.frames.specs.Faults.{NoFeed}
use Rattle.hexa.specs.Hex.{Digits}
use Rattle.lines.specs.Kinds.{Lettered, letter_of, digits_of, size_of}
use Rattle.lines.specs.Taken.{LineIs, FrameTaken}
use Rattle.lines.specs.declared.frame.Frame.{Frame}
use Rattle.lines.specs.Lines.{begin_with, lines_of, place_after, LineAt, NextLine}
use Rattle.lines.specs.declared.reader.LineReader.{LineReader}
use Rattle.lines.specs.declared.reader.Part.{Part}

other_byte : (b : ℕ) (t : List ℕ) → (b ≡ 10 → ⊥) → lines_of (b ∷ t) ≡ begin_with b (lines_of t)
other_byte b t h = ap (λ x. cond x ([] ∷ lines_of t) (begin_with b (lines_of t))) (ne_eqb b 10 h)

-- a line and its line feed in front of a text
pub lines_cut : (l r : List ℕ) → NoFeed l → lines_of (l ++ 10 ∷ r) ≡ l ∷ lines_of r
lines_cut [] r h = refl
lines_cut (b ∷ l) r h = other_byte b (l ++ 10 ∷ r) (h 0 (omega arith)) ∙ ap (begin_with b) (lines_cut l r (λ i k. h (suc i) (omega arith)))

-- a last line without a line feed
lines_one : (l : List ℕ) → NoFeed l → 0 < length l → lines_of l ≡ l ∷ []
lines_one [] h k = absurd (omega arith)
lines_one (b ∷ []) h k = other_byte b [] (h 0 (omega arith))
lines_one (b ∷ c ∷ l) h k = other_byte b (c ∷ l) (h 0 (omega arith)) ∙ ap (begin_with b) (lines_one (c ∷ l) (λ i j. h (suc i) (omega arith)) (omega arith))

-- k lines of the text are above the place at
pub record Reached (t : List ℕ) (k at : ℕ) : Type 0 where
  pub rest : drop k (lines_of t) ≡ lines_of (drop at t)
  pub place : at < length t → at ≡ place_after k t

pub start : (t : List ℕ) → Reached t 0 0
start t = record { rest = refl; place = λ h. refl }

module _ {t : List ℕ} {k at : ℕ} (r : Reached t k at) where
  -- the line at the place, and the lines below it
  below : (l : List ℕ) (next : ℕ) → LineAt t at l next → lines_of (drop at t) ≡ l ∷ lines_of (drop next t)
  below l next h =
      ⊎_elim
      (λ e. ap lines_of e ∙ lines_cut l (drop next t) h.plain)
      (λ e.
      let n : 0 < length l = omega (arith, ap length e.0, length-drop at t, h.on, h.within) in
      ap lines_of e.0 ∙ lines_one l h.plain n ∙ ap (λ x. l ∷ lines_of x) (sym (drop_all next t (omega (arith, e.1)))))
      h.cut

  pub there : (l : List ℕ) (next : ℕ) → LineAt t at l next → (k < length (lines_of t)) × (get_or (lines_of t) k [] ≡ l)
  there l next h =
      let e = r.rest ∙ below l next h in
      let z : k + 0 ≡ k = omega arith in
      (omega (arith, length-drop k (lines_of t), ap length e), sym (ap (λ i. get_or (lines_of t) i []) z) ∙ sym (get_or-drop k (lines_of t) 0 []) ∙ ap (λ x. get_or x 0 []) e)

  -- a line that ends before the text does has a line feed
  next_place : (l : List ℕ) (next : ℕ) → LineAt t at l next → next < length t → next ≡ at + (length l + 1)
  next_place l next h lt =
      ⊎_elim
      (λ e. omega (arith, ap length e, length-append l (10 ∷ drop next t), length-drop at t, length-drop next t, h.on, h.within))
      (λ e. absurd (omega (arith, e.1)))
      h.cut

  pub more : (l : List ℕ) (next : ℕ) → LineAt t at l next → Reached t (k + 1) next
  more l next h =
      let p = there l next h in
      record {
        rest = sym (drop-drop 1 k (lines_of t)) ∙ ap (drop 1) (r.rest ∙ below l next h);
        place = λ lt. omega (arith, next_place l next h lt, r.place (omega (arith, h.on)), sum_by_more (λ x. length x + 1) (lines_of t) k [] p.0, ap length p.1);
      }

  pub no_more : length t ≤ at → length (lines_of t) ≤ k
  no_more h = omega (arith, length-drop k (lines_of t), ap length (r.rest ∙ ap lines_of (drop_all at t h)))

-- the line that `nth` gives after n others, by its place
pub record Nth (t : List ℕ) (n : ℕ) (line : Part) : Type 0 where
  pub next : ℕ
  pub reached : Reached t n line.at
  pub cut : LineAt t line.at line.bytes.now next

module _ (t : List ℕ) where
  -- where calls of `next` lead
  passed : (k : ℕ) (ls : List Part) (r s : LineReader) → r.text.now ≡ t → Reached t k r.at → Yields NextLine r ls s → (s.text.now ≡ t) × Reached t (k + length ls) s.at
  passed k [] r s e h y = rw (← y, add-zero) (e, h)
  passed k (l ∷ ls) r s e h (q, step, y) =
      let m = more h l.bytes.now q.at (rw e at step.cut) in
      let n : k + length (l ∷ ls) ≡ k + 1 + length ls = omega arith in
      rw n (passed (k + 1) ls q s (step.text ∙ e) m y)

  pub nth_none : (n : ℕ) (r u : LineReader) → r.text.now ≡ t → r.at ≡ 0 → SkipsThenYields NextLine r n None u → length (lines_of t) ≤ n
  nth_none n r u e z (ls, (s, y, end), few) =
      let p = passed 0 ls r s e (rw z (start t)) y in
      omega (arith, no_more p.1 (rw p.0 at end.end))

  pub nth_some : (n : ℕ) (r u : LineReader) (line : Part) → r.text.now ≡ t → r.at ≡ 0 → SkipsThenYields NextLine r n (Some line) u → Nth t n line
  nth_some n r u line e z (ls, (s, y, step), many) =
      let p = passed 0 ls r s e (rw z (start t)) y in
      let count : 0 + length ls ≡ n = omega arith in
      record {
        next = u.at;
        reached = rw (step.at, ← count) p.1;
        cut = rw (step.at, ← p.0) step.cut;
      }

-- a line at a place, with what follows it
line_then : (t : List ℕ) (at : ℕ) (l : List ℕ) (next : ℕ) → LineAt t at l next → (x : List ℕ) × (drop at t ≡ l ++ x)
line_then t at l next h = ⊎_elim (λ e. (10 ∷ drop next t, e)) (λ e. ([], e.0 ∙ sym (append-nil l))) h.cut

-- what follows the letter of a line, as a part of the text
line_part : (t : List ℕ) (at b : ℕ) (ds : List ℕ) (next : ℕ) → LineAt t at (b ∷ ds) next → take (length ds) (drop (at + 1) t) ≡ ds
line_part t at b ds next h =
    let p = line_then t at (b ∷ ds) next h in
    let e : drop (at + 1) t ≡ ds ++ p.0 = sym (drop-drop 1 at t) ∙ ap (drop 1) p.1 in
    ap (take (length ds)) e ∙ take_at ds p.0 (length ds) refl

-- the line with a number, counted from 1, and the frame that it is
module _ {t : List ℕ} {n : ℕ} {line : Part} (low : 1 ≤ n) (l : Nth t (n - 1) line) where
  pub line_is : LineIs t n line.bytes.now
  line_is = let p = there l.reached line.bytes.now l.next l.cut in record { low = low; high = omega (arith, p.0); is = p.1 }

  pub line_room : line.at + length line.bytes.now ≤ length t
  line_room = let p = line_then t line.at line.bytes.now l.next l.cut in omega (arith, ap length p.1, length-append line.bytes.now p.0, length-drop line.at t, l.cut.on, l.cut.within)

  module _ {f : Frame} (told : Lettered line f) where
    pub line_lettered : LineIs t n (letter_of f ∷ (digits_of f).bytes.now)
    line_lettered = rw told.is at line_is

    pub frame_taken : (digits_of f).at ≡ line.at + 1 → Digits (size_of f) (digits_of f).bytes.now → FrameTaken t n f
    frame_taken at digits = record {
      line = line_lettered;
      digits = digits;
      place = at ∙ ap (λ k. k + 1) (l.reached.place (omega (arith, l.cut.on, l.cut.within)));
      part = rw at (line_part t line.at (letter_of f) (digits_of f).bytes.now l.next (rw told.is at l.cut));
    }
