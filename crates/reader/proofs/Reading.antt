-- One line more, a line that is wrong, and a line that is missing.
use Rattle.std.proofs.Common.{◌≡◌, ℕ, ◌+◌, ◌-◌, ◌≤◌, List, [], ◌∷◌, ◌++◌, length, get_or, drop, Option, Some, None, ok_or, Result, Ok, Err, sym, ap, ◌∙◌, subst, ⊎_elim, append-nil, add-one, arith, length-drop}
use Rattle.std.proofs.lemmas.List.{get_or-drop, drop_all}
use Rattle.std.specs.Result.{MatchResult, IsErrAnd}
use Rattle.frames.specs.Faults.{Extent, LineFault, Fault, wrong, missing}
use Rattle.frames.specs.Frames.{Frame, line, text}
use Rattle.frames.specs.Rules.{Keeps, how_many, is_last}
use Rattle.frames.proofs.Fronts.{text_more}
use Rattle.lines.specs.Lines.{LineAt, Advanced, NextLine}
use Rattle.lines.specs.declared.reader.LineReader.{LineReader}
use Rattle.lines.specs.declared.reader.Part.{Part}
use Rattle.unit.specs.declared.refusal.Refusal.{Refusal}
use Rattle.unit.specs.declared.refusal.Refusal.TheVariants.{FrameOrder}
use Rattle.unit.specs.declared.refusal.TextFault.{TextFault}
use Rattle.reader.specs.Phases.{Reading}

-- in a text that ends in a line feed each line has one
fed_line : (t l : List ℕ) (at next : ℕ) → Extent t → LineAt t at l next → drop at t ≡ l ++ 10 ∷ drop next t
fed_line t l at next x h =
    ⊎_elim (λ e. e)
    (λ e.
    let n : length t - at ≡ length l = sym (length-drop at t) ∙ ap length e.0 in
    let m : at + (length t - 1 - at) ≡ length t - 1 = omega (arith, h.on, h.within) in
    absurd (h.plain (length t - 1 - at) (omega (arith, h.on, h.within))
    (sym (ap (λ z. get_or z (length t - 1 - at) 0) e.0) ∙ get_or-drop at t (length t - 1 - at) 0 ∙ ap (λ i. get_or t i 0) m ∙ x.ends)))
    h.cut

pub start : (r : LineReader) (t : List ℕ) → Extent t → r.text.now ≡ t → r.at ≡ 0 → r.lines ≡ 0 → Reading r t []
start r t x e at lines = record { text_is = e; extent = x; lawful = tt; cut = sym (ap (λ i. drop i t) at); within = omega arith; numbered = lines; early = omega arith }

-- the next line where there is one
pub advanced : {before later : LineReader} {o : Option Part} {part : Part} → o ≡ Some part → NextLine before o later → Advanced before part later
advanced {before = before} {later = later} is step = subst (λ x. NextLine before x later) is step

module _ {before : LineReader} {t : List ℕ} {above : List Frame} (r : Reading before t above) where
  module _ {part : Part} {later : LineReader} (a : Advanced before part later) where
    line_at : LineAt t before.at part.bytes.now later.at
    line_at = subst (λ z. LineAt z before.at part.bytes.now later.at) r.text_is a.cut

    cut_more : t ≡ text above ++ (part.bytes.now ++ 10 ∷ drop later.at t)
    cut_more = r.cut ∙ ap (λ z. text above ++ z) (fed_line t part.bytes.now before.at later.at r.extent line_at)

    pub one_line : later.lines ≡ length above + 1
    one_line = a.lines r.early ∙ ap (λ n. n + 1) r.numbered

    pub more : (f : Frame) → Keeps above f → part.bytes.now ≡ line f → Reading later t (f ∷ above)
    more f k e = record {
      text_is = a.text ∙ r.text_is;
      extent = r.extent;
      lawful = (r.lawful, k);
      cut = cut_more ∙ ap (λ l. text above ++ (l ++ 10 ∷ drop later.at t)) e ∙ sym (text_more f above (drop later.at t));
      within = line_at.within;
      numbered = one_line ∙ add-one (length above);
      early = omega (arith, a.lines r.early, r.early, line_at.on);
    }

    pub wrong_line : (e : Refusal) → LineFault above part.bytes.now e → Fault t e (length above + 1)
    wrong_line e bad = wrong above part.bytes.now (drop later.at t) e r.extent r.lawful line_at.plain cut_more bad

  pub missing_line : length t ≤ before.at → how_many is_last above ≡ 0 → Fault t FrameOrder (length above + 1)
  missing_line h z = missing above r.extent r.lawful (r.cut ∙ ap (λ x. text above ++ x) (drop_all before.at t h) ∙ append-nil (text above)) z

-- a fault as the code says it
pub fault_as : (t : List ℕ) (e e' : Refusal) (n n' : ℕ) → e' ≡ e → n' ≡ n → Fault t e n → Fault t e' n'
fault_as t e e' n n' p q f = subst (λ z. Fault t z n') (sym p) (subst (Fault t e) (sym q) f)

module _ {before : LineReader} {t : List ℕ} {above : List Frame} (r : Reading before t above) where
  -- the fault f that there is no line; m is what `ok_or` was given for it
  pub missing_told : (o : Option Part) (later : LineReader) (m f : TextFault) → NextLine before o later → Err f ≡ ok_or o m → how_many is_last above ≡ 0 → m.refusal ≡ FrameOrder → m.line ≡ later.lines + 1 → Fault t f.refusal f.line
  missing_told (Some p) later m f next e z is at = absurd (let q : ⊥ = cc in q)
  missing_told None later m f next e z is at =
      let q : f ≡ m = cc in
      let h = fault_as _ _ _ _ _ is (at ∙ ap (λ n. n + 1) (ap (λ (l : LineReader). l.lines) next.same ∙ r.numbered)) (missing_line r (subst (λ x. length x ≤ before.at) r.text_is next.end) z) in
      subst (λ (g : TextFault). Fault t g.refusal g.line) (sym q) h

  -- what the line says, or its fault; W is what the closure of `map_err` answers
  pub entry_or_wrong : {part : Part} {later : LineReader} → Advanced before part later → {X : Type 0} (E : Result X Refusal → Type 0) → ((e : Refusal) → E (Err e) → LineFault above part.bytes.now e) → (told : Result X Refusal) (out : Result X TextFault) (W : Refusal → TextFault → Type 0) →
      MatchResult told (λ x. out ≡ Ok x) (λ e. IsErrAnd out (W e)) → E told → ((e : Refusal) (f : TextFault) → W e f → (f.refusal ≡ e) × (f.line ≡ later.lines)) →
      MatchResult out (λ x. E (Ok x)) (λ f. Fault t f.refusal f.line)
  entry_or_wrong a E bad (Ok x) (Ok y) W h k says = let e : y ≡ x = cc in subst (λ z. E (Ok z)) (sym e) k
  entry_or_wrong a E bad (Ok x) (Err f) W h k says = absurd (let e : ⊥ = cc in e)
  entry_or_wrong a E bad (Err e) (Ok y) W h k says = absurd h
  entry_or_wrong a E bad (Err e) (Err f) W h k says = let s = says e f h in fault_as _ _ _ _ _ s.0 (s.1 ∙ one_line r a) (wrong_line r a e (bad e k))
