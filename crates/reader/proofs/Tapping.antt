-- One tap more.
use Rattle.std.proofs.Common.{◌≡◌, ℕ, zero, suc, ◌<◌, ◌≤◌, List, [], ◌∷◌, ◌++◌, length, sym, ◌∙◌, subst, arith}
use Rattle.std.specs.List.{All}
use Rattle.std.proofs.lemmas.List.{length_push}
use Rattle.std.proofs.lemmas.List.Elements.{All-nil, All-push}
use Rattle.entries.specs.Entries.{TailWanted, TapRead}
use Rattle.entries.specs.Turns.{Began, Turn, Taps}
use Rattle.entries.specs.declared.latest.Latest.{Latest}
use Rattle.entries.proofs.Letters.{below_count}
use Rattle.entries.proofs.Turning.{no_taps_yet}
use Rattle.frames.specs.Frames.{Frame}
use Rattle.frames.specs.Rules.{UnitsStand, counted, how_many, is_last}
use Rattle.frames.proofs.Counts.{counted_few, counted_some}
use Rattle.lines.specs.Lines.{Advanced}
use Rattle.lines.specs.declared.reader.LineReader.{LineReader}
use Rattle.lines.specs.declared.reader.Part.{Part}
use Rattle.sheet.specs.Patches.{tap_frame, unit_frames, tap_frames, HasSource}
use Rattle.sheet.specs.declared.parts.Plug.{Plug}
use Rattle.sheet.specs.declared.parts.UnitFigures.{UnitFigures}
use Rattle.sheet.proofs.Slices.{taps_push}
use Rattle.sheet.proofs.Counting.{units_counted, units_many, units_open, units_no_latest, taps_counted, taps_units, taps_open}
use Rattle.reader.specs.Phases.{Reading}
use Rattle.reader.proofs.Reading.{more}

-- these taps below the frames of c units
pub record Sofar (t : List ℕ) (above : List Frame) (c : ℕ) (ps : List Plug) (l : Latest) (r : LineReader) : Type 0 where
  pub stand : UnitsStand above
  pub counted_is : counted above ≡ c
  pub reading : Reading r t (tap_frames above ps (length ps))
  pub sourced : All (HasSource c) ps
  pub room : length ps ≤ 320
  pub turn : Turn (tap_frames above ps (length ps)) l (length ps)

-- all units stand

some_units : (c : ℕ) (us : List UnitFigures) (r : LineReader) (t : List ℕ) (k : ℕ) → Reading r t (unit_frames c us k) → 1 ≤ counted (unit_frames c us k)
some_units c us r t zero h = counted_some _ _ h.lawful
some_units c us r t (suc k) h = counted_some _ _ h.lawful

pub few_units : (c : ℕ) (us : List UnitFigures) (r : LineReader) (t : List ℕ) (k : ℕ) → Reading r t (unit_frames c us k) → c ≤ 64
few_units c us r t k h = omega (arith, counted_few (unit_frames c us k) h.lawful, units_counted c us k)

pub start : (c : ℕ) (us : List UnitFigures) (t : List ℕ) (l : Latest) (r : LineReader) → Reading r t (unit_frames c us c) → Began l → Sofar t (unit_frames c us c) c [] l r
start c us t l r h b =
    let yet : Taps (unit_frames c us c) l.unit l.taps l.ys 0 = subst (λ a. Taps (unit_frames c us c) l.unit a l.ys 0) (sym b.taps) (subst (λ a. Taps (unit_frames c us c) l.unit 0 a 0) (sym b.ys) (no_taps_yet c us c l.unit)) in
    record {
      stand = record { some = some_units c us r t c h; all = units_many c us c ∙ sym (units_counted c us c); open_end = units_open c us c };
      counted_is = units_counted c us c;
      reading = h;
      sourced = All-nil (HasSource c);
      room = omega arith;
      turn = record {
        unit = units_no_latest c us c ∙ sym b.unit;
        so_far = yet;
      };
    }

module _ {t : List ℕ} {above : List Frame} {c : ℕ} {ps : List Plug} {l : Latest} {r : LineReader} (sofar : Sofar t above c ps l r) where
  abbrev here : List Frame
  here = tap_frames above ps (length ps)

  counted_here : counted here ≡ c
  counted_here = taps_counted above ps (length ps) ∙ sofar.counted_is

  pub open_end : how_many is_last here ≡ 0
  open_end = taps_open above ps (length ps) ∙ sofar.stand.open_end

  pub wanted : TailWanted here c l (length ps)
  wanted = record {
    stand = record { some = subst (λ k. 1 ≤ k) (sym (taps_counted above ps (length ps))) sofar.stand.some; all = taps_units above ps (length ps) ∙ sofar.stand.all ∙ sym (taps_counted above ps (length ps)); open_end = open_end };
    counted = counted_here;
    turn = sofar.turn;
  }

  module _ {part : Part} {later : LineReader} (a : Advanced r part later) where
    -- there is a place for the tap: 64 units have five taps each at most
    pub place : (p : Plug) (next : Latest) → TapRead here c (length ps) part.bytes.now p next → length ps < 320
    place p next h =
        let low : p.unit < c = subst (λ k. p.unit < k) counted_here (below_count here p.input p.unit _ _ h.keeps.ordered) in
        let high : c ≤ 64 = subst (λ k. k ≤ 64) counted_here (counted_few here sofar.reading.lawful) in
        omega (arith, h.turn.so_far.few, h.turn.unit, next.some, next.one_x, next.four_ys)

    pub tap_more : (p : Plug) (next : Latest) → TapRead here c (length ps) part.bytes.now p next → Sofar t above c (ps ++ p ∷ []) next later
    tap_more p next h =
        let e = taps_push above ps p in
        let n = length_push ps p in
        record {
          stand = sofar.stand;
          counted_is = sofar.counted_is;
          reading = subst (Reading later t) (sym e) (more sofar.reading a (tap_frame p) h.keeps h.is);
          sourced = All-push (HasSource c) ps p sofar.sourced h.there;
          room = omega (arith, place p next h);
          turn = subst (λ fs. Turn fs next (length (ps ++ p ∷ []))) (sym e) (subst (Turn (tap_frame p ∷ here) next) (sym n) h.turn);
        }
