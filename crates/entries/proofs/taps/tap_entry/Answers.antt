use Rattle.std.proofs.Common.{◌≡◌, ℕ, true, List, ◌∷◌, sym, refl, subst, arith}
use Rattle.frames.specs.Faults.{no_digits}
use Rattle.frames.specs.Frames.{Frame, tap, tap_letter}
use Rattle.frames.specs.Rules.{Ordered}
use Rattle.wires.specs.Sources.{code_of, there}
use Rattle.wires.specs.Taps.{figure_of}
use Rattle.entries.specs.Entries.{Says, TailWanted}
use Rattle.entries.proofs.Letters.{bad_number, bad_figure, bad_source, keeps, below_count}
use Rattle.entries.proofs.taps.tap_entry.Goals as goal
use Rattle.entries.proofs.taps.tap_entry.Goals.{In-Some, In-Some-with}

pub returns-in_default : goal.returns-in_default
returns-in_default c = λ above n w. no_digits (tap c.args.input 0 0 0) _ w.stand refl c.in_default.ensures

says : (c : In-Some) → Says (tap_letter c.args.input ∷ c.args.digits.now) (tap c.args.input c.in-Some.unit c.in-Some.sign c.in-Some.source)
says c = c.in-Some.ensures c.args.input

pub returns-then-unit-count : goal.returns-then-unit-count
returns-then-unit-count c = λ above n w.
    bad_number above _ _ (says (goal.at.returns-then-unit-count c).In-Some) w.stand
    (λ o. omega (arith, below_count above c.args.input c.in-Some.unit c.in-Some.sign c.in-Some.source o, w.counted))

pub returns-in_default-with : goal.returns-in_default-with
returns-in_default-with c = λ above n w.
    bad_number above _ _ (says (goal.at.returns-in_default-with c).In-Some) w.stand (c.in_default-with.ensures above n c.in-Some.sign c.in-Some.source w.turn)

ordered : (c : In-Some-with) (above : List Frame) (n : ℕ) → TailWanted above c.args.count c.args.latest n → Ordered above (tap c.args.input c.in-Some.unit c.in-Some.sign c.in-Some.source)
ordered c above n w = (c.in-Some-with.ensures above n c.in-Some.sign c.in-Some.source w.turn (omega (arith, w.counted))).ordered

pub returns-in_default-try_from : goal.returns-in_default-try_from
returns-in_default-try_from c = λ above n w.
    bad_figure above _ _ (says (goal.at.returns-in_default-try_from c).In-Some) w.stand (ordered (goal.at.returns-in_default-try_from c).In-Some-with above n w)
    (λ r. c.in_default-try_from.ensures.0 r.0 r.1)

pub returns-in_default-of : goal.returns-in_default-of
returns-in_default-of c = λ above n w.
    bad_source above _ _ (says (goal.at.returns-in_default-of c).In-Some) w.stand (ordered (goal.at.returns-in_default-of c).In-Some-with above n w)
    (c.in-Ok.sign, c.in-Ok.ensures)
    (λ r. c.in_default-of.ensures r.0 (subst (λ k. there k r.0 ≡ true) w.counted r.1) r.2)

pub returns : goal.returns
returns c = λ above n w.
    let u = c.in-Some.unit in
    let sign = c.in-Ok.sign in
    let source = c.in-Some-of.source in
    let found = c.in-Some-of.ensures in
    let same : tap c.args.input u c.in-Some.sign c.in-Some.source ≡ tap c.args.input u (figure_of sign) (code_of source) =
    λ i. tap c.args.input u (sym c.in-Ok.ensures i) (sym found.1 i) in
    let s = subst (Says (tap_letter c.args.input ∷ c.args.digits.now)) same (says (goal.at.returns c).In-Some) in
    let stands = c.in-Some-with.ensures above n (figure_of sign) (code_of source) w.turn (omega (arith, w.counted)) in
    record {
      keeps = keeps above _ _ s w.stand stands.ordered (sign, refl) (source, subst (λ k. there k source ≡ true) (sym w.counted) found.0, refl);
      there = found.0;
      is = s.is;
      turn = stands.turn;
    }
