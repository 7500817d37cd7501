use Rattle.std.proofs.Common.{◌≡◌, ◌+◌, ◌-◌, length, ap, inl, inr, arith}
use Rattle.unit.proofs.Exits.{passed_on}
use Rattle.lines.specs.Kinds.{digits_of}
use Rattle.lines.specs.Taken.{no_line, no_letter, no_digits}
use Rattle.lines.proofs.Numbering.{Nth, nth_none, nth_some, line_is, line_room, line_lettered, frame_taken}
use Rattle.lines.proofs.taken.frame_at.Goals as goal
use Rattle.lines.proofs.taken.frame_at.Goals.{In-Some}

pub returns-then-line-eq0 : goal.returns-then-line-eq0
returns-then-line-eq0 c = no_line (inl c.if-line-eq0.true)

pub returns-in_default : goal.returns-in_default
returns-in_default c = no_line (inr (omega (arith, nth_none _ _ _ _ c.new.ensures.text c.new.ensures.at c.in_default.ensures.ran)))

-- the line that was asked for
found : (c : In-Some) → Nth c.args.text.now (c.args.line - 1) c.in-Some.found
found c = nth_some _ _ _ _ _ c.new.ensures.text c.new.ensures.at c.in-Some.ensures.ran

pub returns-in_err-frame : goal.returns-in_err-frame
returns-in_err-frame c =
    rw (passed_on _ c.from_residual.ensures.1, c.in_err-frame.ensures.0) (no_letter _ (line_is (omega arith) (found (goal.at.returns-in_err-frame c).In-Some)) c.in_err-frame.ensures.1)

pub returns-then-not-are_digits : goal.returns-then-not-are_digits
returns-then-not-are_digits c =
    no_digits c.in_ok-frame.frame (line_lettered (omega arith) (found (goal.at.returns-then-not-are_digits c).In-Some) c.in_ok-frame.ensures)
    (rw (c.size.ensures, c.digits.ensures) at c.if-not-are_digits.ensures)

pub returns : goal.returns
returns c =
    let told = c.in_ok-frame.ensures in
    let l = found (goal.at.returns c).In-Some in
    let at : (digits_of c.in_ok-frame.frame).at ≡ c.in-Some.found.at + 1 = omega (arith, told.at, line_room (omega arith) l, ap length told.is) in
    frame_taken (omega arith) l told at (rw (c.size.ensures, c.digits.ensures) at c.if-not-are_digits.ensures)
