use Rattle.unit.proofs.Exits.{passed_on}
use Rattle.entries.proofs.Letters.{no_frame, not_tail}
use Rattle.entries.proofs.tails.tail_entry.Goals as goal

pub returns-in_err-digits : goal.returns-in_err-digits
returns-in_err-digits c = λ above n w. rw (passed_on _ c.from_residual.ensures.1) (no_frame above _ _ c.in_err-digits.ensures)

pub returns-in-X : goal.returns-in-X
returns-in-X c = rw (rw c.in-X.is at c.in_ok-digits.ensures.is) c.tap_entry.ensures

pub returns-in-Y : goal.returns-in-Y
returns-in-Y c = rw (rw c.in-Y.is at c.in_ok-digits.ensures.is) c.tap_entry-in-Y.ensures

pub returns-in-Last : goal.returns-in-Last
returns-in-Last c = rw (rw c.in-Last.is at c.in_ok-digits.ensures.is) (c.last_entry.ensures c.args.count c.args.latest)

pub returns-in_default : goal.returns-in_default
returns-in_default c = λ above n w. not_tail above w.stand _ _ _ c.in_ok-digits.ensures.is c.in_default.not-X c.in_default.not-Y c.in_default.not-Last
