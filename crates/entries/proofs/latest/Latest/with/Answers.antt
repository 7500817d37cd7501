use Rattle.std.proofs.Common.{refl, arith}
use Rattle.entries.proofs.Turning.{add_x, add_y}
use Rattle.entries.proofs.latest.Latest.with.Goals as goal

pub returns-in-X : goal.returns-in-X
returns-in-X c = λ above n g t turn lt.
    let h = c.in_ok-here.ensures above n turn in
    let none = rw c.if-here-eq0.true at h in
    rw c.in-X.is (record {
      ordered = (lt, none.below, none.of_unit);
      turn = record { unit = refl; so_far = add_x above c.args.unit g t _ n none (omega (arith, c.in_ok-here.here.some)) };
    })

pub returns-in-Y : goal.returns-in-Y
returns-in-Y c = λ above n g t turn lt.
    let h = c.in_ok-here.ensures above n turn in
    rw c.in-Y.is (record {
      ordered = (lt, h.below, omega (arith, h.y_of_unit, c.if-here-lt-MOST_YS.true));
      turn = record { unit = refl; so_far = add_y above c.args.unit g t _ _ n h };
    })

pub returns-in_default : goal.returns-in_default
returns-in_default c = λ above n g t turn o.
    let h = c.in_ok-here.ensures above n turn in
    let x = rw c.in-X.is at o in
    omega (arith, x.2, h.of_unit, c.if-here-eq0.false)

pub returns-in_default-2 : goal.returns-in_default-2
returns-in_default-2 c = λ above n g t turn o.
    let h = c.in_ok-here.ensures above n turn in
    let y = rw c.in-Y.is at o in
    omega (arith, y.2, h.y_of_unit, c.if-here-lt-MOST_YS.false)
