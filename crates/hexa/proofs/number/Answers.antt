use Rattle.std.proofs.Common.{sym, arith}
use Rattle.std.proofs.lemmas.List.{take_more}
use Rattle.hexa.proofs.Digits.{hex_none, hex_push, room_more}
use Rattle.hexa.proofs.number.Goals as goal

pub loop-d-init : goal.loop-d-init
loop-d-init c = (omega arith, sym (hex_none 0))

pub loop-d-preserved : goal.loop-d-preserved
loop-d-preserved c =
    let got = rw (← c.from.ensures) at c.in_ok-digit_value.ensures in (
      room_more c.loop-d.d-index c.loop-d.v c.from.result c.loop-d.invariant.0 got.0,
      rw (take_more c.args.digits.now c.loop-d.d-index 0 c.loop-d-test.true, c.loop-d.invariant.1, got.1)
          (sym (hex_push c.loop-d.d-index c.loop-d.v c.from.result got.0)),
    )
