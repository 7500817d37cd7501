use Rattle.std.proofs.Common.{◌≡◌, ◌+◌, ◌-◌, ◌/◌, ◌^◌, length, arith}
use Rattle.buffer.proofs.Appending.{nothing, then, length-rest}
use Rattle.hexa.proofs.Digits.{hex_none, hex_down, length-hex}
use Rattle.hexa.proofs.put_hex.Goals as goal

pub loop-place-init : goal.loop-place-init
loop-place-init c =
    let none : c.args.width - c.args.width ≡ 0 = omega arith in
    rw (none, hex_none (c.args.value / 16 ^ c.args.width)) (nothing c.args.out.now)

pub push-requires : goal.push-requires
push-requires c = omega (arith, length-rest c.loop-place.invariant, length-hex (c.args.width - c.loop-place.place) (c.args.value / 16 ^ c.loop-place.place))

pub loop-place-preserved : goal.loop-place-preserved
loop-place-preserved c =
    let e : c.loop-place.place - 1 + 1 ≡ c.loop-place.place = omega arith in
    rw (hex_down c.args.width (c.loop-place.place - 1) c.args.value (omega arith), e, ← c.without_last.ensures, ← c.digit_of.ensures) (then c.loop-place.invariant c.push.ensures)
