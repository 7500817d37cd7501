use Rattle.std.proofs.Common.{ap, sym, ◌/◌, arith}
use Rattle.hexa.proofs.Digits.{four_bits, none_left}
use Rattle.hexa.proofs.without_last.Goals as goal

pub returns-then-digits-lt8 : goal.returns-then-digits-lt8
returns-then-digits-lt8 c = ap (λ k. c.args.value / k) (four_bits c.args.digits)

pub returns-else-digits-lt8 : goal.returns-else-digits-lt8
returns-else-digits-lt8 c = sym (none_left c.args.value c.args.digits (omega arith) (omega arith))
