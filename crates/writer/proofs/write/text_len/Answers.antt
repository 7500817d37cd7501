use Rattle.std.proofs.Common.{◌≤◌, length, ap, arith, rules}
use Rattle.sheet.proofs.Sheets.{few}
use Rattle.writer.specs.Sizes.{units_size}
use Rattle.writer.proofs.Whole.{written_length, units_short}
use Rattle.writer.proofs.write.text_len.Goals as goal
use Rattle.writer.proofs.write.text_len.Goals.{After-units_len, After-taps}

pub units_len-requires : goal.units_len-requires
units_len-requires c = rw c.units.ensures (few c.args.sheet.now)

-- what the units' lines and the taps may come to
units : (c : After-units_len) → c.units_len.result ≤ 1664
units c = omega (arith, c.units_len.ensures, ap units_size c.units.ensures, units_short c.args.sheet.now)

taps : (c : After-taps) → length c.taps.result.now ≤ 320
taps c = omega (arith, ap length c.taps.ensures, c.args.sheet.now.room)

pub overflow_add-result : goal.overflow_add-result
overflow_add-result c =
    let h = units (goal.at.overflow_add-result c).After-units_len in
    search (rules, h)

pub overflow_add-result-2 : goal.overflow_add-result-2
overflow_add-result-2 c =
    let h = units (goal.at.overflow_add-result-2 c).After-units_len in
    let k = taps (goal.at.overflow_add-result-2 c).After-taps in
    rw c.line_len-2.ensures (search (rules, h, k))

pub overflow_add-result-3 : goal.overflow_add-result-3
overflow_add-result-3 c =
    let h = units (goal.at.overflow_add-result-3 c).After-units_len in
    let k = taps (goal.at.overflow_add-result-3 c).After-taps in
    rw c.line_len-2.ensures (search (rules, h, k))

pub returns : goal.returns
returns c = rw c.line_len-2.ensures (omega (arith, written_length c.args.sheet.now, ap units_size c.units.ensures, ap length c.taps.ensures))
