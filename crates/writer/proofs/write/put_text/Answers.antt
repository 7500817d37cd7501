use Rattle.std.proofs.Common.{◌+◌, ◌*◌, ◌≤◌, length, sym, ap, subst, arith, rules}
use Rattle.buffer.specs.Cursor.{rest, Appends}
use Rattle.buffer.proofs.Appending.{then, length-rest}
use Rattle.frames.specs.Frames.{count}
use Rattle.sheet.specs.Views.{units_of, taps_of}
use Rattle.sheet.proofs.Sheets.{few}
use Rattle.writer.specs.Sizes.{units_size}
use Rattle.writer.proofs.Lining.{length-full_line, length-all_units, length-tap_lines}
use Rattle.writer.proofs.Whole.{written_length, text_by_lines}
use Rattle.writer.proofs.write.put_text.Goals as goal
use Rattle.writer.proofs.write.put_text.Goals.{After-put_line, After-put_units}

pub put_line-requires : goal.put_line-requires
put_line-requires c =
    let room : 4 ≤ length (rest c.args.out.now) = omega (arith, written_length c.args.sheet.now) in
    search (rules, room)

pub put_units-requires-clause-few : goal.put_units-requires-clause-few
put_units-requires-clause-few c = rw c.units.ensures (few c.args.sheet.now)

-- what the lines written so far leave, of what the sheet's text takes

below_count : (c : After-put_line) → units_size (units_of c.args.sheet.now) + 8 * length (taps_of c.args.sheet.now) + 14 ≤ length (rest c.put_line.new.out)
below_count c = omega (arith, written_length c.args.sheet.now, length-rest c.put_line.ensures, length-full_line (count c.from.result))

below_units : (c : After-put_units) → 8 * length (taps_of c.args.sheet.now) + 14 ≤ length (rest c.put_units.new.out)
below_units c = omega (arith, below_count (goal.at.After-put_units c).After-put_line, length-rest c.put_units.ensures, length-all_units c.units.result.now, ap units_size c.units.ensures)

pub put_units-requires-clause-room : goal.put_units-requires-clause-room
put_units-requires-clause-room c = omega (arith, below_count (goal.at.put_units-requires-clause-room c).After-put_line, ap units_size c.units.ensures)

pub put_taps-requires-clause-room : goal.put_taps-requires-clause-room
put_taps-requires-clause-room c = omega (arith, below_units (goal.at.put_taps-requires-clause-room c).After-put_units, ap length c.taps.ensures)

pub put_line-requires-2 : goal.put_line-requires-2
put_line-requires-2 c =
    let above = below_units (goal.at.put_line-requires-2 c).After-put_units in
    let room : 14 ≤ length (rest c.put_taps.new.out) =
    omega (arith, above, length-rest c.put_taps.ensures, length-tap_lines c.taps.result.now (length c.taps.result.now), ap length c.taps.ensures) in
    search (rules, room)

pub returns : goal.returns
returns c =
    let s = c.args.sheet.now in
    let lines = then (then (then c.put_line.ensures c.put_units.ensures) c.put_taps.ensures) c.put_line-2.ensures in
    let told = rw (c.from.ensures, c.count.ensures, c.units.ensures, c.taps.ensures, c.ticks.ensures, c.step.ensures) at lines in
    subst (λ t. Appends t c.args.out.now c.put_line-2.new.out) (sym (text_by_lines s)) told
