use Rattle.std.proofs.Common.{rules}
use Rattle.buffer.proofs.Appending.{then}
use Rattle.rows.proofs.Rows.{row_none, row_parts}
use Rattle.rows.proofs.put_row.Goals.{in_default, in-len1-up}
use Rattle.rows.proofs.put_row.Goals as goal

pub returns : goal.returns
returns c = elim c.if-fields-lt1.branch [
  | in_default w ↦ rw (row_none c.args.fields.now w.in_default.len_below) (rw w.row-is at c.push.ensures)
  | in-len1-up w ↦ rw (row_parts c.args.fields.now w.in-len1-up.len_at_least (search rules))
      (then w.put_number.ensures (then w.put_spaced.ensures (rw w.row-is at c.push.ensures)))
]
