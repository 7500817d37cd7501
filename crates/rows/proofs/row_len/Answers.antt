use Rattle.std.proofs.Common.{◌^◌, ◌≤◌, length, ap, arith, rules}
use Rattle.rows.specs.Rows.{row_bytes}
use Rattle.rows.proofs.Rows.{more_within, length-row}
use Rattle.rows.proofs.row_len.Goals as goal

pub returns-in_err-len : goal.returns-in_err-len
returns-in_err-len c =
    let next = more_within c.args.fields.now c.loop-z.z-index c.loop-z-test.true (search rules) in
    let many : 2 ^ 64 ≤ length (row_bytes c.args.fields.now) =
    omega (arith, ap length c.format.ensures.text, c.in_err-len.ensures, length-row c.args.fields.now) in
    simp c.from_residual.ensures many
