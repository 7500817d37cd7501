use Rattle.std.proofs.Common.{◌≡◌, length, take}
use Rattle.rows.specs.Rows.{spaced}
use Rattle.rows.proofs.row_len.Given as goal

-- the numbers so far are counted
abbrev pub invariant-loop-z : goal.invariant-loop-z
invariant-loop-z l = l.len ≡ length (spaced (take l.z-index l.fields))
