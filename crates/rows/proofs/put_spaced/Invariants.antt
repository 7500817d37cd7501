use Rattle.std.proofs.Common.{take}
use Rattle.buffer.specs.Cursor.{Appends}
use Rattle.rows.specs.Rows.{spaced}
use Rattle.rows.proofs.put_spaced.Given as goal

-- the numbers so far are written
abbrev pub invariant-loop-z : goal.invariant-loop-z
invariant-loop-z l = Appends (spaced (take l.z-index l.numbers)) l.initial.row l.row
