use Rattle.buffer.specs.Cursor.{Appends}
use Rattle.writer.specs.Lines.{unit_lines}
use Rattle.writer.proofs.put.put_units.Given as goal

abbrev pub invariant-loop-u : goal.invariant-loop-u
invariant-loop-u l = Appends (unit_lines l.units l.u) l.initial.out l.out
