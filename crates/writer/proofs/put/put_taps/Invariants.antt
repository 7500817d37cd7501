use Rattle.buffer.specs.Cursor.{Appends}
use Rattle.writer.specs.Lines.{tap_lines}
use Rattle.writer.proofs.put.put_taps.Given as goal

abbrev pub invariant-loop-plug : goal.invariant-loop-plug
invariant-loop-plug l = Appends (tap_lines l.taps l.plug-index) l.initial.out l.out
