use Rattle.std.proofs.Common.{length, take}
use Rattle.buffer.specs.Cursor.{Appends}
use Rattle.hexa.specs.Hex.{hexes}
use Rattle.hexa.proofs.put_figures.Given as goal

-- the figures so far are written
abbrev pub invariant-loop-width : goal.invariant-loop-width
invariant-loop-width g l = Appends (hexes (take (length l.yielded) l.fn.widths) (take (length l.yielded) l.fn.values)) l.initial.out l.out
