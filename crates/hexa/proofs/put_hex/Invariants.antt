use Rattle.std.proofs.Common.{◌-◌, ◌/◌, ◌^◌}
use Rattle.buffer.specs.Cursor.{Appends}
use Rattle.hexa.specs.Hex.{hex}
use Rattle.hexa.proofs.put_hex.Given as goal

-- the digits above the next place are written
abbrev pub invariant-loop-place : goal.invariant-loop-place
invariant-loop-place l = Appends (hex (l.width - l.place) (l.value / 16 ^ l.place)) l.initial.out l.out
