use Rattle.std.proofs.Common.{◌-◌, length}
use Rattle.fixedvec.specs.Items.{items}
use Rattle.sheet.specs.Patches.{unit_frames}
use Rattle.reader.proofs.Tapping.{Sofar}
use Rattle.reader.proofs.phases.read_taps.Given as goal

abbrev pub invariant-loop-line : goal.invariant-loop-line
invariant-loop-line l = Sofar l.initial.lines.text.now (unit_frames (length l.units) l.units (length l.units)) (length l.units) (items l.plugs) l.latest l.lines

abbrev pub decreases-loop-line : goal.decreases-loop-line
decreases-loop-line l = length l.lines.text.now - l.lines.at
