use Rattle.fixedvec.specs.Items.{items}
use Rattle.reader.specs.Phases.{Units}
use Rattle.reader.proofs.phases.read_units.Given as goal

abbrev pub invariant-loop-next : goal.invariant-loop-next
invariant-loop-next l = Units l.initial.lines.text.now l.count l.next (items l.units) l.lines
