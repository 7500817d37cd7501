use Rattle.net.specs.Tables.{Emptied}
use Rattle.net.proofs.table.Table.empty.Given as goal

abbrev pub invariant-loop-record : goal.invariant-loop-record
invariant-loop-record l = Emptied l.fn.self.records l.record-index l.record-items
