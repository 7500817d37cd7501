use Rattle.std.proofs.Common.{length, Ok, rules, of_calls, arith}
use Rattle.std.specs.Result.{MatchResult}
use Rattle.std.proofs.lemmas.Result.{MatchResult-at_ok, MatchResult-at_err}
use Rattle.entries.specs.Entries.{UnitEntry}
use Rattle.fixedvec.specs.Items.{items}
use Rattle.frames.specs.Faults.{Fault}
use Rattle.sheet.specs.Patches.{unit_frames}
use Rattle.sheet.proofs.Counting.{units_open}
use Rattle.unit.proofs.Exits.{passed_on}
use Rattle.reader.proofs.Reading.{advanced, missing_told, entry_or_wrong}
use Rattle.reader.proofs.Racking.{wanted, unit_more}
use Rattle.reader.proofs.phases.read_units.Goals as goal
use Rattle.reader.proofs.phases.read_units.Goals.{After-map_err}

pub returns-in_err-line : goal.returns-in_err-line
returns-in_err-line c =
    let us = items c.loop-next.units in
    rw (passed_on _ c.from_residual.ensures.1) (missing_told c.loop-next.invariant.reading c.next.result _ c.missing.result _ c.next.ensures.steps c.in_err-line.ensures.value (units_open c.args.count us (length us)) c.missing.ensures.refusal c.missing.ensures.line)

entry : (c : After-map_err) → MatchResult c.map_err.result (λ x. UnitEntry (unit_frames c.args.count (items c.loop-next.units) (length (items c.loop-next.units))) c.loop-next.next c.in_ok-line.line.bytes.now (Ok x)) (λ f. Fault c.args.lines.now.text.now f.refusal f.line)
entry c =
    let above = unit_frames c.args.count (items c.loop-next.units) (length (items c.loop-next.units)) in
    entry_or_wrong c.loop-next.invariant.reading (advanced c.in_ok-line.ensures.ok_part c.next.ensures.steps) (UnitEntry above c.loop-next.next c.in_ok-line.line.bytes.now) (λ e h. h) c.unit_entry.result c.map_err.result _ c.map_err.ensures.cases
    (c.unit_entry.ensures above (wanted c.loop-next.invariant (omega arith))) (λ e f w. search (rules, of_calls))

pub returns-in_err-unit : goal.returns-in_err-unit
returns-in_err-unit c = rw (passed_on _ c.from_residual-in_err-unit.ensures.1) (MatchResult-at_err _ _ _ c.in_err-unit.was (entry (goal.at.returns-in_err-unit c).After-map_err))

pub loop-next-preserved : goal.loop-next-preserved
loop-next-preserved c =
    let d = (goal.at.loop-next-preserved c).After-map_err in
    rw c.push.ensures (unit_more c.loop-next.invariant _ _ _ (advanced c.in_ok-line.ensures.ok_part c.next.ensures.steps) (MatchResult-at_ok _ _ _ c.in_ok-unit.was (entry d)))
