use Rattle.std.proofs.Common.{rules, of_calls, Result, Ok, Err, List, ℕ, []}
use Rattle.std.specs.Result.{MatchResult}
use Rattle.entries.specs.Entries.{CountEntry}
use Rattle.frames.specs.Faults.{Fault}
use Rattle.lines.specs.Lines.{Advanced}
use Rattle.lines.specs.declared.reader.LineReader.{LineReader}
use Rattle.lines.specs.declared.reader.Part.{Part}
use Rattle.unit.specs.declared.refusal.TextFault.{TextFault}
use Rattle.reader.specs.Phases.{Reading, CountRead}
use Rattle.reader.proofs.Reading.{advanced, more, entry_or_wrong}
use Rattle.reader.proofs.phases.read_count.Goals as goal

counted : {before later : LineReader} {t : List ℕ} → Reading before t [] → {part : Part} → Advanced before part later → (out : Result ℕ TextFault) → MatchResult out (λ n. CountEntry part.bytes.now (Ok n)) (λ f. Fault t f.refusal f.line) → CountRead t out later
counted r a (Ok n) h = more r a _ h.0 h.1
counted r a (Err f) h = h

pub returns : goal.returns
returns c =
    let a = advanced c.in_ok-line.ensures.ok_part c.next.ensures.steps in
    counted c.requires a c.map_err.result (entry_or_wrong c.requires a (CountEntry c.in_ok-line.line.bytes.now) (λ e h. h) c.count_entry.result c.map_err.result _ c.map_err.ensures.cases c.count_entry.ensures (λ e f w. search (rules, of_calls)))
