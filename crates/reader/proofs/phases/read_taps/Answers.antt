use Rattle.std.proofs.Common.{◌≡◌, length, None, Ok, refl, subst, rules, of_calls}
use Rattle.std.specs.Result.{MatchResult}
use Rattle.std.proofs.lemmas.Result.{MatchResult-at_ok, MatchResult-at_err}
use Rattle.entries.specs.Entries.{TailEntry}
use Rattle.entries.specs.declared.taps.Tail.{Tail}
use Rattle.fixedvec.specs.Items.{items}
use Rattle.frames.specs.Faults.{Fault}
use Rattle.frames.specs.Frames.{last}
use Rattle.sheet.specs.Patches.{unit_frames, tap_frames}
use Rattle.unit.proofs.Exits.{passed_on}
use Rattle.reader.proofs.Reading.{more, missing_told, entry_or_wrong}
use Rattle.reader.proofs.Tapping.{start, few_units, wanted, open_end, place, tap_more}
use Rattle.reader.proofs.phases.read_taps.Goals as goal
use Rattle.reader.proofs.phases.read_taps.Goals.{After-map_err}

pub overflow_cast-count : goal.overflow_cast-count
overflow_cast-count c = let few = few_units _ _ _ _ _ c.requires in search (rules, few)

pub loop-line-init : goal.loop-line-init
loop-line-init c = rw c.new-plugs.ensures (start _ c.args.units.now _ _ _ c.requires c.start-latest.ensures)

-- what the line says below the taps so far
abbrev Said : After-map_err → Tail → Type 0
Said c tail =
    let us = c.args.units.now in
    let ps = items c.loop-line.plugs in
    TailEntry (tap_frames (unit_frames (length us) us (length us)) ps (length ps)) (length us) (length ps) c.in-Some.line.bytes.now (Ok tail)

entry : (c : After-map_err) → MatchResult c.map_err.result (Said c) (λ f. Fault c.args.lines.now.text.now f.refusal f.line)
entry c =
    let us = c.args.units.now in
    let ps = items c.loop-line.plugs in
    let above = tap_frames (unit_frames (length us) us (length us)) ps (length ps) in
    entry_or_wrong c.loop-line.invariant.reading c.in-Some.ensures.steps (TailEntry above (length us) (length ps) c.in-Some.line.bytes.now) (λ e h. h) c.tail_entry.result c.map_err.result _ c.map_err.ensures.cases
    (c.tail_entry.ensures above (length ps) (wanted c.loop-line.invariant)) (λ e f w. search (rules, of_calls))

pub returns-in_err-tail : goal.returns-in_err-tail
returns-in_err-tail c = rw (passed_on _ c.from_residual.ensures.1) (MatchResult-at_err _ _ _ c.in_err-tail.was (entry (goal.at.returns-in_err-tail c).After-map_err))

said : (c : After-map_err) (tail told : Tail) → c.map_err.result ≡ Ok tail → tail ≡ told → Said c told
said c tail told was is = subst (Said c) is (MatchResult-at_ok _ _ _ was (entry c))

pub returns-in-Last : goal.returns-in-Last
returns-in-Last c =
    let s = c.loop-line.invariant in
    let told = said (goal.at.returns-in-Last c).After-map_err _ _ c.in_ok-tail.was c.in-Last.is in
    record { room = s.room; sourced = s.sourced; reading = more s.reading c.in-Some.ensures.steps (last c.in-Last.ticks c.in-Last.step) told.keeps told.is }

pub push-requires : goal.push-requires
push-requires c =
    let h = place c.loop-line.invariant c.in-Some.ensures.steps _ _ (said (goal.at.push-requires c).After-map_err _ _ c.in_ok-tail.was c.in-Tap.is) in
    search (rules, h)

pub loop-line-preserved : goal.loop-line-preserved
loop-line-preserved c = rw c.push.ensures (tap_more c.loop-line.invariant c.in-Some.ensures.steps _ _ (said (goal.at.loop-line-preserved c).After-map_err _ _ c.in_ok-tail.was c.in-Tap.is))

pub returns : goal.returns
returns c = missing_told c.loop-line.invariant.reading None _ c.missing.result c.missing.result c.in_default.ensures.steps refl (open_end c.loop-line.invariant) c.missing.ensures.refusal c.missing.ensures.line
