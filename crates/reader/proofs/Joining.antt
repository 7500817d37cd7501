-- The phases of a text put together.
use Rattle.std.proofs.Common.{◌≡◌, ℕ, ◌≤◌, true, false, List, ◌++◌, length, Option, Some, None, sym, ap, ◌∙◌, subst, append-nil}
use Rattle.std.proofs.lemmas.List.{drop_all}
use Rattle.std.specs.Option.{is_some}
use Rattle.frames.specs.Faults.{Fault, no_letter}
use Rattle.fixedvec.specs.Items.{items}
use Rattle.frames.specs.Frames.{text}
use Rattle.frames.proofs.Counts.{nothing_expected}
use Rattle.lines.specs.Lines.{NextLine}
use Rattle.lines.specs.declared.reader.LineReader.{LineReader}
use Rattle.lines.specs.declared.reader.Part.{Part}
use Rattle.sheet.specs.Patches.{frames}
use Rattle.sheet.specs.declared.parts.UnitFigures.{UnitFigures}
use Rattle.unit.specs.declared.refusal.Refusal.TheVariants.{FrameOrder}
use Rattle.unit.specs.declared.refusal.TextFault.{TextFault}
use Rattle.reader.specs.Phases.{Ended}
use Rattle.reader.specs.declared.phases.Ending.{Ending}
use Rattle.reader.proofs.Reading.{wrong_line, one_line, fault_as}

-- below the last frame nothing may stand
pub goes_on : {t : List ℕ} {us : List UnitFigures} {e : Ending} {before : LineReader} → Ended t us e before → (o : Option Part) (later : LineReader) (f : TextFault) → NextLine before o later → true ≡ is_some o → f.refusal ≡ FrameOrder → f.line ≡ later.lines → Fault t f.refusal f.line
goes_on d (Some p) later f a some is at =
    let r = d.reading in
    fault_as _ _ _ _ _ is (at ∙ one_line r a) (wrong_line r a FrameOrder (no_letter (λ g ds x q. nothing_expected _ _ _ r.lawful g x)))
goes_on d None later f a some is at = absurd (let q : ⊥ = cc in q)

-- .. and where nothing does, the frames are the whole text
pub all_read : {t : List ℕ} {us : List UnitFigures} {e : Ending} {before : LineReader} → Ended t us e before → (o : Option Part) (later : LineReader) → NextLine before o later → false ≡ is_some o → t ≡ text (frames us (items e.plugs) e.ticks e.step)
all_read d (Some p) later a none = absurd (let q : ⊥ = cc in q)
all_read {t} {us} {e} {before} d None later a none =
    let r = d.reading in
    let above = frames us (items e.plugs) e.ticks e.step in
    r.cut ∙ ap (λ x. text above ++ x) (drop_all before.at t (subst (λ x. length x ≤ before.at) r.text_is a.end)) ∙ append-nil (text above)
