use Rattle.std.proofs.Common.{◌≡◌, sym, ap, ◌∙◌, subst}
use Rattle.fixedvec.specs.Items.{items}
use Rattle.frames.specs.Faults.{Fault, extent}
use Rattle.frames.specs.Frames.{text}
use Rattle.sheet.specs.Patches.{frames}
use Rattle.reader.proofs.Joining.{goes_on, all_read}
use Rattle.reader.proofs.read.parsed.Goals as goal
use Rattle.reader.proofs.read.parsed.Goals.{In_ok-units}

-- the reader of lines holds the caller's text
own_text : (c : In_ok-units) → c.read_units.new.lines.text.now ≡ c.args.text.now
own_text c = c.in_ok-units.ensures.reading.text_is ∙ c.in_ok-count.ensures.text_is ∙ c.new-lines.ensures.text

pub returns-then-not-has_extent : goal.returns-then-not-has_extent
returns-then-not-has_extent c = extent c.if-not-has_extent.ensures

pub returns-then-is_some : goal.returns-then-is_some
returns-then-is_some c =
    subst (λ t. Fault t c.wrong.result.refusal c.wrong.result.line) (own_text (goal.at.returns-then-is_some c).In_ok-units)
    (goes_on c.in_ok-plugs.ensures c.next.result _ c.wrong.result c.next.ensures.steps c.if-is_some.ensures c.wrong.ensures.refusal (c.wrong.ensures.line ∙ c.lines.ensures))

pub returns : goal.returns
returns c =
    let e = c.in_ok-plugs.field-0 in
    sym (own_text (goal.at.returns c).In_ok-units)
    ∙ all_read c.in_ok-plugs.ensures c.next.result _ c.next.ensures.steps c.if-is_some.ensures
    ∙ ap text ((λ i. frames (c.as_slice.ensures.items i) (items e.plugs) e.ticks e.step) ∙ sym c.of_parts.ensures)
