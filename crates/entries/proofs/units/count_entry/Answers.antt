use Rattle.std.proofs.Common.{◌≡◌, ◌∷◌, refl, ◌∙◌, arith}
use Rattle.std.proofs.lemmas.Grind.{common_steps}
use Rattle.frames.specs.Faults.{no_digits}
use Rattle.frames.specs.Frames.{count}
use Rattle.unit.proofs.Exits.{passed_on}
use Rattle.entries.specs.Entries.{Says}
use Rattle.entries.proofs.Letters.{no_frame, not_top, bad_figure}
use Rattle.entries.proofs.units.count_entry.Goals as goal
use Rattle.entries.proofs.units.count_entry.Goals.{In-Count, In-Some}

pub returns-in_err-digits : goal.returns-in_err-digits
returns-in_err-digits c = rw (passed_on _ c.from_residual.ensures.1) (no_frame _ _ _ c.in_err-digits.ensures)

pub returns-in_default : goal.returns-in_default
returns-in_default c = not_top _ _ _ c.in_ok-digits.ensures.is c.in_default.not-Count

line_is : (c : In-Count) → c.args.line.bytes.now ≡ 80 ∷ c.in-Count.digits.bytes.now
line_is c = rw c.in-Count.is at c.in_ok-digits.ensures.is

pub returns-in_default-count_figure : goal.returns-in_default-count_figure
returns-in_default-count_figure c = no_digits (count 0) _ refl (line_is (goal.at.returns-in_default-count_figure c).In-Count) c.in_default-count_figure.ensures

says : (c : In-Some) → Says c.args.line.bytes.now (count c.in-Some.units)
says c = let s = c.in-Some.ensures in record { fits = s.fits; is = line_is (goal.at.In-Some c).In-Count ∙ s.is }

pub returns-then-not-contains : goal.returns-then-not-contains
returns-then-not-contains c =
    bad_figure _ _ _ (says (goal.at.returns-then-not-contains c).In-Some) refl tt (λ r. let h = c.if-not-contains.ensures.cases in grind (arith, common_steps, h, r.0, r.1, c.new.ensures.start, c.new.ensures.end))
