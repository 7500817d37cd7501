use Rattle.unit.proofs.Exits.{passed_on}
use Rattle.entries.specs.Entries.{UnitSays}
use Rattle.entries.proofs.Letters.{no_frame, not_unit, UnitTold, integrator_told, servo_told, other_unit, unit_answer}
use Rattle.entries.proofs.units.unit_entry.Goals as goal
use Rattle.entries.proofs.units.unit_entry.Goals.{Joined-frame, In-Some, in-Integrator, in-Servo}

pub returns-in_err-frame : goal.returns-in_err-frame
returns-in_err-frame c = λ above w. rw (passed_on _ c.from_residual.ensures.1) (no_frame above _ _ c.in_err-frame.ensures)

pub returns-in_default : goal.returns-in_default
returns-in_default c = λ above w. not_unit above _ w _ _ _ c.in_ok-frame.ensures.is c.in_default.not-Integrator c.in_default.not-Servo

-- what the digits say, of either make
told : (c : Joined-frame) → UnitTold c.args.line.bytes.now c.match-frame.figures
told c = elim c.match-frame.branch [
  | in-Integrator w ↦ rw w.figures-is (integrator_told _ _ (rw w.in-Integrator.is at c.in_ok-frame.ensures.is) _ w.integrator_figures-figures.ensures)
  | in-Servo w ↦ rw w.figures-is (servo_told _ _ (rw w.in-Servo.is at c.in_ok-frame.ensures.is) _ w.servo_figures-figures.ensures)
]

pub returns-in_default-figures : goal.returns-in_default-figures
returns-in_default-figures c = λ above w. (rw c.in_default-figures.is at (told (goal.at.returns-in_default-figures c).Joined-frame)) above _ w

says : (c : In-Some) → UnitSays c.args.line.bytes.now c.in-Some.figures
says c = rw c.in-Some.is at (told (goal.at.In-Some c).Joined-frame)

pub returns-then-figures-next : goal.returns-then-figures-next
returns-then-figures-next c = λ above w. other_unit above _ w _ _ (says (goal.at.returns-then-figures-next c).In-Some) c.if-figures-next.true

pub returns : goal.returns
returns c = λ above w. let said = says (goal.at.returns c).In-Some in unit_answer above _ w _ _ _ _ _ (rw c.if-figures-next.false at said) _ c.made.ensures
