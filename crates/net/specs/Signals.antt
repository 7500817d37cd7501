-- What stands on the lines, and what each unit is given in a tick.
use Rattle.std.specs.Prelude.{◌≡◌, ℕ, List, [], ◌∷◌, ℤ, pos, ◌+ℤ◌, Some, None, Option, slice_index_or}
use Rattle.unit.specs.Pulses.{value}
use Rattle.unit.specs.declared.pulse.Pulse.{Pulse}
use Rattle.unit.specs.declared.pulse.Pulse.TheVariants.{Zero, Plus}
use Rattle.wires.specs.Taps.{signed}
use Rattle.wires.specs.declared.source.Source.{Source}
use Rattle.wires.specs.declared.source.Source.TheVariants.{Place, Outside, Clock}
use Rattle.wires.specs.declared.tap.Tap.{Tap}
use Rattle.net.specs.Records.{record_at}
use Rattle.net.specs.declared.inputs.Inputs.{Inputs}
use Rattle.net.specs.declared.net.Net.{Net}

abbrev pub or_zero : Option Pulse → Pulse
or_zero (Some z) = z
or_zero None = Zero

-- what a source gives: the pulse on a unit's line, what waits on an outside line, or +1
abbrev pub given : Net → Source → Pulse
given n (Place j) = (record_at n.table.records j).line
given n (Outside l) = or_zero (slice_index_or n.outside l None)
given n Clock = Plus

abbrev pub delivered : Net → Option Tap → Pulse
delivered n None = Zero
delivered n (Some tap) = signed tap.sign (given n tap.source)

abbrev pub sum : Net → List (Option Tap) → ℤ
sum n [] = pos 0
sum n (tap ∷ taps) = value (delivered n tap) +ℤ sum n taps

-- the inputs of the unit at place i
pub record InputsOf (n : Net) (i : ℕ) (inputs : Inputs) : Type 0 where
  pub x : inputs.x ≡ delivered n (record_at n.table.records i).x
  pub tally : inputs.tally.value ≡ sum n (record_at n.table.records i).y
