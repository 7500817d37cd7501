-- A pulse as a whole number, and the pulse of the opposite sign.
use Rattle.std.specs.Prelude.{List, [], ◌∷◌, ℤ, pos, negsuc, ◌+ℤ◌}
use Rattle.unit.specs.declared.pulse.Pulse.{Pulse}
use Rattle.unit.specs.declared.pulse.Pulse.TheVariants.{Minus, Zero, Plus}

abbrev pub value : Pulse → ℤ
value Minus = negsuc 0
value Zero = pos 0
value Plus = pos 1

abbrev pub opposite : Pulse → Pulse
opposite Minus = Plus
opposite Zero = Zero
opposite Plus = Minus

-- the sum of pulses
abbrev pub total : List Pulse → ℤ
total [] = pos 0
total (z ∷ zs) = value z +ℤ total zs
