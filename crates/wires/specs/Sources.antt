-- The codes of sources, and which sources are there in a job.
use Rattle.std.specs.Prelude.{ℕ, ◌+◌, Bool, true, ◌&&◌, nat_lt}
use Rattle.wires.specs.declared.source.Source.{Source}
use Rattle.wires.specs.declared.source.Source.TheVariants.{Place, Outside, Clock}

abbrev pub code_of : Source → ℕ
code_of (Place j) = j
code_of (Outside l) = 0x40 + l
code_of Clock = 0x50

-- a unit below the count, and of 64 at most; one of four outside lines; the clock
abbrev pub there : ℕ → Source → Bool
there units (Place j) = nat_lt j units && nat_lt j 64
there units (Outside l) = nat_lt l 4
there units Clock = true
