-- What bounds a record after so many ticks, and that its taps read what is there.
use Rattle.std.specs.Prelude.{ℕ, ◌*◌, ◌≤◌, Bool, true, ◌&&◌, T, List, [], ◌∷◌, Some, None, Option, unsigned_abs}
use Rattle.unit.specs.Sizes.{largest}
use Rattle.wires.specs.Sources.{there}
use Rattle.wires.specs.declared.tap.Tap.{Tap}
use Rattle.net.specs.declared.record.Record.{Record}

-- net pulses at most the tick count in size
abbrev pub NetWithin : ℕ → Record → Type 0
NetWithin ticks r = unsigned_abs r.net ≤ ticks

-- work at most the largest weight times the tick count
abbrev pub WorkWithin : ℕ → Record → Type 0
WorkWithin ticks r = unsigned_abs r.work ≤ largest * ticks

abbrev pub tap_there : ℕ → Option Tap → Bool
tap_there units None = true
tap_there units (Some tap) = there units tap.source

abbrev pub taps_there : ℕ → List (Option Tap) → Bool
taps_there units [] = true
taps_there units (tap ∷ taps) = tap_there units tap && taps_there units taps

-- every tap of the record reads what is there in a job of so many units
abbrev pub Wired : ℕ → Record → Type 0
Wired units r = T (tap_there units r.x && taps_there units r.y)
