-- The number of each refusal.
use Rattle.std.specs.Prelude.{ℕ}
use Rattle.unit.specs.declared.refusal.Refusal.{Refusal}
use Rattle.unit.specs.declared.refusal.Refusal.TheVariants.{TextExtent, FrameOrder, FrameDigits, UnitOrder, FigureOutOfRange, NoSuchSource, NoSuchFeed, NotThere, BufferTooShort, OtherRackOrNet, RackFull, TapTaken, PulseWaiting, TicksSpent, LeavesRange, NoUnits, ModulusUntold}

abbrev pub number : Refusal → ℕ
number TextExtent = 1
number FrameOrder = 2
number FrameDigits = 3
number UnitOrder = 4
number FigureOutOfRange = 5
number NoSuchSource = 6
number NoSuchFeed = 7
number NotThere = 8
number BufferTooShort = 9
number OtherRackOrNet = 10
number RackFull = 21
number TapTaken = 22
number PulseWaiting = 23
number TicksSpent = 24
number (LeavesRange u) = 25
number NoUnits = 26
number (ModulusUntold u) = 27
