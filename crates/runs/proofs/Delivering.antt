-- A position is the start position and what each tap has delivered.
use Rattle.std.proofs.Common.{◌≡◌, List, [], ◌∷◌, pos, ◌+ℤ◌, Option, arith}
use Rattle.std.proofs.lemmas.Int.{ints}
use Rattle.wires.specs.declared.tap.Tap.{Tap}
use Rattle.runs.specs.Histories.{Wired, Tick, History, lines, tally, all_delivered, position}

none_delivered : (taps : List (Option Tap)) → all_delivered taps [] ≡ pos 0
none_delivered [] = omega (arith, ints)
none_delivered (tap ∷ taps) = let e = none_delivered taps in omega (arith, ints)

more_delivered : (taps : List (Option Tap)) (t : Tick) (h : History) → all_delivered taps (t ∷ h) ≡ all_delivered taps h +ℤ tally (lines h) t.fed taps
more_delivered [] t h = omega (arith, ints)
more_delivered (tap ∷ taps) t h = let e = more_delivered taps t h in omega (arith, ints)

pub position_delivered : (w : Wired) (h : History) → position w h ≡ w.start.position +ℤ all_delivered w.y h
position_delivered w [] = let e = none_delivered w.y in omega (arith, ints)
position_delivered w (t ∷ h) = let e = position_delivered w h in let f = more_delivered w.y t h in omega (arith, ints)
