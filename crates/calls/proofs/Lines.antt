-- The outside lines of a net, and those that the calls' answers tell of.
use Rattle.std.proofs.Common.{◌≡◌, ℕ, zero, suc, ◌+◌, false, List, [], ◌∷◌, ◌++◌, map, length, get_or, set, replicate, is_some, Some, None, Option, refl, add-one, arith}
use Rattle.unit.specs.Pulses.{value}
use Rattle.unit.specs.declared.pulse.Pulse.{Pulse}
use Rattle.net.specs.Signals.{or_zero}
use Rattle.calls.specs.Law.{Lines, oldest, without_oldest, waits, ticked, ticked_by}

oldest_waits : (o : Option Pulse) → oldest (waits o) ≡ value (or_zero o)
oldest_waits None = refl
oldest_waits (Some z) = refl

none_left : (o : Option Pulse) → without_oldest (waits o) ≡ []
none_left None = refl
none_left (Some z) = refl

-- what the lines give at a tick
pub given_by : (os : List (Option Pulse)) → map oldest (map waits os) ≡ map (λ o. value (or_zero o)) os
given_by [] = refl
given_by (o ∷ os) = let a = oldest_waits o in let b = given_by os in cc

-- after a tick nothing waits
pub emptied_by : (os : List (Option Pulse)) → length os ≡ 4 → map waits (replicate 4 None) ≡ map without_oldest (map waits os)
emptied_by [] h = absurd (omega arith)
emptied_by (a ∷ []) h = absurd (omega arith)
emptied_by (a ∷ b ∷ []) h = absurd (omega arith)
emptied_by (a ∷ b ∷ c ∷ []) h = absurd (omega arith)
emptied_by (a ∷ b ∷ c ∷ d ∷ []) h = let p = none_left a in let q = none_left b in let r = none_left c in let s = none_left d in cc
emptied_by (a ∷ b ∷ c ∷ d ∷ e ∷ os) h = absurd (omega arith)

nothing_waits : (o : Option Pulse) → is_some o ≡ false → waits o ≡ []
nothing_waits None e = refl
nothing_waits (Some z) e = let n : ◌≡◌ {A = ℕ} 0 1 = cc in absurd (omega arith)

-- after a feed its pulse waits on the line, which was free
pub fed_by : (os : List (Option Pulse)) (l : ℕ) (z : Pulse) → is_some (get_or os l None) ≡ false → map waits (set os l (Some z)) ≡ set (map waits os) l (get_or (map waits os) l [] ++ (value z ∷ []))
fed_by [] zero z e = refl
fed_by [] (suc l) z e = refl
fed_by (o ∷ os) zero z e = let n = nothing_waits o e in cc
fed_by (o ∷ os) (suc l) z e = let r = fed_by os l z e in cc

pub ticked_more : (k : ℕ) (s : Lines) → ticked_by (k + 1) s ≡ ticked (ticked_by k s)
ticked_more k s = rw add-one
