-- One unit more keeps what is there.
use Rattle.std.proofs.Common.{ℕ, ◌+◌, T, ltb, List, [], ◌∷◌, Some, None, Option, arith, ltb→lt, lt→ltb}
use Rattle.unit.proofs.Truth.{both, joined}
use Rattle.wires.specs.Sources.{there}
use Rattle.wires.specs.declared.source.Source.{Source}
use Rattle.wires.specs.declared.source.Source.TheVariants.{Place, Outside, Clock}
use Rattle.wires.specs.declared.tap.Tap.{Tap}
use Rattle.net.specs.Bounds.{Wired, tap_there, taps_there}
use Rattle.net.specs.declared.record.Record.{Record}

source_more : (n : ℕ) (s : Source) → T (there n s) → T (there (n + 1) s)
source_more n (Place j) h =
    let p = both (ltb j n) (ltb j 64) h in
    let l = ltb→lt j n p.0 in
    joined (ltb j (n + 1)) (ltb j 64) (lt→ltb j (n + 1) (omega arith)) p.1
source_more n (Outside l) h = h
source_more n Clock h = tt

tap_more : (n : ℕ) (t : Option Tap) → T (tap_there n t) → T (tap_there (n + 1) t)
tap_more n None h = tt
tap_more n (Some t) h = source_more n t.source h

taps_more : (n : ℕ) (ts : List (Option Tap)) → T (taps_there n ts) → T (taps_there (n + 1) ts)
taps_more n [] h = tt
taps_more n (t ∷ ts) h = let p = both (tap_there n t) (taps_there n ts) h in joined _ _ (tap_more n t p.0) (taps_more n ts p.1)

pub wired_more : (n : ℕ) (r : Record) → Wired n r → Wired (n + 1) r
wired_more n r h = let p = both (tap_there n r.x) (taps_there n r.y) h in joined _ _ (tap_more n r.x p.0) (taps_more n r.y p.1)
