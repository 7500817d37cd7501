-- A run, tick by tick.
use Rattle.std.proofs.Common.{ℕ, List, ◌∙◌, arith}
use Rattle.unit.specs.Figures.{Figures}
use Rattle.net.specs.declared.net.Net.{Net}
use Rattle.calls.specs.Calls.{Matches, TickMade}

-- an accepted tick leaves a rack and a net that belong to the job
pub still_matches : {U : Type 0} (figures : U → Figures) (units : ℕ) (us : List U) (n : Net) (vs : List U) (m : Net) → TickMade figures units us n vs m → Matches units vs m
still_matches figures units us n vs m t =
    let room = t.matches.room in
    let places = t.ticked.places in
    record { room = omega arith; count = t.ticked.count ∙ t.matches.count }
