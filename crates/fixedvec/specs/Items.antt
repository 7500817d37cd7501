-- What a vector of a fixed capacity holds.
use Rattle.std.specs.Prelude.{ℕ, List, take}
use Rattle.fixedvec.specs.declared.Filler.{Ghosts}
use Rattle.fixedvec.specs.declared.FixedVec.{FixedVec}

-- the items, in order
abbrev pub items : {T : Type 0} {cap : ℕ} {b : Ghosts T} → FixedVec T cap b → List T
items v = take v.len v.places
