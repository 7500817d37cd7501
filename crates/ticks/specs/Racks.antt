-- One unit of a rack: what its step and its answers say of the whole rack. The default u of `slice_index_or` never matters,
-- since the place is there.
use Rattle.std.specs.Prelude.{◌≡◌, ℕ, List, ℤ, ◌+ℤ◌, slice_index_or, slice_set}
use Rattle.unit.specs.Figures.{Figures, Inside, Moved}
use Rattle.unit.specs.declared.pulse.Pulse.{Pulse}

-- the figures of the unit at place i
abbrev pub at_place : {U : Type 0} → (U → Figures) → List U → ℕ → U → Figures
at_place figures rack i u = figures (slice_index_or rack i u)

-- the unit at place i would accept the tally s
abbrev pub Accepts : Figures → ℤ → Type 0
Accepts f s = Inside f.constants (f.position +ℤ s)

abbrev pub AcceptsAt : {U : Type 0} → (U → Figures) → List U → ℕ → ℤ → Type 0
AcceptsAt {U} figures rack i s = (u : U) → Accepts (at_place figures rack i u) s

-- an accepted step of the unit at place i; every other unit of the rack is what it was
abbrev pub MovesAt : {U : Type 0} → (U → Figures) → List U → ℕ → Pulse → ℤ → Pulse → List U → Type 0
MovesAt {U} figures rack i x s z later = (u : U) → Moved (at_place figures rack i u) x s z (at_place figures later i u) × (later ≡ slice_set rack i (slice_index_or later i u))
