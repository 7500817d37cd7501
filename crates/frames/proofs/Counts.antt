-- What lawful frames count.
use Rattle.std.proofs.Common.{◌≡◌, ℕ, ◌≤◌, ◌⊎◌, List, [], ◌∷◌, length, refl, ap, inl, inr, arith}
use Rattle.frames.specs.Frames.{Frame, count, integrator, servo, tap, last}
use Rattle.frames.specs.Rules.{Lawful, Expected, counted, how_many, is_last}

pub counted_few : (fs : List Frame) → Lawful fs → counted fs ≤ 64
counted_few [] h = omega arith
counted_few (count c ∷ fs) h = h.1.ranged.1
counted_few (integrator u n p r k s ∷ fs) h = counted_few fs h.0
counted_few (servo u l p k s ∷ fs) h = counted_few fs h.0
counted_few (tap i u g t ∷ fs) h = counted_few fs h.0
counted_few (last t q ∷ fs) h = counted_few fs h.0

pub counted_some : (f : Frame) (fs : List Frame) → Lawful (f ∷ fs) → 1 ≤ counted (f ∷ fs)
counted_some (count c) fs h = h.1.ranged.0
counted_some (integrator u n p r k s) fs h = omega (arith, h.1.expected)
counted_some (servo u l p k s) fs h = omega (arith, h.1.expected)
counted_some (tap i u g t) fs h = h.1.expected.some
counted_some (last t q) fs h = h.1.expected.some

-- nothing may stand below the last frame
pub nothing_expected : (t q : ℕ) (above : List Frame) → Lawful (last t q ∷ above) → (f : Frame) → Expected (last t q ∷ above) f → ⊥
nothing_expected t q above h (count c) x = omega (arith, ap length x)
nothing_expected t q above h (integrator u n p r k s) x = omega (arith, x, h.1.expected.all)
nothing_expected t q above h (servo u l p k s) x = omega (arith, x, h.1.expected.all)
nothing_expected t q above h (tap i u g s) x = omega (arith, x.open_end)
nothing_expected t q above h (last s p) x = omega (arith, x.open_end)

-- the last frame is the lowest, if it is there
abbrev LastIfAny : List Frame → Type 0
LastIfAny a = (how_many is_last a ≡ 0) ⊎ ((t : ℕ) × (q : ℕ) × (b : List Frame) × (a ≡ last t q ∷ b))

-- where a frame may stand below, the last has not come
not_yet : (a : List Frame) (f : Frame) → Lawful a → Expected a f → LastIfAny a → how_many is_last a ≡ 0
not_yet a f h x (inl none) = none
not_yet a f h x (inr (t, q, b, is)) = absurd (nothing_expected t q b (rw is at h) f (rw is at x))

pub ends : (a : List Frame) → Lawful a → LastIfAny a
ends [] h = inl refl
ends (last t q ∷ a) h = inr (t, q, a, refl)
ends (count c ∷ a) h = inl (not_yet a (count c) h.0 h.1.expected (ends a h.0))
ends (integrator u n p r k s ∷ a) h = inl (not_yet a (integrator u n p r k s) h.0 h.1.expected (ends a h.0))
ends (servo u l p k s ∷ a) h = inl (not_yet a (servo u l p k s) h.0 h.1.expected (ends a h.0))
ends (tap i u g t ∷ a) h = inl (not_yet a (tap i u g t) h.0 h.1.expected (ends a h.0))
