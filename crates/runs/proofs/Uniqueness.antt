-- Of the lists of ticks with the same feeds only one fits.
use Rattle.std.proofs.Common.{◌≡◌, ℕ, zero, suc, ◌<◌, List, [], ◌∷◌, map, length, get_or, ℤ, pos, ◌+ℤ◌, ◌-ℤ◌, ◌*ℤ◌, sym, refl, ◌∙◌, arith, ext_get_or}
use Rattle.std.proofs.lemmas.Int.{ints}
use Rattle.unit.proofs.Division.{only_solution}
use Rattle.unit.specs.Figures.{Banded}
use Rattle.unit.specs.Solutions.{InBand}
use Rattle.runs.specs.Histories.{Wired, Tick, History, IsUnit, Fits, OnlyOneFits, net, work, residue}

abbrev tick : List ℤ → List ℤ → Tick
tick fed pulses = record { fed = fed; pulses = pulses }

left : (a r : ℤ) → a +ℤ (r -ℤ a) ≡ r
left a r = omega (arith, ints)

one_net : (m : ℕ) (low v p q : ℤ) → InBand m low (v -ℤ (pos m *ℤ p)) → InBand m low (v -ℤ (pos m *ℤ q)) → p ≡ q
one_net m low v p q a b =
    ((only_solution m low v q (v -ℤ (pos m *ℤ q)) (record { equation = left (pos m *ℤ q) v; band = b })).only p (v -ℤ (pos m *ℤ p)) (record { equation = left (pos m *ℤ p) v; band = a })).0

-- the same start, feeds and earlier ticks leave one number
one_pulse : (i : ℕ) (u : Wired) (h : History) (fed p q : List ℤ) → Banded u.start.constants (residue i u (tick fed p ∷ h)) → Banded u.start.constants (residue i u (tick fed q ∷ h)) → get_or p i (pos 0) ≡ get_or q i (pos 0)
one_pulse i u h fed p q a b =
    let e = one_net u.start.constants.modulus u.start.constants.low (u.start.residue +ℤ work u (tick fed p ∷ h)) (net i (tick fed p ∷ h)) (net i (tick fed q ∷ h)) a b in
    omega (arith, ints)

pub unit_at : (us : List Wired) (i : ℕ) → i < length us → (u : Wired) × IsUnit us i u
unit_at (u ∷ us) zero lt = (u, (lt, refl))
unit_at (u ∷ us) (suc i) lt = let a = unit_at us i (omega arith) in (a.0, (lt, a.1.1))
unit_at [] i lt = absurd (omega arith)

one_row : (us : List Wired) (h : History) (fed p q : List ℤ) → Fits us (tick fed p ∷ h) → Fits us (tick fed q ∷ h) → p ≡ q
one_row us h fed p q f k =
    ext_get_or (pos 0) p q (f.0 ∙ sym k.0)
    (λ i lt. let a = unit_at us i (rw (sym f.0) lt) in one_pulse i a.0 h fed p q (f.1 i a.0 a.1).1 (k.1 i a.0 a.1).1)

pub only_one_fits : OnlyOneFits
only_one_fits us [] [] e f g = refl
only_one_fits us [] (t ∷ h) e f g = let z : ◌≡◌ {A = ℕ} 0 1 = cc in absurd (omega arith)
only_one_fits us (s ∷ g) [] e f k = let z : ◌≡◌ {A = ℕ} 0 1 = cc in absurd (omega arith)
only_one_fits us (s ∷ g) (t ∷ h) e f k =
    let tails : map (λ t. t.fed) g ≡ map (λ t. t.fed) h = cc in
    let feds : s.fed ≡ t.fed = cc in
    let earlier : g ≡ h = only_one_fits us g h tails f.2 k.2 in
    let k' : Fits us (tick s.fed t.pulses ∷ g) = rw (feds, earlier) k in
    let row : s.pulses ≡ t.pulses = one_row us g s.fed s.pulses t.pulses f k' in
    λ j. tick (feds j) (row j) ∷ earlier j
