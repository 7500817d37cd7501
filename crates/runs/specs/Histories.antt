-- Runs of wired units: what follows from start figures, wires and a list of ticks, and when such a list fits.
use Rattle.std.specs.Prelude.{◌≡◌, ℕ, ◌<◌, List, [], ◌∷◌, map, length, ℤ, pos, ◌+ℤ◌, ◌-ℤ◌, ◌*ℤ◌, neg_ℤ, Some, None, Option, slice_index_or}
use Rattle.unit.specs.Figures.{Figures, Inside, Banded}
use Rattle.wires.specs.declared.source.Source.{Source}
use Rattle.wires.specs.declared.source.Source.TheVariants.{Place, Outside, Clock}
use Rattle.wires.specs.declared.tap.Sign.{Sign}
use Rattle.wires.specs.declared.tap.Sign.TheVariants.{Plus, Minus}
use Rattle.wires.specs.declared.tap.Tap.{Tap}

-- a unit at the start of a run, with its taps
pub record Wired : Type 0 where
  pub start : Figures
  pub x : Option Tap
  pub y : List (Option Tap)

-- one accepted tick: what each outside line gave, and one whole number for each unit
pub record Tick : Type 0 where
  pub fed : List ℤ
  pub pulses : List ℤ

-- the accepted ticks of a run, the newest first
abbrev pub History : Type 0
History = List Tick

-- what each unit gives at the next tick: its number of the tick before, or 0 at the first
abbrev pub lines : History → List ℤ
lines [] = []
lines (t ∷ h) = t.pulses

-- what a source gives, from what stands on the lines and what the outside lines give
abbrev pub gives : List ℤ → List ℤ → Source → ℤ
gives lines fed (Place j) = slice_index_or lines j (pos 0)
gives lines fed (Outside l) = slice_index_or fed l (pos 0)
gives lines fed Clock = pos 1

abbrev pub times : Sign → ℤ → ℤ
times Plus v = v
times Minus v = neg_ℤ v

abbrev pub delivers : List ℤ → List ℤ → Option Tap → ℤ
delivers lines fed None = pos 0
delivers lines fed (Some tap) = times tap.sign (gives lines fed tap.source)

abbrev pub tally : List ℤ → List ℤ → List (Option Tap) → ℤ
tally lines fed [] = pos 0
tally lines fed (tap ∷ taps) = delivers lines fed tap +ℤ tally lines fed taps

-- the start position and all that the y taps have delivered
abbrev pub position : Wired → History → ℤ
position u [] = u.start.position
position u (t ∷ h) = position u h +ℤ tally (lines h) t.fed u.y

-- the sum of weight times x pulse
abbrev pub work : Wired → History → ℤ
work u [] = pos 0
work u (t ∷ h) = work u h +ℤ (u.start.constants.weight (position u (t ∷ h)) *ℤ delivers (lines h) t.fed u.x)

-- the sum of the numbers of unit i
abbrev pub net : ℕ → History → ℤ
net i [] = pos 0
net i (t ∷ h) = net i h +ℤ slice_index_or t.pulses i (pos 0)

-- what the equation leaves: modulus · net + residue = start residue + work
abbrev pub residue : ℕ → Wired → History → ℤ
residue i u h = (u.start.residue +ℤ work u h) -ℤ (pos u.start.constants.modulus *ℤ net i h)

-- u is the unit with number i
abbrev pub IsUnit : List Wired → ℕ → Wired → Type 0
IsUnit us i u = (i < length us) × (slice_index_or us i u ≡ u)

-- a list of ticks fits when at each of them every position is in its range and every residue in its band
abbrev pub Fits : List Wired → History → Type 0
Fits us [] = Unit {0}
Fits us (t ∷ h) = (length t.pulses ≡ length us) × ((i : ℕ) (u : Wired) → IsUnit us i u → Inside u.start.constants (position u (t ∷ h)) × Banded u.start.constants (residue i u (t ∷ h))) × Fits us h

-- whatever other list is put in its place does not fit
abbrev pub OnlyOneFits : Type 0
OnlyOneFits = (us : List Wired) (g h : History) → map (λ t. t.fed) g ≡ map (λ t. t.fed) h → Fits us g → Fits us h → g ≡ h

-- all that one tap has delivered: its sign times all that its source gave
abbrev pub delivered : Option Tap → History → ℤ
delivered tap [] = pos 0
delivered tap (t ∷ h) = delivered tap h +ℤ delivers (lines h) t.fed tap

abbrev pub all_delivered : List (Option Tap) → History → ℤ
all_delivered [] h = pos 0
all_delivered (tap ∷ taps) h = delivered tap h +ℤ all_delivered taps h
