-- How many frames of a kind the frames of a patch have.
use Rattle.std.proofs.Common.{◌≡◌, ℕ, zero, suc, ◌+◌, Bool, true, false, cond, List, ◌∷◌, length, get_or, filter, refl, ap, ◌∙◌, arith}
use Rattle.frames.specs.Frames.{Frame}
use Rattle.frames.specs.Rules.{counted, latest, how_many, is_unit, is_last, is_tap_of, is_y_of}
use Rattle.sheet.specs.Patches.{unit_frame, make_frame, unit_frames, tap_frames, blank_unit}
use Rattle.sheet.specs.declared.parts.MakeFigures.{MakeFigures}
use Rattle.sheet.specs.declared.parts.MakeFigures.TheVariants.{Integrator, Servo}
use Rattle.sheet.specs.declared.parts.UnitFigures.{UnitFigures}
use Rattle.sheet.specs.declared.parts.Plug.{Plug}

-- a frame of a unit, whatever its make
pub record OfUnit (f : Frame) : Type 0 where
  pub unit : is_unit f ≡ true
  pub other : is_last f ≡ false
  pub no_tap : (u : ℕ) → is_tap_of u f ≡ false
  pub no_y : (u : ℕ) → is_y_of u f ≡ false
  pub counts : (above : List Frame) → counted (f ∷ above) ≡ counted above
  pub no_latest : (above : List Frame) → latest (f ∷ above) ≡ 0

pub of_unit : (u p k s : ℕ) (m : MakeFigures) → OfUnit (make_frame u m p k s)
of_unit u p k s (Integrator n r) = record { unit = refl; other = refl; no_tap = λ v. refl; no_y = λ v. refl; counts = λ a. refl; no_latest = λ a. refl }
of_unit u p k s (Servo l) = record { unit = refl; other = refl; no_tap = λ v. refl; no_y = λ v. refl; counts = λ a. refl; no_latest = λ a. refl }

pub unit_is : (u : ℕ) (x : UnitFigures) → OfUnit (unit_frame u x)
unit_is u x = of_unit u _ _ _ x.make

pub one_more : (kind : Frame → Bool) (f : Frame) (above : List Frame) → kind f ≡ true → how_many kind (f ∷ above) ≡ suc (how_many kind above)
one_more kind f above e = ap (λ b. length (cond b (f ∷ filter kind above) (filter kind above))) e

pub no_more : (kind : Frame → Bool) (f : Frame) (above : List Frame) → kind f ≡ false → how_many kind (f ∷ above) ≡ how_many kind above
no_more kind f above e = ap (λ b. length (cond b (f ∷ filter kind above) (filter kind above))) e

module _ (c : ℕ) (us : List UnitFigures) where
  pub units_counted : (k : ℕ) → counted (unit_frames c us k) ≡ c
  units_counted zero = refl
  units_counted (suc k) = (unit_is k (get_or us k blank_unit)).counts (unit_frames c us k) ∙ units_counted k

  pub units_many : (k : ℕ) → how_many is_unit (unit_frames c us k) ≡ k
  units_many zero = refl
  units_many (suc k) = one_more is_unit (unit_frame k (get_or us k blank_unit)) (unit_frames c us k) (unit_is k (get_or us k blank_unit)).unit ∙ ap suc (units_many k)

  pub units_open : (k : ℕ) → how_many is_last (unit_frames c us k) ≡ 0
  units_open zero = refl
  units_open (suc k) = no_more is_last (unit_frame k (get_or us k blank_unit)) (unit_frames c us k) (unit_is k (get_or us k blank_unit)).other ∙ units_open k

  pub units_no_tap : (u k : ℕ) → how_many (is_tap_of u) (unit_frames c us k) ≡ 0
  units_no_tap u zero = refl
  units_no_tap u (suc k) = no_more (is_tap_of u) (unit_frame k (get_or us k blank_unit)) (unit_frames c us k) ((unit_is k (get_or us k blank_unit)).no_tap u) ∙ units_no_tap u k

  pub units_no_y : (u k : ℕ) → how_many (is_y_of u) (unit_frames c us k) ≡ 0
  units_no_y u zero = refl
  units_no_y u (suc k) = no_more (is_y_of u) (unit_frame k (get_or us k blank_unit)) (unit_frames c us k) ((unit_is k (get_or us k blank_unit)).no_y u) ∙ units_no_y u k

  pub units_no_latest : (k : ℕ) → latest (unit_frames c us k) ≡ 0
  units_no_latest zero = refl
  units_no_latest (suc k) = (unit_is k (get_or us k blank_unit)).no_latest (unit_frames c us k)

  pub units_long : (k : ℕ) → length (unit_frames c us k) ≡ suc k
  units_long zero = refl
  units_long (suc k) = ap suc (units_long k)

module _ (above : List Frame) (ps : List Plug) where
  pub taps_counted : (n : ℕ) → counted (tap_frames above ps n) ≡ counted above
  taps_counted zero = refl
  taps_counted (suc n) = taps_counted n

  pub taps_units : (n : ℕ) → how_many is_unit (tap_frames above ps n) ≡ how_many is_unit above
  taps_units zero = refl
  taps_units (suc n) = taps_units n

  pub taps_open : (n : ℕ) → how_many is_last (tap_frames above ps n) ≡ how_many is_last above
  taps_open zero = refl
  taps_open (suc n) = taps_open n

  pub taps_long : (n : ℕ) → length (tap_frames above ps n) ≡ n + length above
  taps_long zero = omega arith
  taps_long (suc n) = omega (arith, taps_long n)
