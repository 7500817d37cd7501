-- One tap more.
use Rattle.std.proofs.Common.{◌≡◌, ℕ, suc, ◌+◌, ◌<◌, ◌≤◌, List, ◌∷◌, refl, ap, ◌∙◌, arith}
use Rattle.std.proofs.lemmas.Bool.{eq-eqb, ne_eqb}
use Rattle.frames.specs.Frames.{Frame, tap}
use Rattle.frames.specs.Rules.{how_many, is_tap_of, is_y_of}
use Rattle.sheet.specs.Patches.{unit_frames}
use Rattle.sheet.specs.declared.parts.UnitFigures.{UnitFigures}
use Rattle.sheet.proofs.Counting.{one_more, no_more, units_no_tap, units_no_y, units_no_latest}
use Rattle.wires.specs.declared.tap.Input.{Input}
use Rattle.wires.specs.declared.tap.Input.TheVariants.{X, Y}
use Rattle.entries.specs.Turns.{Taps}

module _ (above : List Frame) (u g t : ℕ) where
  own_tap : (i : Input) → how_many (is_tap_of u) (tap i u g t ∷ above) ≡ suc (how_many (is_tap_of u) above)
  own_tap i = one_more (is_tap_of u) (tap i u g t) above (eq-eqb u u refl)

  own_y : how_many (is_y_of u) (tap Y u g t ∷ above) ≡ suc (how_many (is_y_of u) above)
  own_y = one_more (is_y_of u) (tap Y u g t) above (eq-eqb u u refl)

  other_tap : (i : Input) (v : ℕ) → u < v → how_many (is_tap_of v) (tap i u g t ∷ above) ≡ how_many (is_tap_of v) above
  other_tap i v h = no_more (is_tap_of v) (tap i u g t) above (ne_eqb u v (λ e. omega arith))

  other_y : (v : ℕ) → u < v → how_many (is_y_of v) (tap Y u g t ∷ above) ≡ how_many (is_y_of v) above
  other_y v h = no_more (is_y_of v) (tap Y u g t) above (ne_eqb u v (λ e. omega arith))

  pub add_x : (ys n : ℕ) → Taps above u 0 ys n → ys ≤ 0 → Taps (tap X u g t ∷ above) u 1 0 (n + 1)
  add_x ys n h z = record {
    below = omega arith;
    of_unit = own_tap X ∙ ap suc h.of_unit;
    y_of_unit = omega (arith, h.y_of_unit);
    no_taps = λ v lt. other_tap X v lt ∙ h.no_taps v lt;
    no_ys = λ v lt. h.no_ys v lt;
    few = omega (arith, h.few);
  }

  pub add_y : (taps ys n : ℕ) → Taps above u taps ys n → Taps (tap Y u g t ∷ above) u (taps + 1) (ys + 1) (n + 1)
  add_y taps ys n h = record {
    below = omega arith;
    of_unit = omega (arith, own_tap Y, h.of_unit);
    y_of_unit = omega (arith, own_y, h.y_of_unit);
    no_taps = λ v lt. other_tap Y v lt ∙ h.no_taps v lt;
    no_ys = λ v lt. other_y v lt ∙ h.no_ys v lt;
    few = omega (arith, h.few);
  }

-- below the frames of the units there is no tap yet
pub no_taps_yet : (c : ℕ) (us : List UnitFigures) (k u : ℕ) → Taps (unit_frames c us k) u 0 0 0
no_taps_yet c us k u = record {
  below = omega (arith, units_no_latest c us k);
  of_unit = units_no_tap c us u k;
  y_of_unit = units_no_y c us u k;
  no_taps = λ v lt. units_no_tap c us v k;
  no_ys = λ v lt. units_no_y c us v k;
  few = omega arith;
}
