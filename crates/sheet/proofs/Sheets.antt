-- What the lawful frames of a patch say of its figures; the blank sheet's are lawful.
use Rattle.std.proofs.Common.{◌≡◌, ℕ, ◌≤◌, List, [], ◌∷◌, length, refl, ◌∙◌, subst, arith}
use mathlib.Core.Logic.{∥∥₁_elim}
use native.Mathlib.Bridge.{le_prop}
use Rattle.std.proofs.lemmas.Int.{ints}
use Rattle.frames.specs.Frames.{count, integrator, last}
use Rattle.frames.specs.Rules.{Lawful, counted}
use Rattle.frames.proofs.Counts.{counted_few}
use Rattle.layers.specs.declared.turn.Sense.TheVariants.{Upright}
use Rattle.sheet.specs.Patches.{frames, unit_frames}
use Rattle.sheet.specs.declared.parts.Plug.{Plug}
use Rattle.sheet.specs.declared.parts.UnitFigures.{UnitFigures}
use Rattle.sheet.specs.Texts.{frames_of}
use Rattle.sheet.specs.Views.{units_of, taps_of}
use Rattle.sheet.specs.declared.sheet.Sheet.{Sheet}
use Rattle.sheet.proofs.Counting.{units_counted, taps_counted}

pub frames_counted : (us : List UnitFigures) (ps : List Plug) (t q : ℕ) → counted (frames us ps t q) ≡ length us
frames_counted us ps t q = taps_counted (unit_frames (length us) us (length us)) ps (length ps) ∙ units_counted (length us) us (length us)

pub few : (s : Sheet) → length (units_of s) ≤ 64
few s = ∥∥₁_elim s.lawful le_prop (λ l. subst (λ k. k ≤ 64) (frames_counted (units_of s) (taps_of s) s.ticks s.step) (counted_few (frames_of s) l))

pub blank_lawful : Lawful (last 0 1 ∷ integrator 0 1 0 0 1 0 ∷ count 1 ∷ [])
blank_lawful = (
  (
    (tt, record { expected = refl; fits = (omega arith, tt); ordered = tt; ranged = (omega arith, omega arith); sourced = tt }),
    record {
      expected = omega arith;
      fits = (omega arith, (omega arith, (omega arith, (omega arith, (omega arith, (omega arith, tt))))));
      ordered = refl;
      ranged = (
        record {
          shortest = omega arith;
          longest = omega arith;
          position = record { above = omega (arith, ints); below = omega (arith, ints) };
          residue = record { above = omega (arith, ints); below = omega (arith, ints) };
        },
        omega arith,
        (Upright, refl),
      );
      sourced = tt;
    },
  ),
  record { expected = record { some = omega arith; all = refl; open_end = refl }; fits = (omega arith, (omega arith, tt)); ordered = tt; ranged = omega arith; sourced = tt },
)
