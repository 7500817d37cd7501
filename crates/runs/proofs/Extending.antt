-- An accepted tick makes a history one tick longer.
use Rattle.std.proofs.Common.{◌≡◌, ℕ, zero, suc, ◌<◌, T, ltb, List, [], ◌∷◌, map, length, get_or, ℤ, pos, ◌+ℤ◌, ◌-ℤ◌, ◌*ℤ◌, Some, None, Option, sym, refl, ap, ◌∙◌, subst, arith, ltb→lt}
use Rattle.std.proofs.lemmas.List.{get_or-map, get_or-take, length-map, length-take-le}
use Rattle.std.proofs.lemmas.Int.{ints}
use Rattle.unit.proofs.Products.{times_plus}
use Rattle.unit.proofs.Signs.{opposite_value}
use Rattle.unit.proofs.Truth.{both}
use Rattle.unit.specs.Figures.{Figures, Constants, Inside, Banded, Lawful}
use Rattle.unit.specs.Pulses.{value}
use Rattle.unit.specs.declared.pulse.Pulse.{Pulse}
use Rattle.wires.specs.Sources.{there}
use Rattle.wires.specs.Taps.{signed}
use Rattle.wires.specs.declared.source.Source.{Source}
use Rattle.wires.specs.declared.source.Source.TheVariants.{Place, Outside, Clock}
use Rattle.wires.specs.declared.tap.Sign.{Sign}
use Rattle.wires.specs.declared.tap.Sign.TheVariants.{Plus, Minus}
use Rattle.wires.specs.declared.tap.Tap.{Tap}
use Rattle.net.specs.Bounds.{tap_there, taps_there}
use Rattle.net.specs.Records.{record_at, blank}
use Rattle.net.specs.Signals.{or_zero, given, delivered, sum}
use Rattle.net.specs.declared.net.Net.{Net}
use Rattle.ticks.specs.Ticks as ticks
use Rattle.runs.specs.Histories as runs
use Rattle.runs.specs.Histories.{Wired, Tick, History, IsUnit, Fits, lines, gives, times, delivers}
use Rattle.runs.specs.Standing.{Stands, Describes, next_fed, tick_of}
use Rattle.runs.proofs.Uniqueness.{unit_at}

signed_value : (s : Sign) (z : Pulse) → value (signed s z) ≡ times s (value z)
signed_value Plus z = refl
signed_value Minus z = opposite_value z

-- what the outside lines give, as a list of whole numbers
fed_at : (os : List (Option Pulse)) (l : ℕ) → value (or_zero (get_or os l None)) ≡ get_or (map (λ o. value (or_zero o)) os) l (pos 0)
fed_at [] l = refl
fed_at (o ∷ os) zero = refl
fed_at (o ∷ os) (suc l) = fed_at os l

pub pick : {U : Type 0} (us : List U) (i : ℕ) → i < length us → U
pick [] i h = absurd (omega arith)
pick (u ∷ us) i h = u

module _ {U : Type 0} (figures : U → Figures) (ws : List Wired) (h : History) (us : List U) (n : Net) (d : Describes figures ws h us n) where
  line_is : (j : ℕ) → j < length ws → value (record_at n.table.records j).line ≡ get_or (lines h) j (pos 0)
  line_is j lt = let w = unit_at ws j lt in (d.each j w.0 w.1 (pick us j (let r = d.room in omega arith))).line

  given_is : (s : Source) → T (there n.count s) → value (given n s) ≡ gives (lines h) (next_fed n) s
  given_is (Place j) t = line_is j (let c = d.count in omega (arith, ltb→lt j n.count (both (ltb j n.count) (ltb j 64) t).0))
  given_is (Outside l) t = fed_at n.outside l
  given_is Clock t = refl

  delivered_is : (tap : Option Tap) → T (tap_there n.count tap) → value (delivered n tap) ≡ delivers (lines h) (next_fed n) tap
  delivered_is None t = refl
  delivered_is (Some tap) t = signed_value tap.sign (given n tap.source) ∙ ap (times tap.sign) (given_is tap.source t)

  pub sum_is : (taps : List (Option Tap)) → T (taps_there n.count taps) → sum n taps ≡ runs.tally (lines h) (next_fed n) taps
  sum_is [] t = refl
  sum_is (tap ∷ taps) t =
      let p = both (tap_there n.count tap) (taps_there n.count taps) t in
      let a = delivered_is tap p.0 in
      let b = sum_is taps p.1 in
      cc

-- the residue by the equation of one step, from that of all before
solved : (start work gain mnet mz f g : ℤ) → f ≡ (start +ℤ work) -ℤ mnet → mz +ℤ g ≡ f +ℤ gain → g ≡ (start +ℤ (work +ℤ gain)) -ℤ (mnet +ℤ mz)
solved start work gain mnet mz f g a b = omega (arith, ints)

module _ {U : Type 0} (figures : U → Figures) (law : (u : U) → Lawful (figures u)) (ws : List Wired) (h : History) (us : List U) (n : Net) (d : Describes figures ws h us n) (vs : List U) (m : Net) (t : ticks.Ticked figures us n vs m) where
  abbrev newest : Tick
  newest = tick_of (length ws) n m

  module _ (i : ℕ) (w : Wired) (is : IsUnit ws i w) (u : U) where
    below : i < n.count
    below = let c = d.count in omega (arith, is.0)

    before : Stands i w h (figures (get_or us i u)) (record_at n.table.records i)
    before = d.each i w is u

    share : ticks.Advanced (ticks.x_pulse n i) (ticks.tally n i) (figures (get_or us i u)) (figures (get_or vs i u)) (record_at n.table.records i) (record_at m.table.records i)
    share = t.each i below u

    taps : T (tap_there n.count (record_at n.table.records i).x) × T (taps_there n.count (record_at n.table.records i).y)
    taps = both _ _ (n.wired i blank (let f = n.few in let b = below in omega arith))

    tally_is : ticks.tally n i ≡ runs.tally (lines h) (next_fed n) w.y
    tally_is = sum_is figures ws h us n d (record_at n.table.records i).y taps.1 ∙ ap (runs.tally (lines h) (next_fed n)) before.y

    x_is : value (ticks.x_pulse n i) ≡ delivers (lines h) (next_fed n) w.x
    x_is = delivered_is figures ws h us n d (record_at n.table.records i).x taps.0 ∙ ap (delivers (lines h) (next_fed n)) before.x

    pulse_is : value (record_at m.table.records i).line ≡ get_or newest.pulses i (pos 0)
    pulse_is =
        let f = n.few in
        let b = below in
        let full = m.table.full in
        sym (get_or-take (length ws) (map (λ r. value r.line) m.table.records) i (pos 0) is.0 ∙ get_or-map (λ r. value r.line) m.table.records i blank (pos 0) (omega arith))

    position_is : (figures (get_or vs i u)).position ≡ runs.position w (newest ∷ h)
    position_is = let a = share.moved.position in let b = before.position in let c = tally_is in cc

    constants_are : (figures (get_or vs i u)).constants ≡ w.start.constants
    constants_are = share.moved.constants ∙ before.constants

    gain_is : (figures (get_or us i u)).constants.weight (figures (get_or vs i u)).position *ℤ value (ticks.x_pulse n i) ≡ w.start.constants.weight (runs.position w (newest ∷ h)) *ℤ delivers (lines h) newest.fed w.x
    gain_is =
        let a = ap (λ (k : Constants). k.weight (figures (get_or vs i u)).position) before.constants in
        let b = ap w.start.constants.weight position_is in
        let c = x_is in
        cc

    net_is : (record_at m.table.records i).net ≡ runs.net i (newest ∷ h)
    net_is = let a = share.net in let b = before.net in let c = pulse_is in cc

    work_is : (record_at m.table.records i).work ≡ runs.work w (newest ∷ h)
    work_is =
        let a = share.work in
        let b = before.work in
        let c = ap (λ (k : Constants). k.weight (figures (get_or vs i u)).position) share.moved.constants in
        let e = gain_is in
        cc

    residue_is : (figures (get_or vs i u)).residue ≡ runs.residue i w (newest ∷ h)
    residue_is =
        let M = w.start.constants.modulus in
        let z = get_or newest.pulses i (pos 0) in
        let f = figures (get_or us i u) in
        let g = figures (get_or vs i u) in
        let gain = w.start.constants.weight (runs.position w (newest ∷ h)) *ℤ delivers (lines h) newest.fed w.x in
        let step : (pos M *ℤ z) +ℤ g.residue ≡ f.residue +ℤ gain =
        sym (ap (λ (k : Constants). (pos k.modulus *ℤ value (record_at m.table.records i).line) +ℤ g.residue) before.constants ∙ ap (λ (v : ℤ). (pos M *ℤ v) +ℤ g.residue) pulse_is)
        ∙ share.moved.balance.solves.equation ∙ ap (λ (v : ℤ). f.residue +ℤ v) gain_is in
        solved w.start.residue (runs.work w h) gain (pos M *ℤ runs.net i h) (pos M *ℤ z) f.residue g.residue before.residue step
        ∙ ap (λ (v : ℤ). (w.start.residue +ℤ (runs.work w h +ℤ gain)) -ℤ v) (sym (times_plus (pos M) (runs.net i h) z))

    stands_more : Stands i w (newest ∷ h) (figures (get_or vs i u)) (record_at m.table.records i)
    stands_more = record {
      constants = constants_are;
      position = position_is;
      residue = residue_is;
      x = share.x_tap ∙ before.x;
      y = share.y_taps ∙ before.y;
      line = pulse_is;
      net = net_is;
      work = work_is;
    }

    inside_more : Inside w.start.constants (runs.position w (newest ∷ h))
    inside_more =
        let here : Inside (figures (get_or us i u)).constants (figures (get_or vs i u)).position = subst (Inside (figures (get_or us i u)).constants) (sym share.moved.position) share.moved.inside in
        subst (Inside w.start.constants) position_is (subst (λ (k : Constants). Inside k (figures (get_or vs i u)).position) before.constants here)

    banded_more : Banded w.start.constants (runs.residue i w (newest ∷ h))
    banded_more = subst (Banded w.start.constants) residue_is (subst (λ (k : Constants). Banded k (figures (get_or vs i u)).residue) constants_are (law (get_or vs i u)).residue)

  pub describes_more : Describes figures ws (newest ∷ h) vs m
  describes_more = record {
    count = t.count ∙ d.count;
    room = let r = d.room in let p = t.places in omega arith;
    ticks = t.ticks ∙ (let e = d.ticks in omega arith);
    each = stands_more;
  }

  pub fits_more : Fits ws h → Fits ws (newest ∷ h)
  fits_more fits =
      let full = m.table.full in
      let few = n.few in
      let count = d.count in (
        length-take-le (length ws) (map (λ r. value r.line) m.table.records) (rw (length-map m.table.records (λ r. value r.line)) (omega arith)),
        (λ i w is. let u = pick us i (let r = d.room in omega (arith, is.0)) in (inside_more i w is u, banded_more i w is u)),
        fits,
      )
