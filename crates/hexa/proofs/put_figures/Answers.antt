use Rattle.std.proofs.Common.{length, arith}
use Rattle.std.proofs.lemmas.List.{length_push}
use Rattle.std.proofs.lemmas.Slice.Zip.{zip_turn}
use Rattle.buffer.proofs.Appending.{then, length-rest}
use Rattle.hexa.proofs.Widths.{hexes_more, length-next}
use Rattle.hexa.proofs.put_figures.Goals as goal

pub put_hex-requires : goal.put_hex-requires
put_hex-requires g c =
    let t = zip_turn c.args.widths c.args.values _ _ _ c.next.new.self _ (cc) (cc) c.loop-width.yielded_by _ c.in-Some.is c.next.ensures.steps in
    omega (arith, t.0, t.2 0, length-next c.args.widths c.args.values (length c.loop-width.yielded) (omega arith) t.0, length-rest c.loop-width.invariant)

pub loop-width-preserved : goal.loop-width-preserved
loop-width-preserved g c =
    let t = zip_turn c.args.widths c.args.values _ _ _ c.next.new.self _ (cc) (cc) c.loop-width.yielded_by _ c.in-Some.is c.next.ensures.steps in
    rw (length_push c.loop-width.yielded _, hexes_more c.args.widths c.args.values (length c.loop-width.yielded) t.0 t.1, ← t.2 0, ← t.3 0) (then c.loop-width.invariant c.put_hex.ensures)
