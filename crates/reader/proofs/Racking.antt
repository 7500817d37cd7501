-- One unit more.
use Rattle.std.proofs.Common.{ℕ, ◌+◌, ◌<◌, List, [], ◌∷◌, ◌++◌, length, sym, ap, ◌∙◌, subst, arith}
use Rattle.std.proofs.lemmas.List.{length_push}
use Rattle.std.proofs.lemmas.List.Elements.{All-push}
use Rattle.entries.specs.Entries.{UnitWanted, UnitRead}
use Rattle.lines.specs.Lines.{Advanced}
use Rattle.lines.specs.declared.reader.LineReader.{LineReader}
use Rattle.lines.specs.declared.reader.Part.{Part}
use Rattle.sheet.specs.Patches.{unit_frame, unit_frames, Placed}
use Rattle.sheet.specs.declared.parts.UnitFigures.{UnitFigures}
use Rattle.sheet.proofs.Counting.{units_counted, units_many}
use Rattle.sheet.proofs.Slices.{units_push}
use Rattle.reader.specs.Phases.{Reading, Units}
use Rattle.reader.proofs.Reading.{more}

module _ {t : List ℕ} {c k : ℕ} {us : List UnitFigures} {r : LineReader} (sofar : Units t c k us r) where
  pub wanted : k < c → UnitWanted (unit_frames c us (length us)) k
  wanted h = record { fewer = omega (arith, units_counted c us (length us)); number = units_many c us (length us) ∙ sofar.many }

  pub unit_more : (part : Part) (later : LineReader) (x : UnitFigures) → Advanced r part later → UnitRead (unit_frames c us (length us)) k part.bytes.now x → Units t c (k + 1) (us ++ x ∷ []) later
  unit_more part later x a h = record {
    reading = subst (Reading later t) (ap (λ n. unit_frame n x ∷ unit_frames c us (length us)) (sym sofar.many) ∙ sym (units_push c us x)) (more sofar.reading a (unit_frame k x) h.keeps h.is);
    many = omega (arith, length_push us x, sofar.many);
    placed = All-push Placed us x sofar.placed h.placed;
  }
