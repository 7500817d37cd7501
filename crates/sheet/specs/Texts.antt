-- The text of a sheet.
use Rattle.std.specs.Prelude.{ℕ, List}
use Rattle.fixedvec.specs.Items.{items}
use Rattle.frames.specs.Frames.{Frame, text}
use Rattle.sheet.specs.Patches.{frames}
use Rattle.sheet.specs.declared.sheet.Sheet.{Sheet}

abbrev pub frames_of : Sheet → List Frame
frames_of s = frames (items s.units) (items s.plugs) s.ticks s.step

abbrev pub written : Sheet → List ℕ
written s = text (frames_of s)
