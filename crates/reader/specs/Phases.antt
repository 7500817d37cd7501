-- How far a reader has come in a text, and how each phase ends: at its last frame, or at the text's first fault.
use Rattle.std.specs.Prelude.{◌≡◌, ℕ, ◌≤◌, List, [], ◌∷◌, ◌++◌, length, drop, Ok, Err, Result}
use Rattle.std.specs.List.{All}
use Rattle.fixedvec.specs.Items.{items}
use Rattle.fixedvec.specs.declared.Filler.{Ghosts}
use Rattle.fixedvec.specs.declared.FixedVec.{FixedVec}
use Rattle.frames.specs.Faults.{Extent, Fault}
use Rattle.frames.specs.Frames.{Frame, count, text}
use Rattle.frames.specs.Rules.{Lawful}
use Rattle.lines.specs.declared.reader.LineReader.{LineReader}
use Rattle.sheet.specs.Patches.{unit_frames, frames, Placed, HasSource}
use Rattle.sheet.specs.declared.parts.UnitFigures.{UnitFigures}
use Rattle.unit.specs.declared.refusal.TextFault.{TextFault}
use Rattle.reader.specs.declared.phases.Ending.{Ending}

-- the reader is in the text t, below lawful frames
pub record Reading (r : LineReader) (t : List ℕ) (above : List Frame) : Type 0 where
  pub text_is : r.text.now ≡ t
  pub extent : Extent t
  pub lawful : Lawful above
  pub cut : t ≡ text above ++ drop r.at t
  pub within : r.at ≤ length t
  pub numbered : r.lines ≡ length above
  pub early : r.lines ≤ r.at

abbrev pub CountRead : List ℕ → Result ℕ TextFault → LineReader → Type 0
CountRead t (Ok c) later = Reading later t (count c ∷ [])
CountRead t (Err f) later = Fault t f.refusal f.line

-- the first k of c units are read
pub record Units (t : List ℕ) (c k : ℕ) (us : List UnitFigures) (later : LineReader) : Type 0 where
  pub reading : Reading later t (unit_frames c us (length us))
  pub many : length us ≡ k
  pub placed : All Placed us

abbrev pub UnitsRead : {b : Ghosts UnitFigures} → List ℕ → ℕ → Result (FixedVec UnitFigures 64 b) TextFault → LineReader → Type 0
UnitsRead t c (Ok units) later = Units t c c (items units) later
UnitsRead t c (Err f) later = Fault t f.refusal f.line

-- all taps are read below these units, and then the last frame
pub record Ended (t : List ℕ) (us : List UnitFigures) (e : Ending) (later : LineReader) : Type 0 where
  pub room : length (items e.plugs) ≤ 320
  pub sourced : All (HasSource (length us)) (items e.plugs)
  pub reading : Reading later t (frames us (items e.plugs) e.ticks e.step)

abbrev pub TapsRead : List ℕ → List UnitFigures → Result Ending TextFault → LineReader → Type 0
TapsRead t us (Ok e) later = Ended t us e later
TapsRead t us (Err f) later = Fault t f.refusal f.line
