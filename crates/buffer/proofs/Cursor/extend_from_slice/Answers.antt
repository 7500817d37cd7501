use Rattle.std.proofs.Common.{rules}
use Rattle.std.proofs.lemmas.Slice.{overwrites}
use Rattle.buffer.proofs.Cursor.extend_from_slice.Goals as goal

pub returns : goal.returns
returns c = search (rules, overwrites)
