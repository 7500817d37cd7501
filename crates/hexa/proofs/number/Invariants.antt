use Rattle.std.proofs.Common.{◌≡◌, ◌^◌, ◌<◌, take}
use Rattle.hexa.specs.Hex.{hex}
use Rattle.hexa.proofs.number.Given as goal

abbrev pub invariant-loop-d : goal.invariant-loop-d
invariant-loop-d l = (l.v < 16 ^ l.d-index) × (take l.d-index l.digits ≡ hex l.d-index l.v)
