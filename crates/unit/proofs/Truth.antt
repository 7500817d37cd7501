-- Two tests at once.
use Rattle.std.proofs.Common.{Bool, true, false, ◌&&◌, T}

pub both : (a b : Bool) → T (a && b) → T a × T b
both true b t = (tt, t)
both false b t = absurd t

pub joined : (a b : Bool) → T a → T b → T (a && b)
joined true b p q = q
joined false b p q = absurd p
