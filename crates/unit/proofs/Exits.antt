-- What the exit of a `?` returns, where the error is handed on as it is.
use Rattle.std.proofs.Common.{◌≡◌, Result, Ok, Err, ap}
use Rattle.std.specs.Result.{IsErrAnd}

pub passed_on : {X E : Type 0} {e : E} (r : Result X E) → IsErrAnd r (λ y. y ≡ e) → r ≡ Err e
passed_on (Ok x) h = absurd h
passed_on (Err y) h = ap (λ z. Err z) h
