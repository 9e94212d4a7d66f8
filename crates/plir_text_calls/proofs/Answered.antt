-- What an answer is, from what it is where it is one and where it is refused.
use Rattle.std.proofs.Common.{Result, Ok, Err, IfErr, IfOk, MatchResult}

pub where_ok : {X E : Type 0} (P : X → Type 0) (Q : E → Type 0) (r : Result X E) → MatchResult r P Q → IfOk r P
where_ok P Q (Ok x) h = h
where_ok P Q (Err e) h = tt

pub where_err : {X E : Type 0} (P : X → Type 0) (Q : E → Type 0) (r : Result X E) → MatchResult r P Q → IfErr r Q
where_err P Q (Ok x) h = tt
where_err P Q (Err e) h = h
