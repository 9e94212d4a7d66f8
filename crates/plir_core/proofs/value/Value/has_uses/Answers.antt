use Rattle.std.proofs.Common.{◌<◌, sym, subst}
use Rattle.std.proofs.lemmas.Bool.{ltb-true, lt-ltb}
use Rattle.plir_core.proofs.OnlyResult.{used_some, some_used}
use Rattle.plir_core.proofs.value.Value.has_uses.Goals as goal

pub returns-in-Some-clause-value : goal.returns-in-Some-clause-value
returns-in-Some-clause-value g c = (
  λ t. used_some c.args.ctx.now c.args.self (subst (λ n. 0 < n) c.in-Some.ensures (ltb-true 0 c.in-Some.count t)),
  λ u. lt-ltb 0 c.in-Some.count (subst (λ n. 0 < n) (sym c.in-Some.ensures) (some_used c.args.ctx.now c.args.self u)),
)
