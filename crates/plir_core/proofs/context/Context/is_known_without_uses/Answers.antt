use Rattle.std.proofs.Common.{arith}
use Rattle.std.proofs.lemmas.Bool.{eqb-true}
use Rattle.plir_core.proofs.OnlyResult.{some_used}
use Rattle.plir_core.proofs.context.Context.is_known_without_uses.Goals as goal

pub returns-in-Some : goal.returns-in-Some
returns-in-Some g c t u =
    let some = some_used c.args.self.now c.args.value u in
    let none = eqb-true c.in-Some.count 0 t in
    omega (arith, some, c.in-Some.ensures, none)
