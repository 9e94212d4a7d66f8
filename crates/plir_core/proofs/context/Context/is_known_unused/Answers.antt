use Rattle.std.proofs.Common.{◌≡◌, Some, sym, subst, eq-eqb, rules}
use Rattle.std.specs.Prelude.{IfSome}
use Rattle.plir_core.specs.Stored.{seat_of}
use Rattle.plir_core.specs.Uses.{uses_of}
use Rattle.plir_core.proofs.context.Context.is_known_unused.Goals as goal

pub returns : goal.returns
returns g c = λ t.
    let some : c.known_uses.result ≡ Some 0 = search rules in
    let none = subst (λ r. IfSome r (λ n. n ≡ uses_of c.args.self.now.nodes.ops (seat_of c.args.node))) some
    c.known_uses.ensures in
    eq-eqb (uses_of c.args.self.now.nodes.ops (seat_of c.args.node)) 0 (sym none)
