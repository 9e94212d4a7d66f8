use Rattle.std.proofs.Common.{◌≡◌, sym, subst}
use Rattle.std.specs.Prelude.{IfSome}
use Rattle.plir_core.specs.Stored.{seat_of}
use Rattle.plir_core.specs.ContextView.{ContextView}
use Rattle.plir_core.specs.Uses.{uses_of}
use Rattle.plir_core.proofs.NotUsed.{region_unused}
use Rattle.plir_core.proofs.context.Context.known_uses.Goals as goal

pub returns-in-Region : goal.returns-in-Region
returns-in-Region g c =
    sym (subst (λ n. uses_of c.args.self.now.nodes.ops (seat_of n) ≡ 0) (sym c.in-Region.is)
    (region_unused c.args.self.now.nodes.ops c.in-Region.field-0.slot))

pub returns-in-Operation : goal.returns-in-Operation
returns-in-Operation g c =
    subst (λ (z : ContextView g.row.D-Kind.Denot g.row.D-Attr.Denot g.row.D-Ty.Denot). IfSome c.known.result
    (λ n. n ≡ uses_of z.nodes.ops (seat_of c.args.node))) c.self.view_is
    (c.known.ensures (uses_of c.self.inside.nodes.ops) c.self.invariant.counted)
