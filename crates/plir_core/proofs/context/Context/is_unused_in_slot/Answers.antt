use Rattle.std.proofs.Common.{ap}
use Rattle.plir_core.specs.ContextView.{ContextView}
use Rattle.plir_core.proofs.context.Context.is_unused_in_slot.Goals as goal
use Rattle.plir_core.proofs.Scan.{IsUnusedAt-op, IsUnusedAt-in, IsUnusedAt-told, true_unless}

pub returns-then-uses_none_of : goal.returns-then-uses_none_of
returns-then-uses_none_of g c = (
  λ t. IsUnusedAt-op c.args.self.now c.args.root c.args.slot c.self.inside.nodes
      (ap (λ (z : ContextView g.row.D-Kind.Denot g.row.D-Attr.Denot g.row.D-Ty.Denot). z.nodes) c.self.view_is)
      c.in-Some.op c.in-Some.ensures.here c.in-Some.ensures.live (λ out. c.uses_none_of.ensures.0 t),
  λ u. c.if-uses_none_of.true,
)

pub returns-else-uses_none_of : goal.returns-else-uses_none_of
returns-else-uses_none_of g c =
    let same = ap (λ (z : ContextView g.row.D-Kind.Denot g.row.D-Attr.Denot g.row.D-Ty.Denot). z.nodes) c.self.view_is
    in (
      λ t. IsUnusedAt-in c.args.self.now c.args.root c.args.slot c.self.inside.nodes same c.in-Some.op
          c.in-Some.ensures.here c.in-Some.ensures.live (c.is_ancestor.ensures.0 t),
      λ u. true_unless c.is_ancestor.result (λ no.
          let told = IsUnusedAt-told c.args.self.now c.args.root c.args.slot c.self.inside.nodes same c.in-Some.op
          c.in-Some.ensures.here c.in-Some.ensures.live (λ r. let t = c.is_ancestor.ensures.1 r in let f : ⊥ = cc in
          f) u in
          let yes = c.uses_none_of.ensures.1 told in
          let f : ⊥ = cc in
          f),
    )
