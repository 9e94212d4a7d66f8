use Rattle.std.proofs.Common.{refl, ◌≡◌, ap, sym, subst, true}
use Rattle.plir_core.specs.declared.ptr.IRNode.TheVariants.{Operation, Region}
use Rattle.plir_core.specs.Contents.{OpView, BlockView}
use Rattle.plir_core.specs.Nodes.{Nodes, is_node_live}
use Rattle.plir_core.specs.ContextView.{ContextView}
use Rattle.plir_core.specs.Made.{IsRegionAdded}
use Rattle.plir_core.proofs.ptr.Operation.add_region.Goals as goal
use Rattle.plir_core.proofs.Counted.{Counts-linked}
use Rattle.plir_core.proofs.Added.{IsRegionAdded-made}
use Rattle.plir_core.proofs.Holds.{region_added}

pub invariant_of-ctx-2 : goal.invariant_of-ctx-2
invariant_of-ctx-2 g c =
    record {
      whole = region_added _ _ c.ctx.invariant.whole c.make_region.new.self _ c.in_ok-region.ensures.ok
          c.make_region.ensures.stored;
      counted = Counts-linked c.ctx.inside.uses c.ctx.inside.nodes c.make_region.new.self _ c.in_ok-region.ensures.ok
          refl c.ctx.invariant.counted;
    }

pub returns-clause-whole : goal.returns-clause-whole
returns-clause-whole g c = (invariant_of-ctx-2 g c).whole

pub returns-clause-added : goal.returns-clause-added
returns-clause-added g c =
    let same = ap (λ (z : ContextView g.row.D-Kind.Denot g.row.D-Attr.Denot g.row.D-Ty.Denot). z.nodes) c.ctx.view_is in
    subst (λ (z : Nodes (OpView g.row.D-Kind.Denot g.row.D-Attr.Denot) (BlockView g.row.D-Attr.Denot)). IsRegionAdded z
    c.make_region.new.self (Operation c.args.op) (Region c.in_ok-region.region)) same
    (IsRegionAdded-made c.ctx.inside.nodes c.make_region.new.self c.ctx.invariant.whole.stored c.args.op
    c.in_ok-region.region
    (subst (λ (z : Nodes (OpView g.row.D-Kind.Denot g.row.D-Attr.Denot) (BlockView g.row.D-Attr.Denot)). is_node_live z
    (Operation c.args.op) ≡ true) (sym same) c.requires)
    c.in_ok-region.ensures.ok c.make_region.ensures.stored c.in_ok-region.ensures.pointer)
