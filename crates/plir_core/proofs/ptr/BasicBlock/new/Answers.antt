use Rattle.std.proofs.Common.{[], ◌∙◌, refl, ap, subst}
use Rattle.plir_core.specs.declared.ptr.IRNode.TheVariants.{BasicBlock}
use Rattle.plir_core.specs.Contents.{OpView, BlockView}
use Rattle.plir_core.specs.Nodes.{Nodes}
use Rattle.plir_core.specs.ContextView.{ContextView}
use Rattle.plir_core.specs.Edits.{with_new_block}
use Rattle.plir_core.specs.Made.{IsMade}
use Rattle.plir_core.proofs.ptr.BasicBlock.new.Goals as goal
use Rattle.plir_core.proofs.Counted.{Counts-made_block}
use Rattle.plir_core.proofs.Added.{IsAdded-made_block, IsMade-first}
use Rattle.plir_core.proofs.Holds.{block_new}

pub invariant_of-ctx-2 : goal.invariant_of-ctx-2
invariant_of-ctx-2 g c =
    let ok = c.in_ok-block.ensures.ok ∙ ap (λ (v : BlockView g.row.D-Attr.Denot). with_new_block c.ctx.inside.nodes v)
    c.in_ok-data.ensures.held in
    record {
      whole = block_new g.D.OpSet.attr_handles _ c.args.ctx.now c.ctx.view_is c.ctx.invariant.whole
          c.make_block.new.self c.args.label c.args.arg_types.items [] ok refl c.make_block.ensures.stored c.requires;
      counted = Counts-made_block g.D.OpSet.attr_handles _ c.ctx.invariant.whole c.ctx.inside.uses c.begin.new.self
          (record { label = c.args.label; arg_types = c.args.arg_types.items; attributes = [] }) c.make_block.new.self
          c.in_ok-block.block c.ctx.invariant.counted ok c.in_ok-block.ensures.pointer c.begin.ensures;
    }

pub returns-clause-whole : goal.returns-clause-whole
returns-clause-whole g c = (invariant_of-ctx-2 g c).whole

pub returns-clause-made : goal.returns-clause-made
returns-clause-made g c =
    let stored = c.ctx.invariant.whole.stored in
    subst (λ (z : Nodes (OpView g.row.D-Kind.Denot g.row.D-Attr.Denot) (BlockView g.row.D-Attr.Denot)). IsMade z
    c.make_block.new.self (BasicBlock c.in_ok-block.block)) (ap (λ (z : ContextView g.row.D-Kind.Denot
    g.row.D-Attr.Denot g.row.D-Ty.Denot). z.nodes) c.ctx.view_is)
    (IsMade-first c.ctx.inside.nodes c.make_block.new.self stored (BasicBlock c.in_ok-block.block)
    (IsAdded-made_block c.ctx.inside.nodes c.make_block.new.self stored _ c.in_ok-block.block
    c.in_ok-block.ensures.ok c.in_ok-block.ensures.pointer))

pub returns-clause-empty : goal.returns-clause-empty
returns-clause-empty g c = (IsAdded-made_block c.ctx.inside.nodes c.make_block.new.self c.ctx.invariant.whole.stored _
    c.in_ok-block.block c.in_ok-block.ensures.ok c.in_ok-block.ensures.pointer).leaf
