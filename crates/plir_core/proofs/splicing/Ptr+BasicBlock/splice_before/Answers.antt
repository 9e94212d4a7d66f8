use Rattle.std.proofs.Common.{refl, ◌∙◌, ap}
use Rattle.plir_store.specs.Table.{is_live_at}
use Rattle.plir_core.specs.ContextView.{ContextView}
use Rattle.plir_core.specs.declared.ptr.IRNode.TheVariants.{Operation, BasicBlock}
use Rattle.plir_core.proofs.ChildPlaces.{first_is}
use Rattle.plir_core.proofs.Transfer.{all-start, all-end, all-next, all-more, all-fewer}
use Rattle.plir_core.proofs.splicing.Ptr+BasicBlock.splice_before.Goals as goal

pub loop-op-init : goal.loop-op-init
loop-op-init g c = record {
  moving = all-start c.args.ctx.now.nodes (BasicBlock c.args.self) (Operation c.args.mark)
      c.stands.ensures.whole.stored c.requires.not_above;
  stored = c.stands.ensures.whole.stored;
  types = refl;
  blocks = refl;
}

pub get_head-requires : goal.get_head-requires
get_head-requires g c =
    ap (λ z. is_live_at z c.args.self.slot c.args.self.version) c.loop-op.invariant.blocks ∙ c.requires.live

pub move_before-requires : goal.move_before-requires
move_before-requires g c =
    let next = all-next c.args.ctx.now.nodes (BasicBlock c.args.self) (Operation c.args.mark)
    c.stands.ensures.whole.stored c.requires.linked c.loop-op.ctx.nodes c.loop-op.invariant.stored
    c.loop-op.invariant.moving (Operation c.in-Some.op)
    (first_is c.loop-op.ctx.nodes (BasicBlock c.args.self) Operation _ _ c.get_head.ensures.value c.in-Some.is) in
    record { live = next.live; mark_live = next.mark_live; linked = next.linked; not_above = next.not_above }

pub loop-op-smaller : goal.loop-op-smaller
loop-op-smaller g c =
    all-fewer c.args.ctx.now.nodes (BasicBlock c.args.self) (Operation c.args.mark) c.stands.ensures.whole.stored
    c.requires.linked c.loop-op.ctx.nodes c.loop-op.invariant.stored c.loop-op.invariant.moving
    (Operation c.in-Some.op)
    (first_is c.loop-op.ctx.nodes (BasicBlock c.args.self) Operation _ _ c.get_head.ensures.value c.in-Some.is)
    c.move_before.new.ctx.nodes c.move_before.ensures.moved

pub loop-op-preserved : goal.loop-op-preserved
loop-op-preserved g c = record {
  moving =
      all-more c.args.ctx.now.nodes (BasicBlock c.args.self) (Operation c.args.mark) c.stands.ensures.whole.stored
      c.requires.linked c.loop-op.ctx.nodes c.loop-op.invariant.stored c.loop-op.invariant.moving
      (Operation c.in-Some.op)
      (first_is c.loop-op.ctx.nodes (BasicBlock c.args.self) Operation _ _ c.get_head.ensures.value c.in-Some.is)
      c.move_before.new.ctx.nodes c.move_before.ensures.moved;
  stored = c.move_before.ensures.whole.stored;
  types =
      ap (λ (z : ContextView g.row.D-Kind.Denot g.row.D-Attr.Denot g.row.D-Ty.Denot). z.types)
      c.move_before.ensures.after
      ∙ c.loop-op.invariant.types;
  blocks =
      ap (λ (z : ContextView g.row.D-Kind.Denot g.row.D-Attr.Denot g.row.D-Ty.Denot). z.nodes.blocks)
      c.move_before.ensures.after
      ∙ c.loop-op.invariant.blocks;
}

pub returns-clause-spliced : goal.returns-clause-spliced
returns-clause-spliced g c =
    all-end c.args.ctx.now.nodes (BasicBlock c.args.self) (Operation c.args.mark) c.stands.ensures.whole.stored
    c.loop-op.ctx.nodes
    (first_is c.loop-op.ctx.nodes (BasicBlock c.args.self) Operation _ _ c.get_head.ensures.value c.in_default.is)
    c.loop-op.invariant.moving
