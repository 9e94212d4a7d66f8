use Rattle.std.proofs.Common.{refl, sym, ◌∙◌, ap, subst}
use Rattle.std.specs.Prelude.{option_map}
use Rattle.plir_store.specs.Table.{is_live_at}
use Rattle.plir_core.specs.ContextView.{ContextView}
use Rattle.plir_core.specs.declared.ptr.IRNode.TheVariants.{Operation, BasicBlock}
use Rattle.plir_core.proofs.Apart.{moved_live}
use Rattle.plir_core.proofs.Transfer.{IsTailMoving, tail-start, tail-end, tail-live, tail-away, tail-more, tail-fewer}
use Rattle.plir_core.proofs.splicing.Ptr+BasicBlock.move_tail.Goals as goal

pub loop-next-init : goal.loop-next-init
loop-next-init g c = record {
  moving = tail-start c.args.ctx.now.nodes (BasicBlock c.args.self) (BasicBlock c.args.target)
      (Operation c.args.first) c.requires.not_above;
  stored = c.stands.ensures.whole.stored;
  types = refl;
  blocks = refl;
}

pub get_next-next-requires : goal.get_next-next-requires
get_next-next-requires g c =
    tail-live c.args.ctx.now.nodes (BasicBlock c.args.self) (BasicBlock c.args.target) (Operation c.args.first)
    c.stands.ensures.whole.stored c.requires.here c.loop-next.ctx.nodes c.loop-next.invariant.stored
    _ c.loop-next.invariant.moving (Operation c.in-Some.op) (ap (option_map Operation) c.in-Some.is)

pub unlink-requires : goal.unlink-requires
unlink-requires g c =
    tail-live c.args.ctx.now.nodes (BasicBlock c.args.self) (BasicBlock c.args.target) (Operation c.args.first)
    c.stands.ensures.whole.stored c.requires.here c.loop-next.ctx.nodes c.loop-next.invariant.stored
    _ c.loop-next.invariant.moving (Operation c.in-Some.op) (ap (option_map Operation) c.in-Some.is)

pub insert_at_back-requires-clause-live : goal.insert_at_back-requires-clause-live
insert_at_back-requires-clause-live g c =
    moved_live _ _ _ c.unlink.ensures.unlinked.moved (Operation c.in-Some.op)
    ∙ tail-live c.args.ctx.now.nodes (BasicBlock c.args.self) (BasicBlock c.args.target) (Operation c.args.first)
    c.stands.ensures.whole.stored c.requires.here c.loop-next.ctx.nodes c.loop-next.invariant.stored
    _ c.loop-next.invariant.moving (Operation c.in-Some.op) (ap (option_map Operation) c.in-Some.is)

pub insert_at_back-requires-clause-target_live : goal.insert_at_back-requires-clause-target_live
insert_at_back-requires-clause-target_live g c =
    moved_live _ _ _ c.unlink.ensures.unlinked.moved (BasicBlock c.args.target)
    ∙ ap (λ z. is_live_at z c.args.target.slot c.args.target.version) c.loop-next.invariant.blocks
    ∙ c.requires.target_live

pub insert_at_back-requires-clause-not_above : goal.insert_at_back-requires-clause-not_above
insert_at_back-requires-clause-not_above g c =
    tail-away c.args.ctx.now.nodes (BasicBlock c.args.self) (BasicBlock c.args.target) (Operation c.args.first)
    c.stands.ensures.whole.stored c.requires.here c.loop-next.ctx.nodes c.loop-next.invariant.stored
    _ c.loop-next.invariant.moving (Operation c.in-Some.op) (ap (option_map Operation) c.in-Some.is)
    c.unlink.new.ctx.nodes c.unlink.ensures.unlinked

pub loop-next-smaller : goal.loop-next-smaller
loop-next-smaller g c =
    tail-fewer c.args.ctx.now.nodes (BasicBlock c.args.self) (BasicBlock c.args.target) (Operation c.args.first)
    c.stands.ensures.whole.stored c.requires.here c.loop-next.ctx.nodes c.loop-next.invariant.stored
    _ c.loop-next.invariant.moving (Operation c.in-Some.op) (ap (option_map Operation) c.in-Some.is)
    c.unlink.new.ctx.nodes c.unlink.ensures.unlinked c.insert_at_back.new.ctx.nodes c.insert_at_back.ensures.placed

pub loop-next-preserved : goal.loop-next-preserved
loop-next-preserved g c = record {
  moving =
      subst (IsTailMoving c.args.ctx.now.nodes c.insert_at_back.new.ctx.nodes (BasicBlock c.args.self)
      (BasicBlock c.args.target) (Operation c.args.first)) (sym c.get_next-next.ensures.value)
      (tail-more c.args.ctx.now.nodes (BasicBlock c.args.self) (BasicBlock c.args.target) (Operation c.args.first)
      c.stands.ensures.whole.stored c.requires.here c.loop-next.ctx.nodes c.loop-next.invariant.stored
      _ c.loop-next.invariant.moving (Operation c.in-Some.op) (ap (option_map Operation) c.in-Some.is)
      c.unlink.new.ctx.nodes c.unlink.ensures.unlinked c.insert_at_back.new.ctx.nodes c.insert_at_back.ensures.placed);
  stored = c.insert_at_back.ensures.whole.stored;
  types =
      ap (λ (z : ContextView g.row.D-Kind.Denot g.row.D-Attr.Denot g.row.D-Ty.Denot). z.types)
      c.insert_at_back.ensures.after
      ∙ ap (λ (z : ContextView g.row.D-Kind.Denot g.row.D-Attr.Denot g.row.D-Ty.Denot). z.types)
      c.unlink.ensures.after
      ∙ c.loop-next.invariant.types;
  blocks =
      ap (λ (z : ContextView g.row.D-Kind.Denot g.row.D-Attr.Denot g.row.D-Ty.Denot). z.nodes.blocks)
      c.insert_at_back.ensures.after
      ∙ ap (λ (z : ContextView g.row.D-Kind.Denot g.row.D-Attr.Denot g.row.D-Ty.Denot). z.nodes.blocks)
      c.unlink.ensures.after
      ∙ c.loop-next.invariant.blocks;
}

pub returns-clause-split : goal.returns-clause-split
returns-clause-split g c =
    tail-end c.args.ctx.now.nodes (BasicBlock c.args.self) (BasicBlock c.args.target) (Operation c.args.first)
    c.loop-next.ctx.nodes _ c.loop-next.invariant.moving (ap (option_map Operation) c.in_default.is)
