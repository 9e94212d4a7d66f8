use Rattle.std.proofs.Common.{Err, ap, sym, subst}
use Rattle.plir_core.specs.declared.ptr.IRNode.TheVariants.{BasicBlock}
use Rattle.plir_folding.specs.Folding.{IsAnswered}
use Rattle.plir_folding.proofs.Walking.{at-none, at-block, settled-under-op, settled-under-region}
use Rattle.plir_folding.proofs.folding.fold_below.Goals as goal

pub returns-in-Operation : goal.returns-in-Operation
returns-in-Operation g c =
    let fold = g.D.FoldSet.fold in
    let own = g.D.OpSet.attr_handles in
    let s = c.args.ctx.now in
    at-none fold own c.lawful_changes.ensures s c.args.changed.now c.args.node _ _ c.in-Operation.is
    c.walk_advance.ensures c.stands.ensures.whole (settled-under-op fold own s _)

pub returns-in-Region : goal.returns-in-Region
returns-in-Region g c =
    let fold = g.D.FoldSet.fold in
    let own = g.D.OpSet.attr_handles in
    let s = c.args.ctx.now in
    at-none fold own c.lawful_changes.ensures s c.args.changed.now c.args.node _ _ c.in-Region.is
    c.walk_advance-in-Region.ensures c.stands.ensures.whole (settled-under-region fold own s _)

pub returns-in-Ok : goal.returns-in-Ok
returns-in-Ok g c =
    let fold = g.D.FoldSet.fold in
    let own = g.D.OpSet.attr_handles in
    let s = c.args.ctx.now in
    let t = c.fold_block.new.ctx in
    let n = BasicBlock c.in-BasicBlock.block in
    at-block fold own s t c.args.changed.now c.in-Ok.told c.args.node c.in-BasicBlock.block c.walk_advance-in-Ok.result
    c.in-BasicBlock.is c.in-Ok.ensures.below
    (subst (λ z. IsAnswered fold s c.args.changed.now n z t c.in-Ok.told) (sym c.walk_advance-in-Ok.ensures)
    c.in-Ok.ensures.told)

pub returns-in-Err : goal.returns-in-Err
returns-in-Err g c =
    let fold = g.D.FoldSet.fold in
    let own = g.D.OpSet.attr_handles in
    let s = c.args.ctx.now in
    let t = c.fold_block.new.ctx in
    let n = BasicBlock c.in-BasicBlock.block in
    at-block fold own s t c.args.changed.now c.args.changed.now c.args.node c.in-BasicBlock.block c.walk_break.result
    c.in-BasicBlock.is c.in-Err.ensures.below
    (subst (λ z. IsAnswered fold s c.args.changed.now n z t c.args.changed.now) (sym c.walk_break.ensures)
    (λ e. c.in-Err.ensures.crowded (ap Err e)))
