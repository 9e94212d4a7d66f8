use Rattle.std.proofs.Common.{suc, take, drop, ◌∙◌, ap, sym, subst}
use Rattle.plir_core.specs.declared.ptr.IRNode.TheVariants.{Operation, Region}
use Rattle.plir_core.specs.Erase.{IsErased}
use Rattle.plir_core.specs.ContextView.{children}
use Rattle.plir_core.specs.Unused.{IsUnusedOutside, without_tree}
use Rattle.plir_core.proofs.ptr.Operation.erase_region.Goals as goal
use Rattle.plir_core.proofs.ChildAt.{parted_at, child_at-is}

pub erase_tree-requires-clause-unused : goal.erase_tree-requires-clause-unused
erase_tree-requires-clause-unused g c =
    subst (IsUnusedOutside c.args.ctx.now) (child_at-is c.args.ctx.now (Operation c.args.op)
    (Region c.get_region-region.result) c.args.i c.get_region-region.ensures.value) c.requires.unused

pub returns-clause-after : goal.returns-clause-after
returns-clause-after g c =
    c.erase_tree.ensures.after ∙ ap (without_tree c.args.ctx.now) (sym (child_at-is c.args.ctx.now (Operation c.args.op)
    (Region c.get_region-region.result) c.args.i c.get_region-region.ensures.value))

pub returns-clause-tree : goal.returns-clause-tree
returns-clause-tree g c =
    subst (IsErased c.args.ctx.now.nodes c.erase_tree.new.ctx.nodes) (sym (child_at-is c.args.ctx.now
    (Operation c.args.op) (Region c.get_region-region.result) c.args.i c.get_region-region.ensures.value))
    c.erase_tree.ensures.tree

pub returns-clause-left : goal.returns-clause-left
returns-clause-left g c =
    let ks = children c.args.ctx.now (Operation c.args.op) in
    c.erase_tree.ensures.tree.children_over (Operation c.args.op) (take c.args.i ks) (drop (suc c.args.i) ks)
    (parted_at ks c.args.i (Region c.get_region-region.result) c.get_region-region.ensures.value)
