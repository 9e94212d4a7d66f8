use Rattle.std.proofs.Common.{◌<◌, ◌∙◌, length, refl, sym, subst}
use Rattle.plir_core.specs.declared.ptr.IRNode.TheVariants.{Operation, BasicBlock}
use Rattle.plir_core.specs.Held.{IsOpEdited}
use Rattle.plir_arguments.specs.Removed.{ForwardsLess}
use Rattle.plir_arguments.specs.Turned.{IsTurned, with_successor}
use Rattle.plir_arguments.proofs.Changed.{changed-edited, successors-same}
use Rattle.plir_arguments.proofs.branching.turn_branch.Goals as goal

pub op_edits_keep_the_rest-requires : goal.op_edits_keep_the_rest-requires
op_edits_keep_the_rest-requires g c =
    c.remove_forwarded.ensures.less.keeps.live (Operation c.args.op) ∙ c.requires.live

pub set_successor-requires-clause-live : goal.set_successor-requires-clause-live
set_successor-requires-clause-live g c =
    c.remove_forwarded.ensures.less.keeps.live (Operation c.args.op) ∙ c.requires.live

pub set_successor-requires-clause-below : goal.set_successor-requires-clause-below
set_successor-requires-clause-below g c =
    subst (λ bs. c.args.place < length bs)
    (sym (successors-same c.args.ctx.now c.remove_forwarded.new.ctx c.args.op g.D.BranchEditSet.layout_keys
    g.D.BranchSet.forwards c.args.place c.args.arg c.remove_forwarded.ensures.less c.args.place c.requires.below))
    c.requires.below

pub set_successor-requires-clause-block_live : goal.set_successor-requires-clause-block_live
set_successor-requires-clause-block_live g c =
    c.remove_forwarded.ensures.less.keeps.live (BasicBlock c.args.block) ∙ c.requires.block_live

pub returns-clause-turned : goal.returns-clause-turned
returns-clause-turned g c =
    let keys = g.D.BranchEditSet.layout_keys in
    let forwards = g.D.BranchSet.forwards in
    let s = c.args.ctx.now in
    let t = c.remove_forwarded.new.ctx in
    let p = c.args.op in
    let f = with_successor c.args.place c.args.block in
    changed-edited s t c.set_successor.new.ctx p (ForwardsLess keys forwards c.args.place c.args.arg)
    (IsTurned keys forwards c.args.block c.args.arg c.args.place) f c.remove_forwarded.ensures.less
    (subst (λ z. IsOpEdited t z p f) (sym c.set_successor.ensures.after) (c.op_edits_keep_the_rest.ensures f))
    (λ o r less. (r, (less, refl)))
