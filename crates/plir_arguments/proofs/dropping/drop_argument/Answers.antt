use Rattle.std.proofs.Common.{◌+◌, ◌<◌, ◌∙◌, ap, length, subst, sym}
use Rattle.plir_core.specs.declared.ptr.IRNode.TheVariants.{BasicBlock}
use Rattle.plir_core.specs.ContextView.{arguments_in}
use Rattle.plir_inline.specs.Given.{IsGiven}
use Rattle.plir_arguments.specs.Dropped.{moved}
use Rattle.plir_arguments.specs.Turned.{AreUses}
use Rattle.plir_arguments.proofs.DropSteps.{apart, below-m, can-m, children-v, is-dropped, less-by-one, linked-v, live-block}
use Rattle.plir_arguments.proofs.DropSteps.{live-v, never-v, none-v, parents-v, types-u, uses-m}
use Rattle.plir_arguments.proofs.Uses.{are-uses}
use Rattle.plir_arguments.proofs.dropping.drop_argument.Goals as goal

pub turn_branches-requires-clause-uses : goal.turn_branches-requires-clause-uses
turn_branches-requires-clause-uses g c =
    let removes = g.D.BranchEditSet.removes in
    let keys = g.D.BranchEditSet.layout_keys in
    let forwards = g.D.BranchSet.forwards in
    let s = c.args.ctx.now in
    let b = c.args.block in
    let i = c.args.i in
    let can = c.requires in
    let forest = (c.contexts_stand.ensures s c.stands.ensures.whole).forest in
    let m = c.block_without.new.ctx in
    let other = c.in_ok-other.other in
    let made = c.in_ok-other.ensures.made in
    let bottom = c.nothing_stands_below_a_leaf.ensures in
    uses-m removes forwards keys s b other i can forest m made bottom c.deref.result.now
    (subst (AreUses s b) (sym (c.deref.ensures.value ∙ c.in_ok-uses.ensures.uses)) (are-uses s b))

pub turn_branches-requires-clause-other_live : goal.turn_branches-requires-clause-other_live
turn_branches-requires-clause-other_live g c =
    let removes = g.D.BranchEditSet.removes in
    let keys = g.D.BranchEditSet.layout_keys in
    let forwards = g.D.BranchSet.forwards in
    let s = c.args.ctx.now in
    let b = c.args.block in
    let i = c.args.i in
    let can = c.requires in
    let forest = (c.contexts_stand.ensures s c.stands.ensures.whole).forest in
    let m = c.block_without.new.ctx in
    let other = c.in_ok-other.other in
    let made = c.in_ok-other.ensures.made in
    let bottom = c.nothing_stands_below_a_leaf.ensures in
    made.root

pub turn_branches-requires-clause-below : goal.turn_branches-requires-clause-below
turn_branches-requires-clause-below g c =
    let removes = g.D.BranchEditSet.removes in
    let keys = g.D.BranchEditSet.layout_keys in
    let forwards = g.D.BranchSet.forwards in
    let s = c.args.ctx.now in
    let b = c.args.block in
    let i = c.args.i in
    let can = c.requires in
    let forest = (c.contexts_stand.ensures s c.stands.ensures.whole).forest in
    let m = c.block_without.new.ctx in
    let other = c.in_ok-other.other in
    let made = c.in_ok-other.ensures.made in
    let bottom = c.nothing_stands_below_a_leaf.ensures in
    below-m removes forwards keys s b other i can forest m made

pub turn_branches-requires-clause-branches : goal.turn_branches-requires-clause-branches
turn_branches-requires-clause-branches g c =
    let removes = g.D.BranchEditSet.removes in
    let keys = g.D.BranchEditSet.layout_keys in
    let forwards = g.D.BranchSet.forwards in
    let s = c.args.ctx.now in
    let b = c.args.block in
    let i = c.args.i in
    let can = c.requires in
    let forest = (c.contexts_stand.ensures s c.stands.ensures.whole).forest in
    let m = c.block_without.new.ctx in
    let other = c.in_ok-other.other in
    let made = c.in_ok-other.ensures.made in
    let bottom = c.nothing_stands_below_a_leaf.ensures in
    can-m removes forwards keys s b other i can forest m made bottom

pub move_arguments-requires-clause-live : goal.move_arguments-requires-clause-live
move_arguments-requires-clause-live g c =
    let removes = g.D.BranchEditSet.removes in
    let keys = g.D.BranchEditSet.layout_keys in
    let forwards = g.D.BranchSet.forwards in
    let s = c.args.ctx.now in
    let b = c.args.block in
    let i = c.args.i in
    let can = c.requires in
    let forest = (c.contexts_stand.ensures s c.stands.ensures.whole).forest in
    let m = c.block_without.new.ctx in
    let other = c.in_ok-other.other in
    let made = c.in_ok-other.ensures.made in
    let bottom = c.nothing_stands_below_a_leaf.ensures in
    c.turn_branches.ensures.turned.keeps.live (BasicBlock b) ∙ live-block removes forwards keys s b other i can forest m made

pub move_arguments-requires-clause-other_live : goal.move_arguments-requires-clause-other_live
move_arguments-requires-clause-other_live g c =
    let removes = g.D.BranchEditSet.removes in
    let keys = g.D.BranchEditSet.layout_keys in
    let forwards = g.D.BranchSet.forwards in
    let s = c.args.ctx.now in
    let b = c.args.block in
    let i = c.args.i in
    let can = c.requires in
    let forest = (c.contexts_stand.ensures s c.stands.ensures.whole).forest in
    let m = c.block_without.new.ctx in
    let other = c.in_ok-other.other in
    let made = c.in_ok-other.ensures.made in
    let bottom = c.nothing_stands_below_a_leaf.ensures in
    c.turn_branches.ensures.turned.keeps.live (BasicBlock other) ∙ made.root

pub move_arguments-requires-clause-apart : goal.move_arguments-requires-clause-apart
move_arguments-requires-clause-apart g c =
    let removes = g.D.BranchEditSet.removes in
    let keys = g.D.BranchEditSet.layout_keys in
    let forwards = g.D.BranchSet.forwards in
    let s = c.args.ctx.now in
    let b = c.args.block in
    let i = c.args.i in
    let can = c.requires in
    let forest = (c.contexts_stand.ensures s c.stands.ensures.whole).forest in
    let m = c.block_without.new.ctx in
    let other = c.in_ok-other.other in
    let made = c.in_ok-other.ensures.made in
    let bottom = c.nothing_stands_below_a_leaf.ensures in
    apart removes forwards keys s b other i can forest m made

pub move_arguments-requires-clause-gone_below : goal.move_arguments-requires-clause-gone_below
move_arguments-requires-clause-gone_below g c =
    let removes = g.D.BranchEditSet.removes in
    let keys = g.D.BranchEditSet.layout_keys in
    let forwards = g.D.BranchSet.forwards in
    let s = c.args.ctx.now in
    let b = c.args.block in
    let i = c.args.i in
    let can = c.requires in
    let forest = (c.contexts_stand.ensures s c.stands.ensures.whole).forest in
    let m = c.block_without.new.ctx in
    let other = c.in_ok-other.other in
    let made = c.in_ok-other.ensures.made in
    let bottom = c.nothing_stands_below_a_leaf.ensures in
    subst (λ ts. i < length ts)
    (sym (types-u removes forwards keys s b other i can forest m made bottom c.turn_branches.new.ctx
    c.turn_branches.ensures.turned)) can.below

pub move_arguments-requires-clause-without : goal.move_arguments-requires-clause-without
move_arguments-requires-clause-without g c =
    let removes = g.D.BranchEditSet.removes in
    let keys = g.D.BranchEditSet.layout_keys in
    let forwards = g.D.BranchSet.forwards in
    let s = c.args.ctx.now in
    let b = c.args.block in
    let i = c.args.i in
    let can = c.requires in
    let forest = (c.contexts_stand.ensures s c.stands.ensures.whole).forest in
    let m = c.block_without.new.ctx in
    let other = c.in_ok-other.other in
    let made = c.in_ok-other.ensures.made in
    let bottom = c.nothing_stands_below_a_leaf.ensures in
    let u = c.turn_branches.new.ctx in
    let turned = c.turn_branches.ensures.turned in
    ap (λ ts. length ts + 1) (ap arguments_in (turned.blocks other))
    ∙ less-by-one s m b other i c.in_ok-other.ensures.held can.below
    ∙ sym (ap length (types-u removes forwards keys s b other i can forest m made bottom u turned))

pub put_for-requires-clause-live : goal.put_for-requires-clause-live
put_for-requires-clause-live g c =
    let removes = g.D.BranchEditSet.removes in
    let keys = g.D.BranchEditSet.layout_keys in
    let forwards = g.D.BranchSet.forwards in
    let s = c.args.ctx.now in
    let b = c.args.block in
    let i = c.args.i in
    let can = c.requires in
    let forest = (c.contexts_stand.ensures s c.stands.ensures.whole).forest in
    let m = c.block_without.new.ctx in
    let other = c.in_ok-other.other in
    let made = c.in_ok-other.ensures.made in
    let bottom = c.nothing_stands_below_a_leaf.ensures in
    let u = c.turn_branches.new.ctx in
    let turned = c.turn_branches.ensures.turned in
    let v = c.move_arguments.new.ctx in
    let given = subst (λ k. IsGiven u v (moved b other i k))
    (ap length (types-u removes forwards keys s b other i can forest m made bottom u turned)) c.move_arguments.ensures.moved in
    live-v removes forwards keys s b other i can forest m made bottom u turned v given (BasicBlock b)
    ∙ live-block removes forwards keys s b other i can forest m made

pub put_for-requires-clause-other_live : goal.put_for-requires-clause-other_live
put_for-requires-clause-other_live g c =
    let removes = g.D.BranchEditSet.removes in
    let keys = g.D.BranchEditSet.layout_keys in
    let forwards = g.D.BranchSet.forwards in
    let s = c.args.ctx.now in
    let b = c.args.block in
    let i = c.args.i in
    let can = c.requires in
    let forest = (c.contexts_stand.ensures s c.stands.ensures.whole).forest in
    let m = c.block_without.new.ctx in
    let other = c.in_ok-other.other in
    let made = c.in_ok-other.ensures.made in
    let bottom = c.nothing_stands_below_a_leaf.ensures in
    let u = c.turn_branches.new.ctx in
    let turned = c.turn_branches.ensures.turned in
    let v = c.move_arguments.new.ctx in
    let given = subst (λ k. IsGiven u v (moved b other i k))
    (ap length (types-u removes forwards keys s b other i can forest m made bottom u turned)) c.move_arguments.ensures.moved in
    live-v removes forwards keys s b other i can forest m made bottom u turned v given (BasicBlock other) ∙ made.root

pub put_for-requires-clause-apart : goal.put_for-requires-clause-apart
put_for-requires-clause-apart g c =
    let removes = g.D.BranchEditSet.removes in
    let keys = g.D.BranchEditSet.layout_keys in
    let forwards = g.D.BranchSet.forwards in
    let s = c.args.ctx.now in
    let b = c.args.block in
    let i = c.args.i in
    let can = c.requires in
    let forest = (c.contexts_stand.ensures s c.stands.ensures.whole).forest in
    let m = c.block_without.new.ctx in
    let other = c.in_ok-other.other in
    let made = c.in_ok-other.ensures.made in
    let bottom = c.nothing_stands_below_a_leaf.ensures in
    let u = c.turn_branches.new.ctx in
    let turned = c.turn_branches.ensures.turned in
    let v = c.move_arguments.new.ctx in
    let given = subst (λ k. IsGiven u v (moved b other i k))
    (ap length (types-u removes forwards keys s b other i can forest m made bottom u turned)) c.move_arguments.ensures.moved in
    apart removes forwards keys s b other i can forest m made

pub put_for-requires-clause-alone : goal.put_for-requires-clause-alone
put_for-requires-clause-alone g c =
    let removes = g.D.BranchEditSet.removes in
    let keys = g.D.BranchEditSet.layout_keys in
    let forwards = g.D.BranchSet.forwards in
    let s = c.args.ctx.now in
    let b = c.args.block in
    let i = c.args.i in
    let can = c.requires in
    let forest = (c.contexts_stand.ensures s c.stands.ensures.whole).forest in
    let m = c.block_without.new.ctx in
    let other = c.in_ok-other.other in
    let made = c.in_ok-other.ensures.made in
    let bottom = c.nothing_stands_below_a_leaf.ensures in
    let u = c.turn_branches.new.ctx in
    let turned = c.turn_branches.ensures.turned in
    let v = c.move_arguments.new.ctx in
    let given = subst (λ k. IsGiven u v (moved b other i k))
    (ap length (types-u removes forwards keys s b other i can forest m made bottom u turned)) c.move_arguments.ensures.moved in
    parents-v removes forwards keys s b other i can forest m made bottom u turned v given (BasicBlock other) ∙ made.top

pub put_for-requires-clause-leaf : goal.put_for-requires-clause-leaf
put_for-requires-clause-leaf g c =
    let removes = g.D.BranchEditSet.removes in
    let keys = g.D.BranchEditSet.layout_keys in
    let forwards = g.D.BranchSet.forwards in
    let s = c.args.ctx.now in
    let b = c.args.block in
    let i = c.args.i in
    let can = c.requires in
    let forest = (c.contexts_stand.ensures s c.stands.ensures.whole).forest in
    let m = c.block_without.new.ctx in
    let other = c.in_ok-other.other in
    let made = c.in_ok-other.ensures.made in
    let bottom = c.nothing_stands_below_a_leaf.ensures in
    let u = c.turn_branches.new.ctx in
    let turned = c.turn_branches.ensures.turned in
    let v = c.move_arguments.new.ctx in
    let given = subst (λ k. IsGiven u v (moved b other i k))
    (ap length (types-u removes forwards keys s b other i can forest m made bottom u turned)) c.move_arguments.ensures.moved in
    children-v removes forwards keys s b other i can forest m made bottom u turned v given (BasicBlock other)
    ∙ c.in_ok-other.ensures.leaf

pub put_for-requires-clause-linked : goal.put_for-requires-clause-linked
put_for-requires-clause-linked g c =
    let removes = g.D.BranchEditSet.removes in
    let keys = g.D.BranchEditSet.layout_keys in
    let forwards = g.D.BranchSet.forwards in
    let s = c.args.ctx.now in
    let b = c.args.block in
    let i = c.args.i in
    let can = c.requires in
    let forest = (c.contexts_stand.ensures s c.stands.ensures.whole).forest in
    let m = c.block_without.new.ctx in
    let other = c.in_ok-other.other in
    let made = c.in_ok-other.ensures.made in
    let bottom = c.nothing_stands_below_a_leaf.ensures in
    let u = c.turn_branches.new.ctx in
    let turned = c.turn_branches.ensures.turned in
    let v = c.move_arguments.new.ctx in
    let given = subst (λ k. IsGiven u v (moved b other i k))
    (ap length (types-u removes forwards keys s b other i can forest m made bottom u turned)) c.move_arguments.ensures.moved in
    linked-v removes forwards keys s b other i can forest m made bottom u turned v given

pub put_for-requires-clause-no_use : goal.put_for-requires-clause-no_use
put_for-requires-clause-no_use g c =
    let removes = g.D.BranchEditSet.removes in
    let keys = g.D.BranchEditSet.layout_keys in
    let forwards = g.D.BranchSet.forwards in
    let s = c.args.ctx.now in
    let b = c.args.block in
    let i = c.args.i in
    let can = c.requires in
    let forest = (c.contexts_stand.ensures s c.stands.ensures.whole).forest in
    let m = c.block_without.new.ctx in
    let other = c.in_ok-other.other in
    let made = c.in_ok-other.ensures.made in
    let bottom = c.nothing_stands_below_a_leaf.ensures in
    let u = c.turn_branches.new.ctx in
    let turned = c.turn_branches.ensures.turned in
    let v = c.move_arguments.new.ctx in
    let given = subst (λ k. IsGiven u v (moved b other i k))
    (ap length (types-u removes forwards keys s b other i can forest m made bottom u turned)) c.move_arguments.ensures.moved in
    λ p l. none-v removes forwards keys s b other i can forest m made bottom u turned v given p l
    g.D.OpSet.attr_handles c.stands.ensures.whole

pub put_for-requires-clause-no_branch : goal.put_for-requires-clause-no_branch
put_for-requires-clause-no_branch g c =
    let removes = g.D.BranchEditSet.removes in
    let keys = g.D.BranchEditSet.layout_keys in
    let forwards = g.D.BranchSet.forwards in
    let s = c.args.ctx.now in
    let b = c.args.block in
    let i = c.args.i in
    let can = c.requires in
    let forest = (c.contexts_stand.ensures s c.stands.ensures.whole).forest in
    let m = c.block_without.new.ctx in
    let other = c.in_ok-other.other in
    let made = c.in_ok-other.ensures.made in
    let bottom = c.nothing_stands_below_a_leaf.ensures in
    let u = c.turn_branches.new.ctx in
    let turned = c.turn_branches.ensures.turned in
    let v = c.move_arguments.new.ctx in
    let given = subst (λ k. IsGiven u v (moved b other i k))
    (ap length (types-u removes forwards keys s b other i can forest m made bottom u turned)) c.move_arguments.ensures.moved in
    never-v removes forwards keys s b other i can forest m made bottom u turned v given

pub returns-clause-ok : goal.returns-clause-ok
returns-clause-ok g c =
    let removes = g.D.BranchEditSet.removes in
    let keys = g.D.BranchEditSet.layout_keys in
    let forwards = g.D.BranchSet.forwards in
    let s = c.args.ctx.now in
    let b = c.args.block in
    let i = c.args.i in
    let can = c.requires in
    let forest = (c.contexts_stand.ensures s c.stands.ensures.whole).forest in
    let m = c.block_without.new.ctx in
    let other = c.in_ok-other.other in
    let made = c.in_ok-other.ensures.made in
    let bottom = c.nothing_stands_below_a_leaf.ensures in
    let u = c.turn_branches.new.ctx in
    let turned = c.turn_branches.ensures.turned in
    let v = c.move_arguments.new.ctx in
    let given = subst (λ k. IsGiven u v (moved b other i k))
    (ap length (types-u removes forwards keys s b other i can forest m made bottom u turned)) c.move_arguments.ensures.moved in
    is-dropped removes forwards keys s b other i can forest m made bottom u turned v given
    c.in_ok-other.ensures.held c.block_without.ensures.types c.put_for.new.ctx c.put_for.ensures.put
