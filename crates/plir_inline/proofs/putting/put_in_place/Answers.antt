use Rattle.std.proofs.Common.{◌≡◌, ◌∙◌, sym, subst, []}
use Rattle.plir_core.specs.declared.ptr.IRNode.TheVariants.{Operation}
use Rattle.plir_core.specs.ContextView.{IsLive, children}
use Rattle.plir_core.specs.Results.{HasNoUsedResult}
use Rattle.plir_inline.specs.Given.{IsGiven}
use Rattle.plir_inline.specs.Put.{IsPut, put}
use Rattle.plir_inline.specs.Taken.{IsTaken}
use Rattle.plir_inline.proofs.Steps.{block-leaf, block-live, block-live-e, block-unused, call-leaf, call-linked}
use Rattle.plir_inline.proofs.Steps.{call-live}
use Rattle.plir_inline.proofs.Steps.{call-live-d, call-unused, is-put, last-live, last-unused, not-above}
use Rattle.plir_inline.proofs.putting.put_in_place.Goals as goal

pub last_op-last-requires-clause-ends : goal.last_op-last-requires-clause-ends
last_op-last-requires-clause-ends g c =
    (c.requires.body, c.requires.last, c.requires.ends)

pub give_values-requires : goal.give_values-requires
give_values-requires g c =
    (c.requires, sym (c.last_op-last.ensures c.requires.body c.requires.last c.requires.ends))

pub take_op-requires-clause-live : goal.take_op-requires-clause-live
take_op-requires-clause-live g c =
    let s = c.args.ctx.now in
    let call = c.args.call in
    let block = c.args.block in
    let h = c.requires in
    let is = c.last_op-last.ensures h.body h.last h.ends in
    let forest = (c.contexts_stand.ensures s c.stands.ensures.whole).forest in
    c.give_values.ensures.given.keeps.live (Operation c.last_op-last.result)
    ∙ subst (λ l. IsLive s (Operation l)) (sym is) (last-live s call block h forest)

pub take_op-requires-clause-leaf : goal.take_op-requires-clause-leaf
take_op-requires-clause-leaf g c =
    let s = c.args.ctx.now in
    let call = c.args.call in
    let block = c.args.block in
    let h = c.requires in
    let is = c.last_op-last.ensures h.body h.last h.ends in
    c.give_values.ensures.given.keeps.children (Operation c.last_op-last.result)
    ∙ subst (λ l. children s (Operation l) ≡ []) (sym is) h.last_leaf

pub take_op-requires-clause-unused : goal.take_op-requires-clause-unused
take_op-requires-clause-unused g c =
    let s = c.args.ctx.now in
    let call = c.args.call in
    let block = c.args.block in
    let h = c.requires in
    let is = c.last_op-last.ensures h.body h.last h.ends in
    let forest = (c.contexts_stand.ensures s c.stands.ensures.whole).forest in
    let a = c.give_values.new.ctx in
    let hg = subst (λ l. IsGiven s a (put s call block l)) is c.give_values.ensures.given in
    subst (HasNoUsedResult a) (sym is) (last-unused s call block h forest a hg)

pub splice_before-requires-clause-live : goal.splice_before-requires-clause-live
splice_before-requires-clause-live g c =
    let s = c.args.ctx.now in
    let call = c.args.call in
    let block = c.args.block in
    let h = c.requires in
    let is = c.last_op-last.ensures h.body h.last h.ends in
    let forest = (c.contexts_stand.ensures s c.stands.ensures.whole).forest in
    let a = c.give_values.new.ctx in
    let hg = subst (λ l. IsGiven s a (put s call block l)) is c.give_values.ensures.given in
    let b = c.take_op.new.ctx in
    let t1 = subst (λ l. IsTaken a b (Operation l)) is c.take_op.ensures.taken in
    block-live s call block h forest a hg b t1

pub splice_before-requires-clause-mark_live : goal.splice_before-requires-clause-mark_live
splice_before-requires-clause-mark_live g c =
    let s = c.args.ctx.now in
    let call = c.args.call in
    let block = c.args.block in
    let h = c.requires in
    let is = c.last_op-last.ensures h.body h.last h.ends in
    let forest = (c.contexts_stand.ensures s c.stands.ensures.whole).forest in
    let a = c.give_values.new.ctx in
    let hg = subst (λ l. IsGiven s a (put s call block l)) is c.give_values.ensures.given in
    let b = c.take_op.new.ctx in
    let t1 = subst (λ l. IsTaken a b (Operation l)) is c.take_op.ensures.taken in
    call-live s call block h forest a hg b t1

pub splice_before-requires-clause-linked : goal.splice_before-requires-clause-linked
splice_before-requires-clause-linked g c =
    let s = c.args.ctx.now in
    let call = c.args.call in
    let block = c.args.block in
    let h = c.requires in
    let is = c.last_op-last.ensures h.body h.last h.ends in
    let forest = (c.contexts_stand.ensures s c.stands.ensures.whole).forest in
    let a = c.give_values.new.ctx in
    let hg = subst (λ l. IsGiven s a (put s call block l)) is c.give_values.ensures.given in
    let b = c.take_op.new.ctx in
    let t1 = subst (λ l. IsTaken a b (Operation l)) is c.take_op.ensures.taken in
    call-linked s call block h forest a hg b t1

pub splice_before-requires-clause-not_above : goal.splice_before-requires-clause-not_above
splice_before-requires-clause-not_above g c =
    let s = c.args.ctx.now in
    let call = c.args.call in
    let block = c.args.block in
    let h = c.requires in
    let is = c.last_op-last.ensures h.body h.last h.ends in
    let forest = (c.contexts_stand.ensures s c.stands.ensures.whole).forest in
    let a = c.give_values.new.ctx in
    let hg = subst (λ l. IsGiven s a (put s call block l)) is c.give_values.ensures.given in
    let b = c.take_op.new.ctx in
    let t1 = subst (λ l. IsTaken a b (Operation l)) is c.take_op.ensures.taken in
    not-above s call block h forest a hg b t1

pub take_op-requires-2-clause-live : goal.take_op-requires-2-clause-live
take_op-requires-2-clause-live g c =
    let s = c.args.ctx.now in
    let call = c.args.call in
    let block = c.args.block in
    let h = c.requires in
    let is = c.last_op-last.ensures h.body h.last h.ends in
    let forest = (c.contexts_stand.ensures s c.stands.ensures.whole).forest in
    let a = c.give_values.new.ctx in
    let hg = subst (λ l. IsGiven s a (put s call block l)) is c.give_values.ensures.given in
    let b = c.take_op.new.ctx in
    let t1 = subst (λ l. IsTaken a b (Operation l)) is c.take_op.ensures.taken in
    let d = c.splice_before.new.ctx in
    let sp = c.splice_before.ensures.spliced in
    call-live-d s call block h forest a hg b t1 d sp

pub take_op-requires-2-clause-leaf : goal.take_op-requires-2-clause-leaf
take_op-requires-2-clause-leaf g c =
    let s = c.args.ctx.now in
    let call = c.args.call in
    let block = c.args.block in
    let h = c.requires in
    let is = c.last_op-last.ensures h.body h.last h.ends in
    let forest = (c.contexts_stand.ensures s c.stands.ensures.whole).forest in
    let a = c.give_values.new.ctx in
    let hg = subst (λ l. IsGiven s a (put s call block l)) is c.give_values.ensures.given in
    let b = c.take_op.new.ctx in
    let t1 = subst (λ l. IsTaken a b (Operation l)) is c.take_op.ensures.taken in
    let d = c.splice_before.new.ctx in
    let sp = c.splice_before.ensures.spliced in
    call-leaf s call block h forest a hg b t1 d sp

pub take_op-requires-2-clause-unused : goal.take_op-requires-2-clause-unused
take_op-requires-2-clause-unused g c =
    let s = c.args.ctx.now in
    let call = c.args.call in
    let block = c.args.block in
    let h = c.requires in
    let is = c.last_op-last.ensures h.body h.last h.ends in
    let forest = (c.contexts_stand.ensures s c.stands.ensures.whole).forest in
    let a = c.give_values.new.ctx in
    let hg = subst (λ l. IsGiven s a (put s call block l)) is c.give_values.ensures.given in
    let b = c.take_op.new.ctx in
    let t1 = subst (λ l. IsTaken a b (Operation l)) is c.take_op.ensures.taken in
    let d = c.splice_before.new.ctx in
    let sp = c.splice_before.ensures.spliced in
    call-unused s call block h forest a hg b t1 d sp

pub nothing_stands_below_a_leaf-requires : goal.nothing_stands_below_a_leaf-requires
nothing_stands_below_a_leaf-requires g c =
    let s = c.args.ctx.now in
    let call = c.args.call in
    let block = c.args.block in
    let h = c.requires in
    let is = c.last_op-last.ensures h.body h.last h.ends in
    let forest = (c.contexts_stand.ensures s c.stands.ensures.whole).forest in
    let a = c.give_values.new.ctx in
    let hg = subst (λ l. IsGiven s a (put s call block l)) is c.give_values.ensures.given in
    let b = c.take_op.new.ctx in
    let t1 = subst (λ l. IsTaken a b (Operation l)) is c.take_op.ensures.taken in
    let d = c.splice_before.new.ctx in
    let sp = c.splice_before.ensures.spliced in
    let e = c.take_op-2.new.ctx in
    let t2 = c.take_op-2.ensures.taken in
    block-leaf s call block h forest a hg b t1 d sp e t2

pub take_block-requires-clause-live : goal.take_block-requires-clause-live
take_block-requires-clause-live g c =
    let s = c.args.ctx.now in
    let call = c.args.call in
    let block = c.args.block in
    let h = c.requires in
    let is = c.last_op-last.ensures h.body h.last h.ends in
    let forest = (c.contexts_stand.ensures s c.stands.ensures.whole).forest in
    let a = c.give_values.new.ctx in
    let hg = subst (λ l. IsGiven s a (put s call block l)) is c.give_values.ensures.given in
    let b = c.take_op.new.ctx in
    let t1 = subst (λ l. IsTaken a b (Operation l)) is c.take_op.ensures.taken in
    let d = c.splice_before.new.ctx in
    let sp = c.splice_before.ensures.spliced in
    let e = c.take_op-2.new.ctx in
    let t2 = c.take_op-2.ensures.taken in
    block-live-e s call block h forest a hg b t1 d sp e t2

pub take_block-requires-clause-leaf : goal.take_block-requires-clause-leaf
take_block-requires-clause-leaf g c =
    let s = c.args.ctx.now in
    let call = c.args.call in
    let block = c.args.block in
    let h = c.requires in
    let is = c.last_op-last.ensures h.body h.last h.ends in
    let forest = (c.contexts_stand.ensures s c.stands.ensures.whole).forest in
    let a = c.give_values.new.ctx in
    let hg = subst (λ l. IsGiven s a (put s call block l)) is c.give_values.ensures.given in
    let b = c.take_op.new.ctx in
    let t1 = subst (λ l. IsTaken a b (Operation l)) is c.take_op.ensures.taken in
    let d = c.splice_before.new.ctx in
    let sp = c.splice_before.ensures.spliced in
    let e = c.take_op-2.new.ctx in
    let t2 = c.take_op-2.ensures.taken in
    block-leaf s call block h forest a hg b t1 d sp e t2

pub take_block-requires-clause-unused : goal.take_block-requires-clause-unused
take_block-requires-clause-unused g c =
    let s = c.args.ctx.now in
    let call = c.args.call in
    let block = c.args.block in
    let h = c.requires in
    let is = c.last_op-last.ensures h.body h.last h.ends in
    let forest = (c.contexts_stand.ensures s c.stands.ensures.whole).forest in
    let a = c.give_values.new.ctx in
    let hg = subst (λ l. IsGiven s a (put s call block l)) is c.give_values.ensures.given in
    let b = c.take_op.new.ctx in
    let t1 = subst (λ l. IsTaken a b (Operation l)) is c.take_op.ensures.taken in
    let d = c.splice_before.new.ctx in
    let sp = c.splice_before.ensures.spliced in
    let e = c.take_op-2.new.ctx in
    let t2 = c.take_op-2.ensures.taken in
    block-unused s call block h forest a hg b t1 d sp e t2 g.D.OpSet.attr_handles c.take_op-2.ensures.whole
    c.nothing_stands_below_a_leaf.ensures

pub returns-clause-put : goal.returns-clause-put
returns-clause-put g c =
    let s = c.args.ctx.now in
    let call = c.args.call in
    let block = c.args.block in
    let h = c.requires in
    let is = c.last_op-last.ensures h.body h.last h.ends in
    let forest = (c.contexts_stand.ensures s c.stands.ensures.whole).forest in
    let a = c.give_values.new.ctx in
    let hg = subst (λ l. IsGiven s a (put s call block l)) is c.give_values.ensures.given in
    let b = c.take_op.new.ctx in
    let t1 = subst (λ l. IsTaken a b (Operation l)) is c.take_op.ensures.taken in
    let d = c.splice_before.new.ctx in
    let sp = c.splice_before.ensures.spliced in
    let e = c.take_op-2.new.ctx in
    let t2 = c.take_op-2.ensures.taken in
    λ last body ends.
    subst (λ l. IsPut s call block l c.take_block.new.ctx) (sym is ∙ c.last_op-last.ensures body last ends)
    (is-put s call block h forest a hg b t1 d sp e t2 c.take_block.new.ctx c.take_block.ensures.taken
    c.splice_before.ensures.types)
