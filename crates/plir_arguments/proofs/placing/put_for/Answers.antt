use Rattle.std.proofs.Common.{◌∙◌, ap}
use Rattle.plir_core.specs.declared.ptr.IRNode.TheVariants.{BasicBlock}
use Rattle.plir_arguments.proofs.PutSteps.{block-same, block-unused, is-put, live-block-a, live-block-d, live-other-a}
use Rattle.plir_arguments.proofs.PutSteps.{not-above}
use Rattle.plir_arguments.proofs.placing.put_for.Goals as goal

pub insert_before-requires-clause-not_above : goal.insert_before-requires-clause-not_above
insert_before-requires-clause-not_above g c = λ r.
    c.requires.apart (block-same c.args.block c.args.other
    (c.nothing_stands_below_a_leaf.ensures (BasicBlock c.args.block) r))

pub splice_at_back-requires-clause-live : goal.splice_at_back-requires-clause-live
splice_at_back-requires-clause-live g c =
    let s = c.args.ctx.now in
    let h = c.requires in
    let stands = c.contexts_stand.ensures s c.stands.ensures.whole in
    live-block-a s c.args.block c.args.other stands h.apart h.leaf h.linked c.insert_before.new.ctx
    c.insert_before.ensures.placed h.live

pub splice_at_back-requires-clause-target_live : goal.splice_at_back-requires-clause-target_live
splice_at_back-requires-clause-target_live g c =
    let s = c.args.ctx.now in
    let h = c.requires in
    let stands = c.contexts_stand.ensures s c.stands.ensures.whole in
    live-other-a s c.args.block c.args.other stands h.apart h.leaf h.linked c.insert_before.new.ctx
    c.insert_before.ensures.placed h.other_live

pub splice_at_back-requires-clause-not_above : goal.splice_at_back-requires-clause-not_above
splice_at_back-requires-clause-not_above g c =
    let s = c.args.ctx.now in
    let h = c.requires in
    let stands = c.contexts_stand.ensures s c.stands.ensures.whole in
    let a = c.insert_before.new.ctx in
    not-above s c.args.block c.args.other stands h.apart h.leaf h.linked a
    c.insert_before.ensures.placed (c.contexts_stand.ensures a c.insert_before.ensures.whole)

pub nothing_stands_below_a_leaf-requires-2 : goal.nothing_stands_below_a_leaf-requires-2
nothing_stands_below_a_leaf-requires-2 g c = c.splice_at_back.ensures.spliced.left

pub erase-requires-clause-live : goal.erase-requires-clause-live
erase-requires-clause-live g c =
    let s = c.args.ctx.now in
    let h = c.requires in
    let stands = c.contexts_stand.ensures s c.stands.ensures.whole in
    let a = c.insert_before.new.ctx in
    live-block-d s c.args.block c.args.other stands h.apart h.leaf h.linked a c.insert_before.ensures.placed
    (c.contexts_stand.ensures a c.insert_before.ensures.whole) c.splice_at_back.new.ctx
    c.splice_at_back.ensures.spliced h.live

pub erase-requires-clause-unused : goal.erase-requires-clause-unused
erase-requires-clause-unused g c =
    let s = c.args.ctx.now in
    let h = c.requires in
    let stands = c.contexts_stand.ensures s c.stands.ensures.whole in
    let a = c.insert_before.new.ctx in
    block-unused s c.args.block c.args.other stands h.apart h.leaf h.linked a c.insert_before.ensures.placed
    (c.contexts_stand.ensures a c.insert_before.ensures.whole) c.splice_at_back.new.ctx
    c.splice_at_back.ensures.spliced h.no_use h.no_branch c.nothing_stands_below_a_leaf-2.ensures

pub returns-clause-put : goal.returns-clause-put
returns-clause-put g c =
    let s = c.args.ctx.now in
    let h = c.requires in
    let stands = c.contexts_stand.ensures s c.stands.ensures.whole in
    let a = c.insert_before.new.ctx in
    let types = ap (λ z. z.types) c.erase.ensures.after ∙ c.splice_at_back.ensures.types
    ∙ ap (λ z. z.types) c.insert_before.ensures.after in
    is-put s c.args.block c.args.other stands h.apart h.leaf h.linked a c.insert_before.ensures.placed
    (c.contexts_stand.ensures a c.insert_before.ensures.whole) c.splice_at_back.new.ctx
    c.splice_at_back.ensures.spliced c.erase.new.ctx c.erase.ensures.tree types
    c.nothing_stands_below_a_leaf-2.ensures
