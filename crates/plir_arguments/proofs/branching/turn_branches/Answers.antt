use Rattle.std.proofs.Common.{◌≤◌, ◌∙◌, arith, length, subst}
use Rattle.std.specs.Prelude.{slice_index_or}
use Rattle.std.proofs.lemmas.List.{take_all}
use Rattle.std.proofs.lemmas.Option.{slice_get-get_or}
use Rattle.plir_core.specs.declared.ptr.IRNode.TheVariants.{BasicBlock}
use Rattle.plir_arguments.proofs.Changed.{AreTurnedAt, all-turned, can-once, next-below, next-live, next-told}
use Rattle.plir_arguments.proofs.Changed.{next-within, none-turned, one-more}
use Rattle.plir_arguments.proofs.Uses.{no_use}
use Rattle.plir_arguments.proofs.branching.turn_branches.Goals as goal

pub loop-used-init : goal.loop-used-init
loop-used-init g c = record {
  turned = none-turned g.D.BranchEditSet.layout_keys g.D.BranchSet.forwards c.args.ctx.now c.args.block c.args.other
      c.args.arg;
  whole = c.stands.ensures.whole;
}

pub turn_use-requires-clause-live : goal.turn_use-requires-clause-live
turn_use-requires-clause-live g c =
    let removes = g.D.BranchEditSet.removes in
    let keys = g.D.BranchEditSet.layout_keys in
    let forwards = g.D.BranchSet.forwards in
    let s = c.args.ctx.now in
    let b = c.args.block in
    let other = c.args.other in
    let i = c.args.arg in
    let us = c.args.uses.now in
    let n = c.loop-used.used-index in
    let u = slice_index_or us n no_use in
    let at = slice_get-get_or us n no_use c.loop-used-test.true in
    let once = can-once keys forwards s b other i removes c.requires.branches in
    let t = c.loop-used.ctx in
    let h = c.loop-used.invariant.turned in
    next-live keys forwards s b other i us c.requires.uses once n u at t h

pub turn_use-requires-clause-block_live : goal.turn_use-requires-clause-block_live
turn_use-requires-clause-block_live g c =
    c.loop-used.invariant.turned.keeps.live (BasicBlock c.args.other) ∙ c.requires.other_live

pub turn_use-requires-clause-below : goal.turn_use-requires-clause-below
turn_use-requires-clause-below g c =
    let removes = g.D.BranchEditSet.removes in
    let keys = g.D.BranchEditSet.layout_keys in
    let forwards = g.D.BranchSet.forwards in
    let s = c.args.ctx.now in
    let b = c.args.block in
    let other = c.args.other in
    let i = c.args.arg in
    let us = c.args.uses.now in
    let n = c.loop-used.used-index in
    let u = slice_index_or us n no_use in
    let at = slice_get-get_or us n no_use c.loop-used-test.true in
    let once = can-once keys forwards s b other i removes c.requires.branches in
    let t = c.loop-used.ctx in
    let h = c.loop-used.invariant.turned in
    next-below keys forwards s b other i us c.requires.uses once n u at t h

pub turn_use-requires-clause-removes : goal.turn_use-requires-clause-removes
turn_use-requires-clause-removes g c =
    let removes = g.D.BranchEditSet.removes in
    let keys = g.D.BranchEditSet.layout_keys in
    let forwards = g.D.BranchSet.forwards in
    let s = c.args.ctx.now in
    let b = c.args.block in
    let other = c.args.other in
    let i = c.args.arg in
    let us = c.args.uses.now in
    let n = c.loop-used.used-index in
    let u = slice_index_or us n no_use in
    let at = slice_get-get_or us n no_use c.loop-used-test.true in
    let once = can-once keys forwards s b other i removes c.requires.branches in
    let t = c.loop-used.ctx in
    let h = c.loop-used.invariant.turned in
    next-told keys forwards s b other i us c.requires.uses once n u at removes c.requires.branches t h

pub turn_use-requires-clause-within : goal.turn_use-requires-clause-within
turn_use-requires-clause-within g c =
    let removes = g.D.BranchEditSet.removes in
    let keys = g.D.BranchEditSet.layout_keys in
    let forwards = g.D.BranchSet.forwards in
    let s = c.args.ctx.now in
    let b = c.args.block in
    let other = c.args.other in
    let i = c.args.arg in
    let us = c.args.uses.now in
    let n = c.loop-used.used-index in
    let u = slice_index_or us n no_use in
    let at = slice_get-get_or us n no_use c.loop-used-test.true in
    let once = can-once keys forwards s b other i removes c.requires.branches in
    let t = c.loop-used.ctx in
    let h = c.loop-used.invariant.turned in
    next-within keys forwards s b other i us c.requires.uses once n u at removes c.requires.branches t h c.requires.below

pub loop-used-preserved : goal.loop-used-preserved
loop-used-preserved g c =
    let removes = g.D.BranchEditSet.removes in
    let keys = g.D.BranchEditSet.layout_keys in
    let forwards = g.D.BranchSet.forwards in
    let s = c.args.ctx.now in
    let b = c.args.block in
    let other = c.args.other in
    let i = c.args.arg in
    let us = c.args.uses.now in
    let n = c.loop-used.used-index in
    let u = slice_index_or us n no_use in
    let at = slice_get-get_or us n no_use c.loop-used-test.true in
    let once = can-once keys forwards s b other i removes c.requires.branches in
    let t = c.loop-used.ctx in
    let h = c.loop-used.invariant.turned in
    record {
      turned = one-more keys forwards s b other i us c.requires.uses once n u at t c.turn_use.new.ctx h c.turn_use.ensures.turned;
      whole = c.turn_use.ensures.whole;
    }

pub returns-clause-turned : goal.returns-clause-turned
returns-clause-turned g c =
    let keys = g.D.BranchEditSet.layout_keys in
    let forwards = g.D.BranchSet.forwards in
    let s = c.args.ctx.now in
    let us = c.args.uses.now in
    let past : length us ≤ c.loop-used.used-index = omega arith in
    all-turned keys forwards s c.args.block c.args.other c.args.arg c.loop-used.ctx us c.requires.uses
    (subst (AreTurnedAt keys forwards s c.args.block c.args.other c.args.arg c.loop-used.ctx)
    (take_all c.loop-used.used-index us past) c.loop-used.invariant.turned)
