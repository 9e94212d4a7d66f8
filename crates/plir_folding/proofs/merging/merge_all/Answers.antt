use Rattle.std.proofs.Common.{◌∙◌}
use Rattle.plir_core.specs.declared.ptr.IRNode.TheVariants.{Operation}
use Rattle.plir_folding.proofs.Merges.{into-live, merges-end, merges-step, merges-tell}
use Rattle.plir_folding.proofs.Settled.{alone-after}
use Rattle.plir_folding.proofs.merging.merge_all.Goals as goal

pub replace_all_uses_with-requires : goal.replace_all_uses_with-requires
replace_all_uses_with-requires g c = record {
  other_live =
      c.merges.invariant.values _
      ∙ into-live c.args.ctx.now c.stands.ensures.standing.forest (Operation c.args.root) c.args.merges.now c.requires
      c.merges.merge-index _ c.merges-test.true;
}

pub merges-preserved : goal.merges-preserved
merges-preserved g c =
    merges-step g.D.OpSet.attr_handles c.lawful_changes.ensures c.args.ctx.now (Operation c.args.root) c.args.merges.now
    c.stands.ensures.whole c.merges.ctx c.replace_all_uses_with.new.ctx c.merges.merge-index _ c.merges-test.true
    c.merges.invariant c.replace_all_uses_with.ensures.rewired c.replace_all_uses_with.ensures.whole

pub returns-clause-merged : goal.returns-clause-merged
returns-clause-merged g c =
    merges-end c.args.ctx.now c.stands.ensures.standing.forest (Operation c.args.root) c.args.merges.now c.requires
    g.D.OpSet.attr_handles c.merges.ctx c.merges.merge-index c.merges.invariant c.merges-test.false

pub returns-clause-alone : goal.returns-clause-alone
returns-clause-alone g c =
    let forest = c.stands.ensures.standing.forest in
    let merged =
    merges-end c.args.ctx.now forest (Operation c.args.root) c.args.merges.now c.requires g.D.OpSet.attr_handles
    c.merges.ctx c.merges.merge-index c.merges.invariant c.merges-test.false in
    alone-after c.args.ctx.now c.merges.ctx (Operation c.args.root) merged forest

pub returns-clause-told : goal.returns-clause-told
returns-clause-told g c =
    merges-tell c.args.ctx.now c.stands.ensures.standing.forest (Operation c.args.root) c.args.merges.now c.requires
    g.D.OpSet.attr_handles c.merges.ctx c.merges.merge-index c.merges.invariant c.merges-test.false
