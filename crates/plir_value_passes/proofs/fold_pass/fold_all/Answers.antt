use Rattle.plir_core.specs.declared.ptr.IRNode.TheVariants.{Operation}
use Rattle.plir_value_passes.proofs.fold_pass.fold_all.Goals as goal

pub returns-clause-folded : goal.returns-clause-folded
returns-clause-folded g c =
    let laws = c.lawful_changes.ensures in
    let r = Operation c.args.root in
    let s = c.args.ctx.now in
    let between = c.fold_constants.new.ctx in
    let passed = c.fold_values.new.ctx in
    let t = c.merge_constants.new.ctx in
    let first = c.in-Ok.ensures in
    let second = c.in_ok-values.ensures in
    let third = c.in_ok-merged.ensures in
    record {
      between = between;
      folded = first.folded;
      settled = first.settled;
      passed = passed;
      passed_on = second.passed;
      merged = third.merged;
      clean = c.merging_keeps_passed.ensures passed t r r second.whole third.merged second.settled;
      alone = third.alone;
      lawful =
          laws.both s between t r (laws.forest s c.stands.ensures.whole) first.lawful
          (laws.both between passed t r (laws.forest between first.whole) second.lawful third.lawful);
    }
