use Rattle.std.proofs.Common.{◌≡◌, length, arith}
use Rattle.plir_core.specs.declared.ptr.IRNode.TheVariants.{Operation}
use Rattle.plir_folding.proofs.Merges.{merges-none}
use Rattle.plir_folding.proofs.Settled.{alone-after}
use Rattle.plir_folding.proofs.merging.merge_constants.Goals as goal

pub returns-then-is_empty-clause-merged : goal.returns-then-is_empty-clause-merged
returns-then-is_empty-clause-merged g c =
    let none : length c.in_ok-merges.merges.items ≡ 0 = grind arith in
    merges-none c.args.ctx.now c.stands.ensures.standing.forest (Operation c.args.root) c.in_ok-merges.merges.items
    c.in_ok-merges.ensures g.D.OpSet.attr_handles c.lawful_changes.ensures c.stands.ensures.whole none

pub returns-then-is_empty-clause-alone : goal.returns-then-is_empty-clause-alone
returns-then-is_empty-clause-alone g c =
    let none : length c.in_ok-merges.merges.items ≡ 0 = grind arith in
    let s = c.args.ctx.now in
    let r = Operation c.args.root in
    let forest = c.stands.ensures.standing.forest in
    alone-after s s r
    (merges-none s forest r c.in_ok-merges.merges.items c.in_ok-merges.ensures g.D.OpSet.attr_handles
    c.lawful_changes.ensures c.stands.ensures.whole none) forest
