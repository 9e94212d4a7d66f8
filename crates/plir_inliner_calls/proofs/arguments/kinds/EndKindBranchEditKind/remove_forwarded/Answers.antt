use Rattle.std.proofs.Common.{◌∙◌, [], subst, sym}
use Rattle.plir_core.specs.Changes.{with_op_edit}
use Rattle.plir_arguments.specs.Removed.{ForwardsLess, IsOpChanged}
use Rattle.plir_inliner_calls.specs.EndKinds.{all_to_first, removes_of}
use Rattle.plir_inliner_calls.proofs.Taking.{edited-changed, less, removed-first, told-test, without_operand}
use Rattle.plir_inliner_calls.proofs.arguments.kinds.EndKindBranchEditKind.remove_forwarded.Goals as goal

pub returns-clause-less : goal.returns-clause-less
returns-clause-less g c =
    let s = c.args.ctx.now in
    let op = c.args.op in
    let i = c.args.successor in
    let n = c.args.place in
    let first = removed-first c.args.self i
    (told-test s op c.requires.live (removes_of c.args.self i) ∙ c.requires.removes) in
    let R = ForwardsLess [] (λ j held. all_to_first held j) i n in
    subst (λ t. IsOpChanged s t op R) (sym c.remove_operand.ensures.after)
    (edited-changed s (with_op_edit s op (without_operand n)) op (without_operand n) R
    (c.op_edits_keep_the_rest.ensures (without_operand n)) (less i n first))
