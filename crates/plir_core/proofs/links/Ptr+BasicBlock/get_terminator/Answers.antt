use Rattle.std.proofs.Common.{◌∙◌, sym, ap, cond, Some, None}
use Rattle.plir_core.specs.declared.ptr.IRNode.TheVariants.{Operation}
use Rattle.plir_core.proofs.links.Ptr+BasicBlock.get_terminator.Goals as goal
use Rattle.plir_core.proofs.Terminators.{if_told}

pub returns-in-Some-clause-value : goal.returns-in-Some-clause-value
returns-in-Some-clause-value g c =
    let live = c.in-Some.ensures.live in
    sym (if_told g.D.OpSet.is_terminator g.D.OpSet.is_symbol g.D.OpSet.is_symbol_table g.D.OpSet.is_symbol_user
    c.args.ctx.now c.in-Some.op live c.op_impls.result c.args.self c.in-Some.ensures.value c.op_impls.ensures.value
    ∙ ap (λ z. cond z (Some (Operation c.in-Some.op)) None) c.if-op_impls.true)
