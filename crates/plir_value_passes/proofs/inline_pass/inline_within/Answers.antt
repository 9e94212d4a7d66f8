use Rattle.std.proofs.Common.{◌∙◌}
use Rattle.plir_core.specs.declared.ptr.IRNode.TheVariants.{Operation}
use Rattle.plir_value_passes.proofs.Steps.{root-kept}
use Rattle.plir_value_passes.proofs.inline_pass.inline_within.Goals as goal

pub returns-in-Ok-clause-live : goal.returns-in-Ok-clause-live
returns-in-Ok-clause-live g c =
    let done = c.in-Ok.ensures.ok in
    root-kept g.D.OpSet.is_symbol g.D.OpSet.is_symbol_table g.D.CallSet.call g.D.CallSet.returned c.args.root done.steps
    c.args.ctx.now c.inline_calls.new.ctx done.went c.requires

pub returns-in-Err-clause-live : goal.returns-in-Err-clause-live
returns-in-Err-clause-live g c =
    let cut = c.in-Err.ensures.err in
    cut.same.nodes.live (Operation c.args.root)
    ∙ root-kept g.D.OpSet.is_symbol g.D.OpSet.is_symbol_table g.D.CallSet.call g.D.CallSet.returned c.args.root
    cut.steps c.args.ctx.now cut.before cut.went c.requires
