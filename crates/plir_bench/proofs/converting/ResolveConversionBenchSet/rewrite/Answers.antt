use Rattle.std.proofs.Common.{ap, length, refl, ◌∙◌}
use Rattle.plir_core.specs.declared.ptr.IRNode.TheVariants.{Operation}
use Rattle.plir_passes.specs.Prepared.{IsPrepared}
use Rattle.plir_bench.specs.Illegal.{is_reference}
use Rattle.plir_bench.proofs.converting.ResolveConversionBenchSet.rewrite.Goals.{After-put_before}
use Rattle.plir_bench.proofs.converting.ResolveConversionBenchSet.rewrite.Goals as goal

-- the replacement is prepared behind the call that puts the constant
prepared : (c : After-put_before) → IsPrepared is_reference c.args.ctx.now c.put_before.new.ctx c.args._block c.args.op
prepared c = c.put_before.ensures.prepared is_reference c.args.ctx.now c.args._block c.stands.ensures.whole
    c.requires.here refl (c.replacements.ensures.begun is_reference c.args.ctx.now c.args._block c.args.op)

pub returns-in_err-constant-clause-rewriting : goal.returns-in_err-constant-clause-rewriting
returns-in_err-constant-clause-rewriting c =
    (prepared (goal.at.returns-in_err-constant-clause-rewriting c).After-put_before).rewriting

pub replace_op-requires-clause-live : goal.replace_op-requires-clause-live
replace_op-requires-clause-live c =
    (prepared (goal.at.replace_op-requires-clause-live c).After-put_before).live (Operation c.args.op) c.requires.live

pub replace_op-requires-clause-one_result : goal.replace_op-requires-clause-one_result
replace_op-requires-clause-one_result c =
    ap length (c.replacements.ensures.results is_reference c.args.ctx.now c.put_before.new.ctx c.args._block c.args.op
    c.args.op (prepared (goal.at.replace_op-requires-clause-one_result c).After-put_before) c.requires.live)
    ∙ c.is_plain.ensures.results c.if-not-is_plain.false

pub replace_op-requires-clause-no_region : goal.replace_op-requires-clause-no_region
replace_op-requires-clause-no_region c =
    let before = prepared (goal.at.replace_op-requires-clause-no_region c).After-put_before in
    ap length (before.children (Operation c.args.op) c.requires.live (λ e. cc e))
    ∙ c.is_plain.ensures.regions c.if-not-is_plain.false

pub returns-clause-rewriting : goal.returns-clause-rewriting
returns-clause-rewriting c =
    (c.replace_op.ensures.replaced is_reference c.args.ctx.now c.args._block c.stands.ensures.whole c.requires.here
    (prepared (goal.at.returns-clause-rewriting c).After-put_before)).0

pub returns-clause-done : goal.returns-clause-done
returns-clause-done c =
    (c.replace_op.ensures.replaced is_reference c.args.ctx.now c.args._block c.stands.ensures.whole c.requires.here
    (prepared (goal.at.returns-clause-done c).After-put_before)).1

pub returns-clause-told : goal.returns-clause-told
returns-clause-told c =
    (c.replace_op.ensures.replaced is_reference c.args.ctx.now c.args._block c.stands.ensures.whole c.requires.here
    (prepared (goal.at.returns-clause-told c).After-put_before)).1
