use Rattle.std.proofs.Common.{IsSome, [], ◌∷◌, ap, length, refl, subst, sym, ◌∙◌}
use Rattle.std.proofs.lemmas.List.Elements.{All-nil, All-cons}
use Rattle.std.proofs.lemmas.Result.{err_from_is_err_and}
use Rattle.plir_core.specs.declared.ptr.IRNode.TheVariants.{Operation}
use Rattle.plir_core.specs.ContextView.{IsValueLive}
use Rattle.plir_passes.specs.Prepared.{IsPrepared}
use Rattle.sample_lowering.specs.Kinds.{is_sum}
use Rattle.sample_lowering.proofs.lowering.LowerAddConversionArithSet.rewrite.Goals.{After-put_before}
use Rattle.sample_lowering.proofs.lowering.LowerAddConversionArithSet.rewrite.Goals.{After-put_before-2}
use Rattle.sample_lowering.proofs.lowering.LowerAddConversionArithSet.rewrite.Goals as goal

-- the replacement is prepared behind the call that puts the negation, and behind the one that puts the difference
first : (c : After-put_before) → IsPrepared is_sum c.args.ctx.now c.put_before.new.ctx c.args._block c.args.op
first c = c.put_before.ensures.prepared is_sum c.args.ctx.now c.args._block c.stands.ensures.whole c.requires.here refl
    (c.replacements.ensures.begun is_sum c.args.ctx.now c.args._block c.args.op)

second : (c : After-put_before-2) → IsPrepared is_sum c.args.ctx.now c.put_before-2.new.ctx c.args._block c.args.op
second c =
    c.put_before-2.ensures.prepared is_sum c.args.ctx.now c.args._block c.stands.ensures.whole c.requires.here refl
    (c.put_before.ensures.prepared is_sum c.args.ctx.now c.args._block c.stands.ensures.whole c.requires.here refl
    (c.replacements.ensures.begun is_sum c.args.ctx.now c.args._block c.args.op))

pub returns-in_err-negated-clause-told : goal.returns-in_err-negated-clause-told
returns-in_err-negated-clause-told c =
    let p = err_from_is_err_and c.from_residual.result c.from_residual.ensures.1 in
    let prepared = first (goal.at.returns-in_err-negated-clause-told c).After-put_before in
    rw (p.1, p.2) (sym c.is_of_two.ensures.value ∙ c.if-not-is_of_two.false, prepared)

pub returns-in_err-negated-clause-rewriting : goal.returns-in_err-negated-clause-rewriting
returns-in_err-negated-clause-rewriting c =
    (first (goal.at.returns-in_err-negated-clause-rewriting c).After-put_before).rewriting

pub put_before-requires-2-clause-linked : goal.put_before-requires-2-clause-linked
put_before-requires-2-clause-linked c =
    let prepared = first (goal.at.put_before-requires-2-clause-linked c).After-put_before in
    subst IsSome (sym (prepared.parents (Operation c.args.op) c.requires.live ∙ c.requires.here)) refl

pub put_before-requires-2-clause-operands_live : goal.put_before-requires-2-clause-operands_live
put_before-requires-2-clause-operands_live c =
    let prepared = first (goal.at.put_before-requires-2-clause-operands_live c).After-put_before in
    let live = IsValueLive c.put_before.new.ctx in
    All-cons live c.get_operand-left.result (c.in_ok-negated.negated ∷ [])
    (c.replacements.ensures.value is_sum c.args.ctx.now c.put_before.new.ctx c.args._block c.args.op
    c.get_operand-left.result prepared c.get_operand-left.ensures.live).0
    (All-cons live c.in_ok-negated.negated [] c.in_ok-negated.ensures.live (All-nil live))

pub returns-in_err-difference-clause-told : goal.returns-in_err-difference-clause-told
returns-in_err-difference-clause-told c =
    let p = err_from_is_err_and c.from_residual-in_err-difference.result c.from_residual-in_err-difference.ensures.1 in
    let prepared = second (goal.at.returns-in_err-difference-clause-told c).After-put_before-2 in
    rw (p.1, p.2) (sym c.is_of_two.ensures.value ∙ c.if-not-is_of_two.false, prepared)

pub returns-in_err-difference-clause-rewriting : goal.returns-in_err-difference-clause-rewriting
returns-in_err-difference-clause-rewriting c =
    (second (goal.at.returns-in_err-difference-clause-rewriting c).After-put_before-2).rewriting

pub replace_op-requires-clause-live : goal.replace_op-requires-clause-live
replace_op-requires-clause-live c =
    (second (goal.at.replace_op-requires-clause-live c).After-put_before-2).live (Operation c.args.op) c.requires.live

pub replace_op-requires-clause-one_result : goal.replace_op-requires-clause-one_result
replace_op-requires-clause-one_result c =
    ap length (c.replacements.ensures.results is_sum c.args.ctx.now c.put_before-2.new.ctx c.args._block c.args.op
    c.args.op (second (goal.at.replace_op-requires-clause-one_result c).After-put_before-2) c.requires.live)
    ∙ c.is_of_two.ensures.results c.if-not-is_of_two.false

pub replace_op-requires-clause-no_region : goal.replace_op-requires-clause-no_region
replace_op-requires-clause-no_region c =
    let prepared = second (goal.at.replace_op-requires-clause-no_region c).After-put_before-2 in
    ap length (prepared.children (Operation c.args.op) c.requires.live (λ e. cc e))
    ∙ c.is_of_two.ensures.regions c.if-not-is_of_two.false

pub returns-clause-rewriting : goal.returns-clause-rewriting
returns-clause-rewriting c =
    (c.replace_op.ensures.replaced is_sum c.args.ctx.now c.args._block c.stands.ensures.whole c.requires.here
    (second (goal.at.returns-clause-rewriting c).After-put_before-2)).0

pub returns-clause-done : goal.returns-clause-done
returns-clause-done c =
    (c.replace_op.ensures.replaced is_sum c.args.ctx.now c.args._block c.stands.ensures.whole c.requires.here
    (second (goal.at.returns-clause-done c).After-put_before-2)).1
