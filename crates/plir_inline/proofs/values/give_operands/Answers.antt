use Rattle.std.proofs.Common.{◌≡◌, ◌∙◌, ◌+◌, ◌<◌, ap, sym, subst, length, arith, Some}
use Rattle.std.specs.Prelude.{slice_get}
use Rattle.plir_core.specs.declared.ptr.IRNode.TheVariants.{Operation}
use Rattle.plir_core.specs.ContextView.{entity_node, operands_of}
use Rattle.plir_core.specs.Rewired.{IsRewired}
use Rattle.plir_copies.specs.Copied.{value_at}
use Rattle.plir_inline.specs.Given.{IsGiven, given_first}
use Rattle.plir_inline.proofs.GivenValues.{given-more, given-none}
use Rattle.plir_inline.proofs.Giving.{given-next, given-same, given-types, giver-same}
use Rattle.plir_inline.proofs.values.give_operands.Goals as goal

pub loop-i-init : goal.loop-i-init
loop-i-init g c =
    let vs = operands_of c.args.ctx.now c.args.giver in
    (given-same c.args.ctx.now (given_first c.args.owner vs 0) (given-none c.args.owner vs), c.stands.ensures.whole)

pub get_operand-operand-requires-clause-live : goal.get_operand-operand-requires-clause-live
get_operand-operand-requires-clause-live g c =
    c.loop-i.invariant.0.keeps.live (Operation c.args.giver) ∙ c.requires.giver_live

pub get_operand-operand-requires-clause-below : goal.get_operand-operand-requires-clause-below
get_operand-operand-requires-clause-below g c =
    let same = ap length (giver-same c.args.ctx.now c.loop-i.ctx c.args.owner (operands_of c.args.ctx.now c.args.giver)
    c.loop-i.i c.args.giver c.loop-i.invariant.0 c.requires.none_own) in
    omega (arith, same, c.loop-i-test.true, c.get_num_operands-i-end.ensures.value)

pub value_of-requires-clause-live : goal.value_of-requires-clause-live
value_of-requires-clause-live g c = c.loop-i.invariant.0.keeps.live (entity_node c.args.owner) ∙ c.requires.live

pub value_of-requires-clause-below : goal.value_of-requires-clause-below
value_of-requires-clause-below g c =
    let vs = operands_of c.args.ctx.now c.args.giver in
    let same = ap length (given-types c.args.ctx.now c.loop-i.ctx (given_first c.args.owner vs c.loop-i.i)
    c.loop-i.invariant.0 c.args.owner) in
    omega (arith, same, c.requires.as_many, c.loop-i-test.true, c.get_num_operands-i-end.ensures.value)

pub loop-i-preserved : goal.loop-i-preserved
loop-i-preserved g c =
    let s = c.args.ctx.now in
    let t = c.loop-i.ctx in
    let u = c.replace_all_uses_with.new.ctx in
    let e = c.args.owner in
    let vs = operands_of s c.args.giver in
    let i = c.loop-i.i in
    let w = c.get_operand-operand.result in
    let at : slice_get vs i ≡ Some w =
    ap (λ xs. slice_get xs i) (sym (giver-same s t e vs i c.args.giver c.loop-i.invariant.0 c.requires.none_own))
    ∙ c.get_operand-operand.ensures.value in
    let within : i < length vs = omega (arith, c.loop-i-test.true, c.get_num_operands-i-end.ensures.value) in (
      given-next s t u (given_first e vs i) (given_first e vs (i + 1)) (value_at e i) w c.loop-i.invariant.0
          (subst (λ v. IsRewired t u v w) c.value_of.ensures.value c.replace_all_uses_with.ensures.rewired)
          (given-more e vs c.requires.none_own i w within at),
      c.replace_all_uses_with.ensures.whole,
    )

pub returns-clause-given : goal.returns-clause-given
returns-clause-given g c =
    let s = c.args.ctx.now in
    let vs = operands_of s c.args.giver in
    let all : c.loop-i.i ≡ length vs =
    omega (arith, c.loop-i.auto.i-end, c.loop-i-test.false, c.get_num_operands-i-end.ensures.value) in
    subst (λ n. IsGiven s c.loop-i.ctx (given_first c.args.owner vs n)) all c.loop-i.invariant.0

pub returns-clause-whole : goal.returns-clause-whole
returns-clause-whole g c = c.loop-i.invariant.1
