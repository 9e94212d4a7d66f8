use Rattle.std.proofs.Common.{◌≡◌, ◌∙◌, ap, sym, subst, length, map}
use Rattle.plir_core.specs.declared.ptr.IRNode.TheVariants.{Operation}
use Rattle.plir_core.specs.declared.value.DefiningEntity.TheVariants.{Op, Block}
use Rattle.plir_core.specs.ContextView.{IsLive, operands_of, result_types_of}
use Rattle.plir_inline.specs.Given.{IsGiven, NoneFrom, given}
use Rattle.plir_inline.specs.Put.{inside}
use Rattle.plir_inline.proofs.Giving.{given-both, given-operands, given-types, length-map}
use Rattle.plir_inline.proofs.Steps.{last-live, none-back}
use Rattle.plir_inline.proofs.putting.give_values.Goals as goal

pub give_operands-requires-clause-giver_live : goal.give_operands-requires-clause-giver_live
give_operands-requires-clause-giver_live g c = c.requires.0.call_live

pub give_operands-requires-2-clause-live : goal.give_operands-requires-2-clause-live
give_operands-requires-2-clause-live g c =
    c.give_operands.ensures.given.keeps.live (Operation c.args.call) ∙ c.requires.0.call_live

pub give_operands-requires-2-clause-giver_live : goal.give_operands-requires-2-clause-giver_live
give_operands-requires-2-clause-giver_live g c =
    let s = c.args.ctx.now in
    let forest = (c.contexts_stand.ensures s c.stands.ensures.whole).forest in
    c.give_operands.ensures.given.keeps.live (Operation c.args.last)
    ∙ subst (λ l. IsLive s (Operation l)) c.requires.1 (last-live s c.args.call c.args.block c.requires.0 forest)

pub give_operands-requires-2-clause-as_many : goal.give_operands-requires-2-clause-as_many
give_operands-requires-2-clause-as_many g c =
    let s = c.args.ctx.now in
    let t = c.give_operands.new.ctx in
    let f = given (Block c.args.block) (operands_of s c.args.call) in
    let hg = c.give_operands.ensures.given in
    ap length (given-operands s t f hg c.args.last) ∙ length-map f (operands_of s c.args.last)
    ∙ subst (λ l. length (operands_of s l) ≡ length (result_types_of s c.args.call)) c.requires.1 c.requires.0.results
    ∙ sym (ap length (given-types s t f hg (Op c.args.call)))

pub give_operands-requires-2-clause-none_own : goal.give_operands-requires-2-clause-none_own
give_operands-requires-2-clause-none_own g c =
    let s = c.args.ctx.now in
    let t = c.give_operands.new.ctx in
    let call = c.args.call in
    let block = c.args.block in
    let f = given (Block block) (operands_of s call) in
    subst (NoneFrom (Op call)) (sym (given-operands s t f c.give_operands.ensures.given c.args.last))
    (subst (λ l. NoneFrom (Op call) (map (inside s call block l) (operands_of s l))) c.requires.1
    (none-back s call block c.requires.0))

pub returns-clause-given : goal.returns-clause-given
returns-clause-given g c =
    let s = c.args.ctx.now in
    let t = c.give_operands.new.ctx in
    let u = c.give_operands-2.new.ctx in
    let call = c.args.call in
    let f = given (Block c.args.block) (operands_of s call) in
    let hg = c.give_operands.ensures.given in
    subst (λ ws. IsGiven s u (λ x. given (Op call) ws (f x))) (given-operands s t f hg c.args.last)
    (given-both s t u f (given (Op call) (operands_of t c.args.last)) hg c.give_operands-2.ensures.given)
