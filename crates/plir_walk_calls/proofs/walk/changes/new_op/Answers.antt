use Rattle.std.proofs.Common.{zero, sym, refl, subst, ◌∙◌}
use Rattle.std.proofs.lemmas.Option.{same_Some}
use Rattle.plir_core.specs.declared.ptr.IRNode.TheVariants.{Operation, BasicBlock}
use Rattle.plir_core.specs.Forest.{look}
use Rattle.plir_walk.specs.Lawful.{Lawful}
use Rattle.plir_walk_calls.proofs.walk.changes.new_op.Goals as goal

pub returns-in_err-op-in-Some-clause-lawful : goal.returns-in_err-op-in-Some-clause-lawful
returns-in_err-op-in-Some-clause-lawful g c = λ b e. c.lawful_changes.ensures.refused c.args.ctx.now
    c.new-in-Some.new.ctx (BasicBlock b) c.in_err-op-in-Some.ensures.unmade.same c.in_err-op-in-Some.ensures.given

pub insert_at_back-requires-clause-not_above : goal.insert_at_back-requires-clause-not_above
insert_at_back-requires-clause-not_above g c = c.in_ok-op-in-Some.ensures.made.made.apart (BasicBlock c.in-Some.block)
    (sym c.if-not-is_live.ensures.value)

pub returns-in_ok-op-in-Some-clause-lawful : goal.returns-in_ok-op-in-Some-clause-lawful
returns-in_ok-op-in-Some-clause-lawful g c = λ b e.
    let s = c.args.ctx.now in
    let u = c.insert_at_back.new.ctx in
    let block = BasicBlock c.in-Some.block in
    let forest = c.lawful_changes.ensures.forest s c.is_live.ensures.whole in
    let lawful = c.lawful_changes.ensures.placed s c.new-in-Some.new.ctx u block block (Operation c.in_ok-op-in-Some.op)
    _ forest (zero, refl) c.in_ok-op-in-Some.ensures.made.made c.insert_at_back.ensures.placed in
    subst (λ z. Lawful (look s) (BasicBlock z) (look u)) (same_Some c.in-Some.block b (sym c.in-Some.is ∙ e)) lawful
