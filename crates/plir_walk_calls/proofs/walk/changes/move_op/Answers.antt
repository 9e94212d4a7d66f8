use Rattle.std.proofs.Common.{◌≢◌, zero, suc, [], ◌∷◌, ◌++◌, rules}
use Rattle.std.proofs.lemmas.Option.{same_Some}
use Rattle.plir_core.specs.Above.{Reaches}
use Rattle.plir_core.specs.ContextView.{children}
use Rattle.plir_core.specs.Forest.{Shape, IsBelow, look}
use Rattle.plir_core.specs.declared.ptr.IRNode.{IRNode}
use Rattle.plir_core.specs.declared.ptr.IRNode.TheVariants.{Operation, BasicBlock}
use Rattle.plir_walk.specs.ChangedBelow.{WasBelow, WasUnder}
use Rattle.plir_walk_calls.proofs.walk.changes.move_op.Goals as goal

strictly : (s : Shape) (n x : IRNode) → x ≢ n → Reaches s.parent x n → IsBelow s n x
strictly s n x other (zero, e) = absurd (other (same_Some x n e))
strictly s n x other (suc k, e) = (k, e)

pub insert_at_back-requires-clause-not_above : goal.insert_at_back-requires-clause-not_above
insert_at_back-requires-clause-not_above g c = λ above.
    let before = c.changes_below_compose.ensures.unlinked_under c.args.ctx.now c.unlink.new.ctx (Operation c.args.op)
    (BasicBlock c.args.block) c.unlink.ensures.unlinked above in
    let yes = c.is_ancestor-over_target.ensures.value.1 before in
    let no = c.if-over_target.false in
    (let z : ⊥ = cc (yes, no) in z)

pub returns : goal.returns
returns g c =
    let s = c.args.ctx.now in
    let t = c.unlink.new.ctx in
    let u = c.insert_at_back.new.ctx in
    let n = c.args.node in
    let moved = Operation c.args.op in
    let block = BasicBlock c.args.block in
    let begins = c.lawful_changes.ensures.forest s c.is_live.ensures.whole in
    let ends = c.lawful_changes.ensures.forest u c.insert_at_back.ensures.whole in
    let other : moved ≢ n = search rules in
    let below : WasBelow (look s) n moved = λ v. strictly (look s) n moved other
    (c.is_ancestor-holds_moved.ensures.value.0 c.if-not-holds_moved.false) in
    let under : WasUnder (look s) n block = λ v. c.is_ancestor-holds_target.ensures.value.0 c.if-not-holds_target.false
    in
    let steps = c.changes_below_compose.ensures in
    let out = steps.unlinked s s t n moved begins begins (steps.begun s n begins) below c.unlink.ensures.unlinked in
    steps.lawful s u n begins ends (steps.placed s t u n moved block (children t block ++ moved ∷ []) out below under
    c.insert_at_back.ensures.placed)
