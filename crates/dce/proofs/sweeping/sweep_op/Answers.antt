use Rattle.std.proofs.Common.{◌≡◌, IfSome, refl, subst}
use Rattle.plir_core.specs.ContextView.{parent_of}
use Rattle.plir_core.specs.declared.ptr.IRNode.TheVariants.{Operation}
use Rattle.dce.proofs.sweeping.sweep_op.Goals as goal

pub erase-requires-clause-unused : goal.erase-requires-clause-unused
erase-requires-clause-unused g c = c.if-is_dead.ensures.unused refl

pub returns-then-is_dead-clause-swept : goal.returns-then-is_dead-clause-swept
returns-then-is_dead-clause-swept g c =
    λ s h. c.leaves_thin.ensures.more _ _ s c.erase.new.ctx c.args.op h c.requires.here
    (c.if-is_dead.ensures.leaf refl) (c.if-is_dead.ensures.removable refl) c.erase.ensures.after c.erase.ensures.tree

pub returns-then-is_dead-clause-before : goal.returns-then-is_dead-clause-before
returns-then-is_dead-clause-before g c =
    let b = c.get_prev-before.result in
    let left = c.neighbours_outlast_an_erasure.ensures.prev b c.erase.new.ctx c.get_prev-before.ensures.value
    c.erase.ensures.tree in
    (left.live, subst (λ z. IfSome b (λ p. parent_of c.erase.new.ctx (Operation p) ≡ z)) c.requires.here left.here)
