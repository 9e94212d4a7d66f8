use Rattle.std.proofs.Common.{◌≡◌, Some, zero, rules, refl, sym, ap, ◌∙◌}
use Rattle.plir_core.specs.declared.ptr.IRNode.TheVariants.{Operation}
use Rattle.plir_walk_calls.proofs.walk.changes.erase_op.Goals as goal

pub erase-requires-clause-unused : goal.erase-requires-clause-unused
erase-requires-clause-unused g c = c.if-not-is_unused_outside.ensures.value.0 refl

pub returns : goal.returns
returns g c =
    let e : c.in-Some.parent ≡ c.args.node = search rules in
    c.lawful_changes.ensures.erased c.args.ctx.now c.erase.new.ctx c.args.node (Operation c.args.op)
    (zero, sym c.parent.ensures ∙ c.in-Some.is ∙ ap Some e) c.erase.ensures.tree
