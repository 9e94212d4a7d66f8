use Rattle.std.proofs.Common.{ap, sym, subst, arith}
use Rattle.plir_core.specs.declared.ptr.IRNode.TheVariants.{Operation}
use Rattle.std.specs.Prelude.{All}
use Rattle.plir_core.specs.Unused.{IsUnusedOutside}
use Rattle.plir_inline.proofs.Taking.{taken}
use Rattle.plir_inline.proofs.putting.take_op.Goals as goal

pub erase-requires-clause-unused : goal.erase-requires-clause-unused
erase-requires-clause-unused g c =
    c.unused_results_can_be_erased.ensures c.requires.unused
    (subst (All (IsUnusedOutside c.args.ctx.now)) (sym c.requires.leaf) (λ k d h. absurd (let e : ⊥ = omega (arith, h) in e)))

pub returns-clause-taken : goal.returns-clause-taken
returns-clause-taken g c =
    taken c.args.ctx.now c.erase.new.ctx (Operation c.args.op) c.nothing_stands_below_a_leaf.ensures c.erase.ensures.tree
    (ap (λ z. z.types) c.erase.ensures.after)
