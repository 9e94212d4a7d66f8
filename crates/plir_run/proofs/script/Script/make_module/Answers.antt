use Rattle.std.proofs.Common.{sym, subst}
use Rattle.plir_core.specs.declared.ptr.IRNode.TheVariants.{Operation}
use Rattle.plir_core.specs.ContextView.{IsAncestor}
use Rattle.plir_run.proofs.Lent.{agree-made, agree-refused}
use Rattle.plir_run.proofs.script.Script.make_module.Goals as goal

pub returns-in_err-made : goal.returns-in_err-made
returns-in_err-made c = record {
  agree =
      agree-refused _ _ _ c.requires.agree c.stands.ensures.whole _
      c.new_nodes_keep_agreement.ensures.refused c.in_err-made.ensures.err c.new-made.ensures.given;
}

pub insert-requires-clause-target_live : goal.insert-requires-clause-target_live
insert-requires-clause-target_live c =
    c.in_ok-made.ensures.made.keeps.live (Operation c.in_ok-target.target) c.in_ok-target.ensures

pub insert-requires-clause-not_above : goal.insert-requires-clause-not_above
insert-requires-clause-not_above c =
    subst (λ p. IsAncestor c.new-made.new.ctx (Operation p) (Operation c.in_ok-target.target) → ⊥)
    (sym c.operation-op.ensures)
    (c.in_ok-made.ensures.made.apart (Operation c.in_ok-target.target) c.in_ok-target.ensures)

pub insert-requires-clause-agree : goal.insert-requires-clause-agree
insert-requires-clause-agree c =
    agree-made _ _ _ c.requires.agree c.stands.ensures.whole _
    c.new_nodes_keep_agreement.ensures.made _ c.in_ok-made.ensures.made c.new-made.ensures.given
