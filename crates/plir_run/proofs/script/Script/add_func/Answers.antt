use Rattle.std.proofs.Common.{◌≡◌, true, sym, subst}
use Rattle.plir_core.specs.declared.ptr.IRNode.TheVariants.{Operation}
use Rattle.plir_core.specs.Nodes.{is_node_live}
use Rattle.plir_core.specs.ContextView.{IsAncestor}
use Rattle.plir_run.proofs.Lent.{agree-made, agree-refused, agree-typed}
use Rattle.plir_run.proofs.script.Script.add_func.Goals as goal

pub returns-in_err-made : goal.returns-in_err-made
returns-in_err-made c =
    let typed =
    agree-typed _ _ _ c.requires.agree c.stands.ensures.whole c.get-ty.new.ctx
    c.new_nodes_keep_agreement.ensures.types c.get-ty.ensures.rest in
    record {
      agree =
          agree-refused _ _ _ typed c.stands-2.ensures.whole _
          c.new_nodes_keep_agreement-2.ensures.refused c.in_err-made.ensures.err c.new-made.ensures.given;
    }

pub insert-requires-clause-target_live : goal.insert-requires-clause-target_live
insert-requires-clause-target_live c =
    c.in_ok-made.ensures.made.keeps.live (Operation c.in_ok-target.target)
    (subst (λ ns. is_node_live ns (Operation c.in_ok-target.target) ≡ true) (sym c.get-ty.ensures.rest)
    c.in_ok-target.ensures)

pub insert-requires-clause-not_above : goal.insert-requires-clause-not_above
insert-requires-clause-not_above c =
    subst (λ p. IsAncestor c.new-made.new.ctx (Operation p) (Operation c.in_ok-target.target) → ⊥)
    (sym c.operation-op.ensures)
    (c.in_ok-made.ensures.made.apart (Operation c.in_ok-target.target)
    (subst (λ ns. is_node_live ns (Operation c.in_ok-target.target) ≡ true) (sym c.get-ty.ensures.rest)
    c.in_ok-target.ensures))

pub insert-requires-clause-agree : goal.insert-requires-clause-agree
insert-requires-clause-agree c =
    let typed =
    agree-typed _ _ _ c.requires.agree c.stands.ensures.whole c.get-ty.new.ctx
    c.new_nodes_keep_agreement.ensures.types c.get-ty.ensures.rest in
    agree-made _ _ _ typed c.stands-2.ensures.whole _
    c.new_nodes_keep_agreement-2.ensures.made _ c.in_ok-made.ensures.made c.new-made.ensures.given
