use Rattle.std.proofs.Common.{subst, sym}
use Rattle.plir_core.specs.ContextView.{IsLive}
use Rattle.plir_core.specs.declared.ptr.IRNode.TheVariants.{Operation}
use Rattle.plir_tour.proofs.Appending.{module-live, single, one, not-above, still-live, same-kind}
use Rattle.plir_tour.proofs.tour.Goals as goal

pub append_operation-requires-clause-live : goal.append_operation-requires-clause-live
append_operation-requires-clause-live g c =
    module-live c.new.new.ctx c.get.new.ctx c.new-4.new.ctx c.in_ok-module.module.op c.in_ok-func.func.op
    c.in_ok-module.ensures.tree c.stands.ensures.standing c.in_ok-module.ensures.made.root c.in_ok-ty.ensures.rest
    c.in_ok-func.ensures.made

pub append_operation-requires-clause-rule : goal.append_operation-requires-clause-rule
append_operation-requires-clause-rule g c =
    single c.new.new.ctx c.get.new.ctx c.new-4.new.ctx c.in_ok-module.module.op c.in_ok-func.func.op
    c.in_ok-module.ensures.tree c.stands.ensures.standing c.in_ok-module.ensures.made.root c.in_ok-ty.ensures.rest
    c.in_ok-func.ensures.made

pub append_operation-requires-clause-below : goal.append_operation-requires-clause-below
append_operation-requires-clause-below g c =
    one c.new.new.ctx c.get.new.ctx c.new-4.new.ctx c.in_ok-module.module.op c.in_ok-func.func.op
    c.in_ok-module.ensures.tree c.stands.ensures.standing c.in_ok-module.ensures.made.root c.in_ok-ty.ensures.rest
    c.in_ok-func.ensures.made

pub append_operation-requires-clause-not_above : goal.append_operation-requires-clause-not_above
append_operation-requires-clause-not_above g c =
    not-above c.new.new.ctx c.get.new.ctx c.new-4.new.ctx c.in_ok-module.module.op c.in_ok-func.func.op
    c.in_ok-module.ensures.tree c.stands.ensures.standing c.in_ok-module.ensures.made.root c.in_ok-ty.ensures.rest
    c.in_ok-func.ensures.made c.operation-func.result c.operation-func.ensures

pub walk_op-requires-clause-root_live : goal.walk_op-requires-clause-root_live
walk_op-requires-clause-root_live g c =
    subst (λ p. IsLive c.append_operation.new.ctx (Operation p)) (sym c.operation-root.ensures)
    (still-live c.new.new.ctx c.get.new.ctx c.new-4.new.ctx c.in_ok-module.module.op c.in_ok-func.func.op
    c.in_ok-module.ensures.tree c.stands.ensures.standing c.in_ok-module.ensures.made.root c.in_ok-ty.ensures.rest
    c.in_ok-func.ensures.made c.append_operation.new.ctx c.operation-func.result c.append_operation.ensures.after)

pub verify_interfaces-requires-clause-live : goal.verify_interfaces-requires-clause-live
verify_interfaces-requires-clause-live g c =
    still-live c.new.new.ctx c.get.new.ctx c.new-4.new.ctx c.in_ok-module.module.op c.in_ok-func.func.op
    c.in_ok-module.ensures.tree c.stands.ensures.standing c.in_ok-module.ensures.made.root c.in_ok-ty.ensures.rest
    c.in_ok-func.ensures.made c.append_operation.new.ctx c.operation-func.result c.append_operation.ensures.after

pub verify_interfaces-requires-clause-module_kind : goal.verify_interfaces-requires-clause-module_kind
verify_interfaces-requires-clause-module_kind g c =
    same-kind c.new.new.ctx c.get.new.ctx c.new-4.new.ctx c.in_ok-module.module.op c.in_ok-func.func.op
    c.in_ok-module.ensures.tree c.stands.ensures.standing c.in_ok-module.ensures.made.root c.in_ok-ty.ensures.rest
    c.in_ok-func.ensures.made c.append_operation.new.ctx c.operation-func.result c.append_operation.ensures.after
