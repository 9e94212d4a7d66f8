use Rattle.std.proofs.Common.{Option, Ok, Err, refl, ◌∙◌}
use Rattle.std.proofs.lemmas.Result.{err_from_is_err_and}
use Rattle.plir_core.specs.declared.ptr.Ptr.{Ptr}
use Rattle.plir_core.specs.declared.ptr.Operation.{Operation as OperationKind}
use Rattle.plir_core.specs.declared.ptr.IRNode.TheVariants.{BasicBlock}
use Rattle.plir_passes.proofs.Converting.{converting-start, converting-live, converting-parent, converting-more}
use Rattle.plir_passes.proofs.Converting.{converting-falls, converting-end, converting-handed, converting-refused}
use Rattle.plir_passes.proofs.Handing.{block-idle}
use Rattle.plir_passes.proofs.Keeping.{converted-then}
use Rattle.plir_passes.proofs.conversion.convert_block.Goals as goal

pub ops-init : goal.ops-init
ops-init g c =
    converting-start
    (c.lawful_changes.ensures.none c.args.ctx.now (BasicBlock c.args.block)) c.stands.ensures.standing.forest c.requires
    (c.get_head-at.ensures.value ∙ c.first_child_is_front.ensures.front)

pub convert_op-requires-clause-live : goal.convert_op-requires-clause-live
convert_op-requires-clause-live g c = converting-live c.ops.invariant c.in-Some.op c.in-Some.is

pub convert_op-requires-clause-here : goal.convert_op-requires-clause-here
convert_op-requires-clause-here g c = converting-parent c.ops.invariant c.in-Some.op c.in-Some.is

pub ops-smaller : goal.ops-smaller
ops-smaller g c =
    converting-falls c.ops.invariant c.in-Some.op c.in-Some.is
    c.convert_op.new.ctx c.in_ok-next.next c.stands.ensures.standing.forest c.in_ok-next.ensures.stands
    c.in_ok-next.ensures.passed

pub ops-preserved : goal.ops-preserved
ops-preserved g c =
    let s = c.args.ctx.now in
    let t = c.convert_op.new.ctx in
    let n = BasicBlock c.args.block in
    let forest = c.stands.ensures.standing.forest in
    let lawful =
    c.lawful_changes.ensures.both s c.ops.ctx t n forest c.ops.invariant.lawful c.in_ok-next.ensures.lawful in
    converting-more c.ops.invariant c.in-Some.op c.in-Some.is
    t c.in_ok-next.next forest c.in_ok-next.ensures.stands c.in_ok-next.ensures.passed
    (Ok c.in_ok-next.next) refl c.in_ok-next.ensures.handed c.in_ok-next.ensures.beside lawful
    c.in_ok-next.ensures.converted (c.lawful_changes.ensures.stays s t n forest lawful c.requires)

pub returns-in_err-next-clause-lawful : goal.returns-in_err-next-clause-lawful
returns-in_err-next-clause-lawful g c =
    c.lawful_changes.ensures.both c.args.ctx.now c.ops.ctx c.convert_op.new.ctx (BasicBlock c.args.block)
    c.stands.ensures.standing.forest c.ops.invariant.lawful c.in_err-next.ensures.lawful

pub returns-in_err-next-clause-converted : goal.returns-in_err-next-clause-converted
returns-in_err-next-clause-converted g c =
    converted-then (g.C.Conversion.illegal c.args.conversion.now) c.args.ctx.now c.ops.ctx c.convert_op.new.ctx
    c.stands.ensures.standing.forest c.ops.invariant.converted c.in_err-next.ensures.converted

pub returns-in_err-next-clause-handed : goal.returns-in_err-next-clause-handed
returns-in_err-next-clause-handed g c =
    let p = err_from_is_err_and c.from_residual.result c.from_residual.ensures.1 in
    rw (p.1, p.2) (converting-refused c.ops.invariant c.in-Some.op c.in-Some.is {X = Option (Ptr OperationKind)}
    c.convert_op.new.ctx (Err c.in_err-next.field-0.0) c.in_err-next.field-0.0 refl c.in_err-next.ensures.handed)

pub returns-in_err-next-clause-idle : goal.returns-in_err-next-clause-idle
returns-in_err-next-clause-idle g c =
    block-idle (g.C.Conversion.illegal c.args.conversion.now) (g.C.Conversion.rewrites c.args.conversion.now)
    c.args.ctx.now c.args.block _ c.convert_op.new.ctx
    (converting-refused c.ops.invariant c.in-Some.op c.in-Some.is {X = Option (Ptr OperationKind)}
    c.convert_op.new.ctx (Err c.in_err-next.field-0.0) c.in_err-next.field-0.0 refl c.in_err-next.ensures.handed)

pub returns-clause-lawful : goal.returns-clause-lawful
returns-clause-lawful g c = c.ops.invariant.lawful

pub returns-clause-converted : goal.returns-clause-converted
returns-clause-converted g c = c.ops.invariant.converted

pub returns-clause-legal : goal.returns-clause-legal
returns-clause-legal g c = converting-end c.ops.invariant c.in_default.is

pub returns-clause-handed : goal.returns-clause-handed
returns-clause-handed g c = converting-handed c.ops.invariant c.in_default.is

pub returns-clause-idle : goal.returns-clause-idle
returns-clause-idle g c =
    block-idle (g.C.Conversion.illegal c.args.conversion.now) (g.C.Conversion.rewrites c.args.conversion.now)
    c.args.ctx.now c.args.block _ c.ops.ctx (converting-handed c.ops.invariant c.in_default.is)
