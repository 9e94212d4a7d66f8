use Rattle.std.proofs.lemmas.Result.{err_from_is_err_and}
use Rattle.plir_core.specs.declared.ptr.IRNode.TheVariants.{Operation}
use Rattle.plir_read_ir.specs.IrOpReading.{ir_op_at}
use Rattle.plir_read_ir.proofs.IrSteps.{whole_stops, whole_stops_behind}
use Rattle.plir_read_ir.proofs.Wholes.{text_reads}
use Rattle.plir_read_ir.proofs.reader.read_noted.Goals as goal

pub returns-clause-stands : goal.returns-clause-stands
returns-clause-stands g c =
    λ ready. text_reads g.D.ReadSet.find_kind g.D.ReadSet.is_isolated 200 c.args.bytes.now c.in-Ok.read.1.now c.args.ctx.now
    c.read_ir_op.new.ctx c.args.notes.now c.read_ir_op.new.notes (Operation c.in-Ok.read.0)
    (c.in-Ok.ensures.stands ready) c.in_ok-read_end.ensures

pub returns-in-Err-clause-met : goal.returns-in-Err-clause-met
returns-in-Err-clause-met g c =
    whole_stops (ir_op_at g.D.ReadSet.find_kind 200) c.args.bytes.now c.in-Err.stop c.in-Err.ensures.met

pub returns-in_err-read_end-clause-met : goal.returns-in_err-read_end-clause-met
returns-in_err-read_end-clause-met g c =
    let p = err_from_is_err_and c.from_residual.result c.from_residual.ensures.1 in
    let y = c.in-Ok.ensures.met in
    rw (p.1, p.2) (whole_stops_behind (ir_op_at g.D.ReadSet.find_kind 200) c.args.bytes.now
    c.in_err-read_end.field-0.0 y.0 c.in-Ok.read.1.now y.1 c.in_err-read_end.ensures)
