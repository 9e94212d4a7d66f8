use Rattle.std.proofs.Common.{[], ap, subst, sym, ◌∙◌}
use Rattle.plir_attr_text.specs.Wholes.{whole}
use Rattle.plir_read.specs.laws.TypesNamed.{behind_named}
use Rattle.plir_core.specs.declared.ptr.IRNode.TheVariants.{Operation}
use Rattle.plir_read_ir.specs.IrOpReading.{ir_op_at}
use Rattle.plir_read_ir.specs.IrStanding.{StandsForIr}
use Rattle.plir_read_ir.specs.UseFaults.{IsAtUse}
use Rattle.plir_read_ir.proofs.IrTexts.{text_refused}
use Rattle.plir_read_ir.proofs.IrTold.{met_told, told_met}
use Rattle.plir_read_ir.proofs.reader.read_ir.Goals as goal

pub returns-in-Ok-clause-named : goal.returns-in-Ok-clause-named
returns-in-Ok-clause-named g c = behind_named _ _ _ _ ([], sym c.as_bytes-bytes.ensures.value) c.in-Ok.ensures.kept.named

pub returns-in-Err-clause-named : goal.returns-in-Err-clause-named
returns-in-Err-clause-named g c = behind_named _ _ _ _ ([], sym c.as_bytes-bytes.ensures.value) c.in-Err.ensures.kept.named

pub returns-in-Ok-clause-found : goal.returns-in-Ok-clause-found
returns-in-Ok-clause-found g c =
    subst (λ z. StandsForIr g.D.ReadSet.find_kind g.D.ReadSet.is_isolated 200 c.read_linked.new.ctx z
    (Operation c.in-Ok.op)) c.as_bytes-bytes.ensures.value c.in-Ok.ensures.stands

pub returns-in-Err-clause-unmeant : goal.returns-in-Err-clause-unmeant
returns-in-Err-clause-unmeant g c =
    subst (λ z. IsAtUse g.D.ReadSet.find_kind g.D.ReadSet.is_isolated 200 c.read_linked.new.ctx z c.placed.result.fault)
    c.as_bytes-bytes.ensures.value
    (subst (λ f. IsAtUse g.D.ReadSet.find_kind g.D.ReadSet.is_isolated 200 c.read_linked.new.ctx c.as_bytes-bytes.result.now
    f) (sym c.placed.ensures.fault) c.in-Err.ensures.unmeant)

pub returns-in-Err-clause-met : goal.returns-in-Err-clause-met
returns-in-Err-clause-met g c =
    λ f e is. ap (whole (ir_op_at g.D.ReadSet.find_kind 200)) (sym c.as_bytes-bytes.ensures.value) ∙
    told_met g.D.ReadSet.find_kind 200 c.as_bytes-bytes.result.now c.in-Err.stop c.placed.result.fault f
    c.placed.ensures.fault c.in-Err.ensures.met e is

pub returns-in-Err-clause-refused : goal.returns-in-Err-clause-refused
returns-in-Err-clause-refused g c =
    λ f e is o s. text_refused g.D.ReadSet.find_kind 200 c.args.text.now f (returns-in-Err-clause-met g c f e is) o s

pub returns-in-Err-clause-placeless : goal.returns-in-Err-clause-placeless
returns-in-Err-clause-placeless g c =
    c.placed.ensures.placeless (met_told g.D.ReadSet.find_kind 200 c.as_bytes-bytes.result.now c.in-Err.stop
    c.in-Err.ensures.met)
