use Rattle.std.proofs.Common.{sym, subst, ◌∙◌}
use Rattle.std.proofs.lemmas.Result.{err_from_is_err_and}
use Rattle.plir_attr_text.specs.laws.TypeSteps.{behind_is}
use Rattle.plir_read.specs.OpReading.{op_at}
use Rattle.plir_read.proofs.OpWhole.{whole_stops, whole_stops_behind, whole_read}
use Rattle.plir_attr_text.specs.Names.{AreNamed}
use Rattle.plir_attr_text.specs.laws.StepLaws.{ok_is}
use Rattle.plir_read.specs.HeldTypes.{IsHeldByOp}
use Rattle.plir_read.proofs.reader.whole_op.Goals as goal

pub returns-in-Err-clause-read : goal.returns-in-Err-clause-read
returns-in-Err-clause-read g c = whole_stops (op_at 200) _ _ c.in-Err.stop c.in-Err.ensures.read

pub returns-in_err-read_end-clause-read : goal.returns-in_err-read_end-clause-read
returns-in_err-read_end-clause-read g c =
    let p = err_from_is_err_and c.from_residual.result c.from_residual.ensures.1 in
    let y = c.in-Ok.ensures.read in
    rw (p.1, p.2) (whole_stops_behind (op_at 200) _ _ c.in_err-read_end.field-0.0 y.0.0 c.in-Ok.read.1.now
    (behind_is _ y.0 c.in-Ok.read.1.now y.1 y.2.1) c.in_err-read_end.ensures)

pub returns-clause-read : goal.returns-clause-read
returns-clause-read g c =
    let y = c.in-Ok.ensures.read in (
      y.0.0,
      whole_read (op_at 200) _ y.0.0 c.in-Ok.read.1.now _ (behind_is _ y.0 c.in-Ok.read.1.now y.1 y.2.1)
          c.in_ok-read_end.ensures,
      y.2.0,
    )

pub returns-clause-held : goal.returns-clause-held
returns-clause-held g c =
    let y = c.in-Ok.ensures.read in
    let total = whole_read (op_at 200) c.args.bytes.now y.0.0 c.in-Ok.read.1.now _
    (behind_is _ y.0 c.in-Ok.read.1.now y.1 y.2.1) c.in_ok-read_end.ensures in
    λ w e. subst (λ v. AreNamed (λ t. IsHeldByOp t v) c.args.ctx.now.types c.read_op_at.new.ctx.types)
    (ok_is y.0.0 w (sym total ∙ e)) (c.in-Ok.ensures.held y.0 y.1)
