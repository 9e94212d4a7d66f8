use Rattle.std.proofs.Common.{refl}
use Rattle.std.proofs.lemmas.Result.{err_from_is_err_and}
use Rattle.plir_attr_text.specs.laws.TypeSteps.{behind_is}
use Rattle.plir_read_own.specs.laws.TypeLists.{as_many, end_kept}
use Rattle.plir_read_ir.specs.Spelling.{uses_of}
use Rattle.plir_read_ir.proofs.Parts.{parts_is, parts_fail, uses_behind}
use Rattle.plir_read_ir.proofs.own.read_own_parts.Goals as goal

pub returns-in-Err-clause-kept : goal.returns-in-Err-clause-kept
returns-in-Err-clause-kept g c = end_kept _ _ _ _ (uses_behind _ _ _ c.in_ok-uses.ensures) c.in-Err.ensures.kept

pub returns-in_err-expect_counts-clause-read : goal.returns-in_err-expect_counts-clause-read
returns-in_err-expect_counts-clause-read g c =
    let p = err_from_is_err_and c.from_residual-in_err-expect_counts.result
    c.from_residual-in_err-expect_counts.ensures.1 in
    let t = c.in-Ok.ensures.read in
    rw (p.1, p.2) (parts_fail c.args.levels c.args.names _ _ _ (uses_of c.in_ok-uses.uses) t.0.0.0 t.0.0.1
    c.in_err-expect_counts.field-0.0 c.in_ok-uses.ensures (behind_is _ t.0 c.in-Ok.read.1.now t.1 t.2.1)
    (c.in_err-expect_counts.ensures t.0.0.1 (as_many _ _ t.0.0.1.operand_types t.2.0.types_are.operand_types)
    (as_many _ _ t.0.0.1.result_types t.2.0.types_are.result_types)))

pub returns-in_err-expect_counts-clause-kept : goal.returns-in_err-expect_counts-clause-kept
returns-in_err-expect_counts-clause-kept g c =
    end_kept _ _ _ _ (uses_behind _ _ _ c.in_ok-uses.ensures) c.in-Ok.ensures.kept

pub returns-clause-read : goal.returns-clause-read
returns-clause-read g c =
    let t = c.in-Ok.ensures.read in (
      ((uses_of c.in_ok-uses.uses, t.0.0), c.in-Ok.read.1.now),
      parts_is c.args.levels c.args.names _ _ _ (uses_of c.in_ok-uses.uses) t.0.0.0 t.0.0.1 c.in_ok-uses.ensures
          (behind_is _ t.0 c.in-Ok.read.1.now t.1 t.2.1)
          (c.in_ok-expect_counts.ensures t.0.0.1 (as_many _ _ t.0.0.1.operand_types t.2.0.types_are.operand_types)
          (as_many _ _ t.0.0.1.result_types t.2.0.types_are.result_types)),
      (record { uses_are = refl; typed = t.2.0 }, refl),
    )

pub returns-clause-kept : goal.returns-clause-kept
returns-clause-kept g c = end_kept _ _ _ _ (uses_behind _ _ _ c.in_ok-uses.ensures) c.in-Ok.ensures.kept
