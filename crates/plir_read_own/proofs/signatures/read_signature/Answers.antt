use Rattle.std.proofs.Common.{refl}
use Rattle.plir_attr_text.specs.TypeReading.{type_at}
use Rattle.plir_attr_text.specs.Terms.{types_of}
use Rattle.plir_attr_text.specs.laws.Ends.{sign_end}
use Rattle.plir_attr_text.specs.laws.Growth.{Adds-itself, Adds-on, NamesAll-grown}
use Rattle.plir_attr_text.specs.laws.TypeSteps.{behind_is, function_read}
use Rattle.plir_read_own.specs.laws.Parts.{results_end}
use Rattle.plir_read_own.proofs.Steps.{signature_is}
use Rattle.plir_read_own.specs.laws.TypeLists.{end_kept}
use Rattle.plir_read_own.proofs.signatures.read_signature.Goals as goal

pub returns-clause-read : goal.returns-clause-read
returns-clause-read g c =
    let a = c.in-Ok.ensures.read in
    let r = c.in-Ok-read_types.ensures in
    let whole = function_read (type_at c.args.levels) _ _ _ _ _ _ a.0.0 r.read.0.0 c.in_ok-start.ensures
    (behind_is _ a.0 c.in-Ok.read.1.now a.1 a.2.1) c.in_ok-behind.ensures
    (behind_is _ r.read.0 c.in-Ok-read_types.read.1.now r.read.1 r.read.2.1) c.in_ok-end.ensures in (
      (record { operand_types = types_of a.0.0; result_types = types_of r.read.0.0 }, c.in_ok-end.end.now),
      signature_is c.args.levels _ _ _ _ whole,
      (
        record { operand_types = NamesAll-grown _ _ _ _ r.kept.grown a.2.0; result_types = r.read.2.0 },
        refl,
      ),
    )

pub returns-in_err-start-clause-kept : goal.returns-in_err-start-clause-kept
returns-in_err-start-clause-kept g c = Adds-itself g.met.C.TypeStore.same_besides_itself _

pub returns-in-Err-clause-kept : goal.returns-in-Err-clause-kept
returns-in-Err-clause-kept g c = end_kept _ _ _ _ (sign_end 60 _ _ c.in_ok-start.ensures) c.in-Err.ensures.kept

pub returns-in_err-behind-clause-kept : goal.returns-in_err-behind-clause-kept
returns-in_err-behind-clause-kept g c =
    end_kept _ _ _ _ (sign_end 60 _ _ c.in_ok-start.ensures) c.in-Ok.ensures.kept

pub returns-in-Err-read_types-clause-kept : goal.returns-in-Err-read_types-clause-kept
returns-in-Err-read_types-clause-kept g c =
    let a = c.in-Ok.ensures.read in
    Adds-on g.met.C.TypeStore.same_besides_on _ _ _
    (end_kept _ _ _ _ (sign_end 60 _ _ c.in_ok-start.ensures) c.in-Ok.ensures.kept)
    (end_kept _ _ _ _ (results_end c.args.levels _ _ _ _ a.0.0 c.in_ok-start.ensures
    (behind_is _ a.0 c.in-Ok.read.1.now a.1 a.2.1) c.in_ok-behind.ensures) c.in-Err-read_types.ensures.kept)

pub returns-in_err-end-clause-kept : goal.returns-in_err-end-clause-kept
returns-in_err-end-clause-kept g c =
    let a = c.in-Ok.ensures.read in
    Adds-on g.met.C.TypeStore.same_besides_on _ _ _
    (end_kept _ _ _ _ (sign_end 60 _ _ c.in_ok-start.ensures) c.in-Ok.ensures.kept)
    (end_kept _ _ _ _ (results_end c.args.levels _ _ _ _ a.0.0 c.in_ok-start.ensures
    (behind_is _ a.0 c.in-Ok.read.1.now a.1 a.2.1) c.in_ok-behind.ensures) c.in-Ok-read_types.ensures.kept)

pub returns-clause-kept : goal.returns-clause-kept
returns-clause-kept g c =
    let a = c.in-Ok.ensures.read in
    Adds-on g.met.C.TypeStore.same_besides_on _ _ _
    (end_kept _ _ _ _ (sign_end 60 _ _ c.in_ok-start.ensures) c.in-Ok.ensures.kept)
    (end_kept _ _ _ _ (results_end c.args.levels _ _ _ _ a.0.0 c.in_ok-start.ensures
    (behind_is _ a.0 c.in-Ok.read.1.now a.1 a.2.1) c.in_ok-behind.ensures) c.in-Ok-read_types.ensures.kept)
