use Rattle.std.proofs.Common.{refl}
use Rattle.plir_attr_text.specs.Terms.{entries_of}
use Rattle.plir_attr_text.specs.laws.Growth.{Adds-on}
use Rattle.plir_attr_text.specs.laws.Meanings.{IsDictMeant-grown}
use Rattle.plir_attr_text.specs.laws.TypeSteps.{behind_is}
use Rattle.plir_read_own.specs.laws.Parts.{signature_end}
use Rattle.plir_read_own.proofs.Steps.{entries_are, typed_is}
use Rattle.plir_read_own.specs.laws.TypeLists.{end_kept, entries_kept}
use Rattle.plir_read_own.proofs.headers.read_typed.Goals as goal

pub same-attributes : goal.same-attributes
same-attributes g c = refl

pub returns-in-Ok-read_signature-clause-read : goal.returns-in-Ok-read_signature-clause-read
returns-in-Ok-read_signature-clause-read g c =
    let e = c.in-Ok.ensures.read in
    let t = c.in-Ok-read_signature.ensures in (
      ((entries_of e.0.0, t.read.0.0), c.in-Ok-read_signature.end.now),
      typed_is c.args.levels _ _ _ _ _ _
          (entries_are c.args.levels _ _ e.0.0 (behind_is _ e.0 c.in-Ok.read.1.now e.1 e.2.1)) c.in_ok-colon.ensures
          (behind_is _ t.read.0 c.in-Ok-read_signature.end.now t.read.1 t.read.2.1),
      (
        record {
          attributes_are = IsDictMeant-grown _ _ t.kept.grown (entries_of e.0.0) _ e.2.0;
          types_are = t.read.2.0;
        },
        refl,
      ),
    )

pub returns-in-Err-clause-kept : goal.returns-in-Err-clause-kept
returns-in-Err-clause-kept g c = entries_kept c.args.levels _ _ _ c.in-Err.ensures.kept

pub returns-in_err-colon-clause-kept : goal.returns-in_err-colon-clause-kept
returns-in_err-colon-clause-kept g c = entries_kept c.args.levels _ _ _ c.in-Ok.ensures.kept

pub returns-in-Ok-read_signature-clause-kept : goal.returns-in-Ok-read_signature-clause-kept
returns-in-Ok-read_signature-clause-kept g c =
    let e = c.in-Ok.ensures.read in
    Adds-on g.met.C.TypeStore.same_besides_on _ _ _ (entries_kept c.args.levels _ _ _ c.in-Ok.ensures.kept)
    (end_kept _ _ _ _ (signature_end c.args.levels _ _ _ _
    (entries_are c.args.levels _ _ e.0.0 (behind_is _ e.0 c.in-Ok.read.1.now e.1 e.2.1)) c.in_ok-colon.ensures)
    c.in-Ok-read_signature.ensures.kept)

pub returns-in-Err-read_signature-clause-kept : goal.returns-in-Err-read_signature-clause-kept
returns-in-Err-read_signature-clause-kept g c =
    let e = c.in-Ok.ensures.read in
    Adds-on g.met.C.TypeStore.same_besides_on _ _ _ (entries_kept c.args.levels _ _ _ c.in-Ok.ensures.kept)
    (end_kept _ _ _ _ (signature_end c.args.levels _ _ _ _
    (entries_are c.args.levels _ _ e.0.0 (behind_is _ e.0 c.in-Ok.read.1.now e.1 e.2.1)) c.in_ok-colon.ensures)
    c.in-Err-read_signature.ensures.kept)
