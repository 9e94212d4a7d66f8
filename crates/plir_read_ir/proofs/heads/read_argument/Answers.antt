use Rattle.std.proofs.Common.{refl, ap, ◌∙◌}
use Rattle.plir_attr_text.specs.laws.TypeSteps.{behind_is}
use Rattle.plir_read.specs.Suffixes.{given_name}
use Rattle.plir_read.specs.declared.names.Suffix.TheVariants as Suffix
use Rattle.plir_read.specs.laws.OpEnds.{argument_start}
use Rattle.plir_read_own.specs.laws.TypeLists.{type_kept}
use Rattle.plir_read_ir.specs.Spelling.{word_of}
use Rattle.plir_read_ir.proofs.Arguments.{argument_is}
use Rattle.plir_read_ir.proofs.heads.read_argument.Goals as goal

pub returns-in_ok-given-in-Ok-clause-read : goal.returns-in_ok-given-in-Ok-clause-read
returns-in_ok-given-in-Ok-clause-read g c =
    let y = c.in-Ok.ensures.read in (
      ((word_of c.in_ok-word.word, y.0.0), c.in-Ok.read.1.now),
      argument_is c.args.levels _ _ _ _ _ y.0.0 c.in_ok-word.ensures.read c.in_ok-colon.ensures
          (behind_is _ y.0 c.in-Ok.read.1.now y.1 y.2.1),
      (
        record {
          word = refl;
          given = c.in_ok-given-in-Ok.ensures.given ∙ ap (given_name Suffix.Argument) c.in_ok-word.ensures.name;
          typed = y.2.0;
        },
        refl,
      ),
    )

pub returns-in_ok-given-in-Ok-clause-kept : goal.returns-in_ok-given-in-Ok-clause-kept
returns-in_ok-given-in-Ok-clause-kept g c =
    type_kept c.args.levels _ _ _ _ (argument_start _ _ _ _ c.in_ok-word.ensures.read c.in_ok-colon.ensures)
    c.in-Ok.ensures.kept

pub returns-in_err-given-in-Ok-clause-kept : goal.returns-in_err-given-in-Ok-clause-kept
returns-in_err-given-in-Ok-clause-kept g c =
    type_kept c.args.levels _ _ _ _ (argument_start _ _ _ _ c.in_ok-word.ensures.read c.in_ok-colon.ensures)
    c.in-Ok.ensures.kept

pub returns-in-Err-clause-kept : goal.returns-in-Err-clause-kept
returns-in-Err-clause-kept g c =
    type_kept c.args.levels _ _ _ _ (argument_start _ _ _ _ c.in_ok-word.ensures.read c.in_ok-colon.ensures)
    c.in-Err.ensures.kept
