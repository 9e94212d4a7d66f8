use Rattle.std.proofs.Common.{refl, ap, ◌∙◌}
use Rattle.plir_attr_text.specs.laws.TypeSteps.{behind_is}
use Rattle.plir_read.specs.Suffixes.{given_name}
use Rattle.plir_read.specs.declared.names.Suffix.TheVariants as Suffix
use Rattle.plir_read.specs.laws.OpEnds.{arguments_start}
use Rattle.plir_read_own.specs.laws.TypeLists.{end_kept}
use Rattle.plir_read_ir.specs.Spelling.{word_of}
use Rattle.plir_read_ir.proofs.Arguments.{block_head_is, label_parts}
use Rattle.plir_read_ir.proofs.heads.read_spelled_head.Goals as goal

pub returns-in_ok-label-in-Ok-clause-read : goal.returns-in_ok-label-in-Ok-clause-read
returns-in_ok-label-in-Ok-clause-read g c =
    let y = c.in-Ok.ensures.read in (
      ((word_of c.in_ok-word.word, y.0.0), c.in_ok-end-in-Ok.end.now),
      block_head_is c.args.levels _ _ _ _ _ y.0.0 c.in_ok-word.ensures.read
          (behind_is _ y.0 c.in-Ok.read.1.now y.1 y.2.1) c.in_ok-end-in-Ok.ensures,
      (
        record {
          head = record {
            label = c.in_ok-label-in-Ok.ensures.given ∙ ap (given_name Suffix.Block) c.in_ok-word.ensures.name;
            arguments = y.2.0.arguments;
          };
          label = refl;
          spelled = y.2.0.spelled;
        },
        refl,
      ),
    )

pub returns-in_ok-label-in-Ok-clause-kept : goal.returns-in_ok-label-in-Ok-clause-kept
returns-in_ok-label-in-Ok-clause-kept g c =
    let l = label_parts _ _ _ c.in_ok-word.ensures.read in
    end_kept _ _ _ _ (arguments_start _ _ _ _ l.1 l.2) c.in-Ok.ensures.kept

pub returns-in_err-label-in-Ok-clause-kept : goal.returns-in_err-label-in-Ok-clause-kept
returns-in_err-label-in-Ok-clause-kept g c =
    let l = label_parts _ _ _ c.in_ok-word.ensures.read in
    end_kept _ _ _ _ (arguments_start _ _ _ _ l.1 l.2) c.in-Ok.ensures.kept

pub returns-in_err-end-in-Ok-clause-kept : goal.returns-in_err-end-in-Ok-clause-kept
returns-in_err-end-in-Ok-clause-kept g c =
    let l = label_parts _ _ _ c.in_ok-word.ensures.read in
    end_kept _ _ _ _ (arguments_start _ _ _ _ l.1 l.2) c.in-Ok.ensures.kept

pub returns-in-Err-clause-kept : goal.returns-in-Err-clause-kept
returns-in-Err-clause-kept g c =
    let l = label_parts _ _ _ c.in_ok-word.ensures.read in
    end_kept _ _ _ _ (arguments_start _ _ _ _ l.1 l.2) c.in-Err.ensures.kept
