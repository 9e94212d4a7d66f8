use Rattle.std.proofs.Common.{◌∙◌, ◌∷◌, ◌++◌, [], refl, ap, arith}
use Rattle.std.proofs.lemmas.Result.{err_from_is_err_and}
use Rattle.plir_attr_text.specs.AttrReading.{name_at}
use Rattle.plir_attr_text.specs.Lists.{separator_at}
use Rattle.plir_attr_text.specs.laws.Begun.{separator_at-shorter}
use Rattle.plir_attr_text.specs.laws.Fronts.{ends_at_item, ends_behind, closes, goes_on}
use Rattle.plir_attr_text.specs.laws.StepLaws.{done}
use Rattle.plir_read.specs.Heads.{result_names}
use Rattle.plir_read.specs.Suffixes.{given_name}
use Rattle.plir_read.specs.declared.names.Suffix.TheVariants as Suffix
use Rattle.plir_read_own.specs.laws.Chains.{names_start, name_at-shorter}
use Rattle.plir_read_ir.specs.Spelling.{word_of, words}
use Rattle.plir_read_ir.proofs.Begun.{given_push}
use Rattle.plir_read_ir.proofs.Words.{words_push}
use Rattle.plir_read_ir.proofs.openings.read_names.Goals as goal

pub names-init : goal.names-init
names-init c =
    rw (c.new-spelled.ensures.items, c.new-given.ensures.items)
    (record { given_are = refl; going = names_start c.args.bytes.now })

pub returns-in_err-word : goal.returns-in_err-word
returns-in_err-word c =
    let p = err_from_is_err_and c.from_residual.result c.from_residual.ensures.1 in
    rw (p.1, p.2) (ends_at_item (separator_at 61) name_at _ _ _ ⊥ c.in_err-word.field-0.0 c.names.invariant.going
    c.in_err-word.ensures.read)

pub returns-in_err-goes_on : goal.returns-in_err-goes_on
returns-in_err-goes_on c =
    let p = err_from_is_err_and c.from_residual-in_err-goes_on.result c.from_residual-in_err-goes_on.ensures.1 in
    rw (p.1, p.2) (ends_behind (separator_at 61) name_at _ _ _ ⊥ c.in_err-goes_on.field-0.0 (word_of c.in_ok-word.word)
    c.in_ok-word.after.now c.names.invariant.going c.in_ok-word.ensures.read c.in_err-goes_on.ensures)

pub returns-else-goes_on : goal.returns-else-goes_on
returns-else-goes_on c =
    let i = c.names.invariant in (
      (words c.names.spelled.items ++ word_of c.in_ok-word.word ∷ [], c.in_ok-goes_on.behind.now),
      closes (separator_at 61) name_at (words c.names.spelled.items) _ _ (word_of c.in_ok-word.word)
          c.in_ok-word.after.now c.in_ok-goes_on.behind.now i.going c.in_ok-word.ensures.read
          (c.in_ok-goes_on.ensures ∙ ap (λ b. done (b, c.in_ok-goes_on.behind.now)) c.if-goes_on.false),
      (
        record {
          spelled = ap words c.in_ok-push-2.ensures.items ∙ words_push c.names.spelled.items c.in_ok-word.word;
          given = given_push c.names.spelled.items c.in_ok-word.word _ _ c.in_ok-named.named
              c.in_ok-push.ensures.items i.given_are
              (c.in_ok-named.ensures.given ∙ ap (given_name Suffix.OpResult) c.in_ok-word.ensures.name) ∙
              ap result_names
              (words_push c.names.spelled.items c.in_ok-word.word);
        },
        refl,
      ),
    )

pub names-smaller : goal.names-smaller
names-smaller c = omega (
  arith,
  name_at-shorter c.names.rest.now (word_of c.in_ok-word.word, c.in_ok-word.after.now) c.in_ok-word.ensures.read,
  separator_at-shorter 61 c.in_ok-word.after.now (c.in_ok-goes_on.goes_on, c.in_ok-goes_on.behind.now)
      c.in_ok-goes_on.ensures,
)

pub names-preserved : goal.names-preserved
names-preserved c =
    let i = c.names.invariant in
    rw c.in_ok-push-2.ensures.items (record {
      given_are = given_push c.names.spelled.items c.in_ok-word.word _ _ c.in_ok-named.named c.in_ok-push.ensures.items
          i.given_are (c.in_ok-named.ensures.given ∙ ap (given_name Suffix.OpResult) c.in_ok-word.ensures.name);
      going = rw (words_push c.names.spelled.items c.in_ok-word.word)
          (goes_on (separator_at 61) name_at (words c.names.spelled.items) _ _ (word_of c.in_ok-word.word)
          c.in_ok-word.after.now c.in_ok-goes_on.behind.now i.going c.in_ok-word.ensures.read
          (c.in_ok-goes_on.ensures ∙ ap (λ b. done (b, c.in_ok-goes_on.behind.now)) c.if-goes_on.true)
          (names-smaller c));
    })
