use Rattle.std.proofs.Common.{◌∙◌, ◌++◌, length, [], ◌∷◌, refl, sym, ap, subst, arith}
use Rattle.std.proofs.lemmas.Result.{err_from_is_err_and}
use Rattle.plir_attr_text.specs.Lists.{separator_at}
use Rattle.plir_attr_text.specs.Names.{NamesAll}
use Rattle.plir_attr_text.specs.laws.Begun.{separator_at-shorter}
use Rattle.plir_attr_text.specs.laws.Ends.{end_on, sign_end}
use Rattle.plir_attr_text.specs.laws.Fronts.{no_open, nothing_inside, starts, ends_at_item, ends_behind, closes}
use Rattle.plir_attr_text.specs.laws.Fronts.{goes_on}
use Rattle.plir_attr_text.specs.laws.Growth.{Adds-itself, Adds-on, NamesAll-grown}
use Rattle.plir_attr_text.specs.laws.StepLaws.{done}
use Rattle.plir_attr_text.specs.laws.TypeSteps.{behind_is}
use Rattle.plir_read.specs.Heads.{argument_types, argument_names}
use Rattle.plir_read.specs.OpReading.{argument_at}
use Rattle.plir_read.specs.laws.OpEnds.{argument_end, separator_end}
use Rattle.plir_read.specs.laws.OpFound.{argument_at-shorter}
use Rattle.plir_read_own.specs.laws.TypeLists.{end_kept}
use Rattle.plir_read_ir.specs.IrMeaning.{argument_words}
use Rattle.plir_read_ir.specs.Spelling.{word_of, words}
use Rattle.plir_read_ir.proofs.Arguments.{named_push, spelled_push, typed_push}
use Rattle.plir_read_ir.proofs.Words.{words_push}
use Rattle.plir_read_ir.proofs.heads.read_arguments.Goals as goal

pub returns-in_err-start-clause-read : goal.returns-in_err-start-clause-read
returns-in_err-start-clause-read g c =
    let p = err_from_is_err_and c.from_residual.result c.from_residual.ensures.1 in
    rw (p.1, p.2) (no_open 40 41 (argument_at c.args.levels) c.in_err-start.field-0.0 _ c.in_err-start.ensures)

pub returns-in_err-start-clause-kept : goal.returns-in_err-start-clause-kept
returns-in_err-start-clause-kept g c = Adds-itself g.met.C.TypeStore.same_besides_itself _

pub returns-in-Some-clause-read : goal.returns-in-Some-clause-read
returns-in-Some-clause-read g c = (
  ([], c.in-Some.rest.now),
  nothing_inside 40 41 (argument_at c.args.levels) _ _ _ c.in_ok-start.ensures (sym c.in-Some.ensures),
  (
    record {
      arguments = record { typed = c.new-types.ensures.items; named = c.new-names.ensures.items };
      spelled = ap words c.new-words.ensures.items;
    },
    refl,
  ),
)

pub returns-in-Some-clause-kept : goal.returns-in-Some-clause-kept
returns-in-Some-clause-kept g c = Adds-itself g.met.C.TypeStore.same_besides_itself _

pub arguments-init : goal.arguments-init
arguments-init g c =
    record {
      front = [];
      typed = c.new-types.ensures.items;
      named = c.new-names.ensures.items;
      words_are = ap words c.new-words.ensures.items;
      kept = Adds-itself g.met.C.TypeStore.same_besides_itself _;
      behind = sign_end 40 _ _ c.in_ok-start.ensures;
      going = starts 40 41 (argument_at c.args.levels) _ _ c.in_ok-start.ensures (sym c.in_default.ensures);
    }

pub returns-in-Err-clause-read : goal.returns-in-Err-clause-read
returns-in-Err-clause-read g c =
    ends_at_item (separator_at 41) (argument_at c.args.levels) _ _ _ ⊥ c.in-Err.stop c.arguments.invariant.going
    c.in-Err.ensures.read

pub returns-in-Err-clause-kept : goal.returns-in-Err-clause-kept
returns-in-Err-clause-kept g c = let i = c.arguments.invariant in
    Adds-on g.met.C.TypeStore.same_besides_on _ _ _ i.kept (end_kept _ _ _ _ i.behind c.in-Err.ensures.kept)

pub returns-in_err-push-clause-kept : goal.returns-in_err-push-clause-kept
returns-in_err-push-clause-kept g c = let i = c.arguments.invariant in
    Adds-on g.met.C.TypeStore.same_besides_on _ _ _ i.kept (end_kept _ _ _ _ i.behind c.in-Ok.ensures.kept)

pub returns-in_err-push-2-clause-kept : goal.returns-in_err-push-2-clause-kept
returns-in_err-push-2-clause-kept g c = let i = c.arguments.invariant in
    Adds-on g.met.C.TypeStore.same_besides_on _ _ _ i.kept (end_kept _ _ _ _ i.behind c.in-Ok.ensures.kept)

pub returns-in_err-push-3-clause-kept : goal.returns-in_err-push-3-clause-kept
returns-in_err-push-3-clause-kept g c = let i = c.arguments.invariant in
    Adds-on g.met.C.TypeStore.same_besides_on _ _ _ i.kept (end_kept _ _ _ _ i.behind c.in-Ok.ensures.kept)

pub returns-in_err-goes_on-clause-kept : goal.returns-in_err-goes_on-clause-kept
returns-in_err-goes_on-clause-kept g c = let i = c.arguments.invariant in
    Adds-on g.met.C.TypeStore.same_besides_on _ _ _ i.kept (end_kept _ _ _ _ i.behind c.in-Ok.ensures.kept)

pub returns-else-goes_on-clause-kept : goal.returns-else-goes_on-clause-kept
returns-else-goes_on-clause-kept g c = let i = c.arguments.invariant in
    Adds-on g.met.C.TypeStore.same_besides_on _ _ _ i.kept (end_kept _ _ _ _ i.behind c.in-Ok.ensures.kept)

pub returns-in_err-goes_on-clause-read : goal.returns-in_err-goes_on-clause-read
returns-in_err-goes_on-clause-read g c =
    let p = err_from_is_err_and c.from_residual-in_err-goes_on.result c.from_residual-in_err-goes_on.ensures.1 in
    let y = c.in-Ok.ensures.read in
    rw (p.1, p.2) (ends_behind (separator_at 41) (argument_at c.args.levels) _ _ _ ⊥ c.in_err-goes_on.field-0.0 y.0.0
    c.in-Ok.read.1.now c.arguments.invariant.going (behind_is _ y.0 c.in-Ok.read.1.now y.1 y.2.1)
    c.in_err-goes_on.ensures)

pub returns-else-goes_on-clause-read : goal.returns-else-goes_on-clause-read
returns-else-goes_on-clause-read g c =
    let y = c.in-Ok.ensures.read in
    let i = c.arguments.invariant in (
      (i.front ++ y.0.0 ∷ [], c.in_ok-goes_on.behind.now),
      closes (separator_at 41) (argument_at c.args.levels) i.front _ _ y.0.0 c.in-Ok.read.1.now
          c.in_ok-goes_on.behind.now i.going (behind_is _ y.0 c.in-Ok.read.1.now y.1 y.2.1)
          (c.in_ok-goes_on.ensures ∙ ap (λ b. done (b, c.in_ok-goes_on.behind.now)) c.if-goes_on.false),
      (
        record {
          arguments = record {
            typed = subst (λ z. NamesAll (g.C.TypeStore.types c.read_argument.new.ctx) z
                (argument_types (i.front ++ y.0.0 ∷ []))) (sym c.in_ok-push-3.ensures.items)
                (typed_push _ _ i.front _ y.0.0
                (NamesAll-grown _ _ _ (argument_types i.front) c.in-Ok.ensures.kept.grown i.typed) y.2.0.typed);
            named = c.in_ok-push-2.ensures.items ∙ ap (λ l. l ++ c.in-Ok.read.0.given ∷ []) i.named ∙
                ap (λ x. argument_names i.front ++ x ∷ []) y.2.0.given ∙ sym (named_push i.front y.0.0);
          };
          spelled = ap words c.in_ok-push.ensures.items ∙ words_push c.arguments.words.items c.in-Ok.read.0.word ∙
              ap (λ l. l ++ word_of c.in-Ok.read.0.word ∷ []) i.words_are ∙
              ap (λ x. argument_words i.front ++ x ∷ []) y.2.0.word ∙ sym (spelled_push i.front y.0.0);
        },
        refl,
      ),
    )

pub arguments-smaller : goal.arguments-smaller
arguments-smaller g c =
    let y = c.in-Ok.ensures.read in
    omega (
      arith,
      argument_at-shorter c.args.levels c.arguments.rest.now y.0 y.1,
      ap length y.2.1,
      separator_at-shorter 41 c.in-Ok.read.1.now (c.in_ok-goes_on.goes_on, c.in_ok-goes_on.behind.now)
          c.in_ok-goes_on.ensures,
    )

pub arguments-preserved : goal.arguments-preserved
arguments-preserved g c =
    let y = c.in-Ok.ensures.read in
    let i = c.arguments.invariant in
    record {
      front = i.front ++ y.0.0 ∷ [];
      typed = subst (λ z. NamesAll (g.C.TypeStore.types c.read_argument.new.ctx) z
          (argument_types (i.front ++ y.0.0 ∷ []))) (sym c.in_ok-push-3.ensures.items)
          (typed_push _ _ i.front _ y.0.0
          (NamesAll-grown _ _ _ (argument_types i.front) c.in-Ok.ensures.kept.grown i.typed) y.2.0.typed);
      named = c.in_ok-push-2.ensures.items ∙ ap (λ l. l ++ c.in-Ok.read.0.given ∷ []) i.named ∙
          ap (λ x. argument_names i.front ++ x ∷ []) y.2.0.given ∙ sym (named_push i.front y.0.0);
      words_are = ap words c.in_ok-push.ensures.items ∙ words_push c.arguments.words.items c.in-Ok.read.0.word ∙
          ap (λ l. l ++ word_of c.in-Ok.read.0.word ∷ []) i.words_are ∙
          ap (λ x. argument_words i.front ++ x ∷ []) y.2.0.word ∙ sym (spelled_push i.front y.0.0);
      kept = Adds-on g.met.C.TypeStore.same_besides_on _ _ _ i.kept
          (end_kept _ _ _ _ i.behind c.in-Ok.ensures.kept);
      behind = end_on _ _ _ i.behind
          (end_on _ _ _ (argument_end c.args.levels c.arguments.rest.now y.0.0 c.in-Ok.read.1.now
          (behind_is _ y.0 c.in-Ok.read.1.now y.1 y.2.1))
          (separator_end 41 c.in-Ok.read.1.now c.in_ok-goes_on.goes_on c.in_ok-goes_on.behind.now
          c.in_ok-goes_on.ensures));
      going = goes_on (separator_at 41) (argument_at c.args.levels) i.front _ _ y.0.0 c.in-Ok.read.1.now
          c.in_ok-goes_on.behind.now i.going (behind_is _ y.0 c.in-Ok.read.1.now y.1 y.2.1)
          (c.in_ok-goes_on.ensures ∙ ap (λ b. done (b, c.in_ok-goes_on.behind.now)) c.if-goes_on.true)
          (arguments-smaller g c);
    }
