use Rattle.std.proofs.Common.{◌∙◌, length, [], ◌∷◌, ◌++◌, refl, sym, ap, subst, arith, ◌≡◌, ℕ, List}
use Rattle.std.proofs.lemmas.Result.{err_from_is_err_and}
use Rattle.plir_attr_text.specs.laws.Begun.{separator_at-shorter}
use Rattle.plir_attr_text.specs.laws.Fronts.{no_open, nothing_inside, starts, ends_at_item, ends_behind, closes}
use Rattle.plir_attr_text.specs.laws.Fronts.{goes_on}
use Rattle.plir_attr_text.specs.laws.Growth.{Grows-itself, Grows-on, NamesAll-grown}
use Rattle.plir_attr_text.specs.Lists.{separator_at}
use Rattle.plir_attr_text.specs.laws.StepLaws.{done}
use Rattle.plir_attr_text.specs.laws.TypeSteps.{behind_is}
use Rattle.plir_attr_text.specs.Names.{NamesAll}
use Rattle.plir_read.specs.Heads.{argument_types, argument_names}
use Rattle.plir_read.specs.OpReading.{argument_at}
use Rattle.plir_read.specs.OpTerms.{Argument}
use Rattle.plir_read.proofs.NamesGiven.{typed_push, named_push}
use Rattle.plir_read.specs.laws.OpFound.{argument_at-shorter}
use Rattle.plir_attr_text.specs.laws.Ends.{end_on, sign_end}
use Rattle.plir_read.specs.laws.OpEnds.{argument_end, separator_end}
use Rattle.plir_read.specs.laws.TypesNamed.{named_itself, named_on, behind_named}
use Rattle.plir_attr_text.specs.Lists.{items_at}
use Rattle.plir_attr_text.specs.Parts.{IsPartOf}
use Rattle.plir_read.specs.HeldTypes.{IsHeldByArgument}
use Rattle.plir_read.proofs.Held.{none_come, both_come, held_is, arguments_front, arguments_last}
use Rattle.plir_read.proofs.arguments.read_arguments.Goals as goal

pub returns-in_err-start-clause-read : goal.returns-in_err-start-clause-read
returns-in_err-start-clause-read g c =
    let p = err_from_is_err_and c.from_residual.result c.from_residual.ensures.1 in
    rw (p.1, p.2) (no_open 40 41 (argument_at c.args.levels) c.in_err-start.field-0.0 _ c.in_err-start.ensures)

pub returns-in-Some-clause-read : goal.returns-in-Some-clause-read
returns-in-Some-clause-read g c = (
  ([], c.in-Some.rest.now),
  nothing_inside 40 41 (argument_at c.args.levels) _ _ _ c.in_ok-start.ensures (sym c.in-Some.ensures),
  (record { typed = c.new-types.ensures.items; named = c.new-names.ensures.items }, refl),
)

pub arguments-init : goal.arguments-init
arguments-init g c =
    record {
      front = [];
      typed = c.new-types.ensures.items;
      named = c.new-names.ensures.items;
      grown = Grows-itself _;
      written = named_itself _ _;
      held = none_come (λ t. IsHeldByArgument t []) _;
      behind = sign_end 40 _ _ c.in_ok-start.ensures;
      kept = g.met.C.TypeStore.same_besides_itself _;
      going = starts 40 41 (argument_at c.args.levels) _ _ c.in_ok-start.ensures (sym c.in_default.ensures);
    }

pub returns-in-Err-clause-read : goal.returns-in-Err-clause-read
returns-in-Err-clause-read g c =
    ends_at_item (separator_at 41) (argument_at c.args.levels) _ _ _ ⊥ c.in-Err.stop c.arguments.invariant.going
    c.in-Err.ensures.read

pub returns-in-Err-clause-grown : goal.returns-in-Err-clause-grown
returns-in-Err-clause-grown g c = Grows-on _ _ _ c.arguments.invariant.grown c.in-Err.ensures.grown

pub returns-in-Err-clause-rest : goal.returns-in-Err-clause-rest
returns-in-Err-clause-rest g c =
    g.met.C.TypeStore.same_besides_on _ _ _ c.arguments.invariant.kept c.in-Err.ensures.rest

pub returns-in_err-push-clause-grown : goal.returns-in_err-push-clause-grown
returns-in_err-push-clause-grown g c = Grows-on _ _ _ c.arguments.invariant.grown c.in-Ok.ensures.grown

pub returns-in_err-push-clause-rest : goal.returns-in_err-push-clause-rest
returns-in_err-push-clause-rest g c =
    g.met.C.TypeStore.same_besides_on _ _ _ c.arguments.invariant.kept c.in-Ok.ensures.rest

pub returns-in_err-push-2-clause-grown : goal.returns-in_err-push-2-clause-grown
returns-in_err-push-2-clause-grown g c = Grows-on _ _ _ c.arguments.invariant.grown c.in-Ok.ensures.grown

pub returns-in_err-push-2-clause-rest : goal.returns-in_err-push-2-clause-rest
returns-in_err-push-2-clause-rest g c =
    g.met.C.TypeStore.same_besides_on _ _ _ c.arguments.invariant.kept c.in-Ok.ensures.rest

pub returns-in_err-goes_on-clause-grown : goal.returns-in_err-goes_on-clause-grown
returns-in_err-goes_on-clause-grown g c = Grows-on _ _ _ c.arguments.invariant.grown c.in-Ok.ensures.grown

pub returns-in_err-goes_on-clause-rest : goal.returns-in_err-goes_on-clause-rest
returns-in_err-goes_on-clause-rest g c =
    g.met.C.TypeStore.same_besides_on _ _ _ c.arguments.invariant.kept c.in-Ok.ensures.rest

pub returns-else-goes_on-clause-grown : goal.returns-else-goes_on-clause-grown
returns-else-goes_on-clause-grown g c = Grows-on _ _ _ c.arguments.invariant.grown c.in-Ok.ensures.grown

pub returns-else-goes_on-clause-rest : goal.returns-else-goes_on-clause-rest
returns-else-goes_on-clause-rest g c =
    g.met.C.TypeStore.same_besides_on _ _ _ c.arguments.invariant.kept c.in-Ok.ensures.rest

pub returns-in_err-goes_on-clause-read : goal.returns-in_err-goes_on-clause-read
returns-in_err-goes_on-clause-read g c =
    let p = err_from_is_err_and c.from_residual-in_err-goes_on.result c.from_residual-in_err-goes_on.ensures.1 in
    let y = c.in-Ok.ensures.read in
    rw (p.1, p.2) (ends_behind (separator_at 41) (argument_at c.args.levels) _ _ _ ⊥ c.in_err-goes_on.field-0.0 y.0.0
    c.in-Ok.read.1.now c.arguments.invariant.going (behind_is _ y.0 c.in-Ok.read.1.now y.1 y.2.1)
    c.in_err-goes_on.ensures)

pub returns-else-goes_on-clause-read : goal.returns-else-goes_on-clause-read
returns-else-goes_on-clause-read g c =
    let y = c.in-Ok.ensures.read in
    let i = c.arguments.invariant in (
      (i.front ++ y.0.0 ∷ [], c.in_ok-goes_on.behind.now),
      closes (separator_at 41) (argument_at c.args.levels) i.front _ _ y.0.0 c.in-Ok.read.1.now
          c.in_ok-goes_on.behind.now i.going (behind_is _ y.0 c.in-Ok.read.1.now y.1 y.2.1)
          (c.in_ok-goes_on.ensures ∙ ap (λ b. done (b, c.in_ok-goes_on.behind.now)) c.if-goes_on.false),
      (
        record {
          typed = subst (λ z. NamesAll (g.C.TypeStore.types c.read_argument.new.ctx) z
              (argument_types (i.front ++ y.0.0 ∷ []))) (sym c.in_ok-push-2.ensures.items)
              (typed_push _ _ i.front _ y.0.0
              (NamesAll-grown _ _ _ (argument_types i.front) c.in-Ok.ensures.grown i.typed) y.2.0.1);
          named = c.in_ok-push.ensures.items ∙ ap (λ l. l ++ c.in-Ok.read.0.0 ∷ []) i.named ∙
              ap (λ x. argument_names i.front ++ x ∷ []) y.2.0.0 ∙ sym (named_push i.front y.0.0);
        },
        refl,
      ),
    )

pub arguments-smaller : goal.arguments-smaller
arguments-smaller g c =
    let y = c.in-Ok.ensures.read in
    omega (
      arith,
      argument_at-shorter c.args.levels c.arguments.rest.now y.0 y.1,
      ap length y.2.1,
      separator_at-shorter 41 c.in-Ok.read.1.now (c.in_ok-goes_on.goes_on, c.in_ok-goes_on.behind.now)
          c.in_ok-goes_on.ensures,
    )

pub arguments-preserved : goal.arguments-preserved
arguments-preserved g c =
    let y = c.in-Ok.ensures.read in
    let i = c.arguments.invariant in
    record {
      front = i.front ++ y.0.0 ∷ [];
      typed = subst (λ z. NamesAll (g.C.TypeStore.types c.read_argument.new.ctx) z
          (argument_types (i.front ++ y.0.0 ∷ []))) (sym c.in_ok-push-2.ensures.items)
          (typed_push _ _ i.front _ y.0.0 (NamesAll-grown _ _ _ (argument_types i.front) c.in-Ok.ensures.grown i.typed)
          y.2.0.1);
      named = c.in_ok-push.ensures.items ∙ ap (λ l. l ++ c.in-Ok.read.0.0 ∷ []) i.named ∙
          ap (λ x. argument_names i.front ++ x ∷ []) y.2.0.0 ∙ sym (named_push i.front y.0.0);
      grown = Grows-on _ _ _ i.grown c.in-Ok.ensures.grown;
      written = named_on _ _ _ _ c.in-Ok.ensures.grown i.written (behind_named _ _ _ _ i.behind c.in-Ok.ensures.named);
      behind = end_on _ _ _ i.behind
          (end_on _ _ _ (argument_end c.args.levels c.arguments.rest.now y.0.0 c.in-Ok.read.1.now
          (behind_is _ y.0 c.in-Ok.read.1.now y.1 y.2.1))
          (separator_end 41 c.in-Ok.read.1.now c.in_ok-goes_on.goes_on c.in_ok-goes_on.behind.now
          c.in_ok-goes_on.ensures));
      held = both_come (λ t. IsHeldByArgument t i.front) (λ t. IsPartOf t y.0.0.1)
          (λ t. IsHeldByArgument t (i.front ++ y.0.0 ∷ [])) (λ t p. arguments_front t i.front y.0.0 p)
          (λ t p. arguments_last t i.front y.0.0 p) _ _ _ c.in-Ok.ensures.grown i.held (c.in-Ok.ensures.held y.0 y.1);
      kept = g.met.C.TypeStore.same_besides_on _ _ _ i.kept c.in-Ok.ensures.rest;
      going = goes_on (separator_at 41) (argument_at c.args.levels) i.front _ _ y.0.0 c.in-Ok.read.1.now
          c.in_ok-goes_on.behind.now i.going (behind_is _ y.0 c.in-Ok.read.1.now y.1 y.2.1)
          (c.in_ok-goes_on.ensures ∙ ap (λ b. done (b, c.in_ok-goes_on.behind.now)) c.if-goes_on.true)
          (arguments-smaller g c);
    }

pub returns-in-Err-clause-named : goal.returns-in-Err-clause-named
returns-in-Err-clause-named g c = let i = c.arguments.invariant in
    named_on _ _ _ _ c.in-Err.ensures.grown i.written (behind_named _ _ _ _ i.behind c.in-Err.ensures.named)

pub returns-in_err-push-clause-named : goal.returns-in_err-push-clause-named
returns-in_err-push-clause-named g c = let i = c.arguments.invariant in
    named_on _ _ _ _ c.in-Ok.ensures.grown i.written (behind_named _ _ _ _ i.behind c.in-Ok.ensures.named)

pub returns-in_err-push-2-clause-named : goal.returns-in_err-push-2-clause-named
returns-in_err-push-2-clause-named g c = let i = c.arguments.invariant in
    named_on _ _ _ _ c.in-Ok.ensures.grown i.written (behind_named _ _ _ _ i.behind c.in-Ok.ensures.named)

pub returns-in_err-goes_on-clause-named : goal.returns-in_err-goes_on-clause-named
returns-in_err-goes_on-clause-named g c = let i = c.arguments.invariant in
    named_on _ _ _ _ c.in-Ok.ensures.grown i.written (behind_named _ _ _ _ i.behind c.in-Ok.ensures.named)

pub returns-else-goes_on-clause-named : goal.returns-else-goes_on-clause-named
returns-else-goes_on-clause-named g c = let i = c.arguments.invariant in
    named_on _ _ _ _ c.in-Ok.ensures.grown i.written (behind_named _ _ _ _ i.behind c.in-Ok.ensures.named)

pub returns-in-Some-clause-held : goal.returns-in-Some-clause-held
returns-in-Some-clause-held g c = λ y e. none_come (λ t. IsHeldByArgument t y.0) _

pub returns-else-goes_on-clause-held : goal.returns-else-goes_on-clause-held
returns-else-goes_on-clause-held g c =
    let y = c.in-Ok.ensures.read in
    let i = c.arguments.invariant in
    let z : List Argument × List ℕ = (i.front ++ y.0.0 ∷ [], c.in_ok-goes_on.behind.now) in
    let whole : items_at 40 41 (argument_at c.args.levels) c.args.bytes.now ≡ done z =
    closes (separator_at 41) (argument_at c.args.levels) i.front _ _ y.0.0 c.in-Ok.read.1.now c.in_ok-goes_on.behind.now
    i.going (behind_is _ y.0 c.in-Ok.read.1.now y.1 y.2.1)
    (c.in_ok-goes_on.ensures ∙ ap (λ b. done (b, c.in_ok-goes_on.behind.now)) c.if-goes_on.false) in
    λ x e. held_is IsHeldByArgument _ z x _ _ whole e
    (both_come (λ t. IsHeldByArgument t i.front) (λ t. IsPartOf t y.0.0.1)
    (λ t. IsHeldByArgument t (i.front ++ y.0.0 ∷ [])) (λ t p. arguments_front t i.front y.0.0 p)
    (λ t p. arguments_last t i.front y.0.0 p) _ _ _ c.in-Ok.ensures.grown i.held (c.in-Ok.ensures.held y.0 y.1))
