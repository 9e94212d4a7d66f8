use Rattle.std.proofs.Common.{◌∙◌, length, [], ◌∷◌, ◌++◌, refl, sym, ap, arith}
use Rattle.std.proofs.lemmas.Result.{err_from_is_err_and}
use Rattle.plir_attr_text.specs.Lists.{separator_at}
use Rattle.plir_attr_text.specs.TypeReading.{type_at}
use Rattle.plir_attr_text.specs.laws.Begun.{separator_at-shorter}
use Rattle.plir_attr_text.specs.laws.Ends.{end_on, sign_end}
use Rattle.plir_attr_text.specs.laws.Fronts.{no_open, nothing_inside, starts, ends_at_item, ends_behind, closes}
use Rattle.plir_attr_text.specs.laws.Fronts.{goes_on}
use Rattle.plir_attr_text.specs.laws.Growth.{Adds-itself, Adds-on, NamesFront-grown, NamesFront-push}
use Rattle.plir_attr_text.specs.laws.StepLaws.{done}
use Rattle.plir_attr_text.specs.laws.TypeSteps.{behind_is}
use Rattle.plir_attr_text.specs.laws.TypesFound.{type_at-shorter}
use Rattle.plir_read_own.specs.laws.TypeLists.{type_kept, type_end, separator_end}
use Rattle.plir_read_own.proofs.signatures.read_types.Goals as goal

pub returns-in_err-start-clause-read : goal.returns-in_err-start-clause-read
returns-in_err-start-clause-read g c =
    let p = err_from_is_err_and c.from_residual.result c.from_residual.ensures.1 in
    rw (p.1, p.2) (no_open 40 41 (type_at c.args.levels) c.in_err-start.field-0.0 _ c.in_err-start.ensures)

pub returns-in_err-start-clause-kept : goal.returns-in_err-start-clause-kept
returns-in_err-start-clause-kept g c = Adds-itself g.met.C.TypeStore.same_besides_itself _

pub returns-in-Some-clause-read : goal.returns-in-Some-clause-read
returns-in-Some-clause-read g c = (
  ([], c.in-Some.rest.now),
  nothing_inside 40 41 (type_at c.args.levels) _ _ _ c.in_ok-start.ensures (sym c.in-Some.ensures),
  (c.new-types.ensures.items, refl),
)

pub returns-in-Some-clause-kept : goal.returns-in-Some-clause-kept
returns-in-Some-clause-kept g c = Adds-itself g.met.C.TypeStore.same_besides_itself _

pub types-init : goal.types-init
types-init g c =
    record {
      front = [];
      named = c.new-types.ensures.items;
      kept = Adds-itself g.met.C.TypeStore.same_besides_itself _;
      behind = sign_end 40 _ _ c.in_ok-start.ensures;
      going = starts 40 41 (type_at c.args.levels) _ _ c.in_ok-start.ensures (sym c.in_default.ensures);
    }

pub returns-in-Err-clause-read : goal.returns-in-Err-clause-read
returns-in-Err-clause-read g c =
    ends_at_item (separator_at 41) (type_at c.args.levels) _ _ _ ⊥ c.in-Err.stop c.types.invariant.going
    c.in-Err.ensures.read

pub returns-in-Err-clause-kept : goal.returns-in-Err-clause-kept
returns-in-Err-clause-kept g c =
    let i = c.types.invariant in
    Adds-on g.met.C.TypeStore.same_besides_on _ _ _ i.kept
    (type_kept c.args.levels _ _ _ _ i.behind c.in-Err.ensures.kept)

pub returns-in_err-push-clause-kept : goal.returns-in_err-push-clause-kept
returns-in_err-push-clause-kept g c =
    let i = c.types.invariant in
    Adds-on g.met.C.TypeStore.same_besides_on _ _ _ i.kept
    (type_kept c.args.levels _ _ _ _ i.behind c.in-Ok.ensures.kept)

pub returns-in_err-goes_on-clause-read : goal.returns-in_err-goes_on-clause-read
returns-in_err-goes_on-clause-read g c =
    let p = err_from_is_err_and c.from_residual-in_err-goes_on.result c.from_residual-in_err-goes_on.ensures.1 in
    let y = c.in-Ok.ensures.read in
    rw (p.1, p.2) (ends_behind (separator_at 41) (type_at c.args.levels) _ _ _ ⊥ c.in_err-goes_on.field-0.0 y.0.0
    c.in-Ok.read.1.now c.types.invariant.going (behind_is _ y.0 c.in-Ok.read.1.now y.1 y.2.1)
    c.in_err-goes_on.ensures)

pub returns-in_err-goes_on-clause-kept : goal.returns-in_err-goes_on-clause-kept
returns-in_err-goes_on-clause-kept g c =
    let i = c.types.invariant in
    Adds-on g.met.C.TypeStore.same_besides_on _ _ _ i.kept
    (type_kept c.args.levels _ _ _ _ i.behind c.in-Ok.ensures.kept)

pub returns-else-goes_on-clause-read : goal.returns-else-goes_on-clause-read
returns-else-goes_on-clause-read g c =
    let y = c.in-Ok.ensures.read in
    let i = c.types.invariant in (
      (i.front ++ y.0.0 ∷ [], c.in_ok-goes_on.behind.now),
      closes (separator_at 41) (type_at c.args.levels) i.front _ _ y.0.0 c.in-Ok.read.1.now
          c.in_ok-goes_on.behind.now i.going (behind_is _ y.0 c.in-Ok.read.1.now y.1 y.2.1)
          (c.in_ok-goes_on.ensures ∙ ap (λ b. done (b, c.in_ok-goes_on.behind.now)) c.if-goes_on.false),
      (
        NamesFront-push _ _ _ i.front c.in-Ok.read.0 y.0.0 c.in_ok-push.ensures.items
            (NamesFront-grown _ _ _ i.front c.in-Ok.ensures.kept.grown i.named) y.2.0,
        refl,
      ),
    )

pub returns-else-goes_on-clause-kept : goal.returns-else-goes_on-clause-kept
returns-else-goes_on-clause-kept g c =
    let i = c.types.invariant in
    Adds-on g.met.C.TypeStore.same_besides_on _ _ _ i.kept
    (type_kept c.args.levels _ _ _ _ i.behind c.in-Ok.ensures.kept)

pub types-smaller : goal.types-smaller
types-smaller g c =
    let y = c.in-Ok.ensures.read in
    omega (
      arith,
      type_at-shorter c.args.levels c.types.rest.now y.0 y.1,
      ap length y.2.1,
      separator_at-shorter 41 c.in-Ok.read.1.now (c.in_ok-goes_on.goes_on, c.in_ok-goes_on.behind.now)
          c.in_ok-goes_on.ensures,
    )

pub types-preserved : goal.types-preserved
types-preserved g c =
    let y = c.in-Ok.ensures.read in
    let i = c.types.invariant in
    let read = behind_is _ y.0 c.in-Ok.read.1.now y.1 y.2.1 in
    record {
      front = i.front ++ y.0.0 ∷ [];
      named = NamesFront-push _ _ _ i.front c.in-Ok.read.0 y.0.0 c.in_ok-push.ensures.items
          (NamesFront-grown _ _ _ i.front c.in-Ok.ensures.kept.grown i.named) y.2.0;
      kept = Adds-on g.met.C.TypeStore.same_besides_on _ _ _ i.kept
          (type_kept c.args.levels _ _ _ _ i.behind c.in-Ok.ensures.kept);
      behind = end_on _ _ _ i.behind
          (end_on _ _ _ (type_end c.args.levels c.types.rest.now y.0.0 c.in-Ok.read.1.now read)
          (separator_end 41 c.in-Ok.read.1.now c.in_ok-goes_on.goes_on c.in_ok-goes_on.behind.now
          c.in_ok-goes_on.ensures));
      going = goes_on (separator_at 41) (type_at c.args.levels) i.front _ _ y.0.0 c.in-Ok.read.1.now
          c.in_ok-goes_on.behind.now i.going read
          (c.in_ok-goes_on.ensures ∙ ap (λ b. done (b, c.in_ok-goes_on.behind.now)) c.if-goes_on.true)
          (types-smaller g c);
    }
