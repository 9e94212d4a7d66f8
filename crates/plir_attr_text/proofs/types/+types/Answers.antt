use Rattle.std.proofs.{Common.[], Common.inl, Common.refl, Common.sym, lemmas.Result.err_from_is_err_and}
use Rattle.plir_attr_text.specs.Terms.{integer_type, function_type, unit_type, types_of}
use Rattle.plir_attr_text.specs.laws.Growth.{Grows-instantiated, Adds-itself, Adds-on, Adds-one, Adds-none, Adds-as}
use Rattle.plir_attr_text.specs.laws.Growth.{NamesAll-grown, both_live, NamesFront-grown, NamesFront-push}
use Rattle.plir_attr_text.specs.laws.TypeSteps.{type_at-level-fails, type_at-head-fails, function_read, Reads-made}
use Rattle.plir_attr_text.specs.laws.{TypeSteps.behind_is, TypesFound.type_at-shorter}
use Rattle.plir_attr_text.specs.{TypeReading.type_at, TypeReading.integer_at, laws.Fronts.nothing_inside}
use Rattle.plir_attr_text.proofs.{Behind.type_behind, Behind.in_type_behind, Behind.both_kept, TypesIn.in_arguments}
use Rattle.plir_attr_text.proofs.Gathering.{begins, kept_on, fails_at, fails_behind, smaller, gathered, one_more}
use Rattle.plir_attr_text.proofs.types.+types.Goals as goal

pub read_function-function_handle-requires : goal.read_function-function_handle-requires
read_function-function_handle-requires g t c =
    let a = c.in_ok-arguments.ensures in
    let r = c.in_ok-results.ensures in
    both_live _ _ _ _ _ (NamesAll-grown _ _ _ _ r.kept.grown a.read.2.0) r.read.2.0

pub read_function-returns : goal.read_function-returns
read_function-returns g t c =
    let a = c.in_ok-arguments.ensures in
    let r = c.in_ok-results.ensures in
    let on = g.met.C.TypeStore.same_besides_on in
    let h = c.in_ok-handle.ensures in
    let last = Grows-instantiated _ _ _ _ h.ok in
    let arguments = NamesAll-grown _ _ _ _ last (NamesAll-grown _ _ _ _ r.kept.grown a.read.2.0) in
    let results = NamesAll-grown _ _ _ _ last r.read.2.0 in
    let first = behind_is _ a.read.0 c.in_ok-arguments.rest.now a.read.1 a.read.2.1 in
    let whole = function_read (type_at c.args.levels) _ _ _ _ _ _ a.read.0.0 r.read.0.0 c.in_ok-start.ensures first
    c.in_ok-behind.ensures (behind_is _ r.read.0 c.in_ok-results.rest.now r.read.1 r.read.2.1) c.in_ok-end.ensures
    in
    let itself = Adds-one _ _ _ _ (function_type (types_of a.read.0.0) (types_of r.read.0.0))
    (inl (((types_of a.read.0.0, types_of r.read.0.0), c.in_ok-end.end.now), whole, refl))
    (λ k e. (c.in_ok-arguments.arguments.items, c.in_ok-results.results.items, e, arguments, results)) h.ok h.rest
    in
    record {
      read = (
        ((types_of a.read.0.0, types_of r.read.0.0), c.in_ok-end.end.now),
        whole,
        ((c.in_ok-arguments.arguments.items, c.in_ok-results.results.items, h.ok.named, arguments, results), refl),
      );
      kept = Adds-on on _ _ _
          (both_kept on c.args.levels _ c.in_ok-start.ensures first c.in_ok-behind.ensures a.kept r.kept) itself;
    }

pub read_function-returns-in_err-start-clause-kept : goal.read_function-returns-in_err-start-clause-kept
read_function-returns-in_err-start-clause-kept g t c = Adds-itself g.met.C.TypeStore.same_besides_itself _

pub read_function-returns-in_err-arguments-clause-kept : goal.read_function-returns-in_err-arguments-clause-kept
read_function-returns-in_err-arguments-clause-kept g t c =
    Adds-as (in_arguments c.args.levels _ _ c.in_ok-start.ensures) _ _ c.in_err-arguments.ensures.kept

pub read_function-returns-in_err-behind-clause-kept : goal.read_function-returns-in_err-behind-clause-kept
read_function-returns-in_err-behind-clause-kept g t c =
    Adds-as (in_arguments c.args.levels _ _ c.in_ok-start.ensures) _ _ c.in_ok-arguments.ensures.kept

pub read_function-returns-in_err-results-clause-kept : goal.read_function-returns-in_err-results-clause-kept
read_function-returns-in_err-results-clause-kept g t c =
    let a = c.in_ok-arguments.ensures in
    both_kept g.met.C.TypeStore.same_besides_on c.args.levels _ c.in_ok-start.ensures
    (behind_is _ a.read.0 c.in_ok-arguments.rest.now a.read.1 a.read.2.1) c.in_ok-behind.ensures a.kept
    c.in_err-results.ensures.kept

pub read_function-returns-in_err-end-clause-kept : goal.read_function-returns-in_err-end-clause-kept
read_function-returns-in_err-end-clause-kept g t c =
    let a = c.in_ok-arguments.ensures in
    both_kept g.met.C.TypeStore.same_besides_on c.args.levels _ c.in_ok-start.ensures
    (behind_is _ a.read.0 c.in_ok-arguments.rest.now a.read.1 a.read.2.1) c.in_ok-behind.ensures a.kept
    c.in_ok-results.ensures.kept

pub read_function-returns-in_err-handle-clause-kept : goal.read_function-returns-in_err-handle-clause-kept
read_function-returns-in_err-handle-clause-kept g t c =
    let a = c.in_ok-arguments.ensures in
    let on = g.met.C.TypeStore.same_besides_on in
    let h = c.in_err-handle.ensures in
    Adds-on on _ _ _ (both_kept on c.args.levels _ c.in_ok-start.ensures
    (behind_is _ a.read.0 c.in_ok-arguments.rest.now a.read.1 a.read.2.1) c.in_ok-behind.ensures a.kept
    c.in_ok-results.ensures.kept) (Adds-none _ _ h.err h.rest)

pub read_type_at-returns-in_err-begin_level : goal.read_type_at-returns-in_err-begin_level
read_type_at-returns-in_err-begin_level g t c =
    let p = err_from_is_err_and c.from_residual.result c.from_residual.ensures.1 in
    record {
      read = rw (p.1, p.2) (type_at-level-fails c.in_err-begin_level.field-0.0 c.args.levels c.args.bytes.now
          c.in_err-begin_level.ensures.read);
      kept = Adds-itself g.met.C.TypeStore.same_besides_itself _;
    }

pub read_type_at-returns-in_err-kind : goal.read_type_at-returns-in_err-kind
read_type_at-returns-in_err-kind g t c =
    let p = err_from_is_err_and c.from_residual-in_err-kind.result c.from_residual-in_err-kind.ensures.1 in
    record {
      read = rw (p.1, p.2) (type_at-head-fails c.in_err-kind.field-0.0 c.args.levels c.args.bytes.now
          c.in_ok-begin_level.ensures.some c.in_err-kind.ensures);
      kept = Adds-itself g.met.C.TypeStore.same_besides_itself _;
    }

pub read_type_at-returns-in_err-handle-in-Unit-clause-kept : goal.read_type_at-returns-in_err-handle-in-Unit-clause-kept
read_type_at-returns-in_err-handle-in-Unit-clause-kept g t c =
    let h = c.in_err-handle-in-Unit.ensures in
    Adds-none _ _ h.err h.rest

pub read_type_at-returns-in-Integer : goal.read_type_at-returns-in-Integer
read_type_at-returns-in-Integer g t c =
    let whole = type_behind c.args.levels _ c.in_ok-begin_level.ensures.some c.in_ok-kind.ensures c.in-Integer.is in
    record {
      read = Reads-made _ _ (λ y. (integer_type y.0.0 y.0.1, y.1)) (λ x y m. m) c.read_integer_handle.result
          (integer_at c.in_ok-kind.rest.now) _ whole
          c.read_integer_handle.ensures.read;
      kept = Adds-as (in_type_behind c.args.levels _ c.in_ok-begin_level.ensures.some c.in_ok-kind.ensures
          c.in-Integer.is) _ _
          c.read_integer_handle.ensures.kept;
    }

pub read_type_at-returns-in-Function : goal.read_type_at-returns-in-Function
read_type_at-returns-in-Function g t c =
    let whole = type_behind c.args.levels _ c.in_ok-begin_level.ensures.some c.in_ok-kind.ensures c.in-Function.is in
    record {
      read = Reads-made _ _ (λ y. (function_type y.0.0 y.0.1, y.1)) (λ x y m. m) c.read_function.result _ _ whole
          c.read_function.ensures.read;
      kept = Adds-as (in_type_behind c.args.levels _ c.in_ok-begin_level.ensures.some c.in_ok-kind.ensures
          c.in-Function.is) _ _
          c.read_function.ensures.kept;
    }

pub read_type_at-returns-in_ok-handle-in-Unit : goal.read_type_at-returns-in_ok-handle-in-Unit
read_type_at-returns-in_ok-handle-in-Unit g t c =
    let h = c.in_ok-handle-in-Unit.ensures in
    record {
      read = (
        (unit_type, c.in_ok-kind.rest.now),
        type_behind c.args.levels _ c.in_ok-begin_level.ensures.some c.in_ok-kind.ensures c.in-Unit.is,
        (h.ok.named, refl),
      );
      kept = Adds-one _ _ _ _ unit_type
          (in_type_behind c.args.levels _ c.in_ok-begin_level.ensures.some c.in_ok-kind.ensures
          c.in-Unit.is unit_type refl) (λ k e. e) h.ok h.rest;
    }

pub read_types-returns-in_err-start-clause-kept : goal.read_types-returns-in_err-start-clause-kept
read_types-returns-in_err-start-clause-kept g t c = Adds-itself g.met.C.TypeStore.same_besides_itself _

pub read_types-returns-in-Some : goal.read_types-returns-in-Some
read_types-returns-in-Some g t c =
    record {
      read = (
        ([], c.in-Some.rest.now),
        nothing_inside 40 41 (type_at c.args.levels) _ _ _ c.in_ok-start.ensures (sym c.in-Some.ensures),
        (c.new-types.ensures.items, refl),
      );
      kept = Adds-itself g.met.C.TypeStore.same_besides_itself _;
    }

pub read_types-types-init : goal.read_types-types-init
read_types-types-init g t c =
    begins g.met.C.TypeStore.same_besides_itself _ _ _ c.new-types.ensures.items c.in_ok-start.ensures
    (sym c.in_default.ensures)

pub read_types-returns-in-Err : goal.read_types-returns-in-Err
read_types-returns-in-Err g t c =
    record {
      read = fails_at c.types.invariant c.in-Err.stop c.in-Err.ensures.read;
      kept = kept_on c.types.invariant g.met.C.TypeStore.same_besides_on _ c.in-Err.ensures.kept;
    }

pub read_types-returns-in_err-push-clause-kept : goal.read_types-returns-in_err-push-clause-kept
read_types-returns-in_err-push-clause-kept g t c =
    kept_on c.types.invariant g.met.C.TypeStore.same_besides_on _ c.in-Ok.ensures.kept

pub read_types-returns-in_err-goes_on : goal.read_types-returns-in_err-goes_on
read_types-returns-in_err-goes_on g t c =
    let p = err_from_is_err_and c.from_residual-in_err-goes_on.result c.from_residual-in_err-goes_on.ensures.1 in
    let y = c.in-Ok.ensures.read in
    record {
      read = rw (p.1, p.2)
          (fails_behind c.types.invariant y.0 y.1 _ y.2.1 c.in_err-goes_on.field-0.0 c.in_err-goes_on.ensures);
      kept = kept_on c.types.invariant g.met.C.TypeStore.same_besides_on _ c.in-Ok.ensures.kept;
    }

pub read_types-types-smaller : goal.read_types-types-smaller
read_types-types-smaller g t c =
    let y = c.in-Ok.ensures.read in
    smaller c.types.invariant y.0 y.1 _ y.2.1 _ _ c.in_ok-goes_on.ensures (type_at-shorter c.args.levels)

pub read_types-types-preserved : goal.read_types-types-preserved
read_types-types-preserved g t c =
    let y = c.in-Ok.ensures.read in
    one_more c.types.invariant y.0 y.1 _ y.2.1 _ _ c.in_ok-goes_on.ensures NamesFront-grown _ c.in-Ok.ensures.kept _
    (λ front m. NamesFront-push _ _ _ front c.in-Ok.read.0 y.0.0 c.in_ok-push.ensures.items m y.2.0)
    c.if-goes_on.true g.met.C.TypeStore.same_besides_on (type_at-shorter c.args.levels)

pub read_types-returns-else-goes_on : goal.read_types-returns-else-goes_on
read_types-returns-else-goes_on g t c =
    let y = c.in-Ok.ensures.read in
    record {
      read = gathered c.types.invariant y.0 y.1 _ y.2.1 _ _ c.in_ok-goes_on.ensures NamesFront-grown _
          c.in-Ok.ensures.kept _
          (λ front m. NamesFront-push _ _ _ front c.in-Ok.read.0 y.0.0 c.in_ok-push.ensures.items m y.2.0)
          c.if-goes_on.false;
      kept = kept_on c.types.invariant g.met.C.TypeStore.same_besides_on _ c.in-Ok.ensures.kept;
    }
