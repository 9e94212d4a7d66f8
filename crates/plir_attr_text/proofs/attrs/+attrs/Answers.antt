use Rattle.std.proofs.{Common.map, Common.[], Common.refl, Common.sym, Common.ap, lemmas.Result.err_from_is_err_and}
use Rattle.plir_data.specs.AttrSeen.{attr_view}
use Rattle.plir_data.specs.{DictSeen.pairs_view, Dictionary.dict_of}
use Rattle.plir_data.specs.AttrView as views
use Rattle.plir_attr_text.specs.Terms as terms
use Rattle.plir_attr_text.specs.Terms.{attrs_of, entries_of}
use Rattle.plir_attr_text.specs.AttrReading.{name_at, text_at, bool_at, size_at, given_name_at, entry_at, attr_at}
use Rattle.plir_attr_text.specs.laws.Meanings.{ItemsFront-grown, ItemsFront-push, DictFront-grown, DictFront-push}
use Rattle.plir_attr_text.specs.laws.{AttrSteps.attr_at-level-fails, AttrSteps.attr_at-head-fails, Growth.Adds-itself}
use Rattle.plir_attr_text.specs.laws.{AttrsFound.attr_at-shorter, AttrsFound.entry_at-shorter, Growth.Adds-as}
use Rattle.plir_attr_text.specs.laws.{Fronts.no_open, Fronts.nothing_inside, AttrsAgain.entry_again}
use Rattle.plir_attr_text.specs.{Steps.read_as, Lists.items_at, TypesIn.IsInAttr}
use Rattle.plir_attr_text.proofs.Gathering.{begins, kept_on, fails_at, fails_behind, smaller, gathered, one_more}
use Rattle.plir_attr_text.proofs.Behind.{attr_behind, attr_reads, attr_kept, leaf_reads}
use Rattle.plir_attr_text.proofs.TypesIn.{in_entry}
use Rattle.plir_attr_text.proofs.attrs.+attrs.Goals as goal

pub read_attr_at-returns-in_err-begin_level : goal.read_attr_at-returns-in_err-begin_level
read_attr_at-returns-in_err-begin_level g t c =
    let p = err_from_is_err_and c.from_residual.result c.from_residual.ensures.1 in
    record {
      read = rw (p.1, p.2) (attr_at-level-fails c.in_err-begin_level.field-0.0 c.args.levels c.args.bytes.now
          c.in_err-begin_level.ensures.read);
      kept = Adds-itself g.met.C.TypeStore.same_besides_itself _;
    }

pub read_attr_at-returns-in_err-kind : goal.read_attr_at-returns-in_err-kind
read_attr_at-returns-in_err-kind g t c =
    let p = err_from_is_err_and c.from_residual-in_err-kind.result c.from_residual-in_err-kind.ensures.1 in
    record {
      read = rw (p.1, p.2) (attr_at-head-fails c.in_err-kind.field-0.0 c.args.levels c.args.bytes.now
          c.in_ok-begin_level.ensures.some c.in_err-kind.ensures);
      kept = Adds-itself g.met.C.TypeStore.same_besides_itself _;
    }

pub read_attr_at-returns-in-Identifier : goal.read_attr_at-returns-in-Identifier
read_attr_at-returns-in-Identifier g t c =
    record {
      read = leaf_reads c.args.levels _ c.in_ok-begin_level.ensures.some c.in_ok-kind.ensures c.in-Identifier.is
          (g.C.TypeStore.types c.args.ctx.now) (λ w. views.leaf (views.identifier w)) terms.identifier (λ w. refl)
          (name_at c.in_ok-kind.rest.now) refl c.read_identifier_attr.result c.read_identifier_attr.ensures;
      kept = Adds-itself g.met.C.TypeStore.same_besides_itself _;
    }

pub read_attr_at-returns-in-String : goal.read_attr_at-returns-in-String
read_attr_at-returns-in-String g t c =
    record {
      read = leaf_reads c.args.levels _ c.in_ok-begin_level.ensures.some c.in_ok-kind.ensures c.in-String.is
          (g.C.TypeStore.types c.args.ctx.now) (λ w. views.leaf (views.string w)) terms.string (λ w. refl)
          (text_at c.in_ok-kind.rest.now) refl c.read_string_attr.result c.read_string_attr.ensures;
      kept = Adds-itself g.met.C.TypeStore.same_besides_itself _;
    }

pub read_attr_at-returns-in-Bool : goal.read_attr_at-returns-in-Bool
read_attr_at-returns-in-Bool g t c =
    record {
      read = leaf_reads c.args.levels _ c.in_ok-begin_level.ensures.some c.in_ok-kind.ensures c.in-Bool.is
          (g.C.TypeStore.types c.args.ctx.now) (λ w. views.leaf (views.bool w)) terms.bool (λ w. refl)
          (bool_at c.in_ok-kind.rest.now) refl c.read_bool_attr.result c.read_bool_attr.ensures;
      kept = Adds-itself g.met.C.TypeStore.same_besides_itself _;
    }

pub read_attr_at-returns-in-OperandSegmentSizes : goal.read_attr_at-returns-in-OperandSegmentSizes
read_attr_at-returns-in-OperandSegmentSizes g t c =
    record {
      read = leaf_reads c.args.levels _ c.in_ok-begin_level.ensures.some c.in_ok-kind.ensures
          c.in-OperandSegmentSizes.is
          (g.C.TypeStore.types c.args.ctx.now) (λ w. views.leaf (views.operand_segment_sizes w))
          terms.operand_segment_sizes (λ w. refl)
          (items_at 91 93 size_at c.in_ok-kind.rest.now) refl c.read_sizes_attr.result c.read_sizes_attr.ensures;
      kept = Adds-itself g.met.C.TypeStore.same_besides_itself _;
    }

pub read_attr_at-returns-in-GivenNames : goal.read_attr_at-returns-in-GivenNames
read_attr_at-returns-in-GivenNames g t c =
    record {
      read = leaf_reads c.args.levels _ c.in_ok-begin_level.ensures.some c.in_ok-kind.ensures c.in-GivenNames.is
          (g.C.TypeStore.types c.args.ctx.now) (λ w. views.leaf (views.given_names w)) terms.given_names (λ w. refl)
          (items_at 91 93 given_name_at c.in_ok-kind.rest.now) refl c.read_names_attr.result c.read_names_attr.ensures;
      kept = Adds-itself g.met.C.TypeStore.same_besides_itself _;
    }

pub read_attr_at-returns-in-Integer : goal.read_attr_at-returns-in-Integer
read_attr_at-returns-in-Integer g t c =
    record {
      read = attr_reads c.args.levels _ c.in_ok-begin_level.ensures.some c.in_ok-kind.ensures c.in-Integer.is _
          c.read_integer_attr.result
          c.read_integer_attr.ensures.read;
      kept = attr_kept c.args.levels _ c.in_ok-begin_level.ensures.some c.in_ok-kind.ensures c.in-Integer.is
          c.read_integer_attr.ensures.kept;
    }

pub read_attr_at-returns-in-Dict : goal.read_attr_at-returns-in-Dict
read_attr_at-returns-in-Dict g t c =
    record {
      read = attr_reads c.args.levels _ c.in_ok-begin_level.ensures.some c.in_ok-kind.ensures c.in-Dict.is _
          c.read_dict_attr.result
          c.read_dict_attr.ensures.read;
      kept = attr_kept c.args.levels _ c.in_ok-begin_level.ensures.some c.in_ok-kind.ensures c.in-Dict.is
          c.read_dict_attr.ensures.kept;
    }

pub read_attr_at-returns-in-Vec : goal.read_attr_at-returns-in-Vec
read_attr_at-returns-in-Vec g t c =
    record {
      read = attr_reads c.args.levels _ c.in_ok-begin_level.ensures.some c.in_ok-kind.ensures c.in-Vec.is _
          c.read_list_attr.result
          c.read_list_attr.ensures.read;
      kept = attr_kept c.args.levels _ c.in_ok-begin_level.ensures.some c.in_ok-kind.ensures c.in-Vec.is
          c.read_list_attr.ensures.kept;
    }

pub read_attr_at-returns-in-TypeOf : goal.read_attr_at-returns-in-TypeOf
read_attr_at-returns-in-TypeOf g t c =
    record {
      read = attr_reads c.args.levels _ c.in_ok-begin_level.ensures.some c.in_ok-kind.ensures c.in-TypeOf.is _
          c.read_type_attr.result
          c.read_type_attr.ensures.read;
      kept = attr_kept c.args.levels _ c.in_ok-begin_level.ensures.some c.in_ok-kind.ensures c.in-TypeOf.is
          c.read_type_attr.ensures.kept;
    }

pub read_attr_at-returns-in-Unit : goal.read_attr_at-returns-in-Unit
read_attr_at-returns-in-Unit g t c =
    record {
      read = (
        (terms.unit, c.in_ok-kind.rest.now),
        attr_behind c.args.levels _ c.in_ok-begin_level.ensures.some
            c.in_ok-kind.ensures c.in-Unit.is,
        (refl, refl),
      );
      kept = Adds-itself g.met.C.TypeStore.same_besides_itself _;
    }

pub read_dict_attr-returns-in-Ok-clause-read : goal.read_dict_attr-returns-in-Ok-clause-read
read_dict_attr-returns-in-Ok-clause-read g t c =
    let y = c.in-Ok.ensures.read in (
      (terms.dict (entries_of y.0.0), y.0.1),
      ap (read_as (λ es. terms.dict (entries_of es))) y.1,
      ((y.2.0.0, y.2.0.1, ap (λ es. views.dict (views.entries_of es)) y.2.0.2), y.2.1),
    )

pub read_list_attr-returns-in-Ok-clause-read : goal.read_list_attr-returns-in-Ok-clause-read
read_list_attr-returns-in-Ok-clause-read g t c =
    let y = c.in-Ok.ensures.read in (
      (terms.vec (attrs_of y.0.0), y.0.1),
      ap (read_as (λ xs. terms.vec (attrs_of xs))) y.1,
      ((map attr_view c.in-Ok.read.0.items, y.2.0, ap (λ xs. views.vec (views.items_of xs)) c.new.ensures), y.2.1),
    )

pub read_entry-returns-in_err-key-clause-kept : goal.read_entry-returns-in_err-key-clause-kept
read_entry-returns-in_err-key-clause-kept g t c = Adds-itself g.met.C.TypeStore.same_besides_itself _

pub read_entry-returns-in_err-behind-clause-kept : goal.read_entry-returns-in_err-behind-clause-kept
read_entry-returns-in_err-behind-clause-kept g t c = Adds-itself g.met.C.TypeStore.same_besides_itself _

pub read_entry-returns-in-Ok-clause-read : goal.read_entry-returns-in-Ok-clause-read
read_entry-returns-in-Ok-clause-read g t c =
    let y = c.in-Ok.ensures.read in (
      ((c.in_ok-key.key, y.0.0), y.0.1),
      entry_again (attr_at c.args.levels) c.in_ok-key.key y.0.0 _ _ _ y.0.1 c.in_ok-key.ensures c.in_ok-behind.ensures
          y.1,
      ((refl, y.2.0), y.2.1),
    )

pub read_entry-returns-in-Ok-clause-kept : goal.read_entry-returns-in-Ok-clause-kept
read_entry-returns-in-Ok-clause-kept g t c =
    Adds-as (in_entry (IsInAttr c.args.levels) _ _ _ _ c.in_ok-key.ensures c.in_ok-behind.ensures) _ _
    c.in-Ok.ensures.kept

pub read_entry-returns-in-Err-clause-kept : goal.read_entry-returns-in-Err-clause-kept
read_entry-returns-in-Err-clause-kept g t c =
    Adds-as (in_entry (IsInAttr c.args.levels) _ _ _ _ c.in_ok-key.ensures c.in_ok-behind.ensures) _ _
    c.in-Err.ensures.kept

pub read_entries-returns-in_err-start : goal.read_entries-returns-in_err-start
read_entries-returns-in_err-start g t c =
    let p = err_from_is_err_and c.from_residual.result c.from_residual.ensures.1 in
    record {
      read = rw (p.1, p.2) (no_open 91 93 (entry_at (attr_at c.args.levels)) c.in_err-start.field-0.0 _
          c.in_err-start.ensures);
      kept = Adds-itself g.met.C.TypeStore.same_besides_itself _;
    }

pub read_entries-returns-in-Some : goal.read_entries-returns-in-Some
read_entries-returns-in-Some g t c =
    record {
      read = (
        ([], c.in-Some.rest.now),
        nothing_inside 91 93 (entry_at (attr_at c.args.levels)) _ _ _ c.in_ok-start.ensures (sym c.in-Some.ensures),
        (([], refl, c.new.ensures), refl),
      );
      kept = Adds-itself g.met.C.TypeStore.same_besides_itself _;
    }

pub read_entries-entries-init : goal.read_entries-entries-init
read_entries-entries-init g t c =
    begins g.met.C.TypeStore.same_besides_itself _ _ _ ([], refl, ap (λ es. dict_of (pairs_view es)) c.new-entries.ensures.items) c.in_ok-start.ensures
    (sym c.in_default.ensures)

pub read_entries-returns-in-Err : goal.read_entries-returns-in-Err
read_entries-returns-in-Err g t c =
    record {
      read = fails_at c.entries.invariant c.in-Err.stop c.in-Err.ensures.read;
      kept = kept_on c.entries.invariant g.met.C.TypeStore.same_besides_on _ c.in-Err.ensures.kept;
    }

pub read_entries-returns-in_err-push-clause-kept : goal.read_entries-returns-in_err-push-clause-kept
read_entries-returns-in_err-push-clause-kept g t c =
    kept_on c.entries.invariant g.met.C.TypeStore.same_besides_on _ c.in-Ok.ensures.kept

pub read_entries-returns-in_err-dictionary_of-clause-kept : goal.read_entries-returns-in_err-dictionary_of-clause-kept
read_entries-returns-in_err-dictionary_of-clause-kept g t c =
    kept_on c.entries.invariant g.met.C.TypeStore.same_besides_on _ c.in-Ok.ensures.kept

pub read_entries-returns-in_err-goes_on : goal.read_entries-returns-in_err-goes_on
read_entries-returns-in_err-goes_on g t c =
    let p = err_from_is_err_and c.from_residual-in_err-goes_on.result c.from_residual-in_err-goes_on.ensures.1 in
    let y = c.in-Ok.ensures.read in
    record {
      read = rw (p.1, p.2) (fails_behind c.entries.invariant y.0 y.1 _ y.2.1 c.in_err-goes_on.field-0.0
          c.in_err-goes_on.ensures);
      kept = kept_on c.entries.invariant g.met.C.TypeStore.same_besides_on _ c.in-Ok.ensures.kept;
    }

pub read_entries-entries-smaller : goal.read_entries-entries-smaller
read_entries-entries-smaller g t c =
    let y = c.in-Ok.ensures.read in
    smaller c.entries.invariant y.0 y.1 _ y.2.1 _ _ c.in_ok-goes_on.ensures (entry_at-shorter c.args.levels)

pub read_entries-entries-preserved : goal.read_entries-entries-preserved
read_entries-entries-preserved g t c =
    let y = c.in-Ok.ensures.read in
    one_more c.entries.invariant y.0 y.1 _ y.2.1 _ _ c.in_ok-goes_on.ensures DictFront-grown _ c.in-Ok.ensures.kept _
    (λ front m. DictFront-push _ _ _ _ front c.in-Ok.read.0.0 y.0.0.0 _ y.0.0.1 c.in_ok-push.ensures.items refl y.2.0.0 m
    y.2.0.1)
    c.if-goes_on.true g.met.C.TypeStore.same_besides_on (entry_at-shorter c.args.levels)

pub read_entries-returns-else-goes_on : goal.read_entries-returns-else-goes_on
read_entries-returns-else-goes_on g t c =
    let y = c.in-Ok.ensures.read in
    record {
      read = gathered c.entries.invariant y.0 y.1 _ y.2.1 _ _ c.in_ok-goes_on.ensures DictFront-grown _
          c.in-Ok.ensures.kept _
          (λ front m. DictFront-push _ _ _ _ front c.in-Ok.read.0.0 y.0.0.0 _ y.0.0.1 c.in_ok-push.ensures.items
          c.in_ok-dictionary_of.ensures y.2.0.0 m y.2.0.1)
          c.if-goes_on.false;
      kept = kept_on c.entries.invariant g.met.C.TypeStore.same_besides_on _ c.in-Ok.ensures.kept;
    }

pub read_items-returns-in_err-start : goal.read_items-returns-in_err-start
read_items-returns-in_err-start g t c =
    let p = err_from_is_err_and c.from_residual.result c.from_residual.ensures.1 in
    record {
      read = rw (p.1, p.2) (no_open 91 93 (attr_at c.args.levels) c.in_err-start.field-0.0 _ c.in_err-start.ensures);
      kept = Adds-itself g.met.C.TypeStore.same_besides_itself _;
    }

pub read_items-returns-in-Some : goal.read_items-returns-in-Some
read_items-returns-in-Some g t c =
    record {
      read = (
        ([], c.in-Some.rest.now),
        nothing_inside 91 93 (attr_at c.args.levels) _ _ _ c.in_ok-start.ensures (sym c.in-Some.ensures),
        (ap (map attr_view) c.new-items.ensures.items, refl),
      );
      kept = Adds-itself g.met.C.TypeStore.same_besides_itself _;
    }

pub read_items-items-init : goal.read_items-items-init
read_items-items-init g t c =
    begins g.met.C.TypeStore.same_besides_itself _ _ _ (ap (map attr_view) c.new-items.ensures.items)
    c.in_ok-start.ensures
    (sym c.in_default.ensures)

pub read_items-returns-in-Err : goal.read_items-returns-in-Err
read_items-returns-in-Err g t c =
    record {
      read = fails_at c.items.invariant c.in-Err.stop c.in-Err.ensures.read;
      kept = kept_on c.items.invariant g.met.C.TypeStore.same_besides_on _ c.in-Err.ensures.kept;
    }

pub read_items-returns-in_err-push-clause-kept : goal.read_items-returns-in_err-push-clause-kept
read_items-returns-in_err-push-clause-kept g t c =
    kept_on c.items.invariant g.met.C.TypeStore.same_besides_on _ c.in-Ok.ensures.kept

pub read_items-returns-in_err-goes_on : goal.read_items-returns-in_err-goes_on
read_items-returns-in_err-goes_on g t c =
    let p = err_from_is_err_and c.from_residual-in_err-goes_on.result c.from_residual-in_err-goes_on.ensures.1 in
    let y = c.in-Ok.ensures.read in
    record {
      read = rw (p.1, p.2) (fails_behind c.items.invariant y.0 y.1 _ y.2.1 c.in_err-goes_on.field-0.0
          c.in_err-goes_on.ensures);
      kept = kept_on c.items.invariant g.met.C.TypeStore.same_besides_on _ c.in-Ok.ensures.kept;
    }

pub read_items-items-smaller : goal.read_items-items-smaller
read_items-items-smaller g t c =
    let y = c.in-Ok.ensures.read in
    smaller c.items.invariant y.0 y.1 _ y.2.1 _ _ c.in_ok-goes_on.ensures (attr_at-shorter c.args.levels)

pub read_items-items-preserved : goal.read_items-items-preserved
read_items-items-preserved g t c =
    let y = c.in-Ok.ensures.read in
    one_more c.items.invariant y.0 y.1 _ y.2.1 _ _ c.in_ok-goes_on.ensures ItemsFront-grown _ c.in-Ok.ensures.kept _
    (λ front m. ItemsFront-push _ _ _ front c.in-Ok.read.0 y.0.0 c.in_ok-push.ensures.items m y.2.0)
    c.if-goes_on.true g.met.C.TypeStore.same_besides_on (attr_at-shorter c.args.levels)

pub read_items-returns-else-goes_on : goal.read_items-returns-else-goes_on
read_items-returns-else-goes_on g t c =
    let y = c.in-Ok.ensures.read in
    record {
      read = gathered c.items.invariant y.0 y.1 _ y.2.1 _ _ c.in_ok-goes_on.ensures ItemsFront-grown _
          c.in-Ok.ensures.kept _
          (λ front m. ItemsFront-push _ _ _ front c.in-Ok.read.0 y.0.0 c.in_ok-push.ensures.items m y.2.0)
          c.if-goes_on.false;
      kept = kept_on c.items.invariant g.met.C.TypeStore.same_besides_on _ c.in-Ok.ensures.kept;
    }
