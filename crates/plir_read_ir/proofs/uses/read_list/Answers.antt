use Rattle.std.proofs.Common.{◌∙◌, ap, sym, arith}
use Rattle.std.proofs.lemmas.Result.{err_from_is_err_and}
use Rattle.plir_attr_text.specs.Lists.{separator_at}
use Rattle.plir_attr_text.specs.laws.StepLaws.{done}
use Rattle.plir_attr_text.specs.laws.Fronts.{no_open, nothing_inside, starts, ends_at_item, ends_behind, closes}
use Rattle.plir_attr_text.specs.laws.Fronts.{goes_on}
use Rattle.plir_attr_text.specs.laws.Begun.{separator_at-shorter}
use Rattle.plir_read_own.specs.OwnReading.{closing_of, list_at, listed_at, opening_of}
use Rattle.plir_read_own.specs.laws.Lists.{listed_at-shorter}
use Rattle.plir_read_ir.specs.Spelling.{word_of}
use Rattle.plir_read_ir.proofs.Words.{words_push}
use Rattle.plir_read_ir.proofs.uses.read_list.Goals as goal

pub returns-in_err-start : goal.returns-in_err-start
unfolding list_at
returns-in_err-start c =
    let p = err_from_is_err_and c.from_residual.result c.from_residual.ensures.1 in
    rw (p.1, p.2) (no_open (opening_of c.args.list) (closing_of c.args.list) (listed_at c.args.list)
    c.in_err-start.field-0.0 _ (rw c.opening_of.ensures at c.in_err-start.ensures))

pub returns-in-Some : goal.returns-in-Some
unfolding list_at
returns-in-Some c = rw c.new-names.ensures.items
    (nothing_inside (opening_of c.args.list) (closing_of c.args.list) (listed_at c.args.list) _ _ _
    (rw c.opening_of.ensures at c.in_ok-start.ensures) (rw c.closing_of-close.ensures at (sym c.in-Some.ensures)))

pub names-init : goal.names-init
unfolding list_at
names-init c = rw c.new-names.ensures.items
    (starts (opening_of c.args.list) (closing_of c.args.list) (listed_at c.args.list) _ _
    (rw c.opening_of.ensures at c.in_ok-start.ensures) (rw c.closing_of-close.ensures at (sym c.in_default.ensures)))

pub returns-in_err-name : goal.returns-in_err-name
returns-in_err-name c =
    let p = err_from_is_err_and c.from_residual-in_err-name.result c.from_residual-in_err-name.ensures.1 in
    rw (p.1, p.2) (ends_at_item (separator_at (closing_of c.args.list)) (listed_at c.args.list) _ _ _ ⊥
    c.in_err-name.field-0.0 c.names.invariant c.in_err-name.ensures)

pub returns-in_err-goes_on : goal.returns-in_err-goes_on
returns-in_err-goes_on c =
    let p = err_from_is_err_and c.from_residual-in_err-goes_on.result c.from_residual-in_err-goes_on.ensures.1 in
    rw (p.1, p.2) (ends_behind (separator_at (closing_of c.args.list)) (listed_at c.args.list) _ _ _ ⊥
    c.in_err-goes_on.field-0.0 (word_of c.in_ok-name.name) c.in_ok-name.after.now c.names.invariant c.in_ok-name.ensures
    (rw c.closing_of-close.ensures at c.in_err-goes_on.ensures))

pub returns-else-goes_on : goal.returns-else-goes_on
returns-else-goes_on c =
    rw (c.in_ok-push.ensures.items, words_push c.names.names.items c.in_ok-name.name)
    (closes (separator_at (closing_of c.args.list)) (listed_at c.args.list) _ _ _ (word_of c.in_ok-name.name)
    c.in_ok-name.after.now c.in_ok-goes_on.behind.now c.names.invariant c.in_ok-name.ensures
    ((rw c.closing_of-close.ensures at c.in_ok-goes_on.ensures) ∙
    ap (λ b. done (b, c.in_ok-goes_on.behind.now)) c.if-goes_on.false))

pub names-smaller : goal.names-smaller
names-smaller c = omega (
  arith,
  listed_at-shorter c.args.list c.names.rest.now (word_of c.in_ok-name.name, c.in_ok-name.after.now) c.in_ok-name.ensures,
  separator_at-shorter c.closing_of-close.result c.in_ok-name.after.now
      (c.in_ok-goes_on.goes_on, c.in_ok-goes_on.behind.now) c.in_ok-goes_on.ensures,
)

pub names-preserved : goal.names-preserved
names-preserved c = rw (c.in_ok-push.ensures.items, words_push c.names.names.items c.in_ok-name.name)
    (goes_on (separator_at (closing_of c.args.list)) (listed_at c.args.list) _ _ _ (word_of c.in_ok-name.name)
    c.in_ok-name.after.now c.in_ok-goes_on.behind.now c.names.invariant c.in_ok-name.ensures
    ((rw c.closing_of-close.ensures at c.in_ok-goes_on.ensures) ∙
    ap (λ b. done (b, c.in_ok-goes_on.behind.now)) c.if-goes_on.true) (names-smaller c))
