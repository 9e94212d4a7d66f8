use Rattle.std.proofs.Common.{◌∙◌, ap, arith}
use Rattle.std.proofs.lemmas.Result.{err_from_is_err_and}
use Rattle.plir_attr_text.specs.Lists.{separator_at}
use Rattle.plir_attr_text.specs.AttrReading.{name_at}
use Rattle.plir_attr_text.specs.laws.Begun.{separator_at-shorter}
use Rattle.plir_attr_text.specs.laws.Fronts.{ends_at_item, ends_behind, closes, goes_on}
use Rattle.plir_attr_text.specs.laws.StepLaws.{done}
use Rattle.plir_read_own.specs.laws.Chains.{names_start, name_at-shorter}
use Rattle.plir_read_own.proofs.openings.read_names.Goals as goal

pub names-init : goal.names-init
names-init c = rw c.new-names.ensures.items (names_start c.args.bytes.now)

pub returns-in_err-name : goal.returns-in_err-name
returns-in_err-name c =
    let p = err_from_is_err_and c.from_residual.result c.from_residual.ensures.1 in
    rw (p.1, p.2) (ends_at_item (separator_at 61) name_at _ _ _ ⊥ c.in_err-name.field-0.0 c.names.invariant
    c.in_err-name.ensures)

pub returns-in_err-goes_on : goal.returns-in_err-goes_on
returns-in_err-goes_on c =
    let p = err_from_is_err_and c.from_residual-in_err-goes_on.result c.from_residual-in_err-goes_on.ensures.1 in
    rw (p.1, p.2) (ends_behind (separator_at 61) name_at _ _ _ ⊥ c.in_err-goes_on.field-0.0 c.in_ok-name.name
    c.in_ok-name.after.now c.names.invariant c.in_ok-name.ensures c.in_err-goes_on.ensures)

pub returns-else-goes_on : goal.returns-else-goes_on
returns-else-goes_on c =
    rw c.in_ok-push.ensures.items
    (closes (separator_at 61) name_at _ _ _ c.in_ok-name.name c.in_ok-name.after.now c.in_ok-goes_on.behind.now
    c.names.invariant c.in_ok-name.ensures
    (c.in_ok-goes_on.ensures ∙ ap (λ b. done (b, c.in_ok-goes_on.behind.now)) c.if-goes_on.false))

pub names-smaller : goal.names-smaller
names-smaller c = omega (
  arith,
  name_at-shorter c.names.rest.now (c.in_ok-name.name, c.in_ok-name.after.now) c.in_ok-name.ensures,
  separator_at-shorter 61 c.in_ok-name.after.now (c.in_ok-goes_on.goes_on, c.in_ok-goes_on.behind.now)
      c.in_ok-goes_on.ensures,
)

pub names-preserved : goal.names-preserved
names-preserved c = rw c.in_ok-push.ensures.items
    (goes_on (separator_at 61) name_at _ _ _ c.in_ok-name.name c.in_ok-name.after.now c.in_ok-goes_on.behind.now
    c.names.invariant c.in_ok-name.ensures
    (c.in_ok-goes_on.ensures ∙ ap (λ b. done (b, c.in_ok-goes_on.behind.now)) c.if-goes_on.true) (names-smaller c))
