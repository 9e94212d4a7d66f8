use Rattle.std.proofs.{Common.◌∙◌, Common.ap, Common.sym, Common.arith, lemmas.Result.err_from_is_err_and}
use Rattle.plir_attr_text.specs.laws.Fronts.{no_open, nothing_inside, starts, ends_at_item, ends_behind, closes}
use Rattle.plir_attr_text.specs.laws.Fronts.{goes_on}
use Rattle.plir_attr_text.specs.{Lists.separator_at, AttrReading.size_at, laws.StepLaws.done}
use Rattle.plir_attr_text.specs.{laws.Begun.separator_at-shorter, laws.LeavesFound.size_at-shorter}
use Rattle.plir_attr_text.proofs.attr_words.read_sizes.Goals as goal

pub returns-in_err-start : goal.returns-in_err-start
returns-in_err-start c =
    let p = err_from_is_err_and c.from_residual.result c.from_residual.ensures.1 in
    rw (p.1, p.2) (no_open 91 93 size_at c.in_err-start.field-0.0 _ c.in_err-start.ensures)

pub returns-in-Some : goal.returns-in-Some
returns-in-Some c = rw c.new-sizes.ensures.items
    (nothing_inside 91 93 size_at _ _ _ c.in_ok-start.ensures (sym c.in-Some.ensures))

pub sizes-init : goal.sizes-init
sizes-init c = rw c.new-sizes.ensures.items (starts 91 93 size_at _ _ c.in_ok-start.ensures (sym c.in_default.ensures))

pub returns-in_err-size : goal.returns-in_err-size
returns-in_err-size c =
    let p = err_from_is_err_and c.from_residual-in_err-size.result c.from_residual-in_err-size.ensures.1 in
    rw (p.1, p.2) (ends_at_item (separator_at 93) size_at _ _ _ ⊥ c.in_err-size.field-0.0 c.sizes.invariant
    c.in_err-size.ensures)

pub returns-in_err-goes_on : goal.returns-in_err-goes_on
returns-in_err-goes_on c =
    let p = err_from_is_err_and c.from_residual-in_err-goes_on.result c.from_residual-in_err-goes_on.ensures.1 in
    rw (p.1, p.2) (ends_behind (separator_at 93) size_at _ _ _ ⊥ c.in_err-goes_on.field-0.0 c.in_ok-size.size
    c.in_ok-size.after.now c.sizes.invariant c.in_ok-size.ensures c.in_err-goes_on.ensures)

pub returns-else-goes_on : goal.returns-else-goes_on
returns-else-goes_on c =
    rw c.in_ok-push.ensures.items
    (closes (separator_at 93) size_at _ _ _ c.in_ok-size.size c.in_ok-size.after.now c.in_ok-goes_on.behind.now
    c.sizes.invariant c.in_ok-size.ensures
    (c.in_ok-goes_on.ensures ∙ ap (λ b. done (b, c.in_ok-goes_on.behind.now)) c.if-goes_on.false))

pub sizes-smaller : goal.sizes-smaller
sizes-smaller c = omega (
  arith,
  size_at-shorter c.sizes.rest.now (c.in_ok-size.size, c.in_ok-size.after.now) c.in_ok-size.ensures,
  separator_at-shorter 93 c.in_ok-size.after.now (c.in_ok-goes_on.goes_on, c.in_ok-goes_on.behind.now)
      c.in_ok-goes_on.ensures,
)

pub sizes-preserved : goal.sizes-preserved
sizes-preserved c = rw c.in_ok-push.ensures.items
    (goes_on (separator_at 93) size_at _ _ _ c.in_ok-size.size c.in_ok-size.after.now c.in_ok-goes_on.behind.now
    c.sizes.invariant c.in_ok-size.ensures
    (c.in_ok-goes_on.ensures ∙ ap (λ b. done (b, c.in_ok-goes_on.behind.now)) c.if-goes_on.true) (sizes-smaller c))
