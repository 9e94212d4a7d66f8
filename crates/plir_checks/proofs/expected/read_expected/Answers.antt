use Rattle.std.proofs.Common.{◌≡◌, ◌+◌, ◌∷◌, arith, ap, sym, subst, length, rules, ◌∙◌}
use Rattle.plir_checks.specs.Expecting.{IsToldOf, first_refusal, readings}
use Rattle.plir_checks.specs.Lines.{lines_left, lines_of}
use Rattle.plir_checks.proofs.Ending.{err_is}
use Rattle.plir_checks.proofs.Fronts.{few_lines}
use Rattle.plir_checks.proofs.Telling.{Told, told_none, told_one, told_refused}
use Rattle.plir_checks.proofs.expected.read_expected.Goals.{in-Some+in_ok-read_told+in_ok-push, in_default}
use Rattle.plir_checks.proofs.expected.read_expected.Goals as goal

pub loop-told-preserved : goal.loop-told-preserved
loop-told-preserved c =
    let left = lines_of c.loop-told.rest.now in
    let rest = lines_of c.in-Some-behind.others.now in
    let line = c.split_line.result.0.now in
    let all = readings 1 (lines_of c.args.text.now) in
    let cut : left ≡ line ∷ rest = c.split_line.ensures ∙ ap (λ o. line ∷ lines_left o) c.in-Some-behind.is in
    let so_far = c.loop-told.invariant in
    elim c.match-said.branch [
      | in-Some+in_ok-read_told+in_ok-push w ↦ (
        search rules,
        told_one c.loop-told.expected.items c.loop-told.number left rest line all so_far.1 cut w.in-Some.told.now
            w.in_ok-read_told.field-0 c.match-said.expected.items
            (ap (λ v. v.items) w.expected-is ∙ w.in_ok-push.ensures.items) w.in-Some.ensures w.in_ok-read_told.ensures,
        omega (arith, so_far.2, ap length cut),
      )
      | in_default w ↦ (
        search rules,
        subst (λ z. Told z (c.loop-told.number + 1) rest all) (sym (ap (λ v. v.items) w.expected-is))
            (told_none c.loop-told.expected.items c.loop-told.number left rest line all so_far.1 cut
            w.in_default.ensures),
        omega (arith, so_far.2, ap length cut),
      )
    ]

pub read_told-requires : goal.read_told-requires
read_told-requires c =
    omega (arith, c.well_formed, few_lines c.args.text.now, c.loop-told.invariant.2, ap length c.split_line.ensures)

pub returns-in_err-read_told-clause-err : goal.returns-in_err-read_told-clause-err
returns-in_err-read_told-clause-err c =
    let all = readings 1 (lines_of c.args.text.now) in
    err_is c.from_residual.result c.in_err-read_told.field-0.0 (λ e. IsToldOf (first_refusal all) e)
    c.from_residual.ensures.1
    (told_refused c.loop-told.expected.items c.loop-told.number (lines_of c.loop-told.rest.now)
    (lines_left c.split_line.result.1) c.split_line.result.0.now all c.loop-told.invariant.1 c.split_line.ensures
    c.in-Some.told.now c.in_err-read_told.field-0.0 c.in-Some.ensures c.in_err-read_told.ensures)

pub overflow_add-number : goal.overflow_add-number
overflow_add-number c =
    omega (arith, c.well_formed, few_lines c.args.text.now, c.loop-told.invariant.2, ap length c.split_line.ensures)
