use Rattle.std.proofs.Common.{◌≡◌, ◌+◌, ◌==◌, ◌∷◌, true, vec_len, Some, None, arith, ap, sym, subst, length}
use Rattle.std.proofs.Common.{option_map, rules, ◌∙◌}
use Rattle.std.specs.Option.{option_and_then}
use Rattle.plir_checks.specs.Checks.{IsToldOf, check_of, checks_in, fault_of, first_fault, seen_check}
use Rattle.plir_checks.specs.Lines.{lines_left, lines_of}
use Rattle.plir_checks.proofs.Ending.{err_is}
use Rattle.plir_checks.proofs.Fronts.{few_lines}
use Rattle.plir_checks.proofs.Reading.{Read, read_fault, read_none, read_one}
use Rattle.plir_checks.proofs.checks.read_checks.Goals.{in-Some+in_ok-push, in_default}
use Rattle.plir_checks.proofs.checks.read_checks.Goals as goal

pub loop-checks-preserved : goal.loop-checks-preserved
loop-checks-preserved c =
    let left = lines_of c.loop-checks.rest.now in
    let rest = lines_of c.in-Some-behind.others.now in
    let line = c.split_line.result.0.now in
    let number = c.loop-checks.number in
    let all = checks_in 1 (lines_of c.args.text.now) in
    let cut : left ≡ line ∷ rest = c.split_line.ensures ∙ ap (λ o. line ∷ lines_left o) c.in-Some-behind.is in
    let so_far = c.loop-checks.invariant in
    let long : length c.loop-checks.checks.items ≡ vec_len c.loop-checks.checks = search rules in
    let is_first : c.is_empty.result ≡ (length c.loop-checks.checks.items == 0) =
    c.is_empty.ensures ∙ ap (λ n. n == 0) (sym long) in
    elim c.match-branch-2.branch [
      | in-Some+in_ok-push w ↦
          let one : check_of number line ≡ Some (seen_check w.in-Some.check) =
          sym c.in_ok-check.ensures.read ∙ ap (option_map seen_check) w.in-Some.is in (
            search rules,
            read_one c.loop-checks.checks.items number left rest line all so_far.1 cut w.in-Some.check
                c.match-branch-2.checks.items (ap (λ v. v.items) w.checks-is ∙ w.in_ok-push.ensures.items) one
                (ap (λ v. option_and_then (fault_of v) (check_of number line)) (sym is_first)
                ∙ c.in_ok-check.ensures.ok),
            omega (arith, so_far.2, ap length cut),
          )
      | in_default w ↦
          let none : check_of number line ≡ None =
          sym c.in_ok-check.ensures.read ∙ ap (option_map seen_check) w.in_default.is in (
            search rules,
            subst (λ z. Read z (number + 1) rest all) (sym (ap (λ v. v.items) w.checks-is))
                (read_none c.loop-checks.checks.items number left rest line all so_far.1 cut none),
            omega (arith, so_far.2, ap length cut),
          )
    ]

pub returns-in_err-check-clause-err : goal.returns-in_err-check-clause-err
returns-in_err-check-clause-err c =
    let all = checks_in 1 (lines_of c.args.text.now) in
    let long : length c.loop-checks.checks.items ≡ vec_len c.loop-checks.checks = search rules in
    let is_first : c.is_empty.result ≡ (length c.loop-checks.checks.items == 0) =
    c.is_empty.ensures ∙ ap (λ n. n == 0) (sym long) in
    err_is c.from_residual.result c.in_err-check.field-0.0 (λ e. IsToldOf (first_fault true all) e)
    c.from_residual.ensures.1
    (read_fault c.loop-checks.checks.items c.loop-checks.number (lines_of c.loop-checks.rest.now)
    (lines_left c.split_line.result.1) c.split_line.result.0.now all c.loop-checks.invariant.1 c.split_line.ensures
    c.in_err-check.field-0.0
    (ap (λ v. option_and_then (fault_of v) (check_of c.loop-checks.number c.split_line.result.0.now)) (sym is_first)
    ∙ c.in_err-check.ensures.err))

pub overflow_add-number : goal.overflow_add-number
overflow_add-number c =
    omega (arith, c.well_formed, few_lines c.args.text.now, c.loop-checks.invariant.2, ap length c.split_line.ensures)
