use Rattle.std.proofs.Common.{◌≡◌, Some, cond, option_and_then, sym, subst, ◌∙◌, ap}
use Rattle.std.specs.HashMap.{get}
use Rattle.plir_symbols.specs.CallGraph.{is_found}
use Rattle.plir_symbols.specs.Reaching.{ptr_eq}
use Rattle.plir_symbols.proofs.Chaining.{put-found}
use Rattle.plir_symbols.proofs.chains.put_last.Goals as goal

pub returns-in_ok-before-in-Some-clause-before : goal.returns-in_ok-before-in-Some-clause-before
returns-in_ok-before-in-Some-clause-before c =
    c.in_ok-before-in-Some.ensures.old
    ∙ ap (option_and_then (get ptr_eq c.args.latest.now)) (sym c.in-Some.is)

pub returns-in_ok-before-in-Some-clause-updates : goal.returns-in_ok-before-in-Some-clause-updates
returns-in_ok-before-in-Some-clause-updates c = λ p.
    let old = get ptr_eq c.args.latest.now p in
    subst (λ o. get ptr_eq c.insert.new.self p ≡ cond (is_found p o) (Some c.args.place) old) (sym c.in-Some.is)
    (put-found c.in-Some.op p c.args.place (get ptr_eq c.insert.new.self p) old
    (c.in_ok-before-in-Some.ensures.updates.0 p))

pub returns-in-None-clause-before : goal.returns-in-None-clause-before
returns-in-None-clause-before c = ap (option_and_then (get ptr_eq c.args.latest.now)) (sym c.in-None.is)

pub returns-in-None-clause-updates : goal.returns-in-None-clause-updates
returns-in-None-clause-updates c = λ p.
    let old = get ptr_eq c.args.latest.now p in
    ap (λ o. cond (is_found p o) (Some c.args.place) old) (sym c.in-None.is)
