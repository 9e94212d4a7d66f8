use Rattle.std.proofs.Common.{◌≡◌, ◌∙◌, ap, cond, Some}
use Rattle.std.specs.HashMap.{get}
use Rattle.plir_names.specs.Tables.{with_one_more}
use Rattle.plir_names.proofs.Bearing.{bears_more}
use Rattle.plir_names.proofs.names.NameTable.bear.Goals as goal

pub returns-clause-ok : goal.returns-clause-ok
returns-clause-ok g c =
    let same = g.N.PartialEq.eq in
    let old = c.args.self.now.bearers in
    let kept : c.with_one_more-kept.result ≡ with_one_more (get same old c.args.name) c.args.value =
    c.with_one_more-kept.ensures ∙
    ap (λ o. with_one_more o c.args.value) (c.copied.ensures ∙ c.get.ensures.value) in
    λ listed says. bears_more same g.met.N.Eq.laws (get same old) (get same c.insert.new.self) c.args.name c.args.value
    listed says (λ n. c.in_ok-insert.ensures.updates.0 n ∙
    ap (λ w. cond (same c.args.name n) (Some w) (get same old n)) kept)
