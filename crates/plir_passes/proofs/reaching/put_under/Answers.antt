use Rattle.std.proofs.Common.{◌∙◌, refl, subst, sym}
use Rattle.plir_store.specs.FilterLaws.{not-both}
use Rattle.plir_store.specs.Members.{Has}
use Rattle.plir_passes.specs.Marked.{is_among, ops_of}
use Rattle.plir_passes.proofs.Marking.{among-has, grown-as, grown-none, has-among}
use Rattle.plir_passes.proofs.reaching.put_under.Goals as goal

pub returns-then-not-contains : goal.returns-then-not-contains
returns-then-not-contains c =
    let ops = ops_of c.args.under.now in
    grown-none _ _ refl (λ q h. not-both (is_among ops c.args.op) (has-among ops c.args.op (subst (Has ops) h.0 h.1))
    (sym c.contains.ensures ∙ c.if-not-contains.true))

pub returns : goal.returns
returns c =
    let ops = ops_of c.args.under.now in
    let here = among-has ops c.args.op (sym c.contains.ensures ∙ c.if-not-contains.false) in
    grown-as _ _ (λ q same. (same, subst (Has ops) (sym same) here)) (λ q h. h.0) c.in_ok-put.ensures
