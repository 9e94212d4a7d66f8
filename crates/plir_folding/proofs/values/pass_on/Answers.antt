use Rattle.std.proofs.Common.{sym, subst}
use Rattle.plir_core.specs.Rewired.{IsRewired}
use Rattle.plir_folding.specs.Folded.{result_of}
use Rattle.plir_folding.proofs.Leads.{stands-used}
use Rattle.plir_folding.proofs.PassingOn.{below-none, passed-one}
use Rattle.plir_folding.proofs.values.pass_on.Goals as goal

pub returns-in-Some-clause-below : goal.returns-in-Some-clause-below
returns-in-Some-clause-below g c =
    let holds = g.D.IdentitySet.is_identity in
    let laws = c.lawful_changes.ensures in
    let s = c.args.ctx.now in
    let t = c.replace_all_uses_with.new.ctx in
    let v = result_of c.args.op in
    let w = c.in-Some.value in
    let left = c.in-Some.ensures.left in
    let rewired =
    subst (λ z. IsRewired s t z w) c.get_result.ensures.value c.replace_all_uses_with.ensures.rewired in
    λ n. record {
      passed =
          passed-one holds s t v w rewired left.stands (stands-used holds s c.args.op w c.requires left.stands)
          left.other;
      lawful = laws.rewired s t n v w rewired;
      whole = c.replace_all_uses_with.ensures.whole;
    }

pub returns-in-Some-clause-gone : goal.returns-in-Some-clause-gone
returns-in-Some-clause-gone g c = λ w left used.
    (subst (λ z. IsRewired c.args.ctx.now c.replace_all_uses_with.new.ctx z c.in-Some.value)
    c.get_result.ensures.value c.replace_all_uses_with.ensures.rewired).gone
    (λ e. c.in-Some.ensures.left.other (sym e)) used

pub returns-in_default-clause-below : goal.returns-in_default-clause-below
returns-in_default-clause-below g c = λ n.
    below-none g.D.IdentitySet.is_identity g.D.OpSet.attr_handles c.lawful_changes.ensures c.args.ctx.now n
    c.stands.ensures.whole
