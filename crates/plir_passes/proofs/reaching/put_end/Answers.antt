use Rattle.std.proofs.Common.{◌∙◌, ap, refl, sym}
use Rattle.plir_store.specs.FilterLaws.{not-both}
use Rattle.plir_core.specs.ContextView.{kind_of}
use Rattle.plir_walk.specs.NodeLaws.{same-op}
use Rattle.plir_passes.specs.Legal.{is_kind}
use Rattle.plir_passes.specs.Reached.{ends_block}
use Rattle.plir_passes.proofs.Marking.{grown-none}
use Rattle.plir_passes.proofs.reaching.put_end.Goals as goal

pub returns-in_default : goal.returns-in_default
returns-in_default g c = grown-none _ _ refl (λ q h. c.in_default.not-Operation q h.0)

pub returns-then-not-kind_ends : goal.returns-then-not-kind_ends
returns-then-not-kind_ends g c =
    let test = is_kind (ends_block g.D.OpSet.is_terminator) in
    grown-none _ _ refl (λ q h. not-both (test (kind_of c.args.ctx.now q)) h.1
    (ap (λ p. test (kind_of c.args.ctx.now p)) (same-op q c.in-Operation.op (sym h.0 ∙ c.in-Operation.is))
    ∙ ap test c.kind.ensures.value ∙ sym c.kind_ends.ensures ∙ c.if-not-kind_ends.true))
