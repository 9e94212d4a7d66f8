use Rattle.std.proofs.Common.{sym, ◌∙◌}
use Rattle.std.proofs.lemmas.Bool.{false≢true}
use Rattle.plir_core.specs.declared.ptr.IRNode.TheVariants.{Operation}
use Rattle.plir_core.specs.Forest.{look}
use Rattle.plir_walk.specs.TreeLaws.{reached-under}
use Rattle.plir_copies.specs.Telling.{same_ptr_told}
use Rattle.plir_inliner.proofs.rounds.stands_below.Goals as goal

pub is_ancestor-requires : goal.is_ancestor-requires
is_ancestor-requires g c = sym c.is_live.ensures.value ∙ c.if-not-is_live.false

pub returns-clause-live : goal.returns-clause-live
returns-clause-live g c = λ _. sym c.is_live.ensures.value ∙ c.if-not-is_live.false

pub returns-clause-below : goal.returns-clause-below
returns-clause-below g c = λ yes.
    (let r = c.is_ancestor.ensures.value.0 yes in
    record {
      under = reached-under (look c.args.ctx.now) c.stands.ensures.standing.forest r.0 (Operation c.args.op)
          (Operation c.args.root) r.1;
      other = λ is.
          false≢true (sym c.if-eq.false ∙ (same_ptr_told c.args.op c.args.root c.eq.result c.eq.ensures).1 is);
    })
