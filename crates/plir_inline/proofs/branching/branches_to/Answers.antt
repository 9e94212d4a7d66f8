use Rattle.std.proofs.Common.{◌∙◌, sym, subst}
use Rattle.std.proofs.lemmas.Bool.{false≢true}
use Rattle.plir_store.specs.Members.{Has}
use Rattle.plir_store.specs.MemberLaws.{Has-at}
use Rattle.plir_core.specs.ContextView.{successors_of}
use Rattle.plir_inline.proofs.BranchCalls.{has-found}
use Rattle.plir_inline.proofs.Prefixes.{block-next, same-ptr}
use Rattle.plir_inline.proofs.branching.branches_to.Goals as goal

pub returns-then-eq : goal.returns-then-eq
returns-then-eq g c =
    let xs = successors_of c.args.ctx.now c.args.op in
    let is = (same-ptr c.get_successor.result c.args.block c.eq.result c.eq.ensures).0 c.if-eq.true in
    sym (has-found xs c.args.block (subst (λ z. Has xs z) is (Has-at xs c.loop-i.i c.get_successor.result c.get_successor.ensures.value)))

pub loop-i-preserved : goal.loop-i-preserved
loop-i-preserved g c =
    let xs = successors_of c.args.ctx.now c.args.op in
    block-next xs c.args.block c.get_successor.result c.loop-i.i c.get_successor.ensures.value
    (λ is. false≢true (sym c.if-eq.false ∙ (same-ptr c.get_successor.result c.args.block c.eq.result c.eq.ensures).1 is))
    c.loop-i.invariant
