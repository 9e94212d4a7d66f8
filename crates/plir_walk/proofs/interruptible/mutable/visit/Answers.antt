use Rattle.std.proofs.Common.{rules, ◌≡◌, true, false, sym, subst, ◌∙◌}
use Rattle.plir_walk.specs.CallLaws.{called-back}
use Rattle.plir_walk.specs.Calls.{CallsBack}
use Rattle.plir_walk.specs.Step.{IsVisited}
use Rattle.plir_walk.proofs.Climbs.{not-below-itself}
use Rattle.plir_walk.proofs.interruptible.mutable.visit.Goals as goal

pub returns-clause-visited : goal.returns-clause-visited
returns-clause-visited g c =
    let due : c.args.due ≡ true = search rules in
    subst (λ d. IsVisited g.C.NodeLinks.look (CallsBack g.F.Fn c.args.callback.now) c.args.ctx.now c.args.state.now
    c.args.node d c.callback-answer.result c.callback-answer.new.arg2 c.callback-answer.new.arg3)
    (sym due) (called-back g.F.Fn c.args.callback.now c.callback-answer.ensures, c.forest.ensures)

-- the node is live still, so the program goes on
pub prove-unreachable-requires : goal.prove-unreachable-requires
prove-unreachable-requires g c =
    let e = c.args.ctx.now in
    let n = c.args.node in
    let stands = c.requires.stands in
    let lawful = c.requires.lawful e c.args.state.now n c.callback-answer.result c.callback-answer.new.arg2
    c.callback-answer.new.arg3 (record {
      stands = stands;
      leaves = c.forest.ensures;
      made = called-back g.F.Fn c.args.callback.now c.callback-answer.ensures;
    }) in
    let live = (lawful.kept n stands.live (not-below-itself (g.C.NodeLinks.look e) stands.forest n)).0 in
    let not : false ≡ true = sym c.if-prove.true ∙ c.is_node_live-live.ensures ∙ live in
    cc not
