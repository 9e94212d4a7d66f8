use Rattle.std.proofs.Common.{subst, ◌++◌, ◌<◌, arith, take, length, map}
use Rattle.std.proofs.lemmas.List.{take_all}
use Rattle.plir_flow.specs.Taken.{IsOnceEach}
use Rattle.plir_flow.specs.RegionEdges.{Flow}
use Rattle.plir_flow.proofs.TakenLists.{mapped-at}
use Rattle.plir_flow.proofs.edge_parts.add_receivers.Goals as goal

pub loop-flow-preserved : goal.loop-flow-preserved
loop-flow-preserved c vs w =
    let i = c.loop-flow.flow-index in
    let fs = c.args.flows.now in
    let below : i < length fs = omega arith in
    subst (λ l. IsOnceEach l c.add.new.self) (mapped-at (λ (f : Flow). f.1) vs fs i _ below)
    (c.in_ok-add.ensures.once (vs ++ map (λ (f : Flow). f.1) (take i fs)) (c.loop-flow.invariant vs w))

pub returns : goal.returns
returns c vs w =
    subst (λ l. IsOnceEach (vs ++ map (λ (f : Flow). f.1) l) c.loop-flow.seen)
    (take_all _ c.args.flows.now (omega arith)) (c.loop-flow.invariant vs w)
