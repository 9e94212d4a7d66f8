use Rattle.std.proofs.Common.{[], sym, subst, map}
use Rattle.std.proofs.Math.Logic.Iff
use Rattle.plir_flow.specs.Taken.{IsOnceEach}
use Rattle.plir_flow.specs.RegionEdges.{Flow}
use Rattle.plir_flow.proofs.TakenLists.{once-none}
use Rattle.plir_flow.proofs.EdgeRules.{within-like}
use Rattle.plir_flow.proofs.receiver_sets.receive_among.Goals as goal

pub returns : goal.returns
returns c =
    let w = c.in_ok-add_receivers.ensures [] (subst (IsOnceEach []) (sym c.new-among.ensures) once-none) in
    Iff.trans c.are_received.ensures
    (within-like c.args.flows.now c.add_receivers.new.seen (map (λ (o : Flow). o.1) c.args.others.now) w.same)
