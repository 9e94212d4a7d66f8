use Rattle.std.proofs.Common.{subst}
use Rattle.plir_core.specs.declared.ptr.IRNode.{IRNode}
use Rattle.plir_walk.specs.Calls.{CallsBack}
use Rattle.plir_walk.specs.Walked.{IsLawful}
use Rattle.plir_walk_calls.proofs.walk.from_any.changing.Goals as goal

pub walk_op-requires-clause-lawful : goal.walk_op-requires-clause-lawful
walk_op-requires-clause-lawful g c =
    subst (λ (n : IRNode). IsLawful g.C.NodeLinks.look n (CallsBack g.F.Fn c.args.callback)) c.in-Operation.is
    c.requires.lawful

pub walk_region-requires-clause-lawful : goal.walk_region-requires-clause-lawful
walk_region-requires-clause-lawful g c =
    subst (λ (n : IRNode). IsLawful g.C.NodeLinks.look n (CallsBack g.F.Fn c.args.callback)) c.in-Region.is
    c.requires.lawful

pub walk_block-requires-clause-lawful : goal.walk_block-requires-clause-lawful
walk_block-requires-clause-lawful g c =
    subst (λ (n : IRNode). IsLawful g.C.NodeLinks.look n (CallsBack g.F.Fn c.args.callback)) c.in-BasicBlock.is
    c.requires.lawful
