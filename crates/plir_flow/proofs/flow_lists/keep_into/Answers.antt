use Rattle.std.proofs.Common.{rules}
use Rattle.plir_flow.proofs.TakenLists.{those-retained}
use Rattle.plir_flow.proofs.flow_lists.keep_into.Goals as goal

pub returns : goal.returns
returns c =
    those-retained _ _ _ (λ x b q k. search rules) c.args.flows.items c.retain.new.self.items c.retain.ensures.filtered
