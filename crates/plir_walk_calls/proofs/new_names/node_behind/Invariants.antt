use Rattle.plir_core.specs.ContextView.{IsLive}
use Rattle.plir_walk_calls.proofs.new_names.node_behind.Given as goal

abbrev pub invariant-up : goal.invariant-up
invariant-up g l = IsLive l.fn.ctx l.at
