use Rattle.std.proofs.Common.{IfSome}
use Rattle.plir_core.specs.ContextView.{IsLive}
use Rattle.plir_walk_calls.proofs.new_names.name_all.Given as goal

abbrev pub invariant-nodes : goal.invariant-nodes
invariant-nodes g l = IfSome l.next (IsLive l.fn.ctx)
