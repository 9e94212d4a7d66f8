use Rattle.std.specs.Prelude.{IfSome}
use Rattle.plir_core.specs.ContextView.{IsLive}
use Rattle.plir_scripts.proofs.showing.put_row.Given as goal

abbrev pub invariant-nodes : goal.invariant-nodes
invariant-nodes g l = IfSome l.at (λ node. IsLive l.ctx node)
