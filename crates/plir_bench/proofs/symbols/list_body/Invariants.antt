use Rattle.std.specs.Prelude.{IfSome}
use Rattle.plir_core.specs.ContextView.{IsLive}
use Rattle.plir_core.specs.declared.ptr.IRNode.TheVariants.{Operation}
use Rattle.plir_bench.proofs.symbols.list_body.Given as goal

-- what comes next is live
abbrev pub invariant-loop : goal.invariant-loop
invariant-loop l = IfSome l.at (λ op. IsLive l.ctx (Operation op))
