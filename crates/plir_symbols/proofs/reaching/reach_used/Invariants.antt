use Rattle.std.proofs.Common.{◌≡◌, ℕ, List, Some, take}
use Rattle.std.specs.FinMap.{get}
use Rattle.plir_store.specs.Members.{Has}
use Rattle.plir_core.specs.declared.ptr.IRNode.TheVariants.{Operation}
use Rattle.plir_core.specs.ContextView.{IsLive, op_at}
use Rattle.plir_symbols.specs.Reaching.{IsGrown}
use Rattle.plir_symbols.specs.SymbolNames.{names_in}
use Rattle.plir_symbols.proofs.reaching.reach_used.Given as goal

abbrev pub invariant-loop-name : goal.invariant-loop-name
invariant-loop-name g l =
    let names = names_in g.D.SymbolNames.names_used (op_at l.ctx l.fn.op) in
    IsGrown (λ q. IsLive l.ctx (Operation q) × ((x : List ℕ) × Has (take l.name-index names) x ×
    (get l.table.names x ≡ Some q))) l.fn.reached l.reached
