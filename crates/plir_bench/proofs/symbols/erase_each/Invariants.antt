use Rattle.std.specs.Prelude.{◌≡◌, false}
use Rattle.plir_builtin.specs.Agree.{Agrees}
use Rattle.plir_bench.proofs.symbols.erase_each.Given as goal

-- the table agrees with the module's body
abbrev pub invariant-loop-op : goal.invariant-loop-op
invariant-loop-op l = (l.table.op ≡ l.root) × Agrees (λ k. false) (λ k. false) l.ctx l.table
