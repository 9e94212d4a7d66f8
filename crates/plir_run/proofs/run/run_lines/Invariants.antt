use Rattle.std.proofs.Common.{false}
use Rattle.plir_builtin.specs.Agree.{AllAgree, AreGivenOut}
use Rattle.plir_run.proofs.run.run_lines.Given as goal

-- the tables agree after each line
abbrev pub invariant-loop : goal.invariant-loop
invariant-loop g l = record {
  agree : AllAgree (λ k. false) (λ k. false) l.script.ctx l.script.tables;
  given : AreGivenOut l.script.ctx l.script.tables;
}
