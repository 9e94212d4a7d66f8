use Rattle.std.proofs.Common.{ap, ◌∙◌}
use Rattle.plir_bench.proofs.symbols.erase_symbol.Goals as goal

pub erase-requires-clause-at_body : goal.erase-requires-clause-at_body
erase-requires-clause-at_body c = c.requires.agrees.good.body

pub returns-clause-of_root : goal.returns-clause-of_root
returns-clause-of_root c = ap (λ u. u.op) c.in_ok-erase.ensures.forgotten.table ∙ c.requires.of_root

pub returns-clause-agrees : goal.returns-clause-agrees
returns-clause-agrees c = c.in_ok-erase.ensures.agrees c.requires.agrees
