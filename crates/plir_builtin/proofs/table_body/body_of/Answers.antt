use Rattle.std.proofs.Common.{subst, sym, true≢false, IsSome}
use Rattle.plir_builtin.proofs.table_body.body_of.Goals as goal

pub unreachable-requires : goal.unreachable-requires
unreachable-requires g c = true≢false (sym (subst IsSome (sym c.in-None.ensures.body) c.requires.at_body))
