use Rattle.plir_data.specs.DictSeen.{pairs_view}
use Rattle.plir_verify.proofs.Entries.{IsVerifying}
use Rattle.plir_verify.proofs.holding.verify_attributes.Given as goal

-- the entries that are left come behind valid ones
abbrev pub invariant-entries : goal.invariant-entries
invariant-entries g l = IsVerifying g.D.OpSet l.ctx l.fn.op (pairs_view l.attribute-iterator)
