use Rattle.std.proofs.Math.Logic.Iff
use Rattle.plir_iface.proofs.same_types.SameOperandsType.verify.Goals as goal

pub returns-clause-ok : goal.returns-clause-ok
returns-clause-ok g c =
    Iff.trans c.accept_if.ensures.ok (rw c.get_operation-op.ensures at c.has_same_types-holds.ensures.value)
