use Rattle.std.proofs.Math.Logic.Iff
use Rattle.plir_iface.proofs.blocks.SingleBlockRegionInterface.verify.Goals as goal

pub returns-clause-ok : goal.returns-clause-ok
returns-clause-ok g c =
    Iff.trans c.accept_if.ensures.ok (rw c.get_operation-op.ensures at c.has_single_blocks.ensures.value)
