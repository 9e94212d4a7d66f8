use Rattle.std.proofs.Common.{◌∙◌}
use Rattle.plir_flow.proofs.SegmentsPut.{size-is}
use Rattle.plir_flow.proofs.segments.OperandSegmentInterface.segment_size.Goals as goal

pub returns-clause-length : goal.returns-clause-length
returns-clause-length g c =
    rw c.get_operation.ensures at c.size_of.ensures.value
    ∙ size-is c.args.ctx.now (g.Self.Op.pointer c.args.self.now) c.requires.rule.segmented c.args.seg
