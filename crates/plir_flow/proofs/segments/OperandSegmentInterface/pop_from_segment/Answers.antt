use Rattle.std.proofs.Common.{length, take, ◌-◌}
use Rattle.plir_flow.proofs.SegmentsPut.{rule-after}
use Rattle.plir_flow.proofs.segments.OperandSegmentInterface.pop_from_segment.Goals as goal

pub returns-clause-rule : goal.returns-clause-rule
returns-clause-rule g c =
    search (rule-after c.args.ctx.now (g.Self.Op.pointer c.args.self.now)
    (g.Self.OperandSegmentInterface.expected c.args.self.now)
    (g.met.Self.OperandSegmentInterface.expected_kept c.args.self.now) c.requires.live c.requires.rule c.args.seg
    (λ xs. take (length xs - 1) xs))
