use Rattle.std.specs.Prelude.{insert}
use Rattle.std.proofs.lemmas.Result.{on_ok_weaker}
use Rattle.plir_flow.proofs.SegmentsPut.{rule-kept}
use Rattle.plir_flow.proofs.segments.OperandSegmentInterface.insert_into_segment.Goals as goal

pub returns-clause-rule : goal.returns-clause-rule
returns-clause-rule g c =
    on_ok_weaker c.insert_at.result (rule-kept c.args.ctx.now c.insert_at.new.ctx (g.Self.Op.pointer c.args.self.now)
    (g.Self.OperandSegmentInterface.expected c.args.self.now)
    (λ segs. g.met.Self.OperandSegmentInterface.expected_kept c.args.self.now c.args.ctx.now c.insert_at.new.ctx segs
    c.requires.live) c.requires.rule c.args.seg (λ xs. insert xs c.args.place c.args.operand))
    (rw c.get_operation.ensures at c.insert_at.ensures.ok)
