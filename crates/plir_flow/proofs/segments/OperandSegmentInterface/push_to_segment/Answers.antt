use Rattle.std.proofs.Common.{[], ◌∷◌, ◌++◌}
use Rattle.std.proofs.lemmas.Result.{on_ok_weaker}
use Rattle.plir_flow.proofs.SegmentsPut.{rule-kept}
use Rattle.plir_flow.proofs.segments.OperandSegmentInterface.push_to_segment.Goals as goal

pub returns-clause-rule : goal.returns-clause-rule
returns-clause-rule g c =
    on_ok_weaker c.push_last.result (rule-kept c.args.ctx.now c.push_last.new.ctx (g.Self.Op.pointer c.args.self.now)
    (g.Self.OperandSegmentInterface.expected c.args.self.now)
    (λ segs. g.met.Self.OperandSegmentInterface.expected_kept c.args.self.now c.args.ctx.now c.push_last.new.ctx segs
    c.requires.live) c.requires.rule c.args.seg (λ xs. xs ++ c.args.operand ∷ []))
    (rw c.get_operation.ensures at c.push_last.ensures.ok)
