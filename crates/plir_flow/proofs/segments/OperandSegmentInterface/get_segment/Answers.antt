use Rattle.std.proofs.Common.{◌≡◌, ◌+◌, List, IfOk, sym, ap, subst, ◌∙◌}
use Rattle.std.specs.Prelude.{slice_range}
use Rattle.plir_core.specs.declared.value.Value.{Value}
use Rattle.plir_core.specs.ContextView.{operands_of}
use Rattle.plir_flow.specs.Segments.{start_in, sizes_of, segment_size}
use Rattle.plir_flow.proofs.SegmentLists.{segment-range}
use Rattle.plir_flow.proofs.segments.OperandSegmentInterface.get_segment.Goals as goal

pub returns-clause-value : goal.returns-clause-value
returns-clause-value g c =
    let s = c.args.ctx.now in
    let op = c.get_operation-op.result in
    let here = ap (slice_range (operands_of s op) c.range_of.result.start) c.range_of.ensures.end
    ∙ ap (λ a. slice_range (operands_of s op) a (start_in (sizes_of s op) c.args.seg + segment_size s op c.args.seg))
    c.range_of.ensures.start
    ∙ sym (segment-range (sizes_of s op) c.args.seg (operands_of s op)) in
    rw c.get_operation-op.ensures at (subst (λ (z : List Value). IfOk c.operands_in.result (λ vs. vs.items ≡ z)) here
    c.operands_in.ensures.value)
