use Rattle.std.proofs.Common.{List, [], ◌∷◌, ◌++◌, subst, ◌∙◌}
use Rattle.std.specs.Prelude.{insert}
use Rattle.plir_core.specs.declared.value.Value.{Value}
use Rattle.plir_flow.specs.Segments.{segment_at, segments_of, IsResegmented}
use Rattle.plir_flow.proofs.SegmentLists.{edit-same, pushed}
use Rattle.plir_flow.proofs.SegmentsPut.{size-is}
use Rattle.plir_flow.proofs.segment_edits.push_last.Goals as goal

pub returns-clause-ok : goal.returns-clause-ok
returns-clause-ok g c =
    let s = c.args.ctx.now in
    let segs : List (List Value) = segments_of s c.args.op in
    let length_is = c.size_of-size.ensures.value ∙ size-is s c.args.op c.requires.segmented c.args.seg in
    let same =
    edit-same c.args.seg (λ xs. insert xs c.size_of-size.result c.args.operand) (λ xs. xs ++ c.args.operand ∷ [])
    segs (pushed (segment_at segs c.args.seg) c.size_of-size.result c.args.operand length_is) in
    subst (λ (z : List (List Value)). IsResegmented s c.insert_at.new.ctx c.args.op z) same c.in_ok-insert_at.ensures.ok
