use Rattle.plir_core.specs.ContextView.{operands_of}
use Rattle.std.proofs.Common.{◌≡◌, ◌+◌, arith, ℕ, List, length, take, ◌-◌, ap, subst, sym, ◌∙◌, ◌<◌}
use Rattle.std.specs.Prelude.{remove}
use Rattle.plir_core.specs.declared.value.Value.{Value}
use Rattle.plir_flow.specs.Segments.{segment_at, segments_of, segment_size, sizes_of, start_in, IsResegmented}
use Rattle.plir_flow.proofs.SegmentLists.{edit-same, popped}
use Rattle.plir_flow.proofs.SegmentsPut.{size-is}
use Rattle.plir_flow.proofs.segment_edits.pop_last.Goals as goal

pub returns-clause-after : goal.returns-clause-after
returns-clause-after g c =
    let s = c.args.ctx.now in
    let segs : List (List Value) = segments_of s c.args.op in
    let length_is = c.size_of-size.ensures.value ∙ size-is s c.args.op c.requires.segmented c.args.seg in
    let some = subst (λ (n : ℕ). 0 < n) (sym c.size_of-size.ensures.value) c.requires.filled in
    let same =
    edit-same c.args.seg (λ xs. remove xs (c.size_of-size.result - 1)) (λ xs. take (length xs - 1) xs) segs
    (popped (segment_at segs c.args.seg) c.size_of-size.result length_is some) in
    subst (λ (z : List (List Value)). IsResegmented s c.remove_at.new.ctx c.args.op z) same c.remove_at.ensures.after

pub returns-clause-operands : goal.returns-clause-operands
returns-clause-operands g c =
    let s = c.args.ctx.now in
    let place : start_in (sizes_of s c.args.op) c.args.seg + (c.size_of-size.result - 1) ≡
    start_in (sizes_of s c.args.op) c.args.seg + segment_size s c.args.op c.args.seg - 1 =
    omega (arith, c.size_of-size.ensures.value, c.requires.filled) in
    c.remove_at.ensures.operands ∙ ap (remove (operands_of s c.args.op)) place
