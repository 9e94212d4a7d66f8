use Rattle.std.proofs.Common.{List, [], sym, ap, ◌-◌, ◌∙◌}
use Rattle.std.specs.Prelude.{remove, slice_get, slice_set, unwrap_or}
use Rattle.plir_core.specs.declared.value.Value.{Value}
use Rattle.plir_core.specs.ContextView.{operands_of}
use Rattle.plir_flow.specs.Segments.{edit_at, segments_of, in_op}
use Rattle.plir_flow.proofs.SegmentsPut.{resegmented, live-kept, sizes-kept, put-together, removed-values}
use Rattle.plir_flow.proofs.SegmentsPut.{removed-sizes, value-is}
use Rattle.plir_flow.proofs.segment_edits.remove_at.Goals as goal

pub set_size-requires-clause-live : goal.set_size-requires-clause-live
set_size-requires-clause-live g c =
    live-kept c.args.ctx.now c.args.op c.remove_operand-operand.new.ctx _ c.remove_operand-operand.ensures.after
    (c.op_edits_keep_the_rest.ensures (λ o. record o { operands = remove o.operands c.place_among-among.result }))
    c.requires.live

pub returns-clause-value : goal.returns-clause-value
returns-clause-value g c =
    sym (value-is c.args.ctx.now c.args.op c.requires.segmented c.args.seg c.args.place c.requires.below
    c.requires.within)
    ∙ ap (slice_get (operands_of c.args.ctx.now c.args.op)) (sym c.place_among-among.ensures.value)
    ∙ c.remove_operand-operand.ensures.value

pub returns-clause-after : goal.returns-clause-after
returns-clause-after g c =
    let s = c.args.ctx.now in
    let op = c.args.op in
    let take_out : List Value → List Value = λ xs. remove xs c.place_among-among.result in
    let segs = edit_at c.args.seg (λ (xs : List Value). remove xs c.args.place) (segments_of s op) in
    let kept =
    sizes-kept s op c.remove_operand-operand.new.ctx take_out c.remove_operand-operand.ensures.after
    (c.op_edits_keep_the_rest.ensures (λ o. record o { operands = take_out o.operands })) in
    let values =
    ap (remove (operands_of s op)) c.place_among-among.ensures.value
    ∙ removed-values s op c.requires.segmented c.args.seg c.args.place c.requires.below c.requires.within in
    let sizes =
    ap (λ ns. slice_set (unwrap_or ns []) c.args.seg (c.size_of-size.result - 1)) kept
    ∙ removed-sizes s op c.requires.segmented c.args.seg c.args.place (c.size_of-size.result - 1) c.requires.within
    (ap (λ n. n - 1) c.size_of-size.ensures.value) in
    let is =
    put-together s op c.remove_operand-operand.new.ctx c.set_size.new.ctx take_out _ segs
    c.op_edits_join.ensures.join c.op_edits_join.ensures.same values sizes c.remove_operand-operand.ensures.after
    c.set_size.ensures.after in
    resegmented s c.set_size.new.ctx op segs c.requires.live is (c.op_edits_keep_the_rest.ensures (in_op segs))

pub returns-clause-operands : goal.returns-clause-operands
returns-clause-operands g c =
    (returns-clause-after g c).operands ∙ sym (removed-values c.args.ctx.now c.args.op c.requires.segmented c.args.seg
    c.args.place c.requires.below c.requires.within)
