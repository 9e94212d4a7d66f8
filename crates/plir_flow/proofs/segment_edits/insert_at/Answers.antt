use Rattle.std.proofs.Common.{List, [], sym, ap, ◌+◌, ◌∙◌}
use Rattle.std.specs.Prelude.{insert, slice_set, unwrap_or}
use Rattle.plir_core.specs.declared.value.Value.{Value}
use Rattle.plir_core.specs.ContextView.{operands_of}
use Rattle.plir_flow.specs.Segments.{edit_at, segments_of, in_op}
use Rattle.plir_flow.proofs.SegmentsPut.{resegmented, live-kept, sizes-kept, put-together, inserted-values}
use Rattle.plir_flow.proofs.SegmentsPut.{inserted-sizes}
use Rattle.plir_flow.proofs.segment_edits.insert_at.Goals as goal

pub set_size-requires-clause-live : goal.set_size-requires-clause-live
set_size-requires-clause-live g c =
    live-kept c.args.ctx.now c.args.op c.insert_operand.new.ctx _ c.in_ok-insert_operand.ensures.ok
    (c.op_edits_keep_the_rest.ensures
    (λ o. record o { operands = insert o.operands c.place_among-among.result c.args.operand })) c.requires.live

pub returns-clause-ok : goal.returns-clause-ok
returns-clause-ok g c =
    let s = c.args.ctx.now in
    let op = c.args.op in
    let put : List Value → List Value = λ xs. insert xs c.place_among-among.result c.args.operand in
    let segs = edit_at c.args.seg (λ (xs : List Value). insert xs c.args.place c.args.operand) (segments_of s op) in
    let kept =
    sizes-kept s op c.insert_operand.new.ctx put c.in_ok-insert_operand.ensures.ok
    (c.op_edits_keep_the_rest.ensures (λ o. record o { operands = put o.operands })) in
    let values =
    ap (λ n. insert (operands_of s op) n c.args.operand) c.place_among-among.ensures.value
    ∙ inserted-values s op c.requires.segmented c.args.seg c.args.place c.args.operand c.requires.below
    c.requires.within in
    let sizes =
    ap (λ ns. slice_set (unwrap_or ns []) c.args.seg (c.size_of-size.result + 1)) kept
    ∙ inserted-sizes s op c.requires.segmented c.args.seg c.args.place (c.size_of-size.result + 1) c.args.operand
    c.requires.within (ap (λ n. n + 1) c.size_of-size.ensures.value) in
    let is =
    put-together s op c.insert_operand.new.ctx c.set_size.new.ctx put _ segs c.op_edits_join.ensures.join
    c.op_edits_join.ensures.same values sizes c.in_ok-insert_operand.ensures.ok c.set_size.ensures.after in
    resegmented s c.set_size.new.ctx op segs c.requires.live is (c.op_edits_keep_the_rest.ensures (in_op segs))

pub returns-clause-operands : goal.returns-clause-operands
returns-clause-operands g c =
    (returns-clause-ok g c).operands ∙ sym (inserted-values c.args.ctx.now c.args.op c.requires.segmented c.args.seg
    c.args.place c.args.operand c.requires.below c.requires.within)
