use Rattle.std.proofs.Common.{◌≡◌, ◌∙◌, ◌++◌, [], ◌∷◌, length, false, Some, option_map, sym, ap, subst}
use Rattle.std.specs.Prelude.{All}
use Rattle.std.proofs.lemmas.List.{length-map}
use Rattle.std.proofs.lemmas.Result.{err_from_is_err_and}
use Rattle.plir_core.specs.ContextView.{IsLive, results_in, successors_in}
use Rattle.plir_core.specs.Made.{IsMade}
use Rattle.plir_core.specs.Nodes.{is_node_live}
use Rattle.plir_core.specs.declared.ptr.IRNode.TheVariants.{Operation, BasicBlock}
use Rattle.plir_attr_text.specs.Meaning.{IsDictMeant}
use Rattle.plir_attr_text.specs.Names.{NamesAll}
use Rattle.plir_attr_text.specs.laws.Meanings.{IsDictMeant-live}
use Rattle.plir_attr_text.specs.laws.TypeSteps.{behind_is}
use Rattle.plir_read.specs.Slots.{AreGivenOut}
use Rattle.plir_read_own.specs.laws.TypeLists.{as_many}
use Rattle.plir_read_ir.specs.IrReading.{parts_at}
use Rattle.plir_read_ir.specs.Mentions.{results_bear, values_in}
use Rattle.plir_read_ir.specs.OwnOps.{own_op, times}
use Rattle.plir_read_ir.specs.Readings.{AddsNoted, AddsValues, noted_operands, noted_successors, place_in, scope_of}
use Rattle.plir_read_ir.specs.Spelling.{word_of, words}
use Rattle.plir_read_ir.proofs.Fronts.{own_front_reads}
use Rattle.plir_read_ir.proofs.NotedParts.{as_many_blocks}
use Rattle.plir_read_ir.proofs.IrSteps.{Stops, stops_of, stops_refused}
use Rattle.plir_read_ir.proofs.Lefts.{all_live, stand_ins_live}
use Rattle.plir_read_ir.proofs.Noted.{as_many_places, block_still, holds_kept, notes_own}
use Rattle.plir_read_ir.proofs.Parts.{parts_read}
use Rattle.plir_read_ir.proofs.Steps.{reading_kept, reading_made, reading_typed}
use Rattle.plir_read_ir.proofs.ops.read_own_front.Goals as goal

pub make_own-requires-clause-results_live : goal.make_own-requires-clause-results_live
make_own-requires-clause-results_live g c =
    let y = c.in_ok-parts.ensures.read in
    all_live _ _ y.0.0.1.1.result_types y.2.0.typed.types_are.result_types

pub make_own-requires-clause-successors_live : goal.make_own-requires-clause-successors_live
make_own-requires-clause-successors_live g c =
    let s = c.read_own_parts-read.new.ctx in
    let k = c.in_ok-parts.ensures.kept in
    let r = reading_typed c.args.bytes.now c.args.ctx.now s k.rest k.grown k.named in
    subst (All (λ b. IsLive s (BasicBlock b)))
    (sym (c.in_ok-successors.ensures.value ∙ ap (λ b. times b c.len-2.result) c.block_of.ensures))
    (stand_ins_live s c.args.at.block c.len-2.result
    (block_still c.args.ctx.now s (holds_kept c.args.ctx.now s r.kept.keeps) c.args.at.block c.requires.at_live))

pub make_own-requires-clause-entries_live : goal.make_own-requires-clause-entries_live
make_own-requires-clause-entries_live g c =
    let y = c.in_ok-parts.ensures.read in
    IsDictMeant-live _ _ y.0.0.1.0 _ y.2.0.typed.attributes_are

pub bear_results-requires-clause-as_many : goal.bear_results-requires-clause-as_many
bear_results-requires-clause-as_many g c =
    let y = c.in_ok-parts.ensures.read in
    let r = parts_read c.args.levels c.len.result c.args.bytes.now c.in_ok-parts.behind.now y.0.0
    (behind_is _ y.0 c.in_ok-parts.behind.now y.1 y.2.1) in
    ap length c.as_slice.ensures.value ∙ sym (c.len.ensures ∙ c.args.names.spelled.ok.0) ∙ sym r.results ∙
    as_many _ _ y.0.0.1.1.result_types y.2.0.typed.types_are.result_types ∙
    ap (λ o. length (results_in o)) (sym c.in_ok-op.ensures.made.held)

pub note_uses-requires : goal.note_uses-requires
note_uses-requires g c =
    let y = c.in_ok-parts.ensures.read in
    let r = parts_read c.args.levels c.len.result c.args.bytes.now c.in_ok-parts.behind.now y.0.0
    (behind_is _ y.0 c.in_ok-parts.behind.now y.1 y.2.1) in
    ap length c.as_slice-2.ensures.value ∙
    sym (as_many _ _ y.0.0.1.1.operand_types y.2.0.typed.types_are.operand_types) ∙ sym r.operands ∙
    sym (ap (λ u. length u.operands) y.2.0.uses_are) ∙ length-map c.in_ok-parts.parts.uses.operands.items word_of

pub returns-in_err-parts-clause-kept : goal.returns-in_err-parts-clause-kept
returns-in_err-parts-clause-kept g c =
    let k = c.in_err-parts.ensures.kept in
    reading_typed _ _ _ k.rest k.grown k.named

pub returns-in_err-successors-clause-kept : goal.returns-in_err-successors-clause-kept
returns-in_err-successors-clause-kept g c =
    let k = c.in_ok-parts.ensures.kept in
    reading_typed _ _ _ k.rest k.grown k.named

pub returns-in_err-op-clause-kept : goal.returns-in_err-op-clause-kept
returns-in_err-op-clause-kept g c =
    let k = c.in_ok-parts.ensures.kept in
    reading_kept _ _ c.read_own_parts-read.new.ctx _ (reading_typed _ _ _ k.rest k.grown k.named)
    c.in_err-op.ensures.kept c.in_err-op.ensures.types

pub returns-in_err-bear_results-clause-kept : goal.returns-in_err-bear_results-clause-kept
returns-in_err-bear_results-clause-kept g c =
    let k = c.in_ok-parts.ensures.kept in
    let m = c.in_ok-op.ensures.made in
    reading_made _ _ c.read_own_parts-read.new.ctx _ _ (reading_typed _ _ _ k.rest k.grown k.named) m.made m.types

pub returns-in_err-note_uses-clause-kept : goal.returns-in_err-note_uses-clause-kept
returns-in_err-note_uses-clause-kept g c =
    let k = c.in_ok-parts.ensures.kept in
    let m = c.in_ok-op.ensures.made in
    reading_made _ _ c.read_own_parts-read.new.ctx _ _ (reading_typed _ _ _ k.rest k.grown k.named) m.made m.types

pub returns-clause-kept : goal.returns-clause-kept
returns-clause-kept g c =
    let k = c.in_ok-parts.ensures.kept in
    let m = c.in_ok-op.ensures.made in
    reading_made _ _ c.read_own_parts-read.new.ctx _ _ (reading_typed _ _ _ k.rest k.grown k.named) m.made m.types

pub returns-clause-read : goal.returns-clause-read
returns-clause-read g c =
    let y = c.in_ok-parts.ensures.read in
    let k = c.in_ok-parts.ensures.kept in
    let o = c.in_ok-op.ensures in
    let r = parts_read c.args.levels c.len.result c.args.bytes.now c.in_ok-parts.behind.now y.0.0
    (behind_is _ y.0 c.in_ok-parts.behind.now y.1 y.2.1) in
    record {
      made = subst (λ z. IsMade z c.make_own.new.ctx.nodes (Operation c.in_ok-op.op)) k.rest o.made.made;
      slots = subst (λ z. AreGivenOut z (Operation c.in_ok-op.op ∷ [])
          c.make_own.new.ctx.nodes) k.rest o.slots;
      empty = o.made.empty;
      behind = r.behind;
    }

pub returns-clause-noted : goal.returns-clause-noted
returns-clause-noted g c =
    let k = c.in_ok-parts.ensures.kept in
    let m = c.in_ok-op.ensures.made in
    let r = reading_made c.args.bytes.now c.args.ctx.now c.read_own_parts-read.new.ctx c.make_own.new.ctx
    (Operation c.in_ok-op.op) (reading_typed _ _ _ k.rest k.grown k.named) m.made m.types in
    let b = c.in_ok-bear_results.ensures in
    let u = c.in_ok-note_uses.ensures in
    let n = length c.in_ok-parts.parts.uses.successors.items in
    notes_own c.args.ctx.now c.make_own.new.ctx c.args.notes.now c.bear_results.new.self c.note_uses.new.self
    c.in_ok-op.op _ r.kept.keeps
    (subst (λ z. is_node_live z (Operation c.in_ok-op.op) ≡ false) k.rest m.made.new) m.made.root
    (as_many_places c.args.at.block n ∙ ap (λ b. length (times b n)) (sym c.block_of.ensures) ∙
    ap (λ j. length (times c.block_of.result j)) (sym (c.len-2.ensures ∙ c.in_ok-parts.parts.uses.successors.ok.0)) ∙
    sym (ap length c.in_ok-successors.ensures.value) ∙ ap (λ o. length (successors_in o)) (sym m.held))
    b.borne b.labels b.uses u.added u.values u.labels

pub returns-clause-stands : goal.returns-clause-stands
returns-clause-stands g c =
    let y = c.in_ok-parts.ensures.read in
    let k = c.in_ok-parts.ensures.kept in
    let m = c.in_ok-op.ensures.made in
    let b = c.in_ok-bear_results.ensures in
    let u = c.in_ok-note_uses.ensures in
    let held = c.in_ok-parts.parts.uses in
    let types = c.in_ok-parts.parts.typed.signature in
    let region = option_map (λ z. z.0) c.args.at.block in
    let read = behind_is _ y.0 c.in_ok-parts.behind.now y.1 y.2.1 in
    let r = parts_read c.args.levels c.len.result c.args.bytes.now c.in_ok-parts.behind.now y.0.0 read in
    λ ready ws names.
    let count : c.len.result ≡ length ws = c.len.ensures ∙ c.args.names.spelled.ok.0 ∙
    sym (length-map c.args.names.spelled.items word_of) ∙ ap length names.spelled in
    own_front_reads g.D.ReadSet.find_kind g.D.ReadSet.is_isolated c.args.levels ws c.args.bytes.now
    c.in_ok-parts.behind.now c.args.ctx.now c.make_own.new.ctx c.args.notes.now c.bear_results.new.self
    c.note_uses.new.self c.args.kind (scope_of c.args.at) c.in_ok-op.op y.0.0 c.in_ok-parts.parts.typed.attributes
    types.result_types.items types.operand_types.items c.in_ok-successors.successors.items
    (ap (λ n. parts_at c.args.levels n c.args.bytes.now) (sym count) ∙ read) ready
    (subst (λ z. is_node_live z (Operation c.in_ok-op.op) ≡ false) k.rest m.made.new)
    (m.held ∙ ap (λ z. Some (own_op c.args.kind z c.in_ok-parts.parts.typed.attributes types.result_types.items
    c.in_ok-successors.successors.items)) (names.given))
    (ap length c.in_ok-successors.ensures.value ∙
    ap (λ j. length (times c.block_of.result j)) (c.len-2.ensures ∙ held.successors.ok.0) ∙
    ap (λ z. length (times z (length held.successors.items))) c.block_of.ensures ∙
    sym (as_many_places c.args.at.block (length held.successors.items)) ∙
    as_many_blocks c.args.at.block (length held.successors.items) ∙
    ap (place_in region) (sym (length-map held.successors.items word_of) ∙
    ap (λ z. length z.successors) y.2.0.uses_are))
    (r.operands ∙ as_many _ _ y.0.0.1.1.operand_types y.2.0.typed.types_are.operand_types)
    (subst (λ z. IsDictMeant z y.0.0.1.0 c.in_ok-parts.parts.typed.attributes) (sym m.types)
    y.2.0.typed.attributes_are)
    (subst (λ z. NamesAll z types.result_types.items y.0.0.1.1.result_types) (sym m.types)
    y.2.0.typed.types_are.result_types)
    (subst (λ z. NamesAll z types.operand_types.items y.0.0.1.1.operand_types) (sym m.types)
    y.2.0.typed.types_are.operand_types)
    (subst (λ z. AddsValues c.args.notes.now.values c.bear_results.new.self.values
    (values_in (results_bear c.args.at.body (Operation c.in_ok-op.op) z)))
    (ap words c.as_slice.ensures.value ∙ names.spelled) b.says) b.labels b.uses
    (subst (λ z. AddsNoted c.in_ok-op.op z c.bear_results.new.self.uses.items c.note_uses.new.self.uses.items)
    (ap (λ z. noted_operands c.args.at.body (words held.operands.items) z ++
    noted_successors region 0 (words held.successors.items)) c.as_slice-2.ensures.value ∙
    ap (λ z. noted_operands c.args.at.body z.operands types.operand_types.items ++
    noted_successors region 0 z.successors) y.2.0.uses_are) u.noted) u.values u.labels

pub returns-in_err-parts-clause-met : goal.returns-in_err-parts-clause-met
returns-in_err-parts-clause-met g c =
    let p = err_from_is_err_and c.from_residual.result c.from_residual.ensures.1 in
    rw (p.1, p.2) (subst (λ n. Stops c.in_err-parts.field-0.0 (parts_at c.args.levels n c.args.bytes.now))
    (c.len.ensures ∙ c.args.names.spelled.ok.0)
    (stops_of ⊥ c.in_err-parts.field-0.0 (parts_at c.args.levels c.len.result c.args.bytes.now)
    c.in_err-parts.ensures.read))

pub returns-in_err-successors-clause-met : goal.returns-in_err-successors-clause-met
returns-in_err-successors-clause-met g c =
    let p = err_from_is_err_and c.from_residual-in_err-successors.result c.from_residual-in_err-successors.ensures.1 in
    rw (p.1, p.2) (stops_refused _ c.in_err-successors.field-0.0 _ c.in_err-successors.ensures.refused)

pub returns-in_err-op-clause-met : goal.returns-in_err-op-clause-met
returns-in_err-op-clause-met g c =
    let p = err_from_is_err_and c.from_residual-in_err-op.result c.from_residual-in_err-op.ensures.1 in
    rw (p.1, p.2) (stops_refused _ c.in_err-op.field-0.0 _ c.in_err-op.ensures.refused)

pub returns-in_err-bear_results-clause-met : goal.returns-in_err-bear_results-clause-met
returns-in_err-bear_results-clause-met g c =
    let p = err_from_is_err_and c.from_residual-in_err-bear_results.result c.from_residual-in_err-bear_results.ensures.1 in
    rw (p.1, p.2) (stops_refused _ c.in_err-bear_results.field-0.0 _ c.in_err-bear_results.ensures.refused)

pub returns-in_err-note_uses-clause-met : goal.returns-in_err-note_uses-clause-met
returns-in_err-note_uses-clause-met g c =
    let p = err_from_is_err_and c.from_residual-in_err-note_uses.result c.from_residual-in_err-note_uses.ensures.1 in
    rw (p.1, p.2) (stops_refused _ c.in_err-note_uses.field-0.0 _ c.in_err-note_uses.ensures.refused)

pub returns-clause-met : goal.returns-clause-met
returns-clause-met g c =
    let y = c.in_ok-parts.ensures.read in (
      y.0.0,
      ap (λ n. parts_at c.args.levels n c.args.bytes.now) (sym (c.len.ensures ∙ c.args.names.spelled.ok.0)) ∙
          behind_is _ y.0 c.in_ok-parts.behind.now y.1 y.2.1,
    )
