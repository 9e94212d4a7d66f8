use Rattle.std.proofs.Common.{◌∙◌, [], ◌∷◌, length, Some, sym, ap, subst}
use Rattle.std.proofs.lemmas.Result.{err_from_is_err_and}
use Rattle.plir_core.specs.ContextView.{arguments_in}
use Rattle.plir_core.specs.Made.{IsMade}
use Rattle.plir_core.specs.declared.ptr.IRNode.TheVariants.{BasicBlock}
use Rattle.plir_attr_text.specs.laws.TypeSteps.{behind_is}
use Rattle.plir_read.specs.OpReading.{block_head_at}
use Rattle.plir_read.specs.Slots.{AreGivenOut}
use Rattle.plir_read.specs.laws.OpEnds.{block_head_end}
use Rattle.plir_read.specs.laws.Kept.{KeepsBut-itself}
use Rattle.plir_read.specs.laws.OpMade.{arguments_live, block_stands}
use Rattle.plir_read_ir.specs.IrMeaning.{argument_words}
use Rattle.plir_read_ir.specs.Mentions.{arguments_bear, label_bears, values_in}
use Rattle.plir_read_ir.specs.Readings.{AddsValues}
use Rattle.plir_read_ir.specs.Spelling.{words}
use Rattle.plir_read_ir.proofs.NotedParts.{noted_arguments, noted_label}
use Rattle.plir_read_ir.proofs.IrSteps.{stops_of, stops_refused}
use Rattle.plir_read_ir.proofs.Says.{noted_as, noted_on}
use Rattle.plir_read_ir.proofs.Lefts.{head_counts, head_shorter}
use Rattle.plir_read_ir.proofs.Noted.{notes_block}
use Rattle.plir_read_ir.proofs.Steps.{reading_kept, reading_made, reading_typed}
use Rattle.plir_read_ir.proofs.ops.read_block_front.Goals as goal

pub make_block-requires : goal.make_block-requires
make_block-requires g c =
    let y = c.in_ok-front.ensures.read in
    arguments_live _ _ y.0.0 y.2.0.head

pub bear_arguments-requires-clause-as_many : goal.bear_arguments-requires-clause-as_many
bear_arguments-requires-clause-as_many g c =
    let y = c.in_ok-front.ensures.read in
    ap length c.as_slice.ensures.value ∙ head_counts _ c.in_ok-front.front y.0.0 y.2.0 ∙
    ap (λ o. length (arguments_in o)) (sym c.in_ok-block.ensures.made.held)

pub returns-in_err-front-clause-kept : goal.returns-in_err-front-clause-kept
returns-in_err-front-clause-kept g c =
    let k = c.in_err-front.ensures.kept in
    reading_typed _ _ _ k.rest k.grown k.named

pub returns-in_err-block-clause-kept : goal.returns-in_err-block-clause-kept
returns-in_err-block-clause-kept g c =
    let k = c.in_ok-front.ensures.kept in
    reading_kept _ _ c.read_spelled_head-read.new.ctx _ (reading_typed _ _ _ k.rest k.grown k.named)
    c.in_err-block.ensures.kept c.in_err-block.ensures.types

pub returns-in_err-bear_label-clause-kept : goal.returns-in_err-bear_label-clause-kept
returns-in_err-bear_label-clause-kept g c =
    let k = c.in_ok-front.ensures.kept in
    let m = c.in_ok-block.ensures.made in
    reading_made _ _ c.read_spelled_head-read.new.ctx _ _ (reading_typed _ _ _ k.rest k.grown k.named) m.made m.types

pub returns-in_err-bear_arguments-clause-kept : goal.returns-in_err-bear_arguments-clause-kept
returns-in_err-bear_arguments-clause-kept g c =
    let k = c.in_ok-front.ensures.kept in
    let m = c.in_ok-block.ensures.made in
    reading_made _ _ c.read_spelled_head-read.new.ctx _ _ (reading_typed _ _ _ k.rest k.grown k.named) m.made m.types

pub returns-clause-kept : goal.returns-clause-kept
returns-clause-kept g c =
    let k = c.in_ok-front.ensures.kept in
    let m = c.in_ok-block.ensures.made in
    reading_made _ _ c.read_spelled_head-read.new.ctx _ _ (reading_typed _ _ _ k.rest k.grown k.named) m.made m.types

pub returns-clause-read : goal.returns-clause-read
returns-clause-read g c =
    let h = c.in_ok-front.ensures.read in
    let k = c.in_ok-front.ensures.kept in
    let o = c.in_ok-block.ensures in
    record {
      made = subst (λ z. IsMade z c.make_block.new.ctx.nodes (BasicBlock c.in_ok-block.block)) k.rest o.made.made;
      slots = subst (λ z. AreGivenOut z (BasicBlock c.in_ok-block.block ∷ []) c.make_block.new.ctx.nodes) k.rest o.slots;
      empty = o.made.empty;
      behind = block_head_end c.args.levels _ h.0.0 _ (behind_is _ h.0 c.in_ok-front.rest.now h.1 h.2.1);
    }

pub returns-clause-shorter : goal.returns-clause-shorter
returns-clause-shorter g c =
    let h = c.in_ok-front.ensures.read in
    head_shorter c.args.levels c.args.bytes.now h.0.0 c.in_ok-front.rest.now
    (behind_is _ h.0 c.in_ok-front.rest.now h.1 h.2.1)

pub returns-clause-noted : goal.returns-clause-noted
returns-clause-noted g c =
    let k = c.in_ok-front.ensures.kept in
    let m = c.in_ok-block.ensures.made in
    let r = reading_made c.args.bytes.now c.args.ctx.now c.read_spelled_head-read.new.ctx c.make_block.new.ctx
    (BasicBlock c.in_ok-block.block) (reading_typed _ _ _ k.rest k.grown k.named) m.made m.types in
    let l = c.in_ok-bear_label.ensures in
    let a = c.in_ok-bear_arguments.ensures in
    notes_block c.args.ctx.now c.make_block.new.ctx c.args.notes.now c.bear_label.new.self c.bear_arguments.new.self
    (c.args.region, c.in_ok-front.front.label.word) c.in_ok-block.block r.kept.keeps m.made.root l.borne l.values l.uses
    a.borne a.labels a.uses

pub returns-clause-stands : goal.returns-clause-stands
returns-clause-stands g c =
    let h = c.in_ok-front.ensures.read in
    let k = c.in_ok-front.ensures.kept in
    let l = c.in_ok-bear_label.ensures in
    let a = c.in_ok-bear_arguments.ensures in
    let block = c.in_ok-block.block in
    let label = noted_label c.args.ctx.now c.make_block.new.ctx c.args.notes.now c.bear_label.new.self
    (c.args.region, c.in_ok-front.front.label.word) block l.borne l.values l.uses in
    let arguments = noted_arguments c.args.ctx.now c.make_block.new.ctx c.bear_label.new.self c.bear_arguments.new.self c.args.body block
    (argument_words h.0.0.1)
    (subst (λ z. AddsValues c.bear_label.new.self.values c.bear_arguments.new.self.values
    (values_in (arguments_bear c.args.body (BasicBlock block) z))) (ap words c.as_slice.ensures.value ∙ h.2.0.spelled)
    a.says) a.labels a.uses in
    record {
      head = h.0.0;
      read = behind_is _ h.0 c.in_ok-front.rest.now h.1 h.2.1;
      stands = block_stands c.args.ctx.now c.read_spelled_head-read.new.ctx c.make_block.new.ctx c.make_block.new.ctx
          block c.in_ok-front.front.head k.rest k.grown c.in_ok-block.ensures.made h.0.0 h.2.0.head
          (KeepsBut-itself _ _);
      noted = noted_on c.args.ctx.now c.make_block.new.ctx c.args.notes.now c.bear_label.new.self c.bear_arguments.new.self _ _
          (noted_as c.args.ctx.now c.make_block.new.ctx c.args.notes.now c.bear_label.new.self _ _
          (ap (λ z. label_bears (Some c.args.region) (BasicBlock block) z) h.2.0.label) label) arguments;
    }

pub returns-in_err-front-clause-met : goal.returns-in_err-front-clause-met
returns-in_err-front-clause-met g c =
    let p = err_from_is_err_and c.from_residual.result c.from_residual.ensures.1 in
    rw (p.1, p.2) (stops_of ⊥ c.in_err-front.field-0.0 (block_head_at c.args.levels c.args.bytes.now)
    c.in_err-front.ensures.read)

pub returns-in_err-block-clause-met : goal.returns-in_err-block-clause-met
returns-in_err-block-clause-met g c =
    let p = err_from_is_err_and c.from_residual-in_err-block.result c.from_residual-in_err-block.ensures.1 in
    rw (p.1, p.2) (stops_refused _ c.in_err-block.field-0.0 _ c.in_err-block.ensures.refused)

pub returns-in_err-bear_label-clause-met : goal.returns-in_err-bear_label-clause-met
returns-in_err-bear_label-clause-met g c =
    let p = err_from_is_err_and c.from_residual-in_err-bear_label.result c.from_residual-in_err-bear_label.ensures.1 in
    rw (p.1, p.2) (stops_refused _ c.in_err-bear_label.field-0.0 _ c.in_err-bear_label.ensures.refused)

pub returns-in_err-bear_arguments-clause-met : goal.returns-in_err-bear_arguments-clause-met
returns-in_err-bear_arguments-clause-met g c =
    let p = err_from_is_err_and c.from_residual-in_err-bear_arguments.result
    c.from_residual-in_err-bear_arguments.ensures.1 in
    rw (p.1, p.2) (stops_refused _ c.in_err-bear_arguments.field-0.0 _ c.in_err-bear_arguments.ensures.refused)

pub returns-clause-met : goal.returns-clause-met
returns-clause-met g c =
    let h = c.in_ok-front.ensures.read in
    (h.0.0, behind_is _ h.0 c.in_ok-front.rest.now h.1 h.2.1)
