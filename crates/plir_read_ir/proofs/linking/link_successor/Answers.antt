use Rattle.std.proofs.Common.{ap, option_map, refl, sym, subst, slice_set, ◌∙◌}
use Rattle.std.proofs.lemmas.List.{length-set}
use Rattle.plir_core.specs.Contents.{OpView}
use Rattle.plir_core.specs.ContextView.{IsLive}
use Rattle.plir_core.specs.Held.{IsOpEdited}
use Rattle.plir_core.specs.declared.ptr.IRNode.TheVariants.{BasicBlock}
use Rattle.plir_read_ir.specs.Noting.{LabelInRegion, same_label}
use Rattle.std.proofs.lemmas.Result.{err_from_is_err_and}
use Rattle.plir_read_ir.specs.Linking.{TellsMeaning}
use Rattle.plir_read_ir.proofs.Noted.{meant_passes}
use Rattle.plir_read_ir.proofs.Unmeant.{fails_successor}
use Rattle.plir_read_ir.proofs.Shapes.{IsLinkedAt-itself, edited_shape}
use Rattle.plir_read_ir.proofs.linking.link_successor.Goals as goal

pub set_successor-requires-clause-block_live : goal.set_successor-requires-clause-block_live
set_successor-requires-clause-block_live g c =
    meant_passes same_label (λ b. IsLive c.args.ctx.now (BasicBlock b)) c.args.notes.now.labels
    (c.args.region, c.args.label.word) c.in_ok-block.block c.requires.labels
    (sym c.find_block.ensures ∙ c.in_ok-block.ensures.found)

pub returns-in_err-block-clause-linked : goal.returns-in_err-block-clause-linked
returns-in_err-block-clause-linked g c = IsLinkedAt-itself _ _

pub returns-clause-linked : goal.returns-clause-linked
returns-clause-linked g c =
    let f : OpView g.row.D-Kind.Denot g.row.D-Attr.Denot → OpView g.row.D-Kind.Denot g.row.D-Attr.Denot =
    λ o. record o { successors = slice_set o.successors c.args.place c.in_ok-block.block } in
    edited_shape c.args.ctx.now c.set_successor.new.ctx c.args.op f c.nodes_are_told_apart.ensures
    c.set_successor.ensures.after
    (subst (λ z. IsOpEdited c.args.ctx.now z c.args.op f) (sym c.set_successor.ensures.after)
    (c.op_edits_keep_the_rest.ensures f)) (λ o. refl)
    (λ o. length-set o.successors c.args.place c.in_ok-block.block)

pub returns-clause-meant : goal.returns-clause-meant
returns-clause-meant g c =
    let b = c.in_ok-block.block in
    let f : OpView g.row.D-Kind.Denot g.row.D-Attr.Denot → OpView g.row.D-Kind.Denot g.row.D-Attr.Denot =
    λ o. record o { successors = slice_set o.successors c.args.place b } in
    let edited = subst (λ z. IsOpEdited c.args.ctx.now z c.args.op f) (sym c.set_successor.ensures.after)
    (c.op_edits_keep_the_rest.ensures f) in
    λ values labels means_values means_labels live o e. (
      record o { successors = slice_set o.successors c.args.place b },
      edited.held ∙ ap (option_map f) e,
      (
        b,
        c.args.region,
        refl,
        sym (means_labels (c.args.region, c.args.label.word)) ∙ (sym c.find_block.ensures ∙ c.in_ok-block.ensures.found),
        refl,
      ),
    )

pub returns-in_err-block-clause-unmeant : goal.returns-in_err-block-clause-unmeant
returns-in_err-block-clause-unmeant g c =
    let l : LabelInRegion = (c.args.region, c.args.label.word) in
    let p = err_from_is_err_and c.from_residual.result c.from_residual.ensures.1 in
    rw (p.1, p.2) (fails_successor c.args.notes.now c.args.ctx.now l c.args.place c.in_err-block.field-0.0
    (subst (λ m. TellsMeaning m c.in_err-block.field-0.0) c.find_block.ensures c.in_err-block.ensures.none))
