use Rattle.std.proofs.Common.{◌++◌, [], ◌∷◌, Some, ap, option_map, refl, sym, subst, length, ◌∙◌}
use Rattle.std.proofs.lemmas.List.Edits.{insert_end}
use Rattle.std.specs.List.{insert}
use Rattle.plir_core.specs.Contents.{OpView}
use Rattle.plir_core.specs.ContextView.{IsValueLive, operands_in, operands_of}
use Rattle.plir_core.specs.Held.{IsOpEdited}
use Rattle.plir_read_ir.specs.Linking.{IsLinkedAt}
use Rattle.plir_read_ir.specs.Noting.{NameInBody, same_name}
use Rattle.std.proofs.lemmas.Result.{err_from_is_err_and}
use Rattle.plir_read_ir.specs.Linking.{TellsMeaning}
use Rattle.plir_read_ir.proofs.Noted.{meant_passes}
use Rattle.plir_read_ir.proofs.Unmeant.{fails_operand, fails_type, memory_fails}
use Rattle.plir_read_ir.proofs.Shapes.{IsLinkedAt-itself, edited_shape}
use Rattle.plir_read_ir.proofs.linking.link_operand.Goals as goal

pub expect_type-requires : goal.expect_type-requires
expect_type-requires g c =
    meant_passes same_name (IsValueLive c.args.ctx.now) c.args.notes.now.values (c.args.name.0, c.args.name.1.word)
    c.in_ok-value.value c.requires.values
    (sym c.find_value.ensures ∙ c.in_ok-value.ensures.found)

pub push_operand-requires-clause-value_live : goal.push_operand-requires-clause-value_live
push_operand-requires-clause-value_live g c =
    meant_passes same_name (IsValueLive c.args.ctx.now) c.args.notes.now.values (c.args.name.0, c.args.name.1.word)
    c.in_ok-value.value c.requires.values
    (sym c.find_value.ensures ∙ c.in_ok-value.ensures.found)

pub returns-in_err-value-clause-linked : goal.returns-in_err-value-clause-linked
returns-in_err-value-clause-linked g c = IsLinkedAt-itself _ _

pub returns-in_err-expect_type-clause-linked : goal.returns-in_err-expect_type-clause-linked
returns-in_err-expect_type-clause-linked g c = IsLinkedAt-itself _ _

pub returns-in-Ok-clause-linked : goal.returns-in-Ok-clause-linked
returns-in-Ok-clause-linked g c =
    let f : OpView g.row.D-Kind.Denot g.row.D-Attr.Denot → OpView g.row.D-Kind.Denot g.row.D-Attr.Denot =
    λ o. record o { operands = insert o.operands (length (operands_of c.args.ctx.now c.args.op)) c.in_ok-value.value }
    in
    edited_shape c.args.ctx.now c.push_operand.new.ctx c.args.op f c.nodes_are_told_apart.ensures
    c.in-Ok.ensures.pushed
    (subst (λ z. IsOpEdited c.args.ctx.now z c.args.op f) (sym c.in-Ok.ensures.pushed)
    (c.op_edits_keep_the_rest.ensures f)) (λ o. refl) (λ o. refl)

pub returns-in-Err-clause-linked : goal.returns-in-Err-clause-linked
returns-in-Err-clause-linked g c =
    subst (λ z. IsLinkedAt c.args.ctx.now z c.args.op) (sym c.in-Err.ensures.same) (IsLinkedAt-itself _ _)

pub returns-in-Ok-clause-meant : goal.returns-in-Ok-clause-meant
returns-in-Ok-clause-meant g c =
    let v = c.in_ok-value.value in
    let n : NameInBody = (c.args.name.0, c.args.name.1.word) in
    let f : OpView g.row.D-Kind.Denot g.row.D-Attr.Denot → OpView g.row.D-Kind.Denot g.row.D-Attr.Denot =
    λ o. record o { operands = insert o.operands (length (operands_of c.args.ctx.now c.args.op)) v } in
    let edited = subst (λ z. IsOpEdited c.args.ctx.now z c.args.op f) (sym c.in-Ok.ensures.pushed)
    (c.op_edits_keep_the_rest.ensures f) in
    let found = sym c.find_value.ensures ∙ c.in_ok-value.ensures.found in
    λ values labels means_values means_labels live o e. (
      record o { operands = o.operands ++ v ∷ [] },
      edited.held ∙ ap (option_map f) e ∙ ap (λ n. let x : OpView g.row.D-Kind.Denot g.row.D-Attr.Denot =
          record o { operands = insert o.operands n v } in Some x) (ap (λ z. length (operands_in z)) e) ∙
          ap (λ l. let x : OpView g.row.D-Kind.Denot g.row.D-Attr.Denot = record o { operands = l } in Some x)
          (insert_end o.operands v),
      (
        v,
        meant_passes same_name (IsValueLive c.args.ctx.now) c.args.notes.now.values n v c.requires.values found,
        sym (means_values n) ∙ found,
        c.in_ok-expect_type.ensures.same,
        refl,
      ),
    )

pub returns-in_err-value-clause-unmeant : goal.returns-in_err-value-clause-unmeant
returns-in_err-value-clause-unmeant g c =
    let n : NameInBody = (c.args.name.0, c.args.name.1.word) in
    let p = err_from_is_err_and c.from_residual.result c.from_residual.ensures.1 in
    rw (p.1, p.2) (fails_operand c.args.notes.now c.args.ctx.now n c.args.ty.0 c.in_err-value.field-0.0
    (subst (λ m. TellsMeaning m c.in_err-value.field-0.0) c.find_value.ensures c.in_err-value.ensures.none))

pub returns-in_err-expect_type-clause-unmeant : goal.returns-in_err-expect_type-clause-unmeant
returns-in_err-expect_type-clause-unmeant g c =
    let n : NameInBody = (c.args.name.0, c.args.name.1.word) in
    let v = c.in_ok-value.value in
    let found = sym c.find_value.ensures ∙ c.in_ok-value.ensures.found in
    let p = err_from_is_err_and c.from_residual-in_err-expect_type.result
    c.from_residual-in_err-expect_type.ensures.1 in
    rw (p.1, p.2) (fails_type c.args.notes.now c.args.ctx.now n c.args.ty.0 v c.in_err-expect_type.field-0.0
    (meant_passes same_name (IsValueLive c.args.ctx.now) c.args.notes.now.values n v c.requires.values found) found
    c.in_err-expect_type.ensures.other.0 c.in_err-expect_type.ensures.other.1)

pub returns-in-Err-clause-unmeant : goal.returns-in-Err-clause-unmeant
returns-in-Err-clause-unmeant g c = memory_fails c.args.notes.now c.args.ctx.now _ c.in-Err.stop c.in-Err.ensures.memory
