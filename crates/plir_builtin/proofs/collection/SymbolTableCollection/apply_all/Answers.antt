use Rattle.std.proofs.Common.{◌∙◌, ◌<◌, ◌+◌, ◌++◌, ◌∷◌, [], arith, ap, sym, subst, take, get_or, length, length-append}
use Rattle.std.proofs.Common.{None}
use Rattle.std.proofs.lemmas.List.{take_more}
use Rattle.plir_builtin.specs.declared.symbol_edits.SymbolEdit.{SymbolEdit}
use Rattle.plir_builtin.specs.declared.symbol_edits.SymbolEdit.TheVariants.{Insert}
use Rattle.plir_builtin.specs.SymbolEdits.{AreEdited}
use Rattle.plir_builtin.proofs.EditLists.{edited-more}
use Rattle.plir_builtin.proofs.collection.SymbolTableCollection.apply_all.Goals as goal

abbrev no_edit : SymbolEdit
no_edit =
    Insert (record { slot = 0; version = 0; kind = record {} }) (record { slot = 0; version = 0; kind = record {} })
    None

pub loop-edit-preserved : goal.loop-edit-preserved
loop-edit-preserved g c =
    let here : c.loop-edit.edit-index < length c.deref-edit-items.result.now = omega arith in
    let more = take_more c.deref-edit-items.result.now c.loop-edit.edit-index no_edit here in
    let put = c.push_reserved.ensures.items in
    record {
      given = λ h. c.apply-reply.ensures.given (c.loop-edit.invariant.given h);
      agree = λ all. (c.apply-reply.ensures.step (c.loop-edit.invariant.agree all)).1;
      edited = λ all.
          subst (λ es. AreEdited g.D.OpSet.is_terminator g.D.OpSet.is_symbol g.D.OpSet.is_symbol_table c.args.ctx.now
          c.args.self.now es c.push_reserved.new.self.items c.apply-reply.new.ctx c.apply-reply.new.self) (sym more)
          (subst (λ rs. AreEdited g.D.OpSet.is_terminator g.D.OpSet.is_symbol g.D.OpSet.is_symbol_table c.args.ctx.now
          c.args.self.now (take c.loop-edit.edit-index c.deref-edit-items.result.now ++
          get_or c.deref-edit-items.result.now c.loop-edit.edit-index no_edit ∷ []) rs c.apply-reply.new.ctx
          c.apply-reply.new.self) (sym put)
          (edited-more g.D.OpSet.is_terminator g.D.OpSet.is_symbol g.D.OpSet.is_symbol_table c.args.ctx.now
          c.loop-edit.ctx c.apply-reply.new.ctx c.args.self.now c.loop-edit.self c.apply-reply.new.self
          (take c.loop-edit.edit-index c.deref-edit-items.result.now) c.loop-edit.replies.items
          (get_or c.deref-edit-items.result.now c.loop-edit.edit-index no_edit) c.apply-reply.result
          (c.loop-edit.invariant.edited all) (c.apply-reply.ensures.step (c.loop-edit.invariant.agree all))));
      count =
          ap length put ∙ length-append c.loop-edit.replies.items (c.apply-reply.result ∷ [])
          ∙ ap (λ n. n + 1) c.loop-edit.invariant.count;
      room = omega (arith, c.push_reserved.ensures.capacity, c.loop-edit.invariant.room);
    }
