use Rattle.std.proofs.Common.{sym}
use Rattle.plir_core.proofs.Rest.{absent_edit}
use Rattle.plir_core.proofs.uses.replacing.replace_in_slot.Goals as goal

pub returns-then-not-is_operand_in_slot : goal.returns-then-not-is_operand_in_slot
returns-then-not-is_operand_in_slot g c =
    record {
      after = sym (absent_edit c.args.ctx.now c.args.value c.args.other c.args.slot
          (λ o. let t = c.is_operand_in_slot.ensures.1 o in let f : ⊥ = cc in f));
    }
