use Rattle.std.proofs.Common.{length, option_map, subst}
use Rattle.plir_read_ir.specs.Noting.{AddsUses, places}
use Rattle.plir_read_ir.specs.Readings.{AddsNoted, noted_operands, noted_successors}
use Rattle.plir_read_ir.specs.Spelling.{words}
use Rattle.plir_read_ir.proofs.Counted.{noted_both}
use Rattle.plir_read_ir.proofs.Noted.{adds_on}
use Rattle.plir_read_ir.proofs.notes.Notes.note_uses.Goals as goal

pub returns-clause-added : goal.returns-clause-added
returns-clause-added c =
    adds_on c.args.op (places c.args.at.block (length c.args.uses.now.successors.items)) _ _ _
    c.in_ok-note_operands.ensures.added
    (subst (λ z. AddsUses c.args.op (places c.args.at.block (length z)) c.note_operands.new.uses.items
    c.note_successors.new.uses.items) c.as_slice-2.ensures.value c.in_ok-note_successors.ensures.added)

pub returns-clause-noted : goal.returns-clause-noted
returns-clause-noted c =
    noted_both c.args.op _ _ _ _ _
    (subst (λ z. AddsNoted c.args.op (noted_operands c.args.at.body (words z) c.args.types.now) c.args.self.now.uses.items
    c.note_operands.new.uses.items) c.as_slice.ensures.value c.in_ok-note_operands.ensures.noted)
    (subst (λ z. AddsNoted c.args.op (noted_successors (option_map (λ b. b.0) c.args.at.block) 0 (words z))
    c.note_operands.new.uses.items c.note_successors.new.uses.items) c.as_slice-2.ensures.value
    c.in_ok-note_successors.ensures.noted)
