use Rattle.std.proofs.Common.{take}
use Rattle.plir_read_ir.specs.Noting.{AddsUses}
use Rattle.plir_read_ir.specs.Readings.{AddsNoted, noted_operands}
use Rattle.plir_read_ir.specs.Spelling.{words}
use Rattle.plir_read_ir.proofs.notes.note_operands.Given as goal

abbrev pub invariant-names : goal.invariant-names
invariant-names l =
    record {
      added : AddsUses l.op 0 l.initial.uses.items l.uses.items;
      noted : AddsNoted l.op (noted_operands l.body (words (take l.place l.names)) (take l.place l.types))
          l.initial.uses.items l.uses.items;
    }
