use Rattle.std.proofs.Common.{length, option_map, take}
use Rattle.plir_read_ir.specs.Noting.{AddsUses, places}
use Rattle.plir_read_ir.specs.Readings.{AddsNoted, noted_successors}
use Rattle.plir_read_ir.specs.Spelling.{words}
use Rattle.plir_read_ir.proofs.notes.note_successors.Given as goal

abbrev pub invariant-labels : goal.invariant-labels
invariant-labels l =
    record {
      added : AddsUses l.op (places l.block (length l.labels)) l.initial.uses.items l.uses.items;
      noted : AddsNoted l.op (noted_successors (option_map (λ b. b.0) l.block) 0 (words (take l.place l.labels)))
          l.initial.uses.items l.uses.items;
    }
