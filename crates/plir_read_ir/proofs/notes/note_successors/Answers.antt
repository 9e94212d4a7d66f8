use Rattle.std.proofs.Common.{◌<◌, option_map, length, refl, subst, arith}
use Rattle.std.proofs.lemmas.List.{take_all}
use Rattle.plir_read_ir.specs.Readings.{AddsNoted, noted_successors}
use Rattle.plir_read_ir.specs.Spelling.{words}
use Rattle.plir_read_ir.proofs.Counted.{noted_none, successor_more}
use Rattle.plir_read_ir.proofs.Noted.{adds_none, adds_push}
use Rattle.plir_read_ir.proofs.notes.note_successors.Goals as goal

pub labels-init : goal.labels-init
labels-init c = record { added = adds_none _ _ _; noted = noted_none _ _ }

pub labels-preserved : goal.labels-preserved
labels-preserved c =
    let i = c.labels.invariant in
    let below : c.labels.place < length c.args.labels.now = omega (arith, c.labels-test.true) in
    let e = c.wanted_at-wanted.ensures in
    record {
      added = adds_push _ _ _ _ _ _ i.added c.in_ok-push.ensures.items
          (record { op = refl; place = e.place _ c.labels-test.true });
      noted = successor_more c.args.op (option_map (λ b. b.0) c.args.block) c.args.labels.now c.labels.place _
          c.args.uses.now.items c.labels.uses.items c.push.new.self.items _ below i.noted c.in_ok-push.ensures.items refl
          (e.noted _);
    }

pub returns-clause-noted : goal.returns-clause-noted
returns-clause-noted c =
    subst (λ ws. AddsNoted c.args.op (noted_successors (option_map (λ b. b.0) c.args.block) 0 (words ws))
    c.args.uses.now.items c.labels.uses.items)
    (take_all c.labels.place c.args.labels.now (omega (arith, c.labels-test.false))) c.labels.invariant.noted
