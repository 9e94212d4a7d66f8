use Rattle.std.proofs.Common.{◌∙◌, ◌<◌, length, refl, ap, subst, take, arith}
use Rattle.std.proofs.lemmas.List.{take_all}
use Rattle.plir_read_ir.specs.Readings.{AddsNoted, noted_operands}
use Rattle.plir_read_ir.specs.Spelling.{words}
use Rattle.plir_read_ir.proofs.Counted.{noted_none, operand_more}
use Rattle.plir_read_ir.proofs.Noted.{adds_none, adds_push}
use Rattle.plir_read_ir.proofs.notes.note_operands.Goals as goal

pub names-init : goal.names-init
names-init c = record { added = adds_none _ _ _; noted = noted_none _ _ }

pub names-preserved : goal.names-preserved
names-preserved c =
    let i = c.names.invariant in
    let below : c.names.place < length c.args.names.now = omega (arith, c.names-test.true) in
    record {
      added = adds_push _ _ _ _ _ _ i.added c.in_ok-push.ensures.items (record { op = refl; place = tt });
      noted = operand_more c.args.op c.args.body c.args.names.now c.args.types.now c.names.place _ _ c.index.result c.args.uses.now.items
          c.names.uses.items c.push.new.self.items _ below c.requires i.noted c.in_ok-push.ensures.items refl refl
          (c.index.ensures ∙ c.index-types-place.is);
    }

pub returns-clause-noted : goal.returns-clause-noted
returns-clause-noted c =
    subst (λ l. AddsNoted c.args.op l c.args.uses.now.items c.names.uses.items)
    (ap (λ ws. noted_operands c.args.body (words ws) (take c.names.place c.args.types.now))
    (take_all c.names.place c.args.names.now (omega (arith, c.names-test.false))) ∙
    ap (noted_operands c.args.body (words c.args.names.now))
    (take_all c.names.place c.args.types.now (omega (arith, c.names-test.false, c.requires)))) c.names.invariant.noted
