use Rattle.std.proofs.Common.{inl, inr, refl, sym, ap, ◌∙◌}
use Rattle.std.proofs.lemmas.Result.{err_from_is_err_and}
use Rattle.plir_core.specs.declared.ptr.IRNode.TheVariants.{Operation, BasicBlock}
use Rattle.plir_passes.specs.Legal.{is_kind}
use Rattle.plir_passes.proofs.Converting.{passed-legal, passed-replaced}
use Rattle.plir_passes.proofs.Keeping.{converted-none, converted-one}
use Rattle.plir_passes.proofs.Handing.{beside-kept}
use Rattle.plir_passes.proofs.conversion.convert_op.Goals as goal

pub rewrite-requires-clause-due : goal.rewrite-requires-clause-due
rewrite-requires-clause-due g c =
    ap (is_kind (g.C.Conversion.illegal c.args.conversion.now)) c.kind-kind.ensures.value
    ∙ sym c.if-not-is_illegal.ensures

pub returns-then-not-is_illegal-clause-lawful : goal.returns-then-not-is_illegal-clause-lawful
returns-then-not-is_illegal-clause-lawful g c = c.lawful_changes.ensures.none c.args.ctx.now (BasicBlock c.args.block)

pub returns-then-not-is_illegal-clause-converted : goal.returns-then-not-is_illegal-clause-converted
returns-then-not-is_illegal-clause-converted g c =
    converted-none (g.C.Conversion.illegal c.args.conversion.now) c.args.ctx.now

pub returns-then-not-is_illegal-clause-passed : goal.returns-then-not-is_illegal-clause-passed
returns-then-not-is_illegal-clause-passed g c =
    let s = c.args.ctx.now in
    let illegal = g.C.Conversion.illegal c.args.conversion.now in
    passed-legal illegal s c.args.block c.args.op c.get_next-next.result
    (λ xs ys q. c.get_next-next.ensures.value ∙ c.next_is_behind.ensures (BasicBlock c.args.block) xs ys q)
    (ap (is_kind illegal) c.kind-kind.ensures.value ∙ sym c.if-not-is_illegal.ensures)

pub returns-then-not-is_illegal-clause-handed : goal.returns-then-not-is_illegal-clause-handed
returns-then-not-is_illegal-clause-handed g c = inl (
  ap (is_kind (g.C.Conversion.illegal c.args.conversion.now)) c.kind-kind.ensures.value
      ∙ sym c.if-not-is_illegal.ensures,
  refl,
  refl,
)

pub returns-then-not-is_illegal-clause-beside : goal.returns-then-not-is_illegal-clause-beside
returns-then-not-is_illegal-clause-beside g c = λ a h ne. refl

pub returns-then-not-is_illegal-clause-stands : goal.returns-then-not-is_illegal-clause-stands
returns-then-not-is_illegal-clause-stands g c =
    c.lawful_changes.ensures.forest c.args.ctx.now c.get_next-next.ensures.whole

pub returns-in_err-rewrite-clause-lawful : goal.returns-in_err-rewrite-clause-lawful
returns-in_err-rewrite-clause-lawful g c = c.in_err-rewrite.ensures.rewriting.lawful

pub returns-in_err-rewrite-clause-converted : goal.returns-in_err-rewrite-clause-converted
returns-in_err-rewrite-clause-converted g c =
    let illegal = g.C.Conversion.illegal c.args.conversion.now in
    let due = ap (is_kind illegal) c.kind-kind.ensures.value ∙ sym c.if-not-is_illegal.ensures in
    converted-one illegal c.args.ctx.now c.rewrite.new.ctx c.args.block c.args.op due c.in_err-rewrite.ensures.rewriting

pub returns-clause-lawful : goal.returns-clause-lawful
returns-clause-lawful g c = c.in_ok-rewrite.ensures.rewriting.lawful

pub returns-clause-converted : goal.returns-clause-converted
returns-clause-converted g c =
    let illegal = g.C.Conversion.illegal c.args.conversion.now in
    let due = ap (is_kind illegal) c.kind-kind.ensures.value ∙ sym c.if-not-is_illegal.ensures in
    converted-one illegal c.args.ctx.now c.rewrite.new.ctx c.args.block c.args.op due c.in_ok-rewrite.ensures.rewriting

pub returns-clause-passed : goal.returns-clause-passed
returns-clause-passed g c =
    let s = c.args.ctx.now in
    let forest = c.lawful_changes.ensures.forest s c.get_next-next.ensures.whole in
    passed-replaced (g.C.Conversion.illegal c.args.conversion.now) s c.rewrite.new.ctx c.args.block c.args.op
    c.get_next-next.result
    (λ xs ys q. c.get_next-next.ensures.value ∙ c.next_is_behind.ensures (BasicBlock c.args.block) xs ys q)
    forest c.stands-2.ensures.standing.forest
    (forest.parent_live (BasicBlock c.args.block) (Operation c.args.op) c.requires.here)
    c.in_ok-rewrite.ensures.rewriting.legal c.in_ok-rewrite.ensures.done

pub returns-clause-stands : goal.returns-clause-stands
returns-clause-stands g c = c.stands-2.ensures.standing.forest

pub returns-in_err-rewrite-clause-handed : goal.returns-in_err-rewrite-clause-handed
returns-in_err-rewrite-clause-handed g c =
    let p = err_from_is_err_and c.from_residual.result c.from_residual.ensures.1 in
    rw (p.1, p.2) (inr (record {
      here = c.requires.here;
      due = ap (is_kind (g.C.Conversion.illegal c.args.conversion.now)) c.kind-kind.ensures.value
          ∙ sym c.if-not-is_illegal.ensures;
      told = c.in_err-rewrite.ensures.told;
      rewriting = c.in_err-rewrite.ensures.rewriting;
      replaced = tt;
    }))

pub returns-in_err-rewrite-clause-beside : goal.returns-in_err-rewrite-clause-beside
returns-in_err-rewrite-clause-beside g c =
    beside-kept (g.C.Conversion.illegal c.args.conversion.now) c.args.ctx.now c.rewrite.new.ctx c.args.block c.args.op
    c.stands.ensures.standing c.requires.here c.in_err-rewrite.ensures.rewriting

pub returns-clause-handed : goal.returns-clause-handed
returns-clause-handed g c = inr (record {
  here = c.requires.here;
  due = ap (is_kind (g.C.Conversion.illegal c.args.conversion.now)) c.kind-kind.ensures.value
      ∙ sym c.if-not-is_illegal.ensures;
  told = c.in_ok-rewrite.ensures.told;
  rewriting = c.in_ok-rewrite.ensures.rewriting;
  replaced = c.in_ok-rewrite.ensures.done;
})

pub returns-clause-beside : goal.returns-clause-beside
returns-clause-beside g c =
    beside-kept (g.C.Conversion.illegal c.args.conversion.now) c.args.ctx.now c.rewrite.new.ctx c.args.block c.args.op
    c.stands.ensures.standing c.requires.here c.in_ok-rewrite.ensures.rewriting
