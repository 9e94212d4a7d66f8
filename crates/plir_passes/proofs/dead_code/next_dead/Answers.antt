use Rattle.std.proofs.Common.{true≢false, refl, sym, ◌∙◌}
use Rattle.plir_passes.proofs.Pending.{next-found, next-passed}
use Rattle.plir_passes.proofs.dead_code.next_dead.Goals.{else-is_live-via-then-is_live+else-is_dead}
use Rattle.plir_passes.proofs.dead_code.next_dead.Goals.{else-is_live-via-else-is_live}
use Rattle.plir_passes.proofs.dead_code.next_dead.Goals as goal

pub returns-then-is_dead-clause-next : goal.returns-then-is_dead-clause-next
returns-then-is_dead-clause-next g c =
    next-found g.D.EffectSet.has_effect g.D.OpSet.is_terminator c.args.ctx.now c.args.list.now c.waiting.list
    c.take.new.self c.in-Some.op c.in-Some.ensures.waiting c.waiting.invariant.1 (c.if-is_dead.ensures.answer.0 refl)

pub returns-then-is_dead-clause-unused : goal.returns-then-is_dead-clause-unused
returns-then-is_dead-clause-unused g c = c.if-is_dead.ensures.unused refl

pub waiting-preserved : goal.waiting-preserved
waiting-preserved g c = (
  c.in-Some.ensures.listed ∙ c.waiting.invariant.0,
  next-passed g.D.EffectSet.has_effect g.D.OpSet.is_terminator c.args.ctx.now c.args.list.now c.waiting.list
      c.take.new.self c.in-Some.op c.in-Some.ensures.waiting c.waiting.invariant.1
      (λ d. elim c.else-is_live.branch [
        | else-is_live-via-then-is_live+else-is_dead w ↦
            true≢false (sym (w.is_dead.ensures.answer.1 d) ∙ w.if-is_dead.false)
        | else-is_live-via-else-is_live w ↦ true≢false (sym d.live ∙ sym c.is_live.ensures.value ∙ w.if-is_live.false)
      ]),
)
