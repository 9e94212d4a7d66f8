use Rattle.std.proofs.Common.{true≢false, refl, sym, ◌∙◌}
use Rattle.plir_builtin.proofs.Cached.{brought-for, brought-agree, cached-now, ready-for, ready-some, ready-there}
use Rattle.plir_builtin.proofs.collection.SymbolTableCollection.see_to.Goals as goal

pub returns-then-is_ready-clause-ready : goal.returns-then-is_ready-clause-ready
returns-then-is_ready-clause-ready g c = c.is_ready.ensures.0 c.if-is_ready.true

pub returns-then-is_ready-clause-brought : goal.returns-then-is_ready-clause-brought
returns-then-is_ready-clause-brought g c = (
  (λ _. refl),
  (λ none. absurd (ready-there c.args.ctx.now c.args.self.now c.args.op (c.is_ready.ensures.0 c.if-is_ready.true)
      (sym none))),
)

pub returns-then-is_ready-clause-seen : goal.returns-then-is_ready-clause-seen
returns-then-is_ready-clause-seen g c = λ all. (
  cached-now g.D.OpSet.is_symbol g.D.OpSet.is_symbol_table c.args.ctx.now c.args.self.now all c.args.op c.requires
      (ready-some c.args.ctx.now c.args.self.now c.args.op (c.is_ready.ensures.0 c.if-is_ready.true)),
  all,
)

pub returns-clause-ready : goal.returns-clause-ready
returns-clause-ready g c = c.is_ready-2.ensures.0 c.if-not-is_ready.false

pub returns-then-not-is_ready-clause-seen : goal.returns-then-not-is_ready-clause-seen
returns-then-not-is_ready-clause-seen g c = λ all.
    absurd (true≢false (sym (c.is_ready-2.ensures.1
    (ready-for g.D.OpSet.is_symbol g.D.OpSet.is_symbol_table c.args.ctx.now c.bring.new.self c.args.op
    (brought-for g.D.OpSet.is_symbol g.D.OpSet.is_symbol_table c.args.ctx.now c.args.self.now c.args.op c.requires
    c.bring.new.self c.in_ok-bring.ensures.kept c.in_ok-bring.ensures.made all)))
    ∙ c.if-not-is_ready.true))

pub returns-clause-seen : goal.returns-clause-seen
returns-clause-seen g c = λ all. (
  brought-for g.D.OpSet.is_symbol g.D.OpSet.is_symbol_table c.args.ctx.now c.args.self.now c.args.op c.requires
      c.bring.new.self c.in_ok-bring.ensures.kept c.in_ok-bring.ensures.made all,
  brought-agree g.D.OpSet.is_symbol g.D.OpSet.is_symbol_table c.args.ctx.now c.args.self.now c.args.op c.requires
      c.bring.new.self c.in_ok-bring.ensures.kept c.in_ok-bring.ensures.made all,
)
