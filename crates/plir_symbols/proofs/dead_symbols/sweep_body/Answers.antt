use Rattle.std.proofs.Common.{refl, ◌∙◌}
use Rattle.plir_core.specs.declared.ptr.IRNode.TheVariants.{BasicBlock}
use Rattle.plir_symbols.proofs.Bodies.{body-live}
use Rattle.plir_symbols.proofs.Rounds.{not-true}
use Rattle.plir_symbols.proofs.SweepLoop.{rest, sweeping-start, sweeping-table, sweeping-body, sweeping-live}
use Rattle.plir_symbols.proofs.SweepLoop.{sweeping-here, sweeping-cut, sweeping-more, sweeping-falls, sweeping-end}
use Rattle.plir_symbols.proofs.SweepLoop.{sweeping-goes, sweeping-had}
use Rattle.plir_symbols.proofs.dead_symbols.sweep_body.Goals as goal

pub get_head-at-requires : goal.get_head-at-requires
get_head-at-requires g c =
    body-live c.args.ctx.now c.args.table.now.op (BasicBlock c.args.block) c.stands.ensures.standing c.requires.body

pub symbols-init : goal.symbols-init
symbols-init g c =
    sweeping-start
    (c.erasures_thin.ensures.none c.args.ctx.now c.stands.ensures.standing.forest) c.stands.ensures.standing
    c.requires.table_live c.requires.body (c.get_head-at.ensures.value ∙ c.first_child_is_front.ensures.front)

pub get_next-at-requires : goal.get_next-at-requires
get_next-at-requires g c = sweeping-live c.symbols.invariant c.in-Some.op c.in-Some.is

pub sweep_symbol-erased-requires-clause-table_live : goal.sweep_symbol-erased-requires-clause-table_live
sweep_symbol-erased-requires-clause-table_live g c = sweeping-table c.symbols.invariant

pub sweep_symbol-erased-requires-clause-at_body : goal.sweep_symbol-erased-requires-clause-at_body
sweep_symbol-erased-requires-clause-at_body g c =
    let e = sweeping-body c.symbols.invariant in
    rw e refl

pub sweep_symbol-erased-requires-clause-op_live : goal.sweep_symbol-erased-requires-clause-op_live
sweep_symbol-erased-requires-clause-op_live g c = sweeping-live c.symbols.invariant c.in-Some.op c.in-Some.is

pub sweep_symbol-erased-requires-clause-here : goal.sweep_symbol-erased-requires-clause-here
sweep_symbol-erased-requires-clause-here g c = sweeping-here c.symbols.invariant c.in-Some.op c.in-Some.is

pub sweep_symbol-erased-requires-clause-may_go : goal.sweep_symbol-erased-requires-clause-may_go
sweep_symbol-erased-requires-clause-may_go g c = λ e.
    let r = c.symbols.invariant in
    sweeping-goes r c.in-Some.op c.in-Some.is
    (c.requires.may_go c.in-Some.op (sweeping-had r c.in-Some.op c.in-Some.is) e)

pub symbols-smaller : goal.symbols-smaller
symbols-smaller g c =
    let r = c.symbols.invariant in
    let op = c.in-Some.op in
    let is = c.in-Some.is in
    sweeping-falls r op is (λ e. c.requires.may_go op (sweeping-had r op is) (not-true _ e)) c.erasures_thin.ensures
    c.sweep_symbol-erased.new.ctx c.sweep_symbol-erased.new.table c.sweep_symbol-erased.result c.get_next-at.result
    c.stands-in-Some.ensures.standing
    (c.get_next-at.ensures.value ∙ c.next_is_behind.ensures (BasicBlock c.args.block) r.front (rest r op is).0
    (sweeping-cut r op is))
    c.sweep_symbol-erased.ensures

pub symbols-preserved : goal.symbols-preserved
symbols-preserved g c =
    let r = c.symbols.invariant in
    let op = c.in-Some.op in
    let is = c.in-Some.is in
    sweeping-more r op is (λ e. c.requires.may_go op (sweeping-had r op is) (not-true _ e)) c.erasures_thin.ensures
    c.sweep_symbol-erased.new.ctx c.sweep_symbol-erased.new.table c.sweep_symbol-erased.result c.get_next-at.result
    c.stands-in-Some.ensures.standing
    (c.get_next-at.ensures.value ∙ c.next_is_behind.ensures (BasicBlock c.args.block) r.front (rest r op is).0
    (sweeping-cut r op is))
    c.sweep_symbol-erased.ensures

pub returns : goal.returns
returns g c = sweeping-end c.symbols.invariant c.in_default.is
