use Rattle.std.proofs.Common.{◌≡◌, suc, ◌+◌, take, arith, refl, sym, ap, subst, ◌∙◌}
use Rattle.std.specs.FinMap.{get}
use Rattle.plir_core.specs.declared.ptr.IRNode.TheVariants.{Operation}
use Rattle.plir_core.specs.ContextView.{IsLive, op_at}
use Rattle.plir_symbols.specs.Reaching.{IsGrown}
use Rattle.plir_symbols.specs.SymbolNames.{names_in}
use Rattle.plir_symbols.proofs.Grown.{IsFoundUnder, grown-none, names-all, names-next}
use Rattle.plir_symbols.proofs.Told.{texts, told-at, told-many}
use Rattle.plir_symbols.proofs.reaching.reach_used.Goals as goal

pub loop-name-init : goal.loop-name-init
loop-name-init g c = grown-none _ _ refl (λ q h. h.1.1)

pub loop-name-preserved : goal.loop-name-preserved
loop-name-preserved g c =
    let s = c.args.ctx.now in
    let names = names_in g.D.SymbolNames.names_used (op_at s c.args.op) in
    let i = c.loop-name.name-index in
    let told = ap texts c.deref-name-items.ensures.value ∙ c.in_ok-names.ensures.names in
    let next : i + 1 ≡ suc i = omega arith in
    subst (λ k. IsGrown (IsFoundUnder (λ q. IsLive s (Operation q)) (get c.args.table.now.names) names (take k names))
    c.args.reached.now c.reach_name.new.reached) (sym next)
    (names-next (λ q. IsLive s (Operation q)) (get c.args.table.now.names) names i _ c.args.reached.now
    c.loop-name.reached c.reach_name.new.reached (told-at c.deref-name-items.result.now names told i _
    (omega arith) c.name-item.is)
    c.loop-name.invariant c.in_ok-reach_name.ensures)

pub returns : goal.returns
returns g c =
    let s = c.args.ctx.now in
    let names = names_in g.D.SymbolNames.names_used (op_at s c.args.op) in
    let many = told-many c.deref-name-items.result.now names
    (ap texts c.deref-name-items.ensures.value ∙ c.in_ok-names.ensures.names) in
    names-all (λ q. IsLive s (Operation q)) (get c.args.table.now.names) names c.loop-name.name-index
    c.args.reached.now c.loop-name.reached (omega (arith, many)) c.loop-name.invariant
