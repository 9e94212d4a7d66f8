use Rattle.std.proofs.Common.{◌≡◌, suc, ◌+◌, arith, subst}
use Rattle.plir_store.specs.MemberLaws.{Has-at}
use Rattle.plir_core.specs.declared.ptr.IRNode.TheVariants.{BasicBlock}
use Rattle.plir_symbols.proofs.Bodies.{body-live}
use Rattle.plir_symbols.specs.Reaching.{IsGrown, IsTold, ops_of}
use Rattle.plir_symbols.proofs.Searching.{IsSearching, searching-end, searching-fits, searching-kept, searching-next}
use Rattle.plir_symbols.proofs.Searching.{reached-is, searching-start}
use Rattle.plir_symbols.proofs.reaching.reached_symbols.Goals as goal

pub ops-init : goal.ops-init
ops-init g c =
    searching-start g.D.OpSet.is_symbol g.D.OpSet.is_symbol_table g.D.SymbolNames.is_private g.D.SymbolNames.names_used
    c.args.ctx.now c.args.table.now c.args.block c.stands.ensures.standing _ _ _ c.new-reached.ensures.none
    c.new-reached.ensures.whole
    (subst (λ q. IsGrown (IsTold g.D.OpSet.is_symbol_table g.D.SymbolNames.names_used c.args.ctx.now c.args.table.now q)
    c.new-reached.result c.reach_used.new.reached) c.get_operation.ensures c.in_ok-reach_used.ensures)
    c.in_ok-reach_all_kept.ensures.grown

pub reach_all_kept-requires : goal.reach_all_kept-requires
reach_all_kept-requires g c =
    body-live c.args.ctx.now c.args.table.now.op (BasicBlock c.args.block) c.stands.ensures.standing c.requires.body

pub returns-clause-whole : goal.returns-clause-whole
returns-clause-whole g c = c.ops.invariant.whole

pub reach_below-requires : goal.reach_below-requires
reach_below-requires g c =
    c.ops.invariant.live c.at.result (Has-at (ops_of c.ops.reached) c.ops.next c.at.result c.at.ensures)

pub ops-preserved : goal.ops-preserved
ops-preserved g c =
    let i = c.ops.next in
    let next : suc i ≡ i + 1 = omega arith in
    let below = c.len.ensures in
    subst (IsSearching g.D.OpSet.is_symbol g.D.OpSet.is_symbol_table g.D.SymbolNames.is_private
    g.D.SymbolNames.names_used c.args.ctx.now c.args.table.now c.args.block c.reach_below.new.reached) next
    (searching-next g.D.OpSet.is_symbol g.D.OpSet.is_symbol_table g.D.SymbolNames.is_private
    g.D.SymbolNames.names_used c.args.ctx.now c.args.table.now c.args.block c.ops.reached i c.ops.invariant
    c.reach_below.new.reached c.at.result c.at.ensures (omega arith) c.in_ok-reach_below.ensures)

pub ops-smaller : goal.ops-smaller
ops-smaller g c =
    let fits = searching-fits g.D.OpSet.is_symbol g.D.OpSet.is_symbol_table g.D.SymbolNames.is_private
    g.D.SymbolNames.names_used c.args.ctx.now c.args.table.now c.args.block c.ops.reached c.ops.next c.ops.invariant
    c.stands.ensures.standing in
    let len = c.len.ensures in
    omega (arith, fits, len)

pub returns-clause-kept : goal.returns-clause-kept
returns-clause-kept g c = λ p has no.
    searching-kept g.D.OpSet.is_symbol g.D.OpSet.is_symbol_table g.D.SymbolNames.is_private
    g.D.SymbolNames.names_used c.args.ctx.now c.args.table.now c.args.block c.ops.reached c.ops.next c.ops.invariant p
    has (c.in_ok-reach_all_kept.ensures.tells p has) no

pub returns-clause-exact : goal.returns-clause-exact
returns-clause-exact g c = λ agrees p here.
    let own = g.D.OpSet.is_symbol in
    let own_table = g.D.OpSet.is_symbol_table in
    let is_private = g.D.SymbolNames.is_private in
    let names = g.D.SymbolNames.names_used in
    let len = c.len.ensures in
    let k = searching-end own own_table is_private names c.args.ctx.now c.args.table.now c.args.block c.ops.reached
    c.ops.next c.ops.invariant (omega (arith, len)) p in
    let f = reached-is own own_table is_private names c.args.ctx.now c.args.table.now c.args.block
    c.stands.ensures.standing c.requires.body agrees p in
    (λ among. f.0 (k.0 among), λ is. k.1 (f.1 is))
