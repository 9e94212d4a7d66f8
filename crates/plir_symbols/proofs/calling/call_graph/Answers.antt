use Rattle.std.proofs.Common.{◌≡◌, [], suc, ◌+◌, take, arith, refl, sym, subst, ◌∙◌}
use Rattle.std.proofs.lemmas.List.{take_all}
use Rattle.std.proofs.lemmas.Result.{err_from_is_err_and}
use Rattle.plir_store.specs.Members.{Has}
use Rattle.plir_symbols.specs.CachedTables.{IsNearestCached}
use Rattle.plir_symbols.specs.CallGraph.{AreEdges, AreUsers, IsAsked, IsCallGraph, uses_of}
use Rattle.plir_symbols.proofs.Bringing.{absent-before, brought-both, brought-more, brought-none, users-cached}
use Rattle.plir_symbols.proofs.Edges.{graph-refused, is-user, refused-before, user-live, users-next}
use Rattle.plir_symbols.proofs.calling.call_graph.Goals as goal

pub put_edges-requires : goal.put_edges-requires
put_edges-requires g c =
    let names = g.D.SymbolNames.names_used in
    let xs = c.deref-user-items.result.now in
    let users = subst (AreUsers names c.args.ctx.now c.args.root) (sym c.deref-user-items.ensures.value)
    c.in_ok-users.ensures in
    user-live names c.args.ctx.now c.args.root xs users c.loop-user.user-index _ (omega arith)
    c.stands.ensures.standing.forest c.requires

pub returns-in_err-put_edges-clause-agree : goal.returns-in_err-put_edges-clause-agree
returns-in_err-put_edges-clause-agree g c = λ a. c.put_edges.ensures.agree (c.loop-user.invariant.0 a)

pub returns-in_err-put_edges-clause-given : goal.returns-in_err-put_edges-clause-given
returns-in_err-put_edges-clause-given g c = λ d. c.put_edges.ensures.given (c.loop-user.invariant.1 d)

pub returns-in_err-put_edges-clause-refused : goal.returns-in_err-put_edges-clause-refused
returns-in_err-put_edges-clause-refused g c =
    let names = g.D.SymbolNames.names_used in
    let xs = c.deref-user-items.result.now in
    let users = subst (AreUsers names c.args.ctx.now c.args.root) (sym c.deref-user-items.ensures.value)
    c.in_ok-users.ensures in
    let p = err_from_is_err_and c.from_residual-in_err-put_edges.result c.from_residual-in_err-put_edges.ensures.1 in
    rw (p.1, p.2) (graph-refused g.D.OpSet.is_symbol g.D.OpSet.is_symbol_table c.args.ctx.now names c.args.root
    c.args.tables.now _ c.in_err-put_edges.field-0.0
    (is-user names c.args.ctx.now c.args.root xs users c.loop-user.user-index _ (omega arith))
    (refused-before g.D.OpSet.is_symbol g.D.OpSet.is_symbol_table c.args.ctx.now c.args.tables.now c.loop-user.tables _
    c.in_err-put_edges.field-0.0
    (absent-before g.D.OpSet.is_symbol g.D.OpSet.is_symbol_table c.args.ctx.now
    (IsAsked g.D.OpSet.is_symbol g.D.OpSet.is_symbol_table names c.args.ctx.now c.args.root) _ _
    c.loop-user.invariant.3)
    c.in_err-put_edges.ensures.refused))

pub returns-in_err-put_edges-clause-brought : goal.returns-in_err-put_edges-clause-brought
returns-in_err-put_edges-clause-brought g c =
    let names = g.D.SymbolNames.names_used in
    let own = g.D.OpSet.is_symbol in
    let own_table = g.D.OpSet.is_symbol_table in
    let s = c.args.ctx.now in
    let xs = c.deref-user-items.result.now in
    let users = subst (AreUsers names s c.args.root) (sym c.deref-user-items.ensures.value) c.in_ok-users.ensures in
    let user = is-user names s c.args.root xs users c.loop-user.user-index _ (omega arith) in
    brought-both own own_table s (IsAsked own own_table names s c.args.root) _ _ _ c.loop-user.invariant.3
    (brought-more own own_table s _ (IsAsked own own_table names s c.args.root) _ _ (λ t near. (_, user, near))
    c.put_edges.ensures.brought)

pub loop-user-init : goal.loop-user-init
loop-user-init g c = (
  λ a. a,
  λ d. d,
  λ a. subst (AreEdges g.D.OpSet.is_symbol g.D.OpSet.is_symbol_table c.args.ctx.now []) (sym c.new-edges.ensures.items)
      tt,
  brought-none g.D.OpSet.is_symbol g.D.OpSet.is_symbol_table c.args.ctx.now
      (IsAsked g.D.OpSet.is_symbol g.D.OpSet.is_symbol_table g.D.SymbolNames.names_used c.args.ctx.now c.args.root) _ _
      refl,
  λ p none. absurd none,
)

pub loop-user-preserved : goal.loop-user-preserved
loop-user-preserved g c =
    let s = c.args.ctx.now in
    let names = g.D.SymbolNames.names_used in
    let i = c.loop-user.user-index in
    let xs = c.deref-user-items.result.now in
    let next : i + 1 ≡ suc i = omega arith in
    let own = g.D.OpSet.is_symbol in
    let own_table = g.D.OpSet.is_symbol_table in
    let users = subst (AreUsers names s c.args.root) (sym c.deref-user-items.ensures.value) c.in_ok-users.ensures in
    let user = is-user names s c.args.root xs users i _ (omega arith) in
    let brought = brought-more own own_table s _ (IsAsked own own_table names s c.args.root) _ _
    (λ t near. (_, user, near)) c.put_edges.ensures.brought in
    let old = c.loop-user.edges.items in
    let new = c.put_edges.new.edges.items in (
      λ a. c.put_edges.ensures.agree (c.loop-user.invariant.0 a),
      λ d. c.put_edges.ensures.given (c.loop-user.invariant.1 d),
      λ a. subst (λ k. AreEdges g.D.OpSet.is_symbol g.D.OpSet.is_symbol_table s (uses_of names s (take k xs)) new)
          (sym next)
          (users-next g.D.OpSet.is_symbol g.D.OpSet.is_symbol_table s names xs i _ old new (omega arith)
          (c.loop-user.invariant.2 a)
          (c.in_ok-put_edges.ensures.put (c.loop-user.invariant.0 a))),
      brought-both own own_table s (IsAsked own own_table names s c.args.root) _ _ _ c.loop-user.invariant.3 brought,
      λ p has. subst (λ k. Has (take k xs) p → IsNearestCached own_table s c.put_edges.new.tables p) (sym next)
          (users-cached own own_table s (IsAsked own own_table names s c.args.root) _ _ xs i _ (omega arith) brought
          c.loop-user.invariant.4 (c.in_ok-put_edges.ensures.cached user.uses) p) has,
    )

pub returns-clause-graph : goal.returns-clause-graph
returns-clause-graph g c = λ a.
    let s = c.args.ctx.now in
    let names = g.D.SymbolNames.names_used in
    let xs = c.deref-user-items.result.now in
    let all = take_all c.loop-user.user-index xs (omega arith) ∙ c.deref-user-items.ensures.value in
    subst (IsCallGraph g.D.OpSet.is_symbol g.D.OpSet.is_symbol_table names s c.args.root)
    (sym c.in_ok-graph.ensures) (record {
      users = c.in_ok-users.users.items;
      are_users = c.in_ok-users.ensures;
      are_edges = subst (λ ps. AreEdges g.D.OpSet.is_symbol g.D.OpSet.is_symbol_table s (uses_of names s ps)
          c.loop-user.edges.items) all (c.loop-user.invariant.2 a);
    })

pub returns-clause-cached : goal.returns-clause-cached
returns-clause-cached g c = λ p user.
    let names = g.D.SymbolNames.names_used in
    let xs = c.deref-user-items.result.now in
    let all = take_all c.loop-user.user-index xs (omega arith) ∙ c.deref-user-items.ensures.value in
    c.loop-user.invariant.4 p (subst (λ z. Has z p) (sym all) (c.in_ok-users.ensures.all_users p user))

pub returns-clause-brought : goal.returns-clause-brought
returns-clause-brought g c = c.loop-user.invariant.3

pub returns-in_err-graph-clause-brought : goal.returns-in_err-graph-clause-brought
returns-in_err-graph-clause-brought g c = c.loop-user.invariant.3
