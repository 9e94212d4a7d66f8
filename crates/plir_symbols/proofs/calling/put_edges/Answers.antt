use Rattle.std.proofs.Common.{◌≡◌, suc, ◌+◌, [], ◌∷◌, ◌++◌, Some, arith, refl, sym, ap, subst, ◌∙◌}
use Rattle.std.proofs.lemmas.Result.{err_from_is_err_and}
use Rattle.plir_core.specs.ContextView.{op_at}
use Rattle.plir_builtin.specs.Nearest.{IsNearest}
use Rattle.plir_symbols.specs.SymbolNames.{names_in}
use Rattle.plir_symbols.proofs.Bringing.{absent-before, brought-both, brought-none}
use Rattle.plir_symbols.proofs.Edges.{ArePutUpTo, put-all, put-next, put-none, refused-before}
use Rattle.plir_symbols.proofs.Told.{texts, told-at, told-many}
use Rattle.plir_symbols.proofs.calling.put_edges.Goals as goal

pub returns-in_err-edge-clause-agree : goal.returns-in_err-edge-clause-agree
returns-in_err-edge-clause-agree g c = λ a. c.edge_of.ensures.agree (c.loop-name.invariant.0 a)

pub returns-in_err-edge-clause-given : goal.returns-in_err-edge-clause-given
returns-in_err-edge-clause-given g c = λ d. c.edge_of.ensures.given (c.loop-name.invariant.1 d)

pub returns-in_err-put_edge-clause-agree : goal.returns-in_err-put_edge-clause-agree
returns-in_err-put_edge-clause-agree g c = λ a. c.edge_of.ensures.agree (c.loop-name.invariant.0 a)

pub returns-in_err-put_edge-clause-given : goal.returns-in_err-put_edge-clause-given
returns-in_err-put_edge-clause-given g c = λ d. c.edge_of.ensures.given (c.loop-name.invariant.1 d)

pub loop-name-preserved : goal.loop-name-preserved
loop-name-preserved g c =
    let s = c.args.ctx.now in
    let names = g.D.SymbolNames.names_used in
    let i = c.loop-name.name-index in
    let ns = c.deref-name-items.result.now in
    let told = ap texts c.deref-name-items.ensures.value ∙ c.in_ok-names.ensures.names in
    let old = c.args.edges.now.items in
    let next : i + 1 ≡ suc i = omega arith in (
      λ a. c.edge_of.ensures.agree (c.loop-name.invariant.0 a),
      λ d. c.edge_of.ensures.given (c.loop-name.invariant.1 d),
      λ a. subst (λ es. ArePutUpTo g.D.OpSet.is_symbol g.D.OpSet.is_symbol_table s names (i + 1) c.args.user old es)
          (sym c.in_ok-put_edge.ensures)
          (subst (λ k. ArePutUpTo g.D.OpSet.is_symbol g.D.OpSet.is_symbol_table s names k c.args.user old
          (c.loop-name.edges.items ++ c.in_ok-edge.edge ∷ [])) (sym next)
          (put-next g.D.OpSet.is_symbol g.D.OpSet.is_symbol_table s names i c.args.user _ old
          c.loop-name.edges.items c.in_ok-edge.edge (told-at ns _ told i _ (omega arith) c.name-item.is)
          (c.loop-name.invariant.2 a)
          (c.in_ok-edge.ensures.edge (c.loop-name.invariant.0 a)))),
      brought-both g.D.OpSet.is_symbol g.D.OpSet.is_symbol_table s
          (λ t. IsNearest g.D.OpSet.is_symbol_table s c.args.user (Some t)) _ _ _ c.loop-name.invariant.3
          c.edge_of.ensures.brought,
      λ less. c.in_ok-edge.ensures.cached,
    )

pub returns-in_err-edge-clause-brought : goal.returns-in_err-edge-clause-brought
returns-in_err-edge-clause-brought g c =
    brought-both g.D.OpSet.is_symbol g.D.OpSet.is_symbol_table c.args.ctx.now
    (λ t. IsNearest g.D.OpSet.is_symbol_table c.args.ctx.now c.args.user (Some t)) _ _ _ c.loop-name.invariant.3
    c.edge_of.ensures.brought

pub returns-in_err-put_edge-clause-brought : goal.returns-in_err-put_edge-clause-brought
returns-in_err-put_edge-clause-brought g c =
    brought-both g.D.OpSet.is_symbol g.D.OpSet.is_symbol_table c.args.ctx.now
    (λ t. IsNearest g.D.OpSet.is_symbol_table c.args.ctx.now c.args.user (Some t)) _ _ _ c.loop-name.invariant.3
    c.edge_of.ensures.brought

pub returns-in_err-edge-clause-refused : goal.returns-in_err-edge-clause-refused
returns-in_err-edge-clause-refused g c =
    let p = err_from_is_err_and c.from_residual-in_err-edge.result c.from_residual-in_err-edge.ensures.1 in
    rw (p.1, p.2) (refused-before g.D.OpSet.is_symbol g.D.OpSet.is_symbol_table c.args.ctx.now c.args.tables.now
    c.loop-name.tables c.args.user c.in_err-edge.field-0.0
    (absent-before g.D.OpSet.is_symbol g.D.OpSet.is_symbol_table c.args.ctx.now
    (λ t. IsNearest g.D.OpSet.is_symbol_table c.args.ctx.now c.args.user (Some t)) _ _ c.loop-name.invariant.3)
    c.in_err-edge.ensures.refused)

pub loop-name-init : goal.loop-name-init
loop-name-init g c = (
  λ a. a,
  λ d. d,
  λ a. put-none g.D.OpSet.is_symbol g.D.OpSet.is_symbol_table c.args.ctx.now g.D.SymbolNames.names_used c.args.user
      c.args.edges.now.items,
  brought-none g.D.OpSet.is_symbol g.D.OpSet.is_symbol_table c.args.ctx.now
      (λ t. IsNearest g.D.OpSet.is_symbol_table c.args.ctx.now c.args.user (Some t)) _ _ refl,
  λ less. absurd (omega (arith, less)),
)

pub returns-in_err-names-clause-brought : goal.returns-in_err-names-clause-brought
returns-in_err-names-clause-brought g c =
    brought-none g.D.OpSet.is_symbol g.D.OpSet.is_symbol_table c.args.ctx.now
    (λ t. IsNearest g.D.OpSet.is_symbol_table c.args.ctx.now c.args.user (Some t)) _ _ refl

pub returns-clause-put : goal.returns-clause-put
returns-clause-put g c = λ a.
    let names = names_in g.D.SymbolNames.names_used (op_at c.args.ctx.now c.args.user) in
    let many = told-many c.deref-name-items.result.now names
    (ap texts c.deref-name-items.ensures.value ∙ c.in_ok-names.ensures.names) in
    put-all g.D.OpSet.is_symbol g.D.OpSet.is_symbol_table c.args.ctx.now g.D.SymbolNames.names_used
    c.loop-name.name-index c.args.user c.args.edges.now.items c.loop-name.edges.items (omega (arith, many))
    (c.loop-name.invariant.2 a)

pub returns-clause-cached : goal.returns-clause-cached
returns-clause-cached g c = λ less.
    let names = names_in g.D.SymbolNames.names_used (op_at c.args.ctx.now c.args.user) in
    let many = told-many c.deref-name-items.result.now names
    (ap texts c.deref-name-items.ensures.value ∙ c.in_ok-names.ensures.names) in
    c.loop-name.invariant.4 (omega (arith, many, less))
