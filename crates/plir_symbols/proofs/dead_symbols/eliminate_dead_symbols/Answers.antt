use Rattle.std.proofs.Common.{IsOk, OnErr, ◌≡◌, [], inl, inr, refl, sym, subst, ◌∙◌}
use Rattle.std.proofs.lemmas.Result.{err_from_is_err_and}
use Rattle.plir_store.specs.FilterLaws.{not-both}
use Rattle.plir_core.specs.declared.ptr.IRNode.TheVariants.{Operation}
use Rattle.plir_core.specs.ContextView.{IsLive}
use Rattle.plir_builtin.specs.Agree.{AllAgree, AreGivenOut}
use Rattle.plir_builtin.specs.Symbols.{body}
use Rattle.plir_symbols.specs.DeadSymbols.{HasNoDead}
use Rattle.plir_symbols.specs.SweptSymbols.{AreSweeps}
use Rattle.plir_symbols.proofs.Erasing.{swept-none}
use Rattle.plir_symbols.proofs.Lent.{lent-ready, lent-good, kept-good, kept-agree, kept-given, good-scans, unready-same}
use Rattle.plir_symbols.proofs.dead_symbols.eliminate_dead_symbols.Goals as goal

pub returns-in_err-cached-clause-swept : goal.returns-in_err-cached-clause-swept
returns-in_err-cached-clause-swept g c =
    swept-none g.D.OpSet.is_symbol g.D.SymbolNames.is_private c.args.ctx.now
    (c.erasures_thin.ensures.none c.args.ctx.now c.stands.ensures.standing.forest)

pub returns-in_err-cached-clause-scans : goal.returns-in_err-cached-clause-scans
returns-in_err-cached-clause-scans g c =
    good-scans g.D.OpSet.is_symbol g.D.OpSet.is_symbol_table c.args.ctx.now c.args.ctx.now c.args.table
    (c.erasures_thin.ensures.none c.args.ctx.now c.stands.ensures.standing.forest) c.stands.ensures.standing refl

pub returns-in_err-cached-clause-agree : goal.returns-in_err-cached-clause-agree
returns-in_err-cached-clause-agree g c = λ all.
    subst (AllAgree g.D.OpSet.is_symbol g.D.OpSet.is_symbol_table c.args.ctx.now)
    (sym (subst (λ r. OnErr r (c.get_symbol_table.follows.lender-at-none ≡ c.args.tables.now)) c.in_err-cached.was
    c.get_symbol_table.follows.holds-at-none)) all

pub returns-in_err-cached-clause-given : goal.returns-in_err-cached-clause-given
returns-in_err-cached-clause-given g c = λ given.
    subst (AreGivenOut c.args.ctx.now)
    (sym (subst (λ r. OnErr r (c.get_symbol_table.follows.lender-at-none ≡ c.args.tables.now)) c.in_err-cached.was
    c.get_symbol_table.follows.holds-at-none)) given

pub sweep_table-requires-clause-live : goal.sweep_table-requires-clause-live
sweep_table-requires-clause-live g c = (c.is_ready.ensures.0 c.if-not-is_ready.false).1

pub sweep_table-requires-clause-at_body : goal.sweep_table-requires-clause-at_body
sweep_table-requires-clause-at_body g c = (c.is_ready.ensures.0 c.if-not-is_ready.false).2

pub returns-in_err-sweep_table-clause-swept : goal.returns-in_err-sweep_table-clause-swept
returns-in_err-sweep_table-clause-swept g c = c.sweep_table.ensures.swept

pub returns-in_err-sweep_table-clause-scans : goal.returns-in_err-sweep_table-clause-scans
returns-in_err-sweep_table-clause-scans g c =
    good-scans g.D.OpSet.is_symbol g.D.OpSet.is_symbol_table c.args.ctx.now c.sweep_table.new.ctx c.args.table
    c.sweep_table.ensures.swept.thinned c.sweep_table.ensures.stands
    (subst (λ q. body c.sweep_table.new.ctx q ≡ body c.args.ctx.now q) (c.is_ready.ensures.0 c.if-not-is_ready.false).0
    c.sweep_table.ensures.body)

pub returns-in_err-sweep_table-clause-agree : goal.returns-in_err-sweep_table-clause-agree
returns-in_err-sweep_table-clause-agree g c = λ all.
    kept-agree g.D.OpSet.is_symbol g.D.OpSet.is_symbol_table c.args.ctx.now c.args.tables.now c.args.table
    c.in_ok-cached.cached.now (c.in_ok-cached.ensures.agree all) c.sweep_table.new.ctx c.sweep_table.new.table
    c.sweep_table.ensures.kept
    (c.get_symbol_table.follows.lender c.sweep_table.new.table)
    (c.get_symbol_table.follows.holds c.sweep_table.new.table (subst IsOk (sym c.in_ok-cached.was) refl))

pub returns-in_err-sweep_table-clause-given : goal.returns-in_err-sweep_table-clause-given
returns-in_err-sweep_table-clause-given g c = λ given.
    kept-given g.D.OpSet.is_symbol g.D.OpSet.is_symbol_table c.args.ctx.now c.args.tables.now c.args.table
    c.in_ok-cached.cached.now (c.is_ready.ensures.0 c.if-not-is_ready.false).0 c.sweep_table.new.ctx
    c.sweep_table.new.table c.sweep_table.ensures.kept
    (c.get_symbol_table.follows.lender c.sweep_table.new.table)
    (c.get_symbol_table.follows.holds c.sweep_table.new.table (subst IsOk (sym c.in_ok-cached.was) refl))
    (c.in_ok-cached.ensures.given given)

pub returns-clause-swept : goal.returns-clause-swept
returns-clause-swept g c = c.sweep_table.ensures.swept

pub returns-clause-clean : goal.returns-clause-clean
returns-clause-clean g c = λ all.
    subst (λ q. HasNoDead g.D.OpSet.is_symbol g.D.SymbolNames.is_private g.D.OpSet.is_symbol_table
    g.D.SymbolNames.names_used c.sweep_table.new.ctx q)
    (c.is_ready.ensures.0 c.if-not-is_ready.false).0
    (c.in_ok-sweep_table.ensures.clean (c.in_ok-cached.ensures.agree all).1)

pub returns-clause-good : goal.returns-clause-good
returns-clause-good g c = λ all. (
  lent-good g.D.OpSet.is_symbol g.D.OpSet.is_symbol_table c.args.ctx.now c.args.tables.now c.args.table
      c.in_ok-cached.cached.now (c.in_ok-cached.ensures.agree all),
  kept-good g.D.OpSet.is_symbol g.D.OpSet.is_symbol_table c.args.ctx.now c.args.tables.now c.args.table
      c.in_ok-cached.cached.now (c.in_ok-cached.ensures.agree all) c.sweep_table.new.ctx c.sweep_table.new.table
      c.sweep_table.ensures.kept,
)

pub returns-clause-scans : goal.returns-clause-scans
returns-clause-scans g c =
    good-scans g.D.OpSet.is_symbol g.D.OpSet.is_symbol_table c.args.ctx.now c.sweep_table.new.ctx c.args.table
    c.sweep_table.ensures.swept.thinned c.sweep_table.ensures.stands
    (subst (λ q. body c.sweep_table.new.ctx q ≡ body c.args.ctx.now q) (c.is_ready.ensures.0 c.if-not-is_ready.false).0
    c.sweep_table.ensures.body)

pub returns-clause-agree : goal.returns-clause-agree
returns-clause-agree g c = λ all.
    kept-agree g.D.OpSet.is_symbol g.D.OpSet.is_symbol_table c.args.ctx.now c.args.tables.now c.args.table
    c.in_ok-cached.cached.now (c.in_ok-cached.ensures.agree all) c.sweep_table.new.ctx c.sweep_table.new.table
    c.sweep_table.ensures.kept
    (c.get_symbol_table.follows.lender c.sweep_table.new.table)
    (c.get_symbol_table.follows.holds c.sweep_table.new.table (subst IsOk (sym c.in_ok-cached.was) refl))

pub returns-clause-given : goal.returns-clause-given
returns-clause-given g c = λ given.
    kept-given g.D.OpSet.is_symbol g.D.OpSet.is_symbol_table c.args.ctx.now c.args.tables.now c.args.table
    c.in_ok-cached.cached.now (c.is_ready.ensures.0 c.if-not-is_ready.false).0 c.sweep_table.new.ctx
    c.sweep_table.new.table c.sweep_table.ensures.kept
    (c.get_symbol_table.follows.lender c.sweep_table.new.table)
    (c.get_symbol_table.follows.holds c.sweep_table.new.table (subst IsOk (sym c.in_ok-cached.was) refl))
    (c.in_ok-cached.ensures.given given)

pub returns-then-not-is_ready-clause-swept : goal.returns-then-not-is_ready-clause-swept
returns-then-not-is_ready-clause-swept g c =
    swept-none g.D.OpSet.is_symbol g.D.SymbolNames.is_private c.args.ctx.now
    (c.erasures_thin.ensures.none c.args.ctx.now c.stands.ensures.standing.forest)

pub returns-then-not-is_ready-clause-scans : goal.returns-then-not-is_ready-clause-scans
returns-then-not-is_ready-clause-scans g c =
    good-scans g.D.OpSet.is_symbol g.D.OpSet.is_symbol_table c.args.ctx.now c.args.ctx.now c.args.table
    (c.erasures_thin.ensures.none c.args.ctx.now c.stands.ensures.standing.forest) c.stands.ensures.standing refl

pub returns-then-not-is_ready-clause-agree : goal.returns-then-not-is_ready-clause-agree
returns-then-not-is_ready-clause-agree g c = λ all.
    absurd (not-both c.is_ready.result (c.is_ready.ensures.1 (lent-ready g.D.OpSet.is_symbol g.D.OpSet.is_symbol_table
    c.args.ctx.now c.args.tables.now c.args.table c.in_ok-cached.cached.now (c.in_ok-cached.ensures.agree all)
    c.requires.live)) c.if-not-is_ready.true)

pub returns-then-not-is_ready-clause-refused : goal.returns-then-not-is_ready-clause-refused
returns-then-not-is_ready-clause-refused g c = λ all.
    absurd (not-both c.is_ready.result (c.is_ready.ensures.1 (lent-ready g.D.OpSet.is_symbol g.D.OpSet.is_symbol_table
    c.args.ctx.now c.args.tables.now c.args.table c.in_ok-cached.cached.now (c.in_ok-cached.ensures.agree all)
    c.requires.live)) c.if-not-is_ready.true)

pub returns-then-not-is_ready-clause-given : goal.returns-then-not-is_ready-clause-given
returns-then-not-is_ready-clause-given g c = λ given.
    subst (AreGivenOut c.args.ctx.now)
    (sym (c.get_symbol_table.follows.holds c.in_ok-cached.cached.now (subst IsOk (sym c.in_ok-cached.was) refl)))
    (c.in_ok-cached.ensures.given given)

pub returns-in_err-sweep_table-clause-live : goal.returns-in_err-sweep_table-clause-live
returns-in_err-sweep_table-clause-live g c =
    subst (λ q. IsLive c.sweep_table.new.ctx (Operation q)) (c.is_ready.ensures.0 c.if-not-is_ready.false).0
    c.sweep_table.ensures.live

pub returns-clause-live : goal.returns-clause-live
returns-clause-live g c =
    subst (λ q. IsLive c.sweep_table.new.ctx (Operation q)) (c.is_ready.ensures.0 c.if-not-is_ready.false).0
    c.sweep_table.ensures.live

pub returns-in_err-cached-clause-same : goal.returns-in_err-cached-clause-same
returns-in_err-cached-clause-same g c =
    let p = err_from_is_err_and c.from_residual.result c.from_residual.ensures.1 in
    rw (p.1, p.2) (λ some. (
      refl,
      subst (λ r. OnErr r (c.get_symbol_table.follows.lender-at-none ≡
          c.args.tables.now)) c.in_err-cached.was c.get_symbol_table.follows.holds-at-none,
    ))

pub returns-in_err-cached-clause-others : goal.returns-in_err-cached-clause-others
returns-in_err-cached-clause-others g c = inl (subst (λ r. OnErr r (c.get_symbol_table.follows.lender-at-none ≡
    c.args.tables.now)) c.in_err-cached.was c.get_symbol_table.follows.holds-at-none)

pub returns-then-not-is_ready-clause-same : goal.returns-then-not-is_ready-clause-same
returns-then-not-is_ready-clause-same g c = λ some. (
  refl,
  (c.get_symbol_table.follows.holds c.in_ok-cached.cached.now (subst IsOk (sym c.in_ok-cached.was) refl))
      ∙ unready-same g.D.OpSet.is_symbol g.D.OpSet.is_symbol_table c.args.ctx.now c.args.tables.now c.args.table
      c.in_ok-cached.cached.now c.requires.live c.in_ok-cached.ensures.cached c.in_ok-cached.ensures.made
      (λ ready. not-both c.is_ready.result (c.is_ready.ensures.1 ready) c.if-not-is_ready.true),
)

pub returns-then-not-is_ready-clause-others : goal.returns-then-not-is_ready-clause-others
returns-then-not-is_ready-clause-others g c = inl
    ((c.get_symbol_table.follows.holds c.in_ok-cached.cached.now (subst IsOk (sym c.in_ok-cached.was) refl))
    ∙ unready-same g.D.OpSet.is_symbol g.D.OpSet.is_symbol_table c.args.ctx.now c.args.tables.now c.args.table
    c.in_ok-cached.cached.now c.requires.live c.in_ok-cached.ensures.cached c.in_ok-cached.ensures.made
    (λ ready. not-both c.is_ready.result (c.is_ready.ensures.1 ready) c.if-not-is_ready.true))

pub returns-in_err-sweep_table-clause-others : goal.returns-in_err-sweep_table-clause-others
returns-in_err-sweep_table-clause-others g c = inr (
  c.sweep_table.new.table,
  (c.get_symbol_table.follows.holds c.sweep_table.new.table (subst IsOk (sym c.in_ok-cached.was) refl)),
  c.sweep_table.ensures.kept.op ∙ (c.is_ready.ensures.0 c.if-not-is_ready.false).0,
)

pub returns-clause-cached : goal.returns-clause-cached
returns-clause-cached g c = (
  c.sweep_table.new.table,
  (c.get_symbol_table.follows.holds c.sweep_table.new.table (subst IsOk (sym c.in_ok-cached.was) refl)),
  c.sweep_table.ensures.kept.op ∙ (c.is_ready.ensures.0 c.if-not-is_ready.false).0,
)

pub returns-clause-others : goal.returns-clause-others
returns-clause-others g c = inr (
  c.sweep_table.new.table,
  (c.get_symbol_table.follows.holds c.sweep_table.new.table (subst IsOk (sym c.in_ok-cached.was) refl)),
  c.sweep_table.ensures.kept.op ∙ (c.is_ready.ensures.0 c.if-not-is_ready.false).0,
)

pub returns-in_err-cached-clause-sweeps : goal.returns-in_err-cached-clause-sweeps
returns-in_err-cached-clause-sweeps g c = λ all. ([], refl)

pub returns-then-not-is_ready-clause-sweeps : goal.returns-then-not-is_ready-clause-sweeps
returns-then-not-is_ready-clause-sweeps g c = λ all. ([], refl)

pub returns-in_err-sweep_table-clause-sweeps : goal.returns-in_err-sweep_table-clause-sweeps
returns-in_err-sweep_table-clause-sweeps g c = λ all.
    let k = c.sweep_table.ensures.sweeps (c.in_ok-cached.ensures.agree all).1 in (
      k.0,
      subst (λ q. AreSweeps g.D.OpSet.is_symbol g.D.SymbolNames.is_private g.D.OpSet.is_symbol_table
          g.D.SymbolNames.names_used q c.args.ctx.now k.0 c.sweep_table.new.ctx)
          (c.is_ready.ensures.0 c.if-not-is_ready.false).0 k.1,
    )

pub returns-clause-sweeps : goal.returns-clause-sweeps
returns-clause-sweeps g c = λ all.
    let k = c.sweep_table.ensures.sweeps (c.in_ok-cached.ensures.agree all).1 in (
      k.0,
      subst (λ q. AreSweeps g.D.OpSet.is_symbol g.D.SymbolNames.is_private g.D.OpSet.is_symbol_table
          g.D.SymbolNames.names_used q c.args.ctx.now k.0 c.sweep_table.new.ctx)
          (c.is_ready.ensures.0 c.if-not-is_ready.false).0 k.1,
    )
