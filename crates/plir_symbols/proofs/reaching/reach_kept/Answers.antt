use Rattle.std.proofs.Common.{inl, inr, refl, sym, subst}
use Rattle.plir_store.specs.FilterLaws.{not-both}
use Rattle.plir_symbols.specs.DeadSymbols.{MayGo}
use Rattle.plir_symbols.proofs.Grown.{grown-as, grown-none}
use Rattle.plir_symbols.proofs.reaching.reach_kept.Goals as goal

pub returns-then-may_go-clause-grown : goal.returns-then-may_go-clause-grown
returns-then-may_go-clause-grown g c =
    grown-none _ _ refl (λ q h. h.1 (subst (MayGo g.D.OpSet.is_symbol g.D.SymbolNames.is_private c.args.ctx.now) (sym h.0)
    (c.may_go.ensures.0 c.if-may_go.true)))

pub returns-then-may_go-clause-tells : goal.returns-then-may_go-clause-tells
returns-then-may_go-clause-tells g c = inl (c.may_go.ensures.0 c.if-may_go.true)

pub returns-clause-grown : goal.returns-clause-grown
returns-clause-grown g c =
    grown-as _ _ (λ q same. (
      same,
      λ m. not-both c.may_go.result
          (c.may_go.ensures.1 (subst (MayGo g.D.OpSet.is_symbol g.D.SymbolNames.is_private c.args.ctx.now) same m))
          c.if-may_go.false,
    )) (λ q h. h.0) c.in_ok-put.ensures

pub returns-clause-tells : goal.returns-clause-tells
returns-clause-tells g c = inr (λ m. not-both c.may_go.result (c.may_go.ensures.1 m) c.if-may_go.false)
