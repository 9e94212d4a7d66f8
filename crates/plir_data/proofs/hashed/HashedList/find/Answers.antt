use Rattle.std.proofs.Common.{◌≡◌, ◌<◌, ◌≤◌, IsTrue, ap, sym, subst, ◌∙◌, arith}
use Rattle.plir_data.specs.Hashed.{past, StandsAt, Latest, hash_from}
use Rattle.plir_data.proofs.HashedLists.{sought_first, sought_next, sought_at, sought_earlier}
use Rattle.plir_data.proofs.hashed.HashedList.find.Goals as goal

pub loop-at-init : goal.loop-at-init
loop-at-init g c =
    sought_first c.self.inside.values.items c.copied-at.result
    (λ x e. ap hash_from (sym (g.met.T.Hash.respects_eq c.args.value.now x e)) ∙ sym c.requires)
    (subst (Latest (λ x. hash_from (g.T.Hash.hash_input x) ≡ c.args.hash) c.self.inside.values.items _)
    (sym (c.copied-at.ensures ∙ c.get.ensures.value)) (c.self.invariant.lasts c.args.hash))

pub returns-then-eq-clause-found : goal.returns-then-eq-clause-found
returns-then-eq-clause-found g c =
    subst (λ ts. StandsAt (λ x. IsTrue (g.T.PartialEq.eq c.args.value.now x)) ts c.in-Some.place) c.self.view_is (
      c.index.result.now,
      sought_at c.self.inside.values.items c.loop-at.at c.in-Some.place c.index.result.now c.loop-at.invariant
          c.in-Some.is c.index.ensures,
      sym c.eq.ensures ∙ c.if-eq.true,
    )

pub loop-at-smaller : goal.loop-at-smaller
loop-at-smaller g c =
    let before = sought_earlier (λ x. hash_from (g.T.Hash.hash_input x)) c.args.hash c.self.inside.values.items
    c.self.inside.earlier.items _ c.loop-at.at c.in-Some.place c.index.result.now c.index-at.result.now
    c.self.invariant c.loop-at.invariant c.in-Some.is c.index.ensures c.index-at.ensures in
    subst (λ o. past c.index-at.result.now < past o) (sym c.in-Some.is) (omega (arith, before.within))

pub loop-at-preserved : goal.loop-at-preserved
loop-at-preserved g c =
    let before = sought_earlier (λ x. hash_from (g.T.Hash.hash_input x)) c.args.hash c.self.inside.values.items
    c.self.inside.earlier.items _ c.loop-at.at c.in-Some.place c.index.result.now c.index-at.result.now
    c.self.invariant c.loop-at.invariant c.in-Some.is c.index.ensures c.index-at.ensures in
    let here = sought_at c.self.inside.values.items c.loop-at.at c.in-Some.place c.index.result.now c.loop-at.invariant
    c.in-Some.is c.index.ensures in
    sought_next c.self.inside.values.items c.loop-at.at c.in-Some.place c.index-at.result.now c.index.result.now
    (λ x e. ap hash_from (sym (g.met.T.Hash.respects_eq c.args.value.now x e)) ∙ sym c.requires) before
    c.loop-at.invariant c.in-Some.is here (λ e. cc (e, c.eq.ensures, c.if-eq.false))

pub returns-clause-absent : goal.returns-clause-absent
returns-clause-absent g c i s =
    c.loop-at.invariant.none_past i (subst (λ o. past o ≤ i) (sym c.in_default.is) (omega arith))
    (subst (λ ts. StandsAt (λ x. IsTrue (g.T.PartialEq.eq c.args.value.now x)) ts i) (sym c.self.view_is) s)
