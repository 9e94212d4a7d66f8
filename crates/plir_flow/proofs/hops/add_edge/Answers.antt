use Rattle.std.proofs.Common.{inl, inr}
use Rattle.std.proofs.Math.Logic.Iff
use Rattle.std.proofs.lemmas.Option.{none-some}
use Rattle.std.proofs.lemmas.Result.{on_ok_weaker}
use Rattle.plir_core.specs.declared.ptr.Ptr.{Ptr}
use Rattle.plir_core.specs.declared.ptr.Region.{Region as RegionKind}
use Rattle.plir_flow.proofs.Hopping.{pair-same, sum-like}
use Rattle.plir_flow.proofs.hops.add_edge.Goals as goal

pub returns-in-None-clause-more : goal.returns-in-None-clause-more
returns-in-None-clause-more g c =
    λ a b. (λ h. inl h, λ h. elim h [ inl x ↦ x | inr s ↦ absurd (none-some _ ((c.in-None.ensures.value a b).1 s)) ])

pub returns-in-Some-clause-more : goal.returns-in-Some-clause-more
returns-in-Some-clause-more g c =
    let x : Ptr RegionKind × Ptr RegionKind = (c.in-Some.from, c.in-Some.to) in
    on_ok_weaker c.add_hop.result (λ more a b. let y : Ptr RegionKind × Ptr RegionKind = (a, b) in
    Iff.trans (more a b) (sum-like (λ h. h, λ h. h) (Iff.trans (pair-same x y) (c.in-Some.ensures.value a b))))
    c.add_hop.ensures.more
