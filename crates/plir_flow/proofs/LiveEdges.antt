-- What stands on good edges is live.
use Rattle.std.proofs.Common.{◌↔◌, subst, List, []}
use Rattle.std.specs.Prelude.{All}
use Rattle.std.proofs.lemmas.List.Elements.{All-nil, All-cons}
use Rattle.plir_core.specs.declared.ptr.Ptr.{Ptr}
use Rattle.plir_core.specs.declared.ptr.Region.{Region as RegionKind}
use Rattle.plir_core.specs.declared.ptr.IRNode.TheVariants.{Region}
use Rattle.plir_store.specs.Members.{Has}
use Rattle.plir_core.specs.ContextView.{ContextView, IsLive, IsValueLive}
use Rattle.plir_flow.specs.declared.edge_ends.RegionSuccessor.{RegionSuccessor}
use Rattle.plir_flow.specs.declared.edge_ends.RegionSuccessor.TheVariants.{Region as ToRegion, After}
use Rattle.plir_flow.specs.RegionEdges.{EdgeView, Flow, IsUseLive, IsFlowLive, IsEdgeLive, IsSuccessorLive, flows_on}
use Rattle.plir_flow.specs.RegionEdges.{reads_on, receivers_on, regions_on, region_in, AreEdgesLive, IsStep, Reach}
use Rattle.plir_flow.proofs.TakenLists.{mapped-all, each-has, each-from-has}
use Rattle.plir_flow.proofs.Reaching.{led-by}

module _ {K A T : Type 0} (s : ContextView K A T) where
  pub reads-live : (e : EdgeView) → IsEdgeLive s e → All (IsUseLive s) (reads_on e)
  reads-live e w = w.reads

  pub flows-live : (e : EdgeView) → IsEdgeLive s e → All (IsFlowLive s) (flows_on e)
  flows-live e w = w.flows

  pub receivers-live : (e : EdgeView) → IsEdgeLive s e → All (IsValueLive s) (receivers_on e)
  receivers-live e w = mapped-all (λ (f : Flow). f.1) (IsFlowLive s) (IsValueLive s) (λ f l. l.1) e.flows w.flows

  region-live : (t : RegionSuccessor) → IsSuccessorLive s t
      → All (λ (r : Ptr RegionKind). IsLive s (Region r)) (region_in t)
  region-live (ToRegion r) w =
      All-cons (λ (q : Ptr RegionKind). IsLive s (Region q)) r [] w
      (All-nil (λ (q : Ptr RegionKind). IsLive s (Region q)))
  region-live After w = All-nil (λ (q : Ptr RegionKind). IsLive s (Region q))

  pub regions-live : (e : EdgeView) → IsEdgeLive s e → All (λ (r : Ptr RegionKind). IsLive s (Region r)) (regions_on e)
  regions-live e w = region-live e.to w.to

  -- what edges lead to
  pub reached-live : (es : List EdgeView) (a : Ptr RegionKind) (rs : List (Ptr RegionKind)) → AreEdgesLive s es
      → ((b : Ptr RegionKind) → Has rs b ↔ Reach s es a b) → All (λ (r : Ptr RegionKind). IsLive s (Region r)) rs
  reached-live es a rs live all = each-from-has (λ (r : Ptr RegionKind). IsLive s (Region r)) rs (λ b h.
      let l = led-by (IsStep s es) a b ((all b).0 h) in
      let e : EdgeView = l.1.0 in
      subst (IsSuccessorLive s) l.1.1.1.1 ((each-has (IsEdgeLive s) es e live l.1.1.0).to))
