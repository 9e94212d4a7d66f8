-- Nodes that are made and then put last below another one.
use Rattle.std.proofs.Common.{◌≡◌, ◌∙◌, ◌++◌, true, true≢false, List, [], ◌∷◌, Option, Some, None, refl, sym, ap, subst}
use Rattle.std.proofs.Common.{map, option_map}
use Rattle.std.proofs.lemmas.Option.{none-some}
use Rattle.plir_store.specs.Table.{is_live_at}
use Rattle.plir_data.specs.CallSites.{inlined_at}
use Rattle.plir_data.specs.declared.location.Location.{Location}
use Rattle.plir_data.specs.declared.location.Location.TheVariants.{Unknown, SrcPos, CallSite}
use Rattle.plir_core.specs.declared.ptr.IRNode.{IRNode}
use Rattle.plir_core.specs.declared.ptr.IRNode.TheVariants.{Operation, Region, BasicBlock}
use Rattle.plir_core.specs.Above.{Reaches}
use Rattle.plir_core.specs.Contents.{OpView}
use Rattle.plir_core.specs.ContextView.{ContextView}
use Rattle.plir_core.specs.Grown.{Growth}
use Rattle.plir_core.specs.Made.{IsMade}
use Rattle.plir_core.specs.Nodes.{Nodes, is_node_live, node_children, node_parent}
use Rattle.plir_core.specs.Placed.{MovesOnly, IsPlacedLast}
use Rattle.plir_copies.specs.Images.{Images, AreImagesLive, no_images}
use Rattle.plir_copies.specs.Copied.{bare_under}
use Rattle.plir_copies.specs.Twins.{IsAddedLast}

module _ {O B : Type 0} where
  -- what moves stays live, or not
  pub live-moved : (t u : Nodes O B) (n m : IRNode) → MovesOnly t u n → is_node_live u m ≡ is_node_live t m
  live-moved t u n (Operation p) h = ap (λ z. is_live_at z p.slot p.version) h.ops
  live-moved t u n (Region p) h = ap (λ z. is_live_at z p.slot p.version) h.regions
  live-moved t u n (BasicBlock p) h = ap (λ z. is_live_at z p.slot p.version) h.blocks

  -- a node without children that was made and then put last below another one
  pub added-last : (s t u : Nodes O B) (n above : IRNode) → Growth s → IsMade s t n → node_children t n ≡ []
      → ((x : IRNode) → Reaches (node_parent t) x n → x ≡ n) → is_node_live s above ≡ true
      → IsPlacedLast t u n above → IsAddedLast s u above n
  added-last s t u n above g made leaf alone live placed =
      let grown = g.placed t u n above (node_children t above ++ n ∷ []) made placed in
      record {
        added = record {
          keeps = grown.keeps;
          children = λ m l e. grown.children m l (λ x. e (ap Some (sym x)));
          new = made.new;
          fresh = made.fresh n made.root made.new;
          added = live-moved t u n n placed.moved ∙ made.root;
          placed = placed.parent;
          leaf = placed.children n (λ e. true≢false (sym live ∙ ap (is_node_live s) (sym e) ∙ made.new)) ∙ leaf;
          only = λ m l o. alone m (made.below m (sym (live-moved t u n m placed.moved) ∙ l) o);
        };
        last = placed.children_over ∙ ap (λ ks. ks ++ n ∷ []) (made.children above live);
      }

map-same : {X : Type 0} (f : X → X) → ((x : X) → f x ≡ x) → (xs : List X) → map f xs ≡ xs
map-same f e [] = refl
map-same f e (x ∷ xs) = ap (λ y. y ∷ map f xs) (e x) ∙ ap (λ ys. x ∷ ys) (map-same f e xs)

-- what stands in place of no call has the location that it had
uncalled : (loc : Location) → inlined_at loc Unknown ≡ loc
uncalled Unknown = refl
uncalled (SrcPos line column) = refl
uncalled (CallSite line column call_line call_column) = refl

-- where nothing stands in place of anything, a copy holds the same
module _ {K A : Type 0} where
  bare-none : (x : Option (OpView K A)) → option_map (bare_under no_images) x ≡ x
  bare-none None = refl
  bare-none (Some o) =
      λ i. let r : OpView K A = record o {
        successors = map-same (λ b. b) (λ b. refl) o.successors i;
        location = uncalled o.location i;
      } in Some r

  pub bare-same : (m : Images) → m ≡ no_images → (x : Option (OpView K A)) → option_map (bare_under m) x ≡ x
  bare-same m e x = ap (λ n. option_map (bare_under n) x) e ∙ bare-none x

pub none-live : {K A T : Type 0} (s : ContextView K A T) (m : Images) → m ≡ no_images → AreImagesLive s m
none-live s m e = subst (AreImagesLive s) (sym e) (record {
  values = λ v w h. absurd (none-some w h);
  blocks = λ b c h. absurd (none-some c h);
})
