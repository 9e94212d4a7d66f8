-- A function is appended to a module that was made before it: what the call asks, and what it leaves of the module.
use Rattle.std.proofs.Common.{◌≡◌, ◌<◌, arith, true, [], ◌∷◌, length, option_and_then, slice_get, Some, inl, refl, sym}
use Rattle.std.proofs.Common.{ap, subst, ◌∙◌}
use Rattle.std.specs.Prelude.{All}
use Rattle.std.proofs.lemmas.List.Elements.{All-cons, All-nil}
use Rattle.std.proofs.lemmas.Option.{same_Some}
use Rattle.plir_store.specs.Members.{Has, head}
use Rattle.plir_store.specs.Table.{content_at}
use Rattle.plir_core.specs.declared.ptr.Ptr.{Ptr}
use Rattle.plir_core.specs.declared.ptr.Operation.{Operation as OperationKind}
use Rattle.plir_core.specs.declared.ptr.IRNode.{IRNode}
use Rattle.plir_core.specs.declared.ptr.IRNode.TheVariants.{Operation, Region, BasicBlock}
use Rattle.plir_core.specs.Contents.{OpView, BlockView}
use Rattle.plir_core.specs.Made.{IsMade}
use Rattle.plir_core.specs.Nodes.{node_children, is_node_live}
use Rattle.plir_core.specs.Standing.{IsStanding}
use Rattle.plir_core.specs.ContextView.{ContextView, IsAncestor, IsLive, children, kind_of, kind_in}
use Rattle.plir_iface.specs.Counts.{regions_of}
use Rattle.plir_iface.specs.Regions.{HasOneBlock, HasSingleBlocks, IsAppendedToBody, IsNotAboveBody, body_of}
use Rattle.plir_builtin.specs.BuiltinOps.{HoldsOneBlock}

-- The module m was made first, in s; then types were added, in t; then the function f was made, in u.
module _ {K A T : Type 0} (s t u : ContextView K A T)
    (m f : Ptr OperationKind) {held : OpView K A} {block_held : BlockView A}
    (tree : HoldsOneBlock s m held block_held) (stands : IsStanding s) (live : IsLive s (Operation m))
    (same : t.nodes ≡ s.nodes) (made : IsMade t.nodes u.nodes (Operation f)) where
  there : (n : IRNode) → IsLive s n → is_node_live t.nodes n ≡ true
  there n l = subst (λ z. is_node_live z n ≡ true) (sym same) l

  region-live : IsLive s (Region tree.region)
  region-live =
      stands.forest.child_live (Operation m) (Region tree.region)
      (subst (λ z. Has z (Region tree.region)) (sym tree.regions) (inl refl))

  block-live : IsLive s (BasicBlock tree.block)
  block-live =
      stands.forest.child_live (Region tree.region) (BasicBlock tree.block)
      (subst (λ z. Has z (BasicBlock tree.block)) (sym tree.blocks) (inl refl))

  kept : (n : IRNode) → IsLive s n → children u n ≡ children s n
  kept n l = made.children n (there n l) ∙ ap (λ z. node_children z n) same

  regions : children u (Operation m) ≡ Region tree.region ∷ []
  regions = kept (Operation m) live ∙ tree.regions

  blocks : children u (Region tree.region) ≡ BasicBlock tree.block ∷ []
  blocks = kept (Region tree.region) region-live ∙ tree.blocks

  body : body_of u m 0 ≡ Some (BasicBlock tree.block)
  body = ap (λ z. option_and_then (λ r. head (children u r)) (slice_get z 0)) regions ∙ ap head blocks

  pub module-live : IsLive u (Operation m)
  module-live = made.keeps.live (Operation m) (there (Operation m) live)

  pub single : HasSingleBlocks u m
  single =
      subst (All (HasOneBlock u)) (sym regions)
      (All-cons (HasOneBlock u) (Region tree.region) [] (ap length blocks) (All-nil (HasOneBlock u)))

  pub one : 0 < length (regions_of u m)
  one = let e = ap length regions in omega (arith, e)

  pub not-above : (q : Ptr OperationKind) → q ≡ f → IsNotAboveBody u m 0 q
  not-above q e b at above =
      let block = same_Some b (BasicBlock tree.block) (sym at ∙ body) in
      let older : IsAncestor u (Operation f) (BasicBlock tree.block) =
      subst (λ z. IsAncestor u (Operation f) z) block (subst (λ z. IsAncestor u (Operation z) b) e above) in
      made.apart (BasicBlock tree.block) (there (BasicBlock tree.block) block-live) older

  module _ (v : ContextView K A T) (q : Ptr OperationKind) (after : IsAppendedToBody u v m 0 q) where
    pub still-live : IsLive v (Operation m)
    still-live = subst (λ z. IsLive z (Operation m)) (sym (after tree.block body)) module-live

    pub same-kind : kind_of v m ≡ kind_in (Some held)
    same-kind =
        ap (λ z. kind_of z m) (after tree.block body)
        ∙ ap kind_in (made.keeps.ops m (there (Operation m) live) ∙ ap (λ z. content_at z.ops m.slot) same ∙ tree.holds)
