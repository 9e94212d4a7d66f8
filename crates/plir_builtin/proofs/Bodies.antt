-- The body of a table, and what stands above and in it.
use Rattle.std.proofs.Common.{◌≡◌, ℕ, zero, suc, Bool, true, false, cond, List, [], ◌∷◌, map, Option, Some, None, refl}
use Rattle.std.proofs.Common.{sym, ap, ◌∙◌}
use Rattle.std.specs.Prelude.{option_and_then}
use Rattle.std.proofs.lemmas.Option.{same_Some, none-some}
use Rattle.plir_core.specs.declared.ptr.Ptr.{Ptr}
use Rattle.plir_core.specs.declared.ptr.Operation.{Operation as OperationKind}
use Rattle.plir_core.specs.declared.ptr.BasicBlock.{BasicBlock as BlockKind}
use Rattle.plir_core.specs.declared.ptr.Region.{Region as RegionKind}
use Rattle.plir_core.specs.declared.ptr.IRNode.{IRNode}
use Rattle.plir_core.specs.declared.ptr.IRNode.TheVariants.{Operation, Region, BasicBlock}
use Rattle.plir_core.specs.Nodes.{region_node, block_node}
use Rattle.plir_core.specs.ContextView.{ContextView, children, parent_of}
use Rattle.plir_core.specs.Above.{climb, Reaches}
use Rattle.plir_core.specs.Standing.{IsStanding}
use Rattle.plir_builtin.specs.Symbols.{only, body}
use Rattle.plir_builtin.proofs.SymbolLists.{only-Has}

-- the one of some images
only_image : {X : Type 0} (f : ℕ → X) (xs : List ℕ) (x : X) → only (map f xs) ≡ Some x → (i : ℕ) × (x ≡ f i)
only_image f [] x e = absurd (none-some x e)
only_image f (i ∷ []) x e = (i, sym (same_Some (f i) x e))
only_image f (i ∷ j ∷ is) x e = absurd (none-some x e)

only_listed : {X : Type 0} (f : ℕ → X) (b : Bool) (xs : List ℕ) (x : X) → only (cond b (map f xs) []) ≡ Some x
    → (i : ℕ) × (x ≡ f i)
only_listed f true xs x e = only_image f xs x e
only_listed f false xs x e = absurd (none-some x e)

-- nodes of different kinds
pub not_region_op : (p : Ptr OperationKind) (r : Ptr RegionKind) → Operation p ≡ Region r → ⊥
not_region_op p r e = cc

pub not_region_block : (p : Ptr BlockKind) (r : Ptr RegionKind) → BasicBlock p ≡ Region r → ⊥
not_region_block p r e = cc

pub not_block_op : (p : Ptr BlockKind) (q : Ptr OperationKind) → BasicBlock p ≡ Operation q → ⊥
not_block_op p q e = cc

-- A body, with the region that it stands in.
pub record IsBody {K A T : Type 0} (s : ContextView K A T) (t : Ptr OperationKind) (b : IRNode) : Type 0 where
  pub region : Ptr RegionKind
  pub block : Ptr BlockKind
  pub is : b ≡ BasicBlock block
  pub one_region : only (children s (Operation t)) ≡ Some (Region region)
  pub one_block : only (children s (Region region)) ≡ Some (BasicBlock block)

module _ {K A T : Type 0} (s : ContextView K A T) where
  pub body-is : (t : Ptr OperationKind) (b : IRNode) → body s t ≡ Some b → IsBody s t b
  body-is t b e = at (only (children s (Operation t))) refl e
    where
      at : (r : Option IRNode) → only (children s (Operation t)) ≡ r
          → option_and_then (λ n. only (children s n)) r ≡ Some b → IsBody s t b
      at None f g = absurd (none-some b g)
      at (Some (Operation q)) f g =
          let i = only_listed (region_node s.nodes) _ _ (Operation q) f in absurd (not_region_op _ _ i.1)
      at (Some (BasicBlock q)) f g =
          let i = only_listed (region_node s.nodes) _ _ (BasicBlock q) f in absurd (not_region_block _ _ i.1)
      at (Some (Region r)) f g =
          let i = only_listed (block_node s.nodes) _ _ b g in
          record { region = r; block = _; is = i.1; one_region = f; one_block = g ∙ ap (λ z. Some z) i.1 }

  module _ (w : IsStanding s) where
    pub body-parent : (t : Ptr OperationKind) (b : IRNode) (i : IsBody s t b)
        → (parent_of s b ≡ Some (Region i.region)) × (parent_of s (Region i.region) ≡ Some (Operation t))
    body-parent t b i = (
      ap (parent_of s) i.is ∙ w.forest.child_parent (Region i.region) (BasicBlock i.block) (only-Has _ _ i.one_block),
      w.forest.child_parent (Operation t) (Region i.region) (only-Has _ _ i.one_region),
    )

    -- a block is the body of one operation at most
    pub one-body : (t u : Ptr OperationKind) (b : IRNode) → body s t ≡ Some b → body s u ≡ Some b → t ≡ u
    one-body t u b e f =
        let i = body-is t b e in
        let j = body-is u b f in
        let p = body-parent t b i in
        let q = body-parent u b j in
        let same : Region i.region ≡ Region j.region = same_Some (Region i.region) (Region j.region) (sym p.0 ∙ q.0) in
        let ends : Operation t ≡ Operation u =
        same_Some (Operation t) (Operation u) (sym p.1 ∙ ap (parent_of s) same ∙ q.1) in
        cc

    -- what the body reaches, but for itself and its region, the table reaches
    pub body-reaches : (t o : Ptr OperationKind) (b : IRNode) → body s t ≡ Some b
        → Reaches (parent_of s) b (Operation o) → Reaches (parent_of s) (Operation t) (Operation o)
    body-reaches t o b e r =
        let i = body-is t b e in
        let p = body-parent t b i in
        at i p.0 p.1 r.0 (ap (λ n. climb (parent_of s) r.0 (Some n)) (sym i.is) ∙ r.1)
      where
        at : (i : IsBody s t b) → parent_of s b ≡ Some (Region i.region)
            → parent_of s (Region i.region) ≡ Some (Operation t) → (k : ℕ)
            → climb (parent_of s) k (Some (BasicBlock i.block)) ≡ Some (Operation o)
            → Reaches (parent_of s) (Operation t) (Operation o)
        at i p q zero g = absurd (not_block_op _ _ (same_Some (BasicBlock i.block) (Operation o) g))
        at i p q (suc zero) g =
            let h = sym (ap (parent_of s) (sym i.is) ∙ p) ∙ g in
            absurd (not_region_op _ _ (sym (same_Some (Region i.region) (Operation o) h)))
        at i p q (suc (suc k)) g = (
          k,
          ap (climb (parent_of s) k) (sym q)
              ∙ ap (climb (parent_of s) (suc k)) (sym (ap (parent_of s) (sym i.is) ∙ p)) ∙ g,
        )
