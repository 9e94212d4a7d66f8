-- The body of a table, and that it stays where an operation in it is erased.
use Rattle.std.proofs.Common.{◌≡◌, ◌<◌, ◌≤◌, ◌+◌, ℕ, zero, suc, arith, List, [], ◌∷◌, Option, Some, None, inl}
use Rattle.std.proofs.Common.{refl, sym, ap, subst, ◌∙◌}
use Rattle.std.specs.Prelude.{option_and_then}
use Rattle.std.proofs.lemmas.Option.{none-some, same_Some}
use Rattle.plir_store.specs.Members.{Has}
use Rattle.plir_core.specs.declared.ptr.Ptr.{Ptr}
use Rattle.plir_core.specs.declared.ptr.Operation.{Operation as OperationKind}
use Rattle.plir_core.specs.declared.ptr.BasicBlock.{BasicBlock as BasicBlockKind}
use Rattle.plir_core.specs.declared.ptr.IRNode.{IRNode}
use Rattle.plir_core.specs.declared.ptr.IRNode.TheVariants.{Operation, BasicBlock}
use Rattle.plir_core.specs.Above.{climb, Reaches}
use Rattle.plir_core.specs.Erase.{IsErased}
use Rattle.plir_core.specs.Measures.{depth}
use Rattle.plir_core.specs.Standing.{IsStanding}
use Rattle.plir_core.specs.ContextView.{ContextView, IsLive, children, parent_of}
use Rattle.plir_walk.specs.NodeLaws.{climb-nothing}
use Rattle.plir_builtin.specs.Symbols.{body, only}

only-is : {X : Type 0} (xs : List X) (x : X) → only xs ≡ Some x → xs ≡ x ∷ []
only-is [] x e = absurd (none-some x e)
only-is (y ∷ []) x e = ap (λ z. z ∷ []) (same_Some y x e)
only-is (y ∷ z ∷ xs) x e = absurd (none-some x e)

module _ {K A T : Type 0} where
  -- the table has one region, which has one block
  pub record IsBody (s : ContextView K A T) (table : Ptr OperationKind) (b : IRNode) : Type 0 where
    pub region : IRNode
    pub one : children s (Operation table) ≡ region ∷ []
    pub block : children s region ≡ b ∷ []

  pub body-is : (s : ContextView K A T) (table : Ptr OperationKind) (b : IRNode) → body s table ≡ Some b
      → IsBody s table b
  body-is s table b e = at (only (children s (Operation table))) refl e
    where
      at : (o : Option IRNode) → only (children s (Operation table)) ≡ o
          → option_and_then (λ r. only (children s r)) o ≡ Some b → IsBody s table b
      at None q e = absurd (none-some b e)
      at (Some r) q e =
          record { region = r; one = only-is (children s (Operation table)) r q; block = only-is (children s r) b e }

  is-body : (s : ContextView K A T) (table : Ptr OperationKind) (b : IRNode) → IsBody s table b → body s table ≡ Some b
  is-body s table b h = ap (λ z. option_and_then (λ r. only (children s r)) (only z)) h.one ∙ ap only h.block

  -- and that is live
  pub body-live : (s : ContextView K A T) (table : Ptr OperationKind) (b : IRNode) → IsStanding s
      → body s table ≡ Some b → IsLive s b
  body-live s table b w e =
      (let i = body-is s table b e in w.forest.child_live i.region b (subst (λ z. Has z b) (sym i.block) (inl refl)))

  -- from a node up there are no fewer nodes above
  pub shallower : (s : ContextView K A T) → IsStanding s → (k : ℕ) (m n : IRNode) → climb (parent_of s) k (Some m) ≡ Some n
      → depth s n ≤ depth s m
  shallower s w zero m n e = subst (λ z. depth s n ≤ depth s z) (sym (same_Some m n e)) (omega arith)
  shallower s w (suc k) m n e = at (λ a g. shallower s w k a n g) (parent_of s m) refl
    where
      at : ((a : IRNode) → climb (parent_of s) k (Some a) ≡ Some n → depth s n ≤ depth s a) → (p : Option IRNode)
          → parent_of s m ≡ p → depth s n ≤ depth s m
      at rest None f = absurd (climb-nothing (parent_of s) k n (ap (climb (parent_of s) k) (sym f) ∙ e))
      at rest (Some a) f =
          let i = rest a (ap (climb (parent_of s) k) (sym f) ∙ e) in let d = w.measured.deeper a m f in
          omega (arith, i, d)

  -- an operation p in the body b of a table was erased
  module _ (s t : ContextView K A T) (w : IsStanding s) (table p : Ptr OperationKind) (b : Ptr BasicBlockKind)
      (at_body : body s table ≡ Some (BasicBlock b)) (over : parent_of s (Operation p) ≡ Some (BasicBlock b))
      (e : IsErased s.nodes t.nodes (Operation p)) where
    here : IsBody s table (BasicBlock b)
    here = body-is s table (BasicBlock b) at_body

    below-block : depth s (Operation p) ≡ depth s (BasicBlock b) + 1
    below-block = w.measured.deeper (BasicBlock b) (Operation p) over

    below-region : depth s (BasicBlock b) ≡ depth s here.region + 1
    below-region =
        w.measured.deeper here.region (BasicBlock b) (w.forest.child_parent here.region (BasicBlock b)
        (subst (λ z. Has z (BasicBlock b)) (sym here.block) (inl refl)))

    below-table : depth s here.region ≡ depth s (Operation table) + 1
    below-table =
        w.measured.deeper (Operation table) here.region
        (w.forest.child_parent (Operation table) here.region (subst (λ z. Has z here.region) (sym here.one) (inl refl)))

    apart : (m : IRNode) → depth s m < depth s (Operation p) → Reaches (parent_of s) m (Operation p) → ⊥
    apart m less r = (let d = shallower s w r.0 m (Operation p) r.1 in let z : ⊥ = omega (arith, d, less) in z)

    children-still : (m : IRNode) → depth s m < depth s (BasicBlock b) → children t m ≡ children s m
    children-still m less =
        e.children m (apart m (omega (arith, less, below-block)))
        (λ q. (let d = ap (depth s) (same_Some (BasicBlock b) m (sym over ∙ q)) in let z : ⊥ = omega (arith, d, less) in
        z))

    pub live-still : IsLive s (Operation table) → IsLive t (Operation table)
    live-still l =
        e.live (Operation table) (apart (Operation table) (omega (arith, below-block, below-region, below-table))) ∙ l

    pub body-still : body t table ≡ Some (BasicBlock b)
    body-still = is-body t table (BasicBlock b) (record {
      region = here.region;
      one = children-still (Operation table) (omega (arith, below-region, below-table)) ∙ here.one;
      block = children-still here.region (omega (arith, below-region)) ∙ here.block;
    })
