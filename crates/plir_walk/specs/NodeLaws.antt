-- Laws of nodes for the proofs of passes: when two are the same, how much of a list of them there is from an operation
-- on, which a loop over the operations of a block goes by, and what stands beside what.
use Rattle.std.proofs.Common.{◌≡◌, ◌≢◌, ◌<◌, ◌+◌, ℕ, zero, suc, arith, Bool, true, false, cond, List, []}
use Rattle.std.proofs.Common.{◌∷◌, ◌++◌, length, Option, Some, None, ◌⊎◌, inl, inr, refl, sym, ap, subst, ◌∙◌}
use Rattle.std.specs.List.{filter, flat_map}
use Rattle.std.proofs.lemmas.List.{length-append}
use Rattle.std.proofs.lemmas.Bool.Decides.{eqb_tells}
use Rattle.std.proofs.lemmas.Option.{none-some, same_Some}
use Rattle.plir_store.specs.Members.{Has, Distinct, head}
use Rattle.plir_store.specs.MemberLaws.{Has-append_right}
use Rattle.plir_core.specs.declared.ptr.Ptr.{Ptr}
use Rattle.plir_core.specs.declared.ptr.Operation.{Operation as OperationKind}
use Rattle.plir_core.specs.declared.ptr.BasicBlock.{BasicBlock as BasicBlockKind}
use Rattle.plir_core.specs.declared.ptr.IRNode.{IRNode}
use Rattle.plir_core.specs.declared.ptr.IRNode.TheVariants.{Operation, Region, BasicBlock}
use Rattle.plir_core.specs.Above.{climb, Reaches}
use Rattle.plir_core.specs.Erase.{IsErased, post_order, tree_of}
use Rattle.plir_core.specs.Measures.{most_steps, depth, IsMeasured}
use Rattle.plir_core.specs.Nodes.{Nodes, node_children}
use Rattle.plir_core.specs.Forest.{look, IsForest}
use Rattle.plir_core.specs.ContextView.{ContextView, num_live, children, parent_of}
use Rattle.plir_core.specs.SameValue.{same_ptr}
use Rattle.plir_walk.specs.Tree.{same}

-- how many of a list of nodes there are from an operation on
abbrev pub left_from : List IRNode → Option (Ptr OperationKind) → ℕ
left_from ns None = 0
left_from [] (Some p) = 0
left_from (n ∷ ns) (Some p) = cond (same n (Operation p)) (suc (length ns)) (left_from ns (Some p))

pub same_ptr_tells : {T : Type 0} (p q : Ptr T) → ((same_ptr p q ≡ true) × (p ≡ q)) ⊎ ((same_ptr p q ≡ false) × (p ≢ q))
same_ptr_tells p q = elim (eqb_tells p.slot q.slot) [
  | inl s ↦ elim (eqb_tells p.version q.version) [
    | inl v ↦ inl
        ((let a = s.0 in let b = v.0 in rw (a, b) refl), λ i. record { slot = s.1 i; version = v.1 i; kind = p.kind })
    | inr v ↦ inr ((let a = s.0 in let b = v.0 in rw (a, b) refl), λ e. v.1 (ap (λ z. z.version) e))
  ]
  | inr s ↦ inr ((let h = s.0 in rw h refl), λ e. s.1 (ap (λ z. z.slot) e))
]

pub ptr-tells : (p q : Ptr OperationKind) → (p ≡ q) ⊎ (p ≢ q)
ptr-tells p q = elim (same_ptr_tells p q) [ inl h ↦ inl h.1 | inr h ↦ inr h.1 ]

-- whether a node is an operation
pub op-tells : (a : IRNode) (p : Ptr OperationKind)
    → ((same a (Operation p) ≡ true) × (a ≡ Operation p)) ⊎ ((same a (Operation p) ≡ false) × (a ≢ Operation p))
op-tells (Operation q) p =
    elim (same_ptr_tells q p) [ inl h ↦ inl (h.0, ap Operation h.1) | inr h ↦ inr (h.0, λ e. h.1 (cc e)) ]
op-tells (BasicBlock q) p = inr (refl, λ e. cc e)
op-tells (Region q) p = inr (refl, λ e. cc e)

-- whether a node is a block
pub block-tells : (a : IRNode) (b : Ptr BasicBlockKind) → (a ≡ BasicBlock b) ⊎ (a ≢ BasicBlock b)
block-tells (BasicBlock q) b =
    elim (same_ptr_tells q b) [ inl h ↦ inl (ap BasicBlock h.1) | inr h ↦ inr (λ e. h.1 (cc e)) ]
block-tells (Operation q) b = inr (λ e. cc e)
block-tells (Region q) b = inr (λ e. cc e)

pub same-op : (p q : Ptr OperationKind) → Operation p ≡ Operation q → p ≡ q
same-op p q e = cc e

-- an operation that does not stand in front stands where the rest begins
pub left-cut : (xs ys : List IRNode) (p : Ptr OperationKind) → Distinct (xs ++ Operation p ∷ ys)
    → left_from (xs ++ Operation p ∷ ys) (Some p) ≡ suc (length ys)
left-cut [] ys p d = elim (op-tells (Operation p) p) [ inl e ↦ rw e.0 refl | inr e ↦ absurd (e.1 refl) ]
left-cut (x ∷ xs) ys p d = elim (op-tells x p) [
  | inl e ↦ absurd (d.0 (Has-append_right xs (Operation p ∷ ys) x (inl (sym e.1))))
  | inr e ↦ rw e.0 (left-cut xs ys p d.1)
]

-- a list begins with its first element, and one without any is empty
pub headed : (xs : List IRNode) (p : Ptr OperationKind) → Some (Operation p) ≡ head xs
    → (ys : List IRNode) × (xs ≡ Operation p ∷ ys)
headed [] p e = absurd (none-some (Operation p) (sym e))
headed (x ∷ xs) p e = (xs, ap (λ z. z ∷ xs) (sym (same_Some (Operation p) x e)))

pub ended : (xs : List IRNode) → None ≡ head xs → xs ≡ []
ended [] e = refl
ended (x ∷ xs) e = absurd (none-some x e)

-- two tests that agree on a list keep the same of it
pub filter-agree : {A : Type 0} (p q : A → Bool) (xs : List A) → ((x : A) → Has xs x → p x ≡ q x)
    → filter p xs ≡ filter q xs
filter-agree p q [] h = refl
filter-agree p q (x ∷ xs) h =
    ap (λ b. cond b (x ∷ filter p xs) (filter p xs)) (h x (inl refl))
    ∙ ap (λ zs. cond (q x) (x ∷ zs) zs) (filter-agree p q xs (λ y i. h y (inr i)))

-- nothing is above nothing
pub climb-nothing : {N : Type 0} (up : N → Option N) (k : ℕ) (a : N) → climb up k None ≡ Some a → ⊥
climb-nothing up zero a e = none-some a e
climb-nothing up (suc k) a e = none-some a e

-- an erased tree has a node at least
tree-some : {O B : Type 0} (s : Nodes O B) (n : IRNode) → 0 < length (tree_of s n)
tree-some s n = go (most_steps s) (omega arith)
  where
    go : (k : ℕ) → 0 < k → 0 < length (post_order (node_children s) k n)
    go zero h = absurd (omega (arith, h))
    go (suc k) h =
        (let e = length-append (flat_map (post_order (node_children s) k) (node_children s n)) (n ∷ []) in
        omega (arith, e))

module _ {K A T : Type 0} where
  -- where a tree is erased, fewer nodes are live
  pub fewer-erased : (s t : ContextView K A T) (n : IRNode) → IsErased s.nodes t.nodes n → num_live t < num_live s
  fewer-erased s t n e = omega (arith, e.count, tree-some s.nodes n)

  -- nothing climbs to what has no children, but itself
  pub reach-leaf : (s : ContextView K A T) (x : IRNode) → IsForest (look s) → children s x ≡ [] → (k : ℕ) (m : IRNode)
      → climb (parent_of s) k (Some m) ≡ Some x → m ≡ x
  reach-leaf s x w none zero m e = same_Some m x e
  reach-leaf s x w none (suc k) m e = up (λ a f. reach-leaf s x w none k a f) (parent_of s m) refl
    where
      up : ((a : IRNode) → climb (parent_of s) k (Some a) ≡ Some x → a ≡ x) → (o : Option IRNode) → parent_of s m ≡ o
          → m ≡ x
      up rest None q = absurd (climb-nothing (parent_of s) k x (ap (climb (parent_of s) k) (sym q) ∙ e))
      up rest (Some a) q =
          absurd (subst (λ z. Has z m) none
          (w.parent_child x m (q ∙ ap Some (rest a (ap (climb (parent_of s) k) (sym q) ∙ e)))))

  -- what climbs to a node stands as much deeper as it climbs
  climb-depth : (s : ContextView K A T) → IsMeasured s → (k : ℕ) (x a : IRNode)
      → climb (parent_of s) k (Some x) ≡ Some a → depth s x ≡ depth s a + k
  climb-depth s m zero x a e = (let d = ap (depth s) (same_Some x a e) in omega (arith, d))
  climb-depth s m (suc k) x a e = up (λ y f. climb-depth s m k y a f) (parent_of s x) refl
    where
      up : ((y : IRNode) → climb (parent_of s) k (Some y) ≡ Some a → depth s y ≡ depth s a + k) → (o : Option IRNode)
          → parent_of s x ≡ o → depth s x ≡ depth s a + suc k
      up rest None q = absurd (climb-nothing (parent_of s) k a (ap (climb (parent_of s) k) (sym q) ∙ e))
      up rest (Some y) q =
          (let r = rest y (ap (climb (parent_of s) k) (sym q) ∙ e) in
          let d = m.deeper y x q in
          omega (arith, r, d))

  -- a child of a node stands below no other child of it
  pub beside-apart : (s : ContextView K A T) → IsMeasured s → (b x a : IRNode) → parent_of s x ≡ Some b
      → parent_of s a ≡ Some b → a ≢ x → Reaches (parent_of s) a x → ⊥
  beside-apart s m b x a e f ne r =
      let d = climb-depth s m r.0 a x r.1 in
      let i = m.deeper b x e in
      let j = m.deeper b a f in
      let z : r.0 ≡ zero = omega (arith, d, i, j) in
      ne (same_Some a x (subst (λ k. climb (parent_of s) k (Some a) ≡ Some x) z r.1))
