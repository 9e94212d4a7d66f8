-- What stands below a node without children; and which nodes are the same.
use Rattle.std.proofs.Common.{◌≡◌, ℕ, zero, suc, [], Option, Some, None, ◌⊎◌, inl, inr, ◌∙◌, ap, subst}
use Rattle.std.proofs.lemmas.Bool.{cases_eq}
use Rattle.std.proofs.lemmas.Option.{same_Some, none-some}
use Rattle.plir_store.specs.Members.{Has}
use Rattle.plir_core.specs.Above.{climb}
use Rattle.plir_core.specs.Nodes.{Nodes, node_children, node_parent}
use Rattle.plir_core.specs.Stored.{IsStored}
use Rattle.plir_core.specs.declared.ptr.Ptr.{Ptr}
use Rattle.plir_core.specs.declared.ptr.IRNode.{IRNode}
use Rattle.plir_core.specs.declared.ptr.IRNode.TheVariants.{Operation, Region, BasicBlock}
use Rattle.plir_core.proofs.Facts.{parent-child}

step : {N : Type 0} (up : N → Option N) (k : ℕ) (a : N) (o : Option N) → climb up (suc k) o ≡ Some a →
    ((m : N) → climb up (suc k) (Some m) ≡ Some a → (x : N) × (up x ≡ Some a)) → (x : N) × (up x ≡ Some a)
step up k a None e more = absurd (none-some a e)
step up k a (Some m) e more = more m e

-- the last step of a climb
climb-last : {N : Type 0} (up : N → Option N) (k : ℕ) (n a : N) → climb up (suc k) (Some n) ≡ Some a → (x : N) ×
    (up x ≡ Some a)
climb-last up zero n a e = (n, e)
climb-last up (suc k) n a e = step up k a (up n) e (λ m. climb-last up k m a)

module _ {O B : Type 0} (s : Nodes O B) (w : IsStored s) where
  pub reached-alone : (leaf n : IRNode) → node_children s leaf ≡ [] → (k : ℕ) → climb (node_parent s) k (Some n) ≡ Some
      leaf → n ≡ leaf
  reached-alone leaf n e zero q = same_Some n leaf q
  reached-alone leaf n e (suc k) q = let r = climb-last (node_parent s) k n leaf q in absurd
      (subst (λ xs. Has xs r.0) e (parent-child s w leaf r.0 r.1))

ptr-cases : {X : Type 0} (p q : Ptr X) → (p ≡ q) ⊎ (p ≡ q → ⊥)
ptr-cases {X} p q = elim (cases_eq p.slot q.slot) [
  | inl i ↦ elim (cases_eq p.version q.version) [
    | inl v ↦ inl (ap (λ n. let z : Ptr X = record { slot = n; version = p.version; kind = record {} } in z) i ∙ ap
        (λ n. let z : Ptr X = record { slot = q.slot; version = n; kind = record {} } in z) v)
    | inr n ↦ inr (λ e. n (ap (λ (z : Ptr X). z.version) e))
  ]
  | inr n ↦ inr (λ e. n (ap (λ (z : Ptr X). z.slot) e))
]

-- pointers of one kind as nodes
as-nodes : {X : Type 0} (f : Ptr X → IRNode) (p q : Ptr X) → (f p ≡ f q → p ≡ q) → (f p ≡ f q) ⊎ (f p ≡ f q → ⊥)
as-nodes f p q only = elim (ptr-cases p q) [ inl e ↦ inl (ap f e) | inr n ↦ inr (λ e. n (only e)) ]

pub node-cases : (a b : IRNode) → (a ≡ b) ⊎ (a ≡ b → ⊥)
node-cases (Operation p) (Operation q) = as-nodes Operation p q (λ e. cc e)
node-cases (Region p) (Region q) = as-nodes Region p q (λ e. cc e)
node-cases (BasicBlock p) (BasicBlock q) = as-nodes BasicBlock p q (λ e. cc e)
node-cases (Operation p) (Region q) = inr (λ e. cc e)
node-cases (Operation p) (BasicBlock q) = inr (λ e. cc e)
node-cases (Region p) (Operation q) = inr (λ e. cc e)
node-cases (Region p) (BasicBlock q) = inr (λ e. cc e)
node-cases (BasicBlock p) (Operation q) = inr (λ e. cc e)
node-cases (BasicBlock p) (Region q) = inr (λ e. cc e)
