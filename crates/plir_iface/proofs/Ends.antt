-- A list without repetition has one element exactly where its first is its last.
use Rattle.std.proofs.Common.{◌≡◌, ◌↔◌, ℕ, suc, Bool, true, List, [], ◌∷◌, length, map, Some, None, inl, inr, refl, sym}
use Rattle.std.proofs.Common.{ap, subst, ◌∙◌, arith, ◌&&◌, eqb}
use Rattle.std.specs.Prelude.{option_map, IsTrue}
use Rattle.std.proofs.Math.Bool.{and-true}
use Rattle.std.proofs.lemmas.Bool.Decides.{Decides-at}
use Rattle.std.proofs.lemmas.Option.{same_Some, none-some}
use Rattle.plir_store.specs.Members.{Has, Distinct, head}
use Rattle.plir_store.specs.Lists.{children_at, last_from, last_of}
use Rattle.plir_core.specs.declared.ptr.Ptr.{Ptr}
use Rattle.plir_core.specs.declared.ptr.Region.{Region as RegionKind}
use Rattle.plir_core.specs.declared.ptr.BasicBlock.{BasicBlock as BasicBlockKind}
use Rattle.plir_core.specs.declared.ptr.IRNode.{IRNode}
use Rattle.plir_core.specs.declared.ptr.IRNode.TheVariants.{Operation, Region, BasicBlock}
use Rattle.plir_core.specs.Nodes.{Nodes, block_node, is_node_live, node_children, node_first, node_last}
use Rattle.plir_core.specs.SameValue.{same_ptr, ptr-exact}
use Rattle.plir_core.specs.Stored.{IsStored}

last-in : (y : ℕ) (ys : List ℕ) → (z : ℕ) × (Has (y ∷ ys) z × (last_from (Some y) ys ≡ Some z))
last-in y [] = (y, (inl refl, refl))
last-in y (x ∷ xs) = let r = last-in x xs in (r.0, (inr r.1.0, r.1.1))

module _ {A : Type 0} (f : ℕ → A) (one : (i j : ℕ) → f i ≡ f j → i ≡ j) (a b : A) where
  pub same-ends : (xs : List ℕ) → Distinct xs → Some a ≡ option_map f (head xs) → Some b ≡ option_map f (last_of xs)
      → (a ≡ b) ↔ (length (map f xs) ≡ 1)
  same-ends [] d e g = absurd (none-some a (sym e))
  same-ends (x ∷ []) d e g = (λ p. refl, λ p. same_Some a (f x) e ∙ sym (same_Some b (f x) g))
  same-ends (x ∷ y ∷ ys) d e g =
      let r = last-in y ys in
      let z : b ≡ f r.0 = same_Some b (f r.0) (g ∙ ap (option_map f) r.1.1) in (
        λ p. absurd (d.0 (subst (λ v. Has (y ∷ ys) v) (sym (one x r.0 (sym (same_Some a (f x) e) ∙ (p ∙ z)))) r.1.0)),
        λ p. absurd (two (length (map f ys)) p),
      )
    where
      two : (n : ℕ) → suc (suc n) ≡ 1 → ⊥
      two n p = omega arith

pub no-ends : {A : Type 0} (f : ℕ → A) (xs : List ℕ) → None ≡ option_map f (head xs) → length (map f xs) ≡ 1 → ⊥
no-ends f [] e p = omega arith
no-ends f (x ∷ xs) e p = none-some (f x) e

pub no-last : {A : Type 0} (f : ℕ → A) (xs : List ℕ) → None ≡ option_map f (last_of xs) → length (map f xs) ≡ 1 → ⊥
no-last f [] e p = omega arith
no-last f (x ∷ xs) e p = let r = last-in x xs in none-some (f r.0) (e ∙ ap (option_map f) r.1.1)

abbrev slot_of : IRNode → ℕ
slot_of (Operation p) = p.slot
slot_of (Region p) = p.slot
slot_of (BasicBlock p) = p.slot

module _ {O B : Type 0} (s : Nodes O B) (w : IsStored s) (r : Ptr RegionKind)
    (live : is_node_live s (Region r) ≡ true) where
  -- a region has one block exactly where its first block is its last
  pub one-block : (a b : Ptr BasicBlockKind) → Some (BasicBlock a) ≡ node_first s (Region r)
      → Some (BasicBlock b) ≡ node_last s (Region r)
      → (a ≡ b) ↔ (length (node_children s (Region r)) ≡ 1)
  one-block a b e g =
      let xs : List ℕ = children_at s.blocks_in_region r.slot in
      let at : ℕ → IRNode = block_node s in
      let p : Some (BasicBlock a) ≡ option_map at (head xs) = e ∙ rw live refl in
      let q : Some (BasicBlock b) ≡ option_map at (last_of xs) = g ∙ rw live refl in
      let k : (BasicBlock a ≡ BasicBlock b) ↔ (length (map at xs) ≡ 1) =
      same-ends at (λ i j h. ap slot_of h) (BasicBlock a) (BasicBlock b) xs (w.blocks_listed.agreed.apart r.slot) p
      q in
      rw live (λ h. k.0 (ap BasicBlock h), λ h. let same : BasicBlock a ≡ BasicBlock b = k.1 h in cc)

  pub no-block : None ≡ node_first s (Region r) → length (node_children s (Region r)) ≡ 1 → ⊥
  no-block e = rw live (no-ends (block_node s) (children_at s.blocks_in_region r.slot) (e ∙ rw live refl))

  pub no-last-block : None ≡ node_last s (Region r) → length (node_children s (Region r)) ≡ 1 → ⊥
  no-last-block e = rw live (no-last (block_node s) (children_at s.blocks_in_region r.slot) (e ∙ rw live refl))

-- whether two pointers have one slot and one version
pub same-ptr : {X : Type 0} (p q : Ptr X) (b : Bool) → b ≡ (eqb p.slot q.slot && (eqb p.version q.version && true))
    → IsTrue b ↔ (p ≡ q)
same-ptr p q b e =
    Decides-at b (same_ptr p q) (e ∙ ap (λ v. eqb p.slot q.slot && v) (and-true (eqb p.version q.version)))
    (ptr-exact p q)
