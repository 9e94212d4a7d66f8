-- Where the slot numbers of regions are spent, they stay so when an operation that lacks regions is freed again.
use Rattle.std.proofs.Common.{◌≡◌, ℕ, suc, ◌+◌, ◌-◌, ◌≤◌, ◌<◌, ◌^◌, ◌⊎◌, cond, Bool, true, false, List, [], ◌∷◌, ◌++◌}
use Rattle.std.proofs.Common.{length, inl, inr, refl, ap, subst, sym, ◌∙◌, arith, length-set}
use Rattle.std.specs.Prelude.{All, ◌==◌}
use Rattle.std.specs.List.{flat_map}
use Rattle.std.proofs.lemmas.List.{length-append}
use Rattle.plir_store.specs.Table.{Table, MAX_VERSION, version_at, next_slot}
use Rattle.plir_core.specs.declared.ptr.Ptr.{Ptr}
use Rattle.plir_core.specs.declared.ptr.Operation.{Operation as OperationKind}
use Rattle.plir_core.specs.declared.ptr.IRNode.{IRNode}
use Rattle.plir_core.specs.declared.ptr.IRNode.TheVariants.{Operation, Region, BasicBlock}
use Rattle.plir_core.specs.Nodes.{Nodes, num_nodes, node_children}
use Rattle.plir_core.specs.Made.{IsNewRegion}
use Rattle.plir_core.specs.Erase.{without_node, without_nodes, tree_of, erased}
use Rattle.plir_core.proofs.Erased.{tree-leaf}
use Rattle.plir_core.proofs.NewRegions.{IsMaking, spent_in}
use Rattle.plir_core.proofs.Walked.{tree_of-step}

-- a slot that is freed adds one free slot at most, and takes none away
frees_one : {C : Type 0} (t : Table C) (i : ℕ) (b : Bool) → length (cond b t.free (i ∷ t.free)) ≤ length t.free + 1
frees_one t i true = omega arith
frees_one t i false = omega arith

module _ {O B : Type 0} where
  -- one more slot of a region is free at most
  frees_at_most : (s : Nodes O B) (n : IRNode) → length (without_node s n).regions.free ≤ length s.regions.free + 1
  frees_at_most s (Operation p) = omega arith
  frees_at_most s (Region p) = frees_one s.regions p.slot (version_at s.regions p.slot == MAX_VERSION)
  frees_at_most s (BasicBlock p) = omega arith

  -- as many slots of regions are free at most as nodes were freed before an operation was
  free_before : (ns : List IRNode) (s : Nodes O B) (p : Ptr OperationKind) →
      length (without_nodes s (ns ++ Operation p ∷ [])).regions.free ≤ length s.regions.free + length ns
  free_before [] s p = omega arith
  free_before (n ∷ ns) s p =
      let a = frees_at_most s n in
      let b = free_before ns (without_node s n) p in
      omega (arith, a, b)

  slots_stay : (s : Nodes O B) (n : IRNode) → length (without_node s n).regions.slots ≡ length s.regions.slots
  slots_stay s (Operation p) = refl
  slots_stay s (Region p) = length-set s.regions.slots p.slot _
  slots_stay s (BasicBlock p) = refl

  all_slots_stay : (ns : List IRNode) (s : Nodes O B) →
      length (without_nodes s ns).regions.slots ≡ length s.regions.slots
  all_slots_stay [] s = refl
  all_slots_stay (n ∷ ns) s = all_slots_stay ns (without_node s n) ∙ slots_stay s n

  -- trees of regions without blocks have a node each
  one_each : (s : Nodes O B) (o : IRNode) (rs : List IRNode) → All (IsNewRegion s o) rs →
      length (flat_map (tree_of s) rs) ≡ length rs
  one_each s o [] h = refl
  one_each s o (r ∷ rs) h =
      let c = length-append (tree_of s r) (flat_map (tree_of s) rs) in
      let one : length (tree_of s r) ≡ 1 = ap length (tree-leaf s r (h 0 r (omega arith)).empty) in
      let i = one_each s o rs (λ k d l. h (suc k) d (omega (arith, l))) in
      omega (arith, c, one, i)

  -- where n regions were made of m, and there is no slot for one more, there is none for m after they were freed
  pub spent_left : (b : Nodes O B) (v : O) (p : Ptr OperationKind) (n m : ℕ) (s t u : Nodes O B) → IsMaking b v p n s →
      n < m → num_nodes b + 1 + m ≤ b.limit → (num_nodes s ≡ s.limit) ⊎ (2 ^ 32 - 1 ≤ next_slot s.regions) → t ≡ s →
      u ≡ erased t (Operation p) → 2 ^ 32 - 1 + length u.regions.free < length u.regions.slots + m
  spent_left b v p n m s t u k h fits (inl full) e f = let l = k.made.keeps.limit in absurd (omega (arith, k.count))
  spent_left b v p n m s t u k h fits (inr spent) e f =
      let few : length s.regions.slots ≤ 2 ^ 32 - 1 = let x = k.stored.region_slots.num_slots in omega arith in
      let x = spent_in s.regions s.regions.free (2 ^ 32 - 1) k.stored.region_slots refl few spent in
      let below = flat_map (tree_of s) (node_children s (Operation p)) in
      let is : u ≡ without_nodes s (below ++ Operation p ∷ []) =
      f ∙ ap (λ z. erased z (Operation p)) e ∙ ap (without_nodes s) (tree_of-step s k.stored (Operation p)) in
      let free = free_before below s p in
      let slots = all_slots_stay (below ++ Operation p ∷ []) s in
      let many : length below ≡ n =
      one_each s (Operation p) (node_children s (Operation p)) k.regions.each ∙ k.regions.count in
      subst (λ (z : Nodes O B). 2 ^ 32 - 1 + length z.regions.free < length z.regions.slots + m) (sym is)
      (omega (arith, x.0, x.1, free, slots, many, h))
