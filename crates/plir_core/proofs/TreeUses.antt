-- How often the nodes of a tree are used: counted by the node that is used, and by the operation that uses it.
use Rattle.std.proofs.Common.{◌≡◌, ℕ, zero, suc, ◌+◌, ◌<◌, ◌≤◌, Bool, true, false, cond, List, [], ◌∷◌, take, length}
use Rattle.std.proofs.Common.{get_or, Option, Some, None, IsSome, is_some, inl, inr, refl, sym, ◌∙◌, ap, subst, arith}
use Rattle.std.proofs.Common.{eqb, eq-eqb}
use Rattle.std.specs.Prelude.{All, nat_lt, ◌-◌, ◌^◌, min, count_by}
use Rattle.std.specs.List.{sum_by}
use Rattle.std.proofs.lemmas.Bool.{cases_eq, eqb-true, and_parts, ne_eqb}
use Rattle.std.proofs.lemmas.List.Sums.{sum_by-cons}
use Rattle.std.proofs.lemmas.List.{take_all}
use Rattle.std.proofs.lemmas.Option.{same_Some, none-some}
use Rattle.plir_store.specs.Table.{Table, content_at, without_slot}
use Rattle.plir_store.specs.Members.{Has, head}
use Rattle.plir_core.specs.declared.ptr.Ptr.{Ptr}
use Rattle.plir_core.specs.declared.ptr.Operation.{Operation as OperationKind}
use Rattle.plir_core.specs.declared.ptr.Region.{Region as RegionKind}
use Rattle.plir_core.specs.declared.ptr.IRNode.{IRNode}
use Rattle.plir_core.specs.declared.ptr.IRNode.TheVariants.{Operation, Region, BasicBlock}
use Rattle.plir_core.specs.declared.ptr.BasicBlock.{BasicBlock as BasicBlockKind}
use Rattle.plir_core.specs.declared.value.Value.{Value}
use Rattle.plir_core.specs.declared.value.DefiningEntity.{DefiningEntity}
use Rattle.plir_core.specs.Above.{climb, Reaches}
use Rattle.plir_core.specs.Nodes.{Nodes, ptr_at, is_node_live, node_children, node_parent}
use Rattle.plir_core.specs.Contents.{OpView, BlockView}
use Rattle.plir_core.specs.Stored.{Seat, op, region, block, seat_of, IsStored}
use Rattle.plir_core.specs.ContextView.{ContextView, IsLive, IsAncestor, is_live, types_from, entity_node, operands_in}
use Rattle.plir_core.specs.ContextView.{successors_in}
use Rattle.plir_core.specs.WellFormed.{IsWellFormed}
use Rattle.plir_core.specs.Erase.{without_node, without_nodes, tree_of, erased, IsErased}
use Rattle.plir_core.specs.Unused.{IsUnusedOutside}
use Rattle.plir_core.specs.Uses.{is_seated, hit, values_from, blocks_in, uses_held, uses_of, uses_by, uses_within}
use Rattle.plir_core.specs.Uses.{uses_of_tree, uses_inside, places_in}
use Rattle.plir_core.proofs.Listing.{some_is, some_value, content_without, content_gone}
use Rattle.plir_core.proofs.Seats.{live_some, some_live, same_seat}
use Rattle.plir_core.proofs.Freed.{ptr_one}
use Rattle.plir_core.proofs.FreedNode.{freed-live, freed-dead, freed-stored}
use Rattle.plir_core.proofs.Facts.{parent-child}
use Rattle.plir_core.proofs.Trees.{climb_last, climb_nothing}
use Rattle.plir_core.proofs.Erased.{IsPeeled, IsPeeled-tree}
use Rattle.plir_core.proofs.Loss.{IsErased-tree, in-tree, tree-in}
use Rattle.plir_core.proofs.Counting.{uses-none, held-none, count_in}
use Rattle.plir_core.proofs.Counted.{count_none, uses-freed}
use Rattle.plir_core.proofs.NotUsed.{seated_value, none_passes, values_some, blocks_some}

-- Sums.
pub sum_by-same : {X : Type 0} (f g : X → ℕ) (xs : List X) → ((x : X) → Has xs x → f x ≡ g x) →
    sum_by f xs ≡ sum_by g xs
sum_by-same f g [] e = refl
sum_by-same f g (x ∷ xs) e =
    let a = sum_by-cons f x xs in
    let b = sum_by-cons g x xs in
    let here = e x (inl refl) in
    let rest = sum_by-same f g xs (λ y h. e y (inr h)) in
    omega arith

pub sum_by-plus : {X : Type 0} (f g : X → ℕ) (xs : List X) → sum_by (λ x. f x + g x) xs ≡ sum_by f xs + sum_by g xs
sum_by-plus f g [] = refl
sum_by-plus f g (x ∷ xs) =
    let a = sum_by-cons f x xs in
    let b = sum_by-cons g x xs in
    let c = sum_by-cons (λ z. f z + g z) x xs in
    let rest = sum_by-plus f g xs in
    omega arith

pub sum_by-zero : {X : Type 0} (f : X → ℕ) (xs : List X) → ((x : X) → Has xs x → f x ≡ 0) → sum_by f xs ≡ 0
sum_by-zero f [] e = refl
sum_by-zero f (x ∷ xs) e =
    let a = sum_by-cons f x xs in
    let here = e x (inl refl) in
    let rest = sum_by-zero f xs (λ y h. e y (inr h)) in
    omega arith

pub zero-sum_by : {X : Type 0} (f : X → ℕ) (xs : List X) → sum_by f xs ≡ 0 → (x : X) → Has xs x → f x ≡ 0
zero-sum_by f [] e x h = absurd h
zero-sum_by f (y ∷ xs) e x h =
    let a = sum_by-cons f y xs in
    elim h [
      | inl q ↦ let d = ap f q in omega arith
      | inr k ↦ zero-sum_by f xs (omega arith) x k
    ]

-- the order of two sums does not matter
pub sum_by-swap : {X Y : Type 0} (f : X → Y → ℕ) (xs : List X) (ys : List Y) →
    sum_by (λ x. sum_by (f x) ys) xs ≡ sum_by (λ y. sum_by (λ x. f x y) xs) ys
sum_by-swap f [] ys = sym (sum_by-zero (λ y. sum_by (λ x. f x y) []) ys (λ y h. refl))
sum_by-swap f (x ∷ xs) ys =
    let a = sum_by-cons (λ z. sum_by (f z) ys) x xs in
    let rest = sum_by-swap f xs ys in
    let b : sum_by (λ y. sum_by (λ z. f z y) (x ∷ xs)) ys ≡ sum_by (f x) ys + sum_by (λ y. sum_by (λ z. f z y) xs) ys =
    sum_by-same (λ y. sum_by (λ z. f z y) (x ∷ xs)) (λ y. f x y + sum_by (λ z. f z y) xs) ys
    (λ y h. sum_by-cons (λ z. f z y) x xs) ∙ sum_by-plus (f x) (λ y. sum_by (λ z. f z y) xs) ys in
    omega arith

-- two sums up to the greatest number are added
pub min_more : (sum more have last all : ℕ) → have ≡ min sum (2 ^ 64 - 1) → last ≡ min more (2 ^ 64 - 1) →
    all ≡ min (have + last) (2 ^ 64 - 1) → all ≡ min (sum + more) (2 ^ 64 - 1)
min_more sum more have last all a b c = omega arith

zero_plus : (x : ℕ) → x ≡ 0 + x
zero_plus x = omega arith

plus_zero : (x : ℕ) → x ≡ x + 0
plus_zero x = omega arith

-- 1 for a slot that holds something, 0 for one that is free.
one_gone : {C : Type 0} (t : Table C) (i j : ℕ) → IsSome (content_at t i) →
    cond {A = ℕ} (is_some (content_at t j)) 1 0 ≡ cond {A = ℕ} (eqb j i) 1 0 + cond {A = ℕ}
    (is_some (content_at (without_slot t i) j)) 1 0
one_gone t i j some = elim (cases_eq j i) [
  | inl q ↦
      let a = ap (λ (b : Bool). cond {A = ℕ} b 1 0) (subst (λ z. is_some (content_at t z) ≡ true) (sym q) some) in
      let b = ap (λ (b : Bool). cond {A = ℕ} b 1 0) (eq-eqb j i q) in
      let c = ap (λ o. cond {A = ℕ} (is_some o) 1 0) (ap (content_at (without_slot t i)) q ∙ content_gone t i some) in
      omega arith
  | inr ne ↦
      let b = ap (λ (b : Bool). cond {A = ℕ} b 1 0) (ne_eqb j i ne) in
      let c = ap (λ o. cond {A = ℕ} (is_some o) 1 0) (content_without t i j ne) in
      omega arith
]

is_one : {C : Type 0} (o : Option C) → IsSome o → cond {A = ℕ} (is_some o) 1 0 ≡ 1
is_one o some = ap (λ (b : Bool). cond {A = ℕ} b 1 0) some

none_held : {C : Type 0} (o : Option C) → (IsSome o → ⊥) → cond {A = ℕ} (is_some o) 1 0 ≡ 0
none_held None n = refl
none_held (Some v) n = absurd (n refl)

-- A live operation or block sits in one place of a tree or in none: nodes are freed one after another.
module _ {O B : Type 0} where
  -- 1 for a node whose slot holds something
  abbrev held_once : Nodes O B → IRNode → ℕ
  held_once s (Operation p) = cond (is_some (content_at s.ops p.slot)) 1 0
  held_once s (Region p) = 0
  held_once s (BasicBlock p) = cond (is_some (content_at s.blocks p.slot)) 1 0

  held_once-freed : (s : Nodes O B) (n m : IRNode) → is_node_live s n ≡ true →
      held_once s m ≡ hit (seat_of n) m + held_once (without_node s n) m
  held_once-freed s (Operation q) (Operation p) live = one_gone s.ops q.slot p.slot
      (live_some s.ops q.slot q.version live)
  held_once-freed s (Operation q) (Region p) live = zero_plus (held_once s (Region p))
  held_once-freed s (Operation q) (BasicBlock p) live = zero_plus (held_once s (BasicBlock p))
  held_once-freed s (Region q) (Operation p) live = zero_plus (held_once s (Operation p))
  held_once-freed s (Region q) (Region p) live = zero_plus (held_once s (Region p))
  held_once-freed s (Region q) (BasicBlock p) live = zero_plus (held_once s (BasicBlock p))
  held_once-freed s (BasicBlock q) (Operation p) live = zero_plus (held_once s (Operation p))
  held_once-freed s (BasicBlock q) (Region p) live = zero_plus (held_once s (Region p))
  held_once-freed s (BasicBlock q) (BasicBlock p) live = one_gone s.blocks q.slot p.slot
      (live_some s.blocks q.slot q.version live)

  hits-peeled : (m : IRNode) (ns : List IRNode) (s : Nodes O B) → IsPeeled s ns →
      held_once s m ≡ sum_by (λ n. hit (seat_of n) m) ns + held_once (without_nodes s ns) m
  hits-peeled m [] s p = zero_plus (held_once s m)
  hits-peeled m (n ∷ ns) s p =
      let one = held_once-freed s n m p.0 in
      let rest : held_once (without_node s n) m ≡ sum_by (λ z. hit (seat_of z) m) ns + held_once
      (without_nodes s (n ∷ ns)) m = hits-peeled m ns (without_node s n) p.2 in
      let c : sum_by (λ z. hit (seat_of z) m) (n ∷ ns) ≡ hit (seat_of n) m + sum_by (λ z. hit (seat_of z) m) ns =
      sum_by-cons (λ z. hit (seat_of z) m) n ns in
      omega arith

  held_once-live : (s : Nodes O B) (m : IRNode) → is_seated (seat_of m) m ≡ true → is_node_live s m ≡ true →
      held_once s m ≡ 1
  held_once-live s (Operation p) used live = is_one (content_at s.ops p.slot) (live_some s.ops p.slot p.version live)
  held_once-live s (Region p) used live = absurd (let f : ⊥ = cc in f)
  held_once-live s (BasicBlock p) used live = is_one (content_at s.blocks p.slot)
      (live_some s.blocks p.slot p.version live)

  module _ (s : Nodes O B) (w : IsStored s) (root : IRNode) (live : is_node_live s root ≡ true) where
    gone : IsErased s (erased s root) root
    gone = IsErased-tree s w root live

    peeled : IsPeeled s (tree_of s root)
    peeled = IsPeeled-tree s w root live

    -- what is left is not under the root, and was live
    left : (m : IRNode) → is_node_live (erased s root) m ≡ true → Reaches (node_parent s) m root → ⊥
    left m still r = let d = gone.gone m r in let f : ⊥ = cc in f

    left-live : (m : IRNode) → is_node_live (erased s root) m ≡ true → is_node_live s m ≡ true
    left-live m still = sym (gone.live m (left m still)) ∙ still

    -- nothing is left in the slots of the tree
    held_once-gone : (m : IRNode) → is_node_live s m ≡ true → Reaches (node_parent s) m root →
        held_once (erased s root) m ≡ 0
    held_once-gone (Operation p) here r = none_held (content_at (erased s root).ops p.slot) (λ some.
        let still : is_node_live (erased s root) (Operation (ptr_at (erased s root).ops p.slot)) ≡ true = some_live
        (erased s root).ops p.slot some in
        let one : ptr_at (erased s root).ops p.slot ≡ p = ptr_one s.ops p (ptr_at (erased s root).ops p.slot) here
        (left-live (Operation (ptr_at (erased s root).ops p.slot)) still) refl in
        left (Operation p) (subst (λ z. is_node_live (erased s root) (Operation z) ≡ true) one still) r)
    held_once-gone (Region p) here r = refl
    held_once-gone (BasicBlock p) here r = none_held (content_at (erased s root).blocks p.slot) (λ some.
        let still : is_node_live (erased s root) (BasicBlock (ptr_at (erased s root).blocks p.slot)) ≡ true = some_live
        (erased s root).blocks p.slot some in
        let one : ptr_at (erased s root).blocks p.slot ≡ p = ptr_one s.blocks p (ptr_at (erased s root).blocks p.slot)
        here (left-live (BasicBlock (ptr_at (erased s root).blocks p.slot)) still) refl in
        left (BasicBlock p) (subst (λ z. is_node_live (erased s root) (BasicBlock z) ≡ true) one still) r)

    -- a live operation or block sits in one place of the tree, or in none
    pub hits-inside : (m : IRNode) → is_seated (seat_of m) m ≡ true → is_node_live s m ≡ true →
        Reaches (node_parent s) m root → sum_by (λ n. hit (seat_of n) m) (tree_of s root) ≡ 1
    hits-inside m used here r =
        let a : held_once s m ≡ sum_by (λ n. hit (seat_of n) m) (tree_of s root) + held_once (erased s root) m =
        hits-peeled m (tree_of s root) s peeled in
        let b = held_once-live s m used here in
        let c = held_once-gone m here r in
        omega arith

    pub hits-outside : (m : IRNode) → is_seated (seat_of m) m ≡ true → is_node_live s m ≡ true →
        (Reaches (node_parent s) m root → ⊥) → sum_by (λ n. hit (seat_of n) m) (tree_of s root) ≡ 0
    hits-outside m used here out =
        let a : held_once s m ≡ sum_by (λ n. hit (seat_of n) m) (tree_of s root) + held_once (erased s root) m =
        hits-peeled m (tree_of s root) s peeled in
        let b = held_once-live s m used here in
        let c = held_once-live (erased s root) m used (gone.live m out ∙ here) in
        omega arith

-- Nothing stands under a node without children but itself.
module _ {O B : Type 0} (s : Nodes O B) (w : IsStored s) (n : IRNode) (leaf : head (node_children s n) ≡ None) where
  no_child : (ks : List IRNode) (y : IRNode) → head ks ≡ None → Has ks y → ⊥
  no_child [] y f h = absurd h
  no_child (x ∷ ks) y f h = none-some x (sym f)

  pub alone : (m : IRNode) → Reaches (node_parent s) m n → m ≡ n
  alone m r = in_steps r.0 r.1
    where
      in_steps : (k : ℕ) → climb (node_parent s) k (Some m) ≡ Some n → m ≡ n
      in_steps zero e = same_Some m n e
      in_steps (suc k) e =
          let y = climb_last (node_parent s) k (Some m) n e in
          absurd (no_child (node_children s n) y.0 leaf (parent-child s w n y.0 y.1.1))

-- Nodes are freed one after another.
module _ {K A : Type 0} where
  -- what is live after a node is freed was live, and is another node
  freed-other : (s : Nodes (OpView K A) (BlockView A)) (w : IsStored s) (n m : IRNode) → is_node_live s n ≡ true →
      is_node_live (without_node s n) m ≡ true → m ≡ n → ⊥
  freed-other s w n m live still e =
      let d = freed-dead s n live w in
      let l = subst (λ z. is_node_live (without_node s n) z ≡ true) e still in
      let f : ⊥ = cc in
      f

  uses_by-freed : (s : Nodes (OpView K A) (BlockView A)) (w : IsStored s) (at : Seat) (n m : IRNode) →
      is_node_live s n ≡ true → is_node_live s m ≡ true → (m ≡ n → ⊥) → uses_by (without_node s n) at m ≡ uses_by s at m
  uses_by-freed s w at (Operation q) (Operation p) live here ne = ap (uses_held at)
      (content_without s.ops q.slot p.slot (λ e. ne (ap Operation (ptr_one s.ops q p live here e))))
  uses_by-freed s w at (Region q) (Operation p) live here ne = refl
  uses_by-freed s w at (BasicBlock q) (Operation p) live here ne = refl
  uses_by-freed s w at n (Region p) live here ne = refl
  uses_by-freed s w at n (BasicBlock p) live here ne = refl

  -- its own uses are taken off
  uses_of-freed : (s : Nodes (OpView K A) (BlockView A)) (at : Seat) (n : IRNode) → is_node_live s n ≡ true →
      uses_of s.ops at ≡ uses_of (without_node s n).ops at + uses_by s at n
  uses_of-freed s at (Operation p) live =
      let v = some_value (content_at s.ops p.slot) (live_some s.ops p.slot p.version live) in
      let f = uses-freed s.ops p.slot v.0 v.1 at in
      let h = ap (uses_held at) v.1 in
      omega arith
  uses_of-freed s at (Region p) live = plus_zero (uses_of s.ops at)
  uses_of-freed s at (BasicBlock p) live = plus_zero (uses_of s.ops at)

  -- what all operations use is what those use that are left, and what those use that are freed
  uses_of-peeled : (at : Seat) (g : IRNode → ℕ) (ns : List IRNode) (s : Nodes (OpView K A) (BlockView A)) → IsStored s →
      IsPeeled s ns →
      ((m : IRNode) → is_node_live s m ≡ true → uses_by s at m ≡ g m) →
      uses_of s.ops at ≡ uses_of (without_nodes s ns).ops at + sum_by g ns
  uses_of-peeled at g [] s w p same = plus_zero (uses_of s.ops at)
  uses_of-peeled at g (n ∷ ns) s w p same =
      let w' = freed-stored s n p.0 p.1 w in
      let rest : uses_of (without_node s n).ops at ≡ uses_of (without_nodes s (n ∷ ns)).ops at + sum_by g ns =
      uses_of-peeled at g ns (without_node s n) w' p.2 (λ m still.
      let ne = freed-other s w n m p.0 still in
      let here = sym (freed-live s n m p.0 ne w) ∙ still in
      uses_by-freed s w at n m p.0 here ne ∙ same m here) in
      let one = uses_of-freed s at n p.0 in
      let own = same n p.0 in
      let c = sum_by-cons g n ns in
      omega arith

module _ {K A : Type 0} (s : Nodes (OpView K A) (BlockView A)) (w : IsStored s) (root : IRNode)
    (live : is_node_live s root ≡ true) where
  -- how often the nodes of the tree are used: by what is left, and by the tree
  abbrev used_by_rest : ℕ
  used_by_rest = sum_by (λ n. uses_of (erased s root).ops (seat_of n)) (tree_of s root)

  uses-split : uses_of_tree s root ≡ used_by_rest + uses_inside s root
  uses-split =
      let t : List IRNode = tree_of s root in
      sum_by-same (λ n. uses_of s.ops (seat_of n)) (λ n. uses_of (erased s root).ops (seat_of n) + sum_by
      (uses_by s (seat_of n)) t) t (λ n h. uses_of-peeled (seat_of n) (uses_by s (seat_of n)) t s w
      (peeled s w root live) (λ m l. refl))
      ∙ sum_by-plus (λ n. uses_of (erased s root).ops (seat_of n)) (λ n. sum_by (uses_by s (seat_of n)) t) t
      ∙ ap (λ k. used_by_rest + k) (sum_by-swap (λ n. uses_by s (seat_of n)) t t)

not_true : (b : Bool) → (b ≡ true → ⊥) → b ≡ false
not_true true n = absurd (n refl)
not_true false n = refl

-- a node that can be used and has a seat sits there
seated-seat : (at : Seat) (m : IRNode) → is_seated at m ≡ true → seat_of m ≡ at
seated-seat (op i) (Operation p) e = ap op (eqb-true p.slot i e)
seated-seat (op i) (Region p) e = cc
seated-seat (op i) (BasicBlock p) e = cc
seated-seat (region i) (Operation p) e = cc
seated-seat (region i) (Region p) e = cc
seated-seat (region i) (BasicBlock p) e = cc
seated-seat (block i) (Operation p) e = cc
seated-seat (block i) (Region p) e = cc
seated-seat (block i) (BasicBlock p) e = ap block (eqb-true p.slot i e)

module _ {K A T : Type 0} (own : A → List ℕ) (s : ContextView K A T) (w : IsWellFormed own s) (root : IRNode)
    (live : IsLive s root) where
  abbrev rest_of : Nodes (OpView K A) (BlockView A)
  rest_of = erased s.nodes root

  -- what is in the tree is live
  under-live : (m : IRNode) → IsAncestor s root m → IsLive s m
  under-live m r = elim (r.0) as (λ k. climb (node_parent s.nodes) k (Some m) ≡ Some root → IsLive s m) [
    | zero ↦ λ e. subst (IsLive s) (sym (same_Some m root e)) live
    | suc k ↦ λ e. has_parent k (is_live s m) refl e
  ] r.1
    where
      has_parent : (k : ℕ) (b : Bool) → is_live s m ≡ b →
          climb (node_parent s.nodes) k (node_parent s.nodes m) ≡ Some root → is_live s m ≡ true
      has_parent k true e f = e
      has_parent k false e f =
          let none : node_parent s.nodes m ≡ None = rw e refl in
          absurd (none-some root (sym (climb_nothing (node_parent s.nodes) k)
          ∙ ap (climb (node_parent s.nodes) k) (sym none) ∙ f))

  -- where the rest uses none of the tree's nodes
  rest-unused : used_by_rest s.nodes w.stored root live ≡ 0 → IsUnusedOutside s root
  rest-unused none p there out = record {
    operands = λ k d h r.
        let e = (get_or (operands_in (content_at s.nodes.ops p.slot)) k d).entity in
        none_passes (λ v. is_seated (seat_of (entity_node e)) (entity_node v.entity))
        (operands_in (content_at s.nodes.ops p.slot)) k d h (seated_value e)
        (values_some (seat_of (entity_node e)) (content_at s.nodes.ops p.slot) (nothing (entity_node e) r));
    successors = λ k d h r.
        let b = get_or (successors_in (content_at s.nodes.ops p.slot)) k d in
        none_passes (λ x. is_seated (block b.slot) (BasicBlock x)) (successors_in (content_at s.nodes.ops p.slot)) k d h
        (eq-eqb b.slot b.slot refl)
        (blocks_some (block b.slot) (content_at s.nodes.ops p.slot) (nothing (BasicBlock b) r));
  }
    where
      erasure : IsErased s.nodes rest_of root
      erasure = gone s.nodes w.stored root live

      nothing : (n : IRNode) → IsAncestor s root n → uses_held (seat_of n) (content_at s.nodes.ops p.slot) ≡ 0
      nothing n r =
          let z = zero-sum_by (λ x. uses_of rest_of.ops (seat_of x)) (tree_of s.nodes root) none n
          (tree-in s.nodes w.stored root live n r) in
          ap (uses_held (seat_of n)) (sym (erasure.ops p (erasure.live (Operation p) out ∙ there)))
          ∙ held-none rest_of.ops (seat_of n) p.slot z

  unused-rest : IsUnusedOutside s root → used_by_rest s.nodes w.stored root live ≡ 0
  unused-rest unused = sum_by-zero (λ x. uses_of rest_of.ops (seat_of x)) (tree_of s.nodes root)
      (λ n h. uses-none rest_of.ops (seat_of n) (λ k. in_case n (in-tree s.nodes w.stored root live n h) k
      (content_at rest_of.ops k) refl))
    where
      erasure : IsErased s.nodes rest_of root
      erasure = gone s.nodes w.stored root live

      in_case : (n : IRNode) → IsAncestor s root n → (k : ℕ) (o : Option (OpView K A)) → content_at rest_of.ops k ≡ o →
          uses_held (seat_of n) o ≡ 0
      in_case n r k None e = refl
      in_case n r k (Some v) e =
          let q : Ptr OperationKind = ptr_at rest_of.ops k in
          let still : is_node_live rest_of (Operation q) ≡ true = some_live rest_of.ops k
          (some_is (content_at rest_of.ops k) v e) in
          let there = left-live s.nodes w.stored root live (Operation q) still in
          let out = left s.nodes w.stored root live (Operation q) still in
          let held : content_at s.nodes.ops k ≡ Some v = sym (erasure.ops q still) ∙ e in
          let none = unused q there out in
          let h = w.holds.ops k v held in
          let n_live = under-live n r in
          let outs : All (λ x. IsAncestor s root (entity_node x.entity) → ⊥) v.operands = subst
          (λ o. All (λ x. IsAncestor s root (entity_node x.entity) → ⊥) (operands_in o)) held none.operands in
          let blocks : All (λ b. IsAncestor s root (BasicBlock b) → ⊥) v.successors = subst
          (λ o. All (λ b. IsAncestor s root (BasicBlock b) → ⊥) (successors_in o)) held none.successors in
          let a = count_none (λ x. is_seated (seat_of n) (entity_node x.entity)) v.operands (λ i d b.
          let m = entity_node (get_or v.operands i d).entity in
          let m_live = (and_parts (is_live s m) (nat_lt (get_or v.operands i d).index
          (length (types_from s (get_or v.operands i d).entity))) (h.operands i d b)).0 in
          not_true (is_seated (seat_of n) m) (λ yes. outs i d b
          (subst (IsAncestor s root) (sym (same_seat s.nodes m n m_live n_live (seated-seat (seat_of n) m yes)))
          r))) in
          let z = count_none (λ x. is_seated (seat_of n) (BasicBlock x)) v.successors (λ i d b.
          let m = BasicBlock (get_or v.successors i d) in
          not_true (is_seated (seat_of n) m) (λ yes. blocks i d b
          (subst (IsAncestor s root) (sym (same_seat s.nodes m n (h.successors i d b) n_live
          (seated-seat (seat_of n) m yes))) r))) in
          omega arith

  -- the tree is unused outside exactly where its nodes are used as often as it uses them itself
  counted-unused : uses_of_tree s.nodes root ≡ uses_inside s.nodes root → IsUnusedOutside s root
  counted-unused e =
      let split = uses-split s.nodes w.stored root live in
      rest-unused (omega arith)

  -- what nothing uses is unused outside
  pub none-told : (uses : ℕ) → uses ≡ uses_of_tree s.nodes root → uses ≡ 0 → IsUnusedOutside s root
  none-told uses is none =
      let split = uses-split s.nodes w.stored root live in
      rest-unused (omega arith)

  unused-counted : IsUnusedOutside s root → uses_of_tree s.nodes root ≡ uses_inside s.nodes root
  unused-counted u =
      let split = uses-split s.nodes w.stored root live in
      let none = unused-rest u in
      omega arith

  -- what the sums tell, the second one up to the greatest number
  module _ (uses inside : ℕ) (is : uses ≡ uses_of_tree s.nodes root)
      (up_to : inside ≡ min (uses_inside s.nodes root) (2 ^ 64 - 1)) (fits : uses < 2 ^ 64 - 1) where
    pub told-unused : uses ≡ inside → IsUnusedOutside s root
    told-unused e = let q : uses ≡ uses_inside s.nodes root = omega arith in counted-unused (sym is ∙ q)

    pub unused-told : IsUnusedOutside s root → uses ≡ inside
    unused-told u = let e : uses ≡ uses_inside s.nodes root = is ∙ unused-counted u in omega arith

-- Uses that are counted one by one: `node` tells what node an element is a use of.
module _ {X : Type 0} (node : X → IRNode) (xs : List X) (ns : List IRNode) where
  abbrev pub hits_so_far : ℕ → ℕ
  hits_so_far i = sum_by (λ n. count_by (λ x. is_seated (seat_of n) (node x)) (take i xs)) ns

  pub hits-start : 0 ≡ hits_so_far 0
  hits-start = sym (sum_by-zero (λ n. count_by (λ x. is_seated (seat_of n) (node x)) (take 0 xs)) ns (λ n h. refl))

  pub hits-more : (i : ℕ) (d : X) (count more : ℕ) → i < length xs → count ≡ hits_so_far i →
      more ≡ sum_by (λ n. hit (seat_of n) (node (get_or xs i d))) ns → count + more ≡ hits_so_far (i + 1)
  hits-more i d count more h so_far is =
      let e : hits_so_far (i + 1) ≡ hits_so_far i + sum_by (λ n. hit (seat_of n) (node (get_or xs i d))) ns =
      sum_by-same (λ n. count_by (λ x. is_seated (seat_of n) (node x)) (take (i + 1) xs))
      (λ n. count_by (λ x. is_seated (seat_of n) (node x)) (take i xs) + hit (seat_of n) (node (get_or xs i d))) ns
      (λ n k. count_in (λ x. is_seated (seat_of n) (node x)) xs i d (is_seated (seat_of n) (node (get_or xs i d))) h
      refl)
      ∙ sum_by-plus (λ n. count_by (λ x. is_seated (seat_of n) (node x)) (take i xs))
      (λ n. hit (seat_of n) (node (get_or xs i d))) ns in
      omega arith

  pub hits-all : (i count : ℕ) → length xs ≤ i → count ≡ hits_so_far i →
      count ≡ sum_by (λ n. count_by (λ x. is_seated (seat_of n) (node x)) xs) ns
  hits-all i count h so_far = so_far ∙ ap (λ zs. sum_by (λ n. count_by (λ x. is_seated (seat_of n) (node x)) zs) ns)
      (take_all i xs h)

-- a value more
pub value-more : {O B : Type 0} (s : Nodes O B) (root : IRNode) (vs : List Value) (i : ℕ) (d : Value)
    (e : DefiningEntity) (m : IRNode) (count more : ℕ) → e ≡ (get_or vs i d).entity → m ≡ entity_node e →
    i < length vs →
    count ≡ hits_so_far (λ v. entity_node v.entity) vs (tree_of s root) i →
    (is_seated (seat_of m) m ≡ true → more ≡ places_in s root m) →
    count + more ≡ hits_so_far (λ v. entity_node v.entity) vs (tree_of s root) (i + 1)
value-more s root vs i d e m count more from node h so_far places =
    let is : m ≡ entity_node (get_or vs i d).entity = node ∙ ap entity_node from in
    hits-more (λ v. entity_node v.entity) vs (tree_of s root) i d count more h so_far
    (subst (λ z. is_seated (seat_of z) z ≡ true → more ≡ places_in s root z) is places
    (seated_value (get_or vs i d).entity))

-- a block more
pub block-more : {O B : Type 0} (s : Nodes O B) (root : IRNode) (bs : List (Ptr BasicBlockKind)) (i : ℕ)
    (d : Ptr BasicBlockKind) (count more : ℕ) → i < length bs →
    count ≡ hits_so_far (λ b. BasicBlock b) bs (tree_of s root) i →
    (is_seated (seat_of (BasicBlock (get_or bs i d))) (BasicBlock (get_or bs i d)) ≡ true →
    more ≡ places_in s root (BasicBlock (get_or bs i d))) →
    count + more ≡ hits_so_far (λ b. BasicBlock b) bs (tree_of s root) (i + 1)
block-more s root bs i d count more h so_far places = hits-more (λ b. BasicBlock b) bs (tree_of s root) i d count more h
    so_far (places (eq-eqb (get_or bs i d).slot (get_or bs i d).slot refl))

-- an operation's uses are those of its operands and of its successors
pub within-op : {K A : Type 0} (s : Nodes (OpView K A) (BlockView A)) (root : IRNode) (p : Ptr OperationKind)
    (v : OpView K A) → content_at s.ops p.slot ≡ Some v →
    uses_within s root (Operation p) ≡ sum_by (λ n. values_from (seat_of n) v.operands) (tree_of s root) + sum_by
    (λ n. blocks_in (seat_of n) v.successors) (tree_of s root)
within-op s root p v held =
    ap (λ o. sum_by (λ n. uses_held (seat_of n) o) (tree_of s root)) held
    ∙ sum_by-plus (λ n. values_from (seat_of n) v.operands) (λ n. blocks_in (seat_of n) v.successors) (tree_of s root)

-- what was counted of an operation's operands and successors is what it uses within the tree: s is made of the fields,
-- and t is the value
pub within-told : {K A T : Type 0} (s t : ContextView K A T) → s ≡ t →
    (root n : IRNode) (p : Ptr OperationKind) (v : OpView K A) → n ≡ Operation p →
    content_at s.nodes.ops p.slot ≡ Some v →
    (vs : List Value) (bs : List (Ptr BasicBlockKind)) → vs ≡ v.operands → bs ≡ v.successors → (a b all : ℕ) →
    a ≡ sum_by (λ n. values_from (seat_of n) vs) (tree_of s.nodes root) →
    b ≡ sum_by (λ n. blocks_in (seat_of n) bs) (tree_of s.nodes root) →
    all ≡ min (a + b) (2 ^ 64 - 1) → all ≡ min (uses_within t.nodes root n) (2 ^ 64 - 1)
within-told {K} {A} {T} s t view root n p v is held vs bs ev eb a b all ea eb' told =
    let split = within-op s.nodes root p v held in
    let ea' : a ≡ sum_by (λ n. values_from (seat_of n) v.operands) (tree_of s.nodes root) = ea
    ∙ ap (λ xs. sum_by (λ n. values_from (seat_of n) xs) (tree_of s.nodes root)) ev in
    let eb'' : b ≡ sum_by (λ n. blocks_in (seat_of n) v.successors) (tree_of s.nodes root) = eb'
    ∙ ap (λ xs. sum_by (λ n. blocks_in (seat_of n) xs) (tree_of s.nodes root)) eb in
    let sum : a + b ≡ uses_within s.nodes root (Operation p) = omega arith in
    let moved : uses_within s.nodes root (Operation p) ≡ uses_within t.nodes root n = ap (uses_within s.nodes root)
    (sym is) ∙ ap (λ (z : ContextView K A T). uses_within z.nodes root n) view in
    told ∙ ap (λ k. min k (2 ^ 64 - 1)) (sum ∙ moved)

-- a region uses nothing, nor does a block
pub within-region : {K A : Type 0} (s : Nodes (OpView K A) (BlockView A)) (root n : IRNode) (p : Ptr RegionKind) →
    n ≡ Region p → 0 ≡ min (uses_within s root n) (2 ^ 64 - 1)
within-region s root n p is = ap (λ k. min k (2 ^ 64 - 1))
    (sym (sum_by-zero (λ m. uses_by s (seat_of m) (Region p)) (tree_of s root) (λ m h. refl))
    ∙ ap (uses_within s root) (sym is))

pub within-block : {K A : Type 0} (s : Nodes (OpView K A) (BlockView A)) (root n : IRNode) (p : Ptr BasicBlockKind) →
    n ≡ BasicBlock p → 0 ≡ min (uses_within s root n) (2 ^ 64 - 1)
within-block s root n p is = ap (λ k. min k (2 ^ 64 - 1))
    (sym (sum_by-zero (λ m. uses_by s (seat_of m) (BasicBlock p)) (tree_of s root) (λ m h. refl))
    ∙ ap (uses_within s root) (sym is))
