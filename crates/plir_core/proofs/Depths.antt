-- How many nodes stand from a node up: one more than from its parent up, and no more than are live and one.
use Rattle.std.proofs.Common.{◌≡◌, ℕ, zero, suc, ◌+◌, ◌*◌, ◌<◌, ◌≤◌, ◌^◌, Bool, true, false, cond, List, [], ◌∷◌}
use Rattle.std.proofs.Common.{length, Option, Some, None, IsSome, is_some, inl, inr, refl, sym, ◌∙◌, ap, subst, arith}
use Rattle.std.specs.Prelude.{option_map}
use Rattle.std.proofs.lemmas.Option.{same_Some, none-some}
use Rattle.std.proofs.lemmas.List.Sums.{sum_by-set, count_by-le-length}
use Rattle.plir_store.specs.Lists.{parent_at}
use Rattle.plir_store.specs.Table.{Table, Cell, no_cell, cell_at, content_at, version_at, is_live_at, num_full}
use Rattle.plir_store.specs.Table.{without_slot}
use Rattle.plir_core.specs.Above.{climb, IsGrounded}
use Rattle.plir_core.specs.declared.ptr.IRNode.{IRNode}
use Rattle.plir_core.specs.declared.ptr.IRNode.TheVariants.{Operation, Region, BasicBlock}
use Rattle.plir_store.specs.Members.{Has, Distinct}
use Rattle.plir_core.specs.Nodes.{Nodes, num_nodes, node_parent, block_node, op_node, region_node}
use Rattle.plir_core.specs.Stored.{Seat, op, region, block, seat_of, up, IsStored}
use Rattle.plir_core.proofs.Climbs.{climb_none}
use Rattle.plir_core.proofs.Listing.{within_content, content_without}
use Rattle.plir_core.specs.Measures.{depth_from, most_steps, depth_of}

-- past the end of a climb the depth stays
pub depth_later : (up : Seat → Option Seat) (k m : ℕ) (o : Option Seat) → k ≤ m → climb up k o ≡ None → depth_from up m
    o ≡ depth_from up k o
depth_later up zero zero o h e = refl
depth_later up zero (suc m) o h e = rw e refl
depth_later up (suc k) zero o h e = absurd (omega arith)
depth_later up (suc k) (suc m) None h e = refl
depth_later up (suc k) (suc m) (Some n) h e = ap suc (depth_later up k m (up n) (omega arith) e)

-- one step up is one node less
pub depth_up : (up : Seat → Option Seat) (f : ℕ) (n : Seat) → climb up f (Some n) ≡ None → depth_from up f (Some n) ≡
    depth_from up f (up n) + 1
depth_up up zero n e = absurd (none-some n (sym e))
depth_up up (suc f) n e = let d = depth_later up f (suc f) (up n) (omega arith) e in omega arith

-- where only the step from c is another, and c is not come by
pub depth-frame : (up up' : Seat → Option Seat) (c : Seat) → ((n : Seat) → (n ≡ c → ⊥) → up' n ≡ up n) → (k : ℕ)
    (o : Option Seat) → ((j : ℕ) → climb up j o ≡ Some c → ⊥) → depth_from up' k o ≡ depth_from up k o
depth-frame up up' c same zero o away = refl
depth-frame up up' c same (suc k) None away = refl
depth-frame up up' c same (suc k) (Some n) away =
    let e : up' n ≡ up n = same n (λ q. away 0 (ap (λ z. Some z) q)) in
    rw e (ap suc (depth-frame up up' c same k (up n) (λ j q. away (suc j) q)))

-- the seats from a seat up
trail : (Seat → Option Seat) → ℕ → Option Seat → List Seat
trail up zero o = []
trail up (suc k) None = []
trail up (suc k) (Some n) = n ∷ trail up k (up n)

module _ (up : Seat → Option Seat) where
  length-trail : (k : ℕ) (o : Option Seat) → length (trail up k o) ≡ depth_from up k o
  unfolding trail
  length-trail zero o = refl
  length-trail (suc k) None = refl
  length-trail (suc k) (Some n) = ap suc (length-trail k (up n))

  -- a climb that has not ended is as long as its trail
  depth_long : (k : ℕ) (o : Option Seat) (m : Seat) → climb up k o ≡ Some m → depth_from up k o ≡ k
  depth_long zero o m e = refl
  depth_long (suc k) None m e = absurd (none-some m e)
  depth_long (suc k) (Some n) m e = ap suc (depth_long k (up n) m e)

  module _ (g : IsGrounded up) where
    abbrev high : Option Seat → ℕ
    high o = depth_from up g.height o

    high_up : (n : Seat) → high (Some n) ≡ high (up n) + 1
    high_up n = depth_up up g.height n (g.ends n)

    -- what is on a trail is no higher than its start
    lower : (k : ℕ) (o : Option Seat) (m : Seat) → Has (trail up k o) m → high (Some m) ≤ high o
    unfolding trail
    lower zero o m i = absurd i
    lower (suc k) None m i = absurd i
    lower (suc k) (Some n) m i = elim i [
      | inl e ↦ rw (sym e) (omega arith)
      | inr j ↦ let r = lower k (up n) m j in let u = high_up n in omega arith
    ]

    Distinct-trail : (k : ℕ) (o : Option Seat) → Distinct (trail up k o)
    unfolding trail
    Distinct-trail zero o = tt
    Distinct-trail (suc k) None = tt
    Distinct-trail (suc k) (Some n) =
        (λ i. let r = lower k (up n) n i in let u = high_up n in let f : ⊥ = omega arith in f, Distinct-trail k (up n))

module _ {T : Type 0} (t : Table T) where
  abbrev full : Cell T → ℕ
  full c = cond (is_some c.content) 1 0

  full_some : (o : Option T) → IsSome o → ◌≡◌ {A = ℕ} (cond (is_some o) 1 0) 1
  full_some None e = cc
  full_some (Some v) e = refl

  -- a slot that held something is freed
  pub count_without : (i : ℕ) → IsSome (content_at t i) → num_full (without_slot t i) + 1 ≡ num_full t
  count_without i some =
      let in' : i < length t.slots = within_content t i some in
      let here : full (cell_at t i) ≡ 1 = full_some (content_at t i) some in
      let c : num_full (without_slot t i) + full (cell_at t i) ≡ num_full t + 0 = sum_by-set full t.slots i
      (record { version = version_at t i; content = None }) no_cell in' in
      omega arith

  pub num_full-le : num_full t ≤ length t.slots
  num_full-le = count_by-le-length (λ (c : Cell T). is_some c.content) t.slots

module _ {O B : Type 0} where
  -- the seat holds a node
  abbrev pub IsSeated : Nodes O B → Seat → Type 0
  IsSeated s (op i) = IsSome (content_at s.ops i)
  IsSeated s (region i) = IsSome (content_at s.regions i)
  IsSeated s (block i) = IsSome (content_at s.blocks i)

  -- the seat is emptied
  abbrev emptied : Nodes O B → Seat → Nodes O B
  emptied s (op i) = record s { ops = without_slot s.ops i }
  emptied s (region i) = record s { regions = without_slot s.regions i }
  emptied s (block i) = record s { blocks = without_slot s.blocks i }

  emptied_count : (s : Nodes O B) (n : Seat) → IsSeated s n → num_nodes (emptied s n) + 1 ≡ num_nodes s
  emptied_count s (op i) e = let c = count_without s.ops i e in omega arith
  emptied_count s (region i) e = let c = count_without s.regions i e in omega arith
  emptied_count s (block i) e = let c = count_without s.blocks i e in omega arith

  emptied_other : (s : Nodes O B) (n m : Seat) → (n ≡ m → ⊥) → IsSeated s m → IsSeated (emptied s n) m
  emptied_other s (op i) (op j) ne e = rw (content_without s.ops i j (λ q. ne (ap op (sym q)))) e
  emptied_other s (op i) (region j) ne e = e
  emptied_other s (op i) (block j) ne e = e
  emptied_other s (region i) (op j) ne e = e
  emptied_other s (region i) (region j) ne e = rw (content_without s.regions i j (λ q. ne (ap region (sym q)))) e
  emptied_other s (region i) (block j) ne e = e
  emptied_other s (block i) (op j) ne e = e
  emptied_other s (block i) (region j) ne e = e
  emptied_other s (block i) (block j) ne e = rw (content_without s.blocks i j (λ q. ne (ap block (sym q)))) e

  -- different seats that hold nodes are no more than there are nodes
  pub length-le_seated : (ns : List Seat) (s : Nodes O B) → Distinct ns → ((n : Seat) → Has ns n → IsSeated s n) →
      length ns ≤ num_nodes s
  length-le_seated [] s d held = omega arith
  length-le_seated (n ∷ ns) s d held =
      let c = emptied_count s n (held n (inl refl)) in
      let r = length-le_seated ns (emptied s n) d.1 (λ m h. emptied_other s n m (λ e. d.0
      (subst (λ z. Has ns z) (sym e) h)) (held m (inr h))) in
      omega arith

module _ {O B : Type 0} (s : Nodes O B) (w : IsStored s) where
  over_seated : (f : ℕ → Seat) (o : Option ℕ) (m : Seat) → ((i : ℕ) → o ≡ Some i → IsSeated s (f i)) → option_map f o ≡
      Some m → IsSeated s m
  over_seated f None m each e = absurd (none-some m e)
  over_seated f (Some i) m each e = subst (IsSeated s) (same_Some (f i) m e) (each i refl)

  up_seated : (n m : Seat) → up s n ≡ Some m → IsSeated s m
  up_seated (op i) m e = over_seated block (parent_at s.ops_in_block i) m (λ j q. (w.ops_listed.linked_live i j q).1) e
  up_seated (region i) m e = over_seated op (parent_at s.regions_in_op i) m
      (λ j q. (w.regions_listed.linked_live i j q).1) e
  up_seated (block i) m e = over_seated region (parent_at s.blocks_in_region i) m
      (λ j q. (w.blocks_listed.linked_live i j q).1) e

  trail_seated : (k : ℕ) (o : Option Seat) → ((m : Seat) → o ≡ Some m → IsSeated s m) → (n : Seat) → Has
      (trail (up s) k o) n → IsSeated s n
  unfolding trail
  trail_seated zero o start n h = absurd h
  trail_seated (suc k) None start n h = absurd h
  trail_seated (suc k) (Some m) start n h = elim h [
    | inl e ↦ subst (IsSeated s) e (start m refl)
    | inr j ↦ trail_seated k (up s m) (up_seated m) n j
  ]

  -- from the node above a seat there are no more nodes than are live
  depth_over : (k : ℕ) (n : Seat) → depth_from (up s) k (up s n) ≤ num_nodes s
  depth_over k n =
      let h = length-le_seated (trail (up s) k (up s n)) s (Distinct-trail (up s) w.grounded k (up s n))
      (trail_seated k (up s n) (up_seated n)) in
      let e = length-trail (up s) k (up s n) in
      omega arith

  ended : (k : ℕ) (n : Seat) (o : Option Seat) → climb (up s) k (up s n) ≡ o → num_nodes s < k → o ≡ None
  ended k n None e h = refl
  ended k n (Some m) e h = let long = depth_long (up s) k (up s n) m e in let short = depth_over k n in absurd
      (omega arith)

  -- each climb ends
  pub climb_most : (n : Seat) → climb (up s) (most_steps s) (Some n) ≡ None
  climb_most n =
      let a = num_full-le s.ops in
      let b = num_full-le s.regions in
      let c = num_full-le s.blocks in
      let size : ℕ = 3 * (length s.ops.slots + length s.regions.slots + length s.blocks.slots) + 1 in
      let e : most_steps s ≡ suc size = omega arith in
      rw e (ended size n (climb (up s) size (up s n)) refl (omega arith))

  pub depth_falls : (n : Seat) → depth_from (up s) (most_steps s) (Some n) ≡ depth_from (up s) (most_steps s) (up s n) +
      1
  depth_falls n = depth_up (up s) (most_steps s) n (climb_most n)

  -- k steps up are k levels
  pub depth-seats : (k : ℕ) (n a : Seat) → climb (up s) k (Some n) ≡ Some a → depth_from (up s) (most_steps s) (Some n)
      ≡ depth_from (up s) (most_steps s) (Some a) + k
  depth-seats zero n a e = let q = ap (depth_from (up s) (most_steps s)) e in omega arith
  depth-seats (suc k) n a e = elim (up s n) as (λ o. up s n ≡ o → climb (up s) k o ≡ Some a → depth_from (up s)
      (most_steps s) (Some n) ≡ depth_from (up s) (most_steps s) (Some a) + suc k) [
        | None ↦ λ f g. absurd (none-some a (sym (climb_none (up s) k) ∙ g))
        | Some b ↦ λ f g.
            let d = depth_falls n in
            let q = ap (depth_from (up s) (most_steps s)) f in
            let r = depth-seats k b a g in
            omega arith
      ] refl e

  -- the seat of the parent is the one above
  seat_over : (f : ℕ → IRNode) (g : ℕ → Seat) (b : Bool) (o : Option ℕ) (a : IRNode) → ((i : ℕ) → seat_of (f i) ≡ g i) →
      cond b (option_map f o) None ≡ Some a → option_map g o ≡ Some (seat_of a)
  seat_over f g false o a each e = absurd (none-some a e)
  seat_over f g true None a each e = absurd (none-some a e)
  seat_over f g true (Some i) a each e = ap (λ z. Some z) (sym (each i) ∙ ap seat_of (same_Some (f i) a e))

  pub up_parent : (a x : IRNode) → node_parent s x ≡ Some a → up s (seat_of x) ≡ Some (seat_of a)
  up_parent a (Operation p) e = seat_over (block_node s) block (is_live_at s.ops p.slot p.version)
      (parent_at s.ops_in_block p.slot) a (λ i. refl) e
  up_parent a (Region p) e = seat_over (op_node s) op (is_live_at s.regions p.slot p.version)
      (parent_at s.regions_in_op p.slot) a (λ i. refl) e
  up_parent a (BasicBlock p) e = seat_over (region_node s) region (is_live_at s.blocks p.slot p.version)
      (parent_at s.blocks_in_region p.slot) a (λ i. refl) e

  -- a child stands one level deeper than its parent
  pub depth-child : (a x : IRNode) → node_parent s x ≡ Some a → depth_of s x ≡ depth_of s a + 1
  depth-child a x e = depth_falls (seat_of x) ∙ ap (λ o. depth_from (up s) (most_steps s) o + 1) (up_parent a x e)

  -- no node stands deeper than there may be nodes, and one more for a node that is not live
  pub depth-le : (x : IRNode) → depth_of s x ≤ s.limit + 1
  depth-le x =
      let e = depth_falls (seat_of x) in
      let h = depth_over (most_steps s) (seat_of x) in
      let v = w.within in
      omega arith

  -- nor deeper than there are nodes
  pub depth-le_nodes : (x : IRNode) → depth_of s x ≤ num_nodes s + 1
  depth-le_nodes x =
      let e = depth_falls (seat_of x) in
      let h = depth_over (most_steps s) (seat_of x) in
      omega arith

  pub depth-le_most : (x : IRNode) → depth_of s x ≤ most_steps s
  depth-le_most x =
      let e = depth_falls (seat_of x) in
      let h = depth_over (most_steps s) (seat_of x) in
      let a = num_full-le s.ops in
      let b = num_full-le s.regions in
      let c = num_full-le s.blocks in
      omega arith

  pub limit-small : s.limit + 1 ≤ 2 ^ 40
  limit-small = let h = w.limit_fits in omega arith
