-- What a text says of names, node by node: what each node itself says, and behind it what its children say.
use Rattle.std.proofs.Common.{◌≡◌, ℕ, zero, suc, Bool, List, [], ◌∷◌, ◌++◌, flat_map, map, inl, inr, Option, Some, None}
use Rattle.std.proofs.Common.{refl, sym, ap, ap₂, subst, ◌∙◌, append_assoc}
use Rattle.plir_data.specs.declared.op_set.OpSet as op_set
use Rattle.plir_store.specs.Members.{Has}
use Rattle.plir_core.specs.ContextView.{ContextView, children, kind_of}
use Rattle.plir_core.specs.Standing.{IsStanding}
use Rattle.plir_core.specs.declared.ptr.Ptr.{Ptr}
use Rattle.plir_core.specs.declared.ptr.Operation.{Operation as OperationKind}
use Rattle.plir_core.specs.declared.ptr.Region.{Region as RegionKind}
use Rattle.plir_core.specs.declared.ptr.BasicBlock.{BasicBlock as BlockKind}
use Rattle.plir_core.specs.declared.ptr.IRNode.{IRNode}
use Rattle.plir_core.specs.declared.ptr.IRNode.TheVariants.{Operation, Region, BasicBlock}
use Rattle.plir_read_ir.specs.IrTerms.{IrOp, blocks_of, ops_of, regions_of}
use Rattle.plir_read_ir.specs.Mentions.{Mention, Scope, blocks_mentions, body_in, front_mentions, head_mentions}
use Rattle.plir_read_ir.specs.Mentions.{op_mentions, ops_mentions, region_of, regions_mentions}
use Rattle.plir_roundtrip.specs.IrWritten.{block_written, front_of, ir_term_at, region_written}
use Rattle.plir_roundtrip.specs.UsesMeant.{scope_in}
use Rattle.plir_roundtrip.specs.Written.{block_head_term}
use Rattle.plir_roundtrip.proofs.Children.{HasRoom, child_of_block, child_of_op, child_of_region, child_room}
use Rattle.plir_roundtrip.proofs.Children.{lower_room, some_room}

pub same_flat : {X Y : Type 0} (f g : X → List Y) (xs : List X) → ((x : X) → Has xs x → f x ≡ g x)
    → flat_map f xs ≡ flat_map g xs
same_flat f g [] each = refl
same_flat f g (x ∷ xs) each = ap₂ (λ a b. a ++ b) (each x (inl refl)) (same_flat f g xs (λ y h. each y (inr h)))

module _ {K A T : Type 0} (isolated : K → Bool) (s : ContextView K A T) (write : IRNode → IrOp K) where
  ops_flat : (at : Scope) (ns : List IRNode) → ops_mentions isolated s at ns (ops_of (map write ns))
      ≡ flat_map (λ n. op_mentions isolated s at n (write n)) ns
  ops_flat at [] = refl
  ops_flat at (n ∷ ns) = ap (λ l. op_mentions isolated s at n (write n) ++ l) (ops_flat at ns)

  abbrev block_says : Scope → IRNode → List Mention
  block_says at n = head_mentions isolated at n (block_written s write n).0 ++
      ops_mentions isolated s at (children s n) (ops_of (block_written s write n).1)

  blocks_flat : (at : Scope) (ns : List IRNode)
      → blocks_mentions isolated s at ns (blocks_of (map (block_written s write) ns)) ≡ flat_map (block_says at) ns
  blocks_flat at [] = refl
  blocks_flat at (n ∷ ns) =
      sym (append_assoc (head_mentions isolated at n (block_written s write n).0)
      (ops_mentions isolated s at (children s n) (ops_of (block_written s write n).1))
      (blocks_mentions isolated s at ns (blocks_of (map (block_written s write) ns))))
      ∙ ap (λ l. block_says at n ++ l) (blocks_flat at ns)

  abbrev region_says : Option (Ptr OperationKind) → IRNode → List Mention
  region_says body n =
      blocks_mentions isolated s (record { body = body; region = region_of n }) (children s n)
      (blocks_of (region_written s write n))

  regions_flat : (body : Option (Ptr OperationKind)) (ns : List IRNode)
      → regions_mentions isolated s body ns (regions_of (map (region_written s write) ns))
      ≡ flat_map (region_says body) ns
  regions_flat body [] = refl
  regions_flat body (n ∷ ns) = ap (λ l. region_says body n ++ l) (regions_flat body ns)

module _ {D K A T E : Type 0} (o : op_set.Ghosts D K A T E) (isolated : K → Bool) (s : ContextView K A T) where
  -- what a node itself says in a scope
  abbrev pub own_mentions : Scope → IRNode → List Mention
  own_mentions at (Operation p) = front_mentions isolated at (Operation p) (front_of o s (kind_of s p) p)
  own_mentions at (Region r) = []
  own_mentions at (BasicBlock b) = head_mentions isolated at (BasicBlock b) (block_head_term s b)

  -- the same of all at or under it, of k levels at most
  abbrev pub tree_mentions : ℕ → Scope → IRNode → List Mention
  tree_mentions zero at x = []
  tree_mentions (suc k) at x =
      own_mentions at x ++ flat_map (λ c. tree_mentions k (scope_in o isolated s at x) c) (children s x)

  module _ (st : IsStanding s) where
    abbrev IsFlat : ℕ → Type 0
    IsFlat k = (j : ℕ) (at : Scope) (p : Ptr OperationKind) → HasRoom s (Operation p) k → HasRoom s (Operation p) j →
        op_mentions isolated s at (Operation p) (ir_term_at o s k (Operation p)) ≡ tree_mentions j at (Operation p)

    module _ (k : ℕ) (flat : IsFlat k) where
      block_flat : (j : ℕ) (at : Scope) (b : Ptr BlockKind) → HasRoom s (BasicBlock b) k → HasRoom s (BasicBlock b) j
          → block_says isolated s (ir_term_at o s k) at (BasicBlock b) ≡ tree_mentions j at (BasicBlock b)
      block_flat zero at b room less = absurd (some_room s st (BasicBlock b) less)
      block_flat (suc j) at b room less =
          ap (λ l. head_mentions isolated at (BasicBlock b) (block_head_term s b) ++ l)
          (ops_flat isolated s (ir_term_at o s k) at (children s (BasicBlock b))
          ∙ same_flat (λ n. op_mentions isolated s at n (ir_term_at o s k n)) (λ n. tree_mentions j at n)
          (children s (BasicBlock b)) (λ n h.
          let q = child_of_block s b n h in
          subst (λ z. op_mentions isolated s at z (ir_term_at o s k z) ≡ tree_mentions j at z) (sym q.1)
          (flat j at q.0 (subst (λ z. HasRoom s z k) q.1 (lower_room s st (BasicBlock b) n k h room))
          (subst (λ z. HasRoom s z j) q.1 (child_room s st (BasicBlock b) n j h less)))))

      region_flat : (j : ℕ) (body : Option (Ptr OperationKind)) (r : Ptr RegionKind) → HasRoom s (Region r) k
          → HasRoom s (Region r) j
          → region_says isolated s (ir_term_at o s k) body (Region r)
          ≡ tree_mentions j (record { body = body; region = None }) (Region r)
      region_flat zero body r room less = absurd (some_room s st (Region r) less)
      region_flat (suc j) body r room less =
          let at : Scope = record { body = body; region = Some r } in
          blocks_flat isolated s (ir_term_at o s k) at (children s (Region r))
          ∙ same_flat (block_says isolated s (ir_term_at o s k) at) (λ n. tree_mentions j at n)
          (children s (Region r)) (λ n h.
          let b = child_of_region s r n h in
          subst (λ z. block_says isolated s (ir_term_at o s k) at z ≡ tree_mentions j at z) (sym b.1)
          (block_flat j at b.0 (subst (λ z. HasRoom s z k) b.1 (lower_room s st (Region r) n k h room))
          (subst (λ z. HasRoom s z j) b.1 (child_room s st (Region r) n j h less))))

      op_flat : (j : ℕ) (at : Scope) (p : Ptr OperationKind) → HasRoom s (Operation p) (suc k)
          → HasRoom s (Operation p) (suc j)
          → op_mentions isolated s at (Operation p) (ir_term_at o s (suc k) (Operation p))
          ≡ tree_mentions (suc j) at (Operation p)
      op_flat j at p room less =
          let front = front_of o s (kind_of s p) p in
          let body = body_in isolated at.body (Operation p) front in
          let inside : Scope = record { body = body; region = None } in
          ap (λ l. front_mentions isolated at (Operation p) front ++ l)
          (regions_flat isolated s (ir_term_at o s k) body (children s (Operation p))
          ∙ same_flat (region_says isolated s (ir_term_at o s k) body) (λ n. tree_mentions j inside n)
          (children s (Operation p)) (λ n h.
          let r = child_of_op s p n h in
          subst (λ z. region_says isolated s (ir_term_at o s k) body z ≡ tree_mentions j inside z) (sym r.1)
          (region_flat j body r.0 (subst (λ z. HasRoom s z k) r.1 (child_room s st (Operation p) n k h room))
          (subst (λ z. HasRoom s z j) r.1 (child_room s st (Operation p) n j h less)))))

    -- what the text of an operation says is what its nodes say
    pub all_flat : (k : ℕ) → IsFlat k
    all_flat zero j at p room less = absurd (some_room s st (Operation p) room)
    all_flat (suc k) zero at p room less = absurd (some_room s st (Operation p) less)
    all_flat (suc k) (suc j) at p room less = op_flat k (λ a b c d e. all_flat k a b c d e) j at p room less
