-- What is known of the copy of a block that can be inlined.
use Rattle.std.proofs.Common.{◌≡◌, ℕ, zero, suc, false, true≢false, inl, inr, refl, sym, ap, subst}
use Rattle.std.proofs.Common.{◌∙◌, List, [], ◌∷◌, ◌++◌, map, length, Option, Some, None, option_map}
use Rattle.std.specs.Prelude.{All, IsSome}
use Rattle.std.specs.Option.{unwrap_or}
use Rattle.std.specs.Cmp.{first_so}
use Rattle.std.proofs.lemmas.Option.{get_or_from_slice_get, none-some, same_Some, slice_get_within}
use Rattle.plir_store.specs.Members.{Has}
use Rattle.plir_store.specs.MemberLaws.{Has-map, Has-mid, at-Has, map-Has}
use Rattle.plir_data.specs.declared.location.Location.{Location}
use Rattle.plir_core.specs.declared.ptr.Ptr.{Ptr}
use Rattle.plir_core.specs.declared.ptr.Operation.{Operation as OperationKind}
use Rattle.plir_core.specs.declared.ptr.BasicBlock.{BasicBlock as BlockKind}
use Rattle.plir_core.specs.declared.ptr.IRNode.{IRNode}
use Rattle.plir_core.specs.declared.ptr.IRNode.TheVariants.{Operation, Region, BasicBlock}
use Rattle.plir_core.specs.declared.value.Value.{Value}
use Rattle.plir_core.specs.declared.value.DefiningEntity.{DefiningEntity}
use Rattle.plir_core.specs.declared.value.DefiningEntity.TheVariants.{Op, Block}
use Rattle.plir_core.specs.Above.{climb}
use Rattle.plir_core.specs.Contents.{OpView}
use Rattle.plir_core.specs.ContextView.{ContextView, IsAncestor, IsLive, IsValueLive, arg_types_of, arguments_in}
use Rattle.plir_core.specs.ContextView.{children, entity_node, is_live, op_at, operands_in, operands_of, parent_of}
use Rattle.plir_core.specs.ContextView.{result_types_of, results_in, successors_in, successors_of, type_of_value}
use Rattle.plir_core.specs.Forest.{IsForest, look}
use Rattle.plir_core.specs.Made.{IsMade}
use Rattle.plir_core.specs.WellFormed.{IsWellFormed}
use Rattle.plir_copies.specs.Images.{Images, block_in, blocks_in, for_call, no_images, value_in, values_in}
use Rattle.plir_copies.specs.Copied.{op_under}
use Rattle.plir_copies.specs.Trees.{Copies, IsCopyOfTree, entity_copy, node_copy, value_copy}
use Rattle.plir_inline.specs.Given.{NoneFrom}
use Rattle.plir_inline.specs.Inlined.{CanInline}
use Rattle.plir_inline.specs.Put.{CanPut}
use Rattle.plir_inline.proofs.GivenValues.{bool_cases}
use Rattle.plir_inline.proofs.Giving.{length-map}
use Rattle.plir_inline.proofs.Lists.{block-same, map-end}
use Rattle.plir_inline.proofs.Steps.{climb-none, operands-live}

pub all-has : {X : Type 0} (P : X → Type 0) (xs : List X) (x : X) → All P xs → Has xs x → P x
all-has P xs x all has =
    let r = at-Has xs x has in
    subst P (get_or_from_slice_get xs r.0 x x r.1) (all r.0 x (slice_get_within xs r.0 x r.1))

module _ {K A : Type 0} (m : Images) where
  under-results : (o : Option (OpView K A)) → results_in (option_map (op_under m) o) ≡ results_in o
  under-results None = refl
  under-results (Some o) = refl

  under-operands : (o : Option (OpView K A)) → operands_in (option_map (op_under m) o) ≡ values_in m (operands_in o)
  under-operands None = refl
  under-operands (Some o) = refl

  under-successors : (o : Option (OpView K A)) → successors_in (option_map (op_under m) o) ≡ blocks_in m (successors_in o)
  under-successors None = refl
  under-successors (Some o) = refl

-- a block that an operation branches to is live
successors-live : {K A T : Type 0} (own : A → List ℕ) (s : ContextView K A T) → IsWellFormed own s
    → (p : Ptr OperationKind) (b : Ptr BlockKind) → Has (successors_of s p) b → IsLive s (BasicBlock b)
successors-live own s whole p b has = go (op_at s p) refl has
  where
    go : (o : Option _) → op_at s p ≡ o → Has (successors_in o) b → IsLive s (BasicBlock b)
    go None e h = absurd h
    go (Some o) e h = all-has (λ x. IsLive s (BasicBlock x)) o.successors b (whole.holds.ops p.slot o e).successors h

node-of : (c : Copies) (e : DefiningEntity) → node_copy c (entity_node e) ≡ entity_node (entity_copy c e)
node-of c (Op p) = refl
node-of c (Block p) = refl

-- what an operation's copy is a copy of
op-of : (c : Copies) (n : IRNode) (p : Ptr OperationKind) → node_copy c n ≡ Operation p
    → (q : Ptr OperationKind) × (n ≡ Operation q)
op-of c (Operation q) p e = (q, refl)
op-of c (Region q) p e = absurd (let z : ⊥ = cc in z)
op-of c (BasicBlock q) p e = absurd (let z : ⊥ = cc in z)

module _ {K A T : Type 0} (own : A → List ℕ) (s t : ContextView K A T) (call : Ptr OperationKind) (block copy : Ptr BlockKind)
    (h : CanInline s call block) (whole : IsWellFormed own s) (fs : IsForest (look s)) (ft : IsForest (look t))
    (made : IsMade s.nodes t.nodes (BasicBlock copy)) (place : Location) (m : Images)
    (k : IsCopyOfTree s t (BasicBlock block) (BasicBlock copy) (for_call no_images place) m) where
  pub top : k.copies.block block ≡ copy
  top = block-same (k.copies.block block) copy k.top

  pub has-last : Has (children s (BasicBlock block)) (Operation h.last)
  has-last = subst (λ xs. Has xs (Operation h.last)) (sym h.ends) (Has-mid h.body [] (Operation h.last))

  pub last-below : IsAncestor s (BasicBlock block) (Operation h.last)
  last-below = (1, fs.child_parent (BasicBlock block) (Operation h.last) has-last)

  -- a node that was live is no copy
  pub not-copy : (n x : IRNode) → IsAncestor s (BasicBlock block) n → IsLive s x → node_copy k.copies n ≡ x → ⊥
  not-copy n x below live is = true≢false (sym live ∙ ap (is_live s) (sym is) ∙ (k.tree n below).new)

  pub copy-new : (x : Ptr BlockKind) → IsLive s (BasicBlock x) → x ≡ copy → ⊥
  copy-new x live is = true≢false (sym live ∙ ap (λ z. is_live s (BasicBlock z)) is ∙ made.new)

  -- what was put in place of a value is new, and so is what was put in place of a block
  image-new : (x w : Value) → m.value x ≡ Some w → IsLive s (entity_node w.entity) → ⊥
  image-new x w e live = none-some w (sym (k.mapped.other_values x (λ below l.
      let same : value_copy k.copies x ≡ w = same_Some (value_copy k.copies x) w (sym (k.mapped.values x below l) ∙ e) in
      not-copy (entity_node x.entity) (entity_node w.entity) below live
      (node-of k.copies x.entity ∙ ap (λ z. entity_node z.entity) same))) ∙ e)

  -- the block alone has become the copy
  pub top-only : (n : IRNode) → IsAncestor s (BasicBlock block) n → node_copy k.copies n ≡ BasicBlock copy
      → n ≡ BasicBlock block
  top-only n below is = go below.0 below.1
    where
      parent-none : (x : IRNode) → IsAncestor s (BasicBlock block) x → parent_of s n ≡ Some x → ⊥
      parent-none x up p =
          let has : Has (children t (node_copy k.copies x)) (node_copy k.copies n) =
          subst (λ xs. Has xs (node_copy k.copies n)) (sym (k.tree x up).children)
          (map-Has (node_copy k.copies) (children s x) n (fs.parent_child x n p)) in
          none-some (node_copy k.copies x) (sym made.top ∙ ap (parent_of t) (sym is)
          ∙ ft.child_parent (node_copy k.copies x) (node_copy k.copies n) has)

      step : (j : ℕ) (o : Option IRNode) → parent_of s n ≡ o → climb (parent_of s) j o ≡ Some (BasicBlock block) → ⊥
      step j None p c = none-some (BasicBlock block) (sym (climb-none (parent_of s) j) ∙ c)
      step j (Some x) p c = parent-none x (j, c) p

      go : (j : ℕ) → climb (parent_of s) j (Some n) ≡ Some (BasicBlock block) → n ≡ BasicBlock block
      go zero c = same_Some n (BasicBlock block) c
      go (suc j) c = absurd (step j (parent_of s n) refl c)

  -- what stands below the copy is a copy
  image-from : (j : ℕ) (n : IRNode) → climb (parent_of t) j (Some n) ≡ Some (BasicBlock copy)
      → (o : IRNode) × (IsAncestor s (BasicBlock block) o × (node_copy k.copies o ≡ n))
  image-from zero n c = (BasicBlock block, ((0, refl), k.top ∙ sym (same_Some n (BasicBlock copy) c)))
  image-from (suc j) n c = go (λ x d. image-from j x d) (parent_of t n) refl c
    where
      go : ((x : IRNode) → climb (parent_of t) j (Some x) ≡ Some (BasicBlock copy)
          → (o : IRNode) × (IsAncestor s (BasicBlock block) o × (node_copy k.copies o ≡ x)))
          → (o : Option IRNode) → parent_of t n ≡ o → climb (parent_of t) j o ≡ Some (BasicBlock copy)
          → (o : IRNode) × (IsAncestor s (BasicBlock block) o × (node_copy k.copies o ≡ n))
      go more None p d = absurd (none-some (BasicBlock copy) (sym (climb-none (parent_of t) j) ∙ d))
      go more (Some x) p d =
          let up = more x d in
          let has : Has (map (node_copy k.copies) (children s up.0)) n =
          subst (λ xs. Has xs n) (ap (children t) (sym up.1.1) ∙ (k.tree up.0 up.1.0).children) (ft.parent_child x n p) in
          let r = Has-map (node_copy k.copies) (children s up.0) n has in
          let over : parent_of s r.0 ≡ Some up.0 = fs.child_parent up.0 r.0 r.1.0 in
          (r.0, ((suc up.1.0.0, ap (climb (parent_of s) up.1.0.0) over ∙ up.1.0.1), r.1.1))

  pub image : (n : IRNode) → IsLive t n → is_live s n ≡ false
      → (o : IRNode) × (IsAncestor s (BasicBlock block) o × (node_copy k.copies o ≡ n))
  image n live new = let r = made.below n live new in image-from r.0 n r.1

  pub call-operands : operands_of t call ≡ operands_of s call
  call-operands = ap operands_in (made.keeps.ops call h.stand.call_live)

  pub last-operands : operands_of t (k.copies.op h.last) ≡ values_in m (operands_of s h.last)
  last-operands = ap operands_in (k.tree (Operation h.last) last-below).holds ∙ under-operands m (op_at s h.last)

  pub operand-old : (p : Ptr OperationKind) (v : Value) → Has (operands_of s p) v → IsLive s (entity_node v.entity)
  operand-old p v has = first_so _ _ (all-has (IsValueLive s) (operands_of s p) v (operands-live own s whole p) has)

  pub none-inner : (p : Ptr OperationKind) (v : Value) → Has (operands_of s p) v → v.entity ≡ Block copy → ⊥
  none-inner p v has is =
      true≢false (sym (operand-old p v has) ∙ ap (λ e. is_live s (entity_node e)) is ∙ made.new)

  none-back : NoneFrom (Op call) (operands_of t (k.copies.op h.last))
  none-back v has is =
      let r = Has-map (value_in m) (operands_of s h.last) v (subst (λ xs. Has xs v) last-operands has) in
      go r.0 r.1.0 r.1.1 (m.value r.0) refl
    where
      go : (x : Value) → Has (operands_of s h.last) x → value_in m x ≡ v → (o : Option Value) → m.value x ≡ o → ⊥
      go x hx e None q =
          h.end.none_back x hx (ap (λ z. z.entity) (ap (λ o. unwrap_or o x) (sym q) ∙ e) ∙ is)
      go x hx e (Some w) q =
          let same : w ≡ v = ap (λ o. unwrap_or o x) (sym q) ∙ e in
          image-new x w q (subst (λ z. IsLive s (entity_node z)) (sym (ap (λ z. z.entity) same ∙ is)) h.stand.call_live)

  -- no copy branches to the copy of the block
  no-branch : (p : Ptr OperationKind) → IsLive t (Operation p) → Has (successors_of t p) copy → ⊥
  no-branch p live has = elim (bool_cases (is_live s (Operation p))) [
    | inl old ↦
        copy-new copy (successors-live own s whole p copy
        (subst (λ xs. Has xs copy) (ap successors_in (made.keeps.ops p old)) has)) refl
    | inr new ↦
        let r = image (Operation p) live new in
        let q = op-of k.copies r.0 p r.1.1 in
        branches q.0 (subst (IsAncestor s (BasicBlock block)) q.1 r.1.0)
        (subst (λ z. Has (successors_of t z) copy) (op-same p (k.copies.op q.0)
        (sym r.1.1 ∙ ap (node_copy k.copies) q.1)) has)
  ]
    where
      op-same : (x y : Ptr OperationKind) → Operation x ≡ Operation y → x ≡ y
      op-same x y e = cc

      to-copy : (q : Ptr OperationKind) (b : Ptr BlockKind) → IsAncestor s (BasicBlock block) (Operation q)
          → Has (successors_of s q) b → block_in m b ≡ copy → (o : Option (Ptr BlockKind)) → m.block b ≡ o → ⊥
      to-copy q b below hb e None x =
          copy-new b (successors-live own s whole q b hb) (ap (λ o. unwrap_or o b) (sym x) ∙ e)
      to-copy q b below hb e (Some w) x =
          none-some w (sym (k.mapped.other_blocks b (λ up.
          let same : k.copies.block b ≡ w = same_Some (k.copies.block b) w (sym (k.mapped.blocks b up) ∙ x) in
          let is : w ≡ copy = ap (λ o. unwrap_or o b) (sym x) ∙ e in
          let at = block-same b block (top-only (BasicBlock b) up (ap BasicBlock (same ∙ is))) in
          h.stand.no_branch q below (subst (Has (successors_of s q)) at hb))) ∙ x)

      branches : (q : Ptr OperationKind) → IsAncestor s (BasicBlock block) (Operation q)
          → Has (successors_of t (k.copies.op q)) copy → ⊥
      branches q below hc =
          let has2 = subst (λ xs. Has xs copy) (ap successors_in (k.tree (Operation q) below).holds
          ∙ under-successors m (op_at s q)) hc in
          let r = Has-map (block_in m) (successors_of s q) copy has2 in
          to-copy q r.0 below r.1.0 r.1.1 (m.block r.0) refl

  -- what stands in the copy
  pub copy-ends : children t (BasicBlock copy) ≡ map (node_copy k.copies) h.body ++ Operation (k.copies.op h.last) ∷ []
  copy-ends =
      ap (λ b. children t (BasicBlock b)) (sym top) ∙ (k.tree (BasicBlock block) (0, refl)).children
      ∙ ap (map (node_copy k.copies)) h.ends ∙ map-end (node_copy k.copies) h.body (Operation h.last)

  pub can-put : CanPut t call copy
  can-put = record {
    call_live = made.keeps.live (Operation call) h.stand.call_live;
    block_live = made.root;
    in_block = subst (λ o. IsSome o) (sym (made.keeps.parents (Operation call) h.stand.call_live)) h.stand.in_block;
    leaf = made.children (Operation call) h.stand.call_live ∙ h.stand.leaf;
    alone = made.top;
    apart = made.apart (Operation call) h.stand.call_live;
    body = map (node_copy k.copies) h.body;
    last = k.copies.op h.last;
    ends = copy-ends;
    last_leaf = (k.tree (Operation h.last) last-below).children ∙ ap (map (node_copy k.copies)) h.end.leaf;
    last_bare = ap results_in (k.tree (Operation h.last) last-below).holds ∙ under-results m (op_at s h.last) ∙ h.end.bare;
    arguments = ap length call-operands ∙ sym (length-map (type_of_value s) (operands_of s call)) ∙ ap length h.stand.arguments
        ∙ length-map (λ ty. Some ty) (arg_types_of s block)
        ∙ sym (ap (λ b. length (arg_types_of t b)) (sym top) ∙ ap (λ x. length (arguments_in x))
        (k.tree (BasicBlock block) (0, refl)).holds);
    results = ap length last-operands ∙ length-map (value_in m) (operands_of s h.last)
        ∙ sym (length-map (type_of_value s) (operands_of s h.last)) ∙ ap length h.end.results
        ∙ length-map (λ ty. Some ty) (result_types_of s call)
        ∙ sym (ap (λ x. length (results_in x)) (made.keeps.ops call h.stand.call_live));
    none_own = subst (NoneFrom (Op call)) (sym call-operands) h.stand.none_own;
    none_inner = subst (NoneFrom (Block copy)) (sym call-operands) (none-inner call);
    none_back = none-back;
    no_branch = no-branch;
  }
