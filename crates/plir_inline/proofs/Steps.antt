-- The steps by which a block is put in place of a call.
use Rattle.std.proofs.Common.{◌≡◌, ℕ, zero, suc, ◌<◌, arith, true, true≢false, cond, ◌⊎◌, inl, inr, refl, sym}
use Rattle.std.specs.Cmp.{second_so}
use Rattle.std.proofs.Common.{nat_lt, ap, subst, ◌∙◌, List, [], ◌∷◌, ◌++◌, map, length, Option, Some, None, option_map}
use Rattle.std.specs.Prelude.{All, IsSome, slice_index_or}
use Rattle.std.proofs.lemmas.Option.{none-some, same_Some}
use Rattle.plir_store.specs.Members.{Has}
use Rattle.plir_store.specs.MemberLaws.{Has-append_left, Has-map, Has-mid, Has-split}
use Rattle.plir_store.specs.Table.{content_at, is_live_at}
use Rattle.plir_core.specs.declared.ptr.Ptr.{Ptr}
use Rattle.plir_core.specs.declared.ptr.Operation.{Operation as OperationKind}
use Rattle.plir_core.specs.declared.ptr.BasicBlock.{BasicBlock as BlockKind}
use Rattle.plir_core.specs.declared.ptr.IRNode.{IRNode}
use Rattle.plir_core.specs.declared.ptr.IRNode.TheVariants.{Operation, Region, BasicBlock}
use Rattle.plir_core.specs.declared.value.Value.{Value}
use Rattle.plir_core.specs.declared.value.DefiningEntity.{DefiningEntity}
use Rattle.plir_core.specs.declared.value.DefiningEntity.TheVariants.{Op, Block}
use Rattle.plir_core.specs.Above.{Reaches, climb}
use Rattle.plir_core.specs.ContextView.{ContextView, IsAncestor, IsLive, arg_types_of, block_at, children, given_out}
use Rattle.plir_core.specs.ContextView.{IsValueLive, arguments_in, entity_node, is_live, op_at, operands_in}
use Rattle.plir_core.specs.ContextView.{operands_of, parent_of}
use Rattle.plir_core.specs.ContextView.{result_types_of, results_in, successors_in, successors_of, types_from}
use Rattle.plir_core.specs.Unused.{IsUnusedOutside}
use Rattle.plir_core.specs.WellFormed.{IsWellFormed}
use Rattle.plir_core.specs.Forest.{IsForest, look}
use Rattle.plir_core.specs.Moved.{IsSplicedBefore, IsTransferred}
use Rattle.plir_core.specs.Nodes.{is_given_out, node_over}
use Rattle.plir_core.specs.Results.{HasNoUsedResult}
use Rattle.plir_inline.specs.Given.{IsGiven, NoneFrom, with_operands_by}
use Rattle.plir_inline.specs.Put.{CanPut, IsPut, Stays, inside, put}
use Rattle.plir_inline.specs.Taken.{IsTaken}
use Rattle.plir_inline.proofs.GivenValues.{given-cases, given-gone}
use Rattle.plir_inline.proofs.Giving.{by-operands, by-results, by-successors, given-types, length-map}
use Rattle.plir_inline.proofs.Lists.{append-none, block-same, contained, has-index, node-told, some-of}

below-of : (i j : ℕ) → nat_lt i j ≡ true → i < j
below-of i j e = grind arith

pub climb-none : {N : Type 0} (up : N → Option N) (k : ℕ) → climb up k None ≡ None
climb-none up zero = refl
climb-none up (suc k) = refl

-- who climbs where some steps are cut off has climbed
climb-cut : {N : Type 0} (up cut : N → Option N) → ((m : N) → (cut m ≡ up m) ⊎ (cut m ≡ None)) → (k : ℕ) (m a : N)
    → climb cut k (Some m) ≡ Some a → climb up k (Some m) ≡ Some a
climb-cut up cut same zero m a e = e
climb-cut up cut same (suc k) m a e = elim (same m) [
  | inr none ↦ absurd (none-some a (sym (climb-none cut k) ∙ ap (climb cut k) (sym none) ∙ e))
  | inl is ↦ go (λ x c. climb-cut up cut same k x a c) (up m) (ap (climb cut k) (sym is) ∙ e)
]
  where
    go : ((x : _) → climb cut k (Some x) ≡ Some a → climb up k (Some x) ≡ Some a) → (o : Option _)
        → climb cut k o ≡ Some a → climb up k o ≡ Some a
    go more None c = absurd (none-some a (sym (climb-none cut k) ∙ c))
    go more (Some x) c = more x c

entity-block : (x : DefiningEntity) (b : Ptr BlockKind) → entity_node x ≡ BasicBlock b → x ≡ Block b
entity-block (Op p) b e = absurd (let z : ⊥ = cc in z)
entity-block (Block p) b e = ap Block (block-same p b e)

-- what an operation uses is live
pub operands-live : {K A T : Type 0} (own : A → List ℕ) (s : ContextView K A T) → IsWellFormed own s
    → (p : Ptr OperationKind) → All (IsValueLive s) (operands_of s p)
operands-live own s whole p = go (op_at s p) refl
  where
    go : (o : Option _) → op_at s p ≡ o → All (IsValueLive s) (operands_in o)
    go None e = λ k d h. absurd (let z : ⊥ = omega (arith, h) in z)
    go (Some o) e = (whole.holds.ops p.slot o e).operands

-- a live argument is below the count of arguments
argument-below : {K A T : Type 0} (s : ContextView K A T) (v : Value) (b : Ptr BlockKind) → IsValueLive s v
    → v.entity ≡ Block b → v.index < length (arg_types_of s b)
argument-below s v b live is =
    let l : nat_lt v.index (length (types_from s v.entity)) ≡ true = second_so _ _ live in
    let e : nat_lt v.index (length (arg_types_of s b)) ≡ true = subst (λ x. nat_lt v.index (length (types_from s x)) ≡ true) is l in
    below-of v.index (length (arg_types_of s b)) e

module _ {K A T : Type 0} (s : ContextView K A T) (call : Ptr OperationKind) (block : Ptr BlockKind)
    (h : CanPut s call block) where
  -- what is given is no result of the call
  pub none-back : NoneFrom (Op call) (map (inside s call block h.last) (operands_of s h.last))
  none-back v has own =
      let r = Has-map (inside s call block h.last) (operands_of s h.last) v has in
      let from : (inside s call block h.last r.0).entity ≡ Op call = ap (λ z. z.entity) r.1.1 ∙ own in
      elim (given-cases (Block block) (operands_of s call) r.0) [
        | inl same ↦ h.none_back r.0 r.1.0 (ap (λ z. z.entity) (sym same) ∙ from)
        | inr other ↦ h.none_own (inside s call block h.last r.0) other from
      ]

  pub put-not-call : (x : Value) → (put s call block h.last x).entity ≡ Op call
      → (put s call block h.last x).index < length (result_types_of s call) → ⊥
  put-not-call x own below =
      let ws = map (inside s call block h.last) (operands_of s h.last) in
      let long : length ws ≡ length (result_types_of s call) = length-map (inside s call block h.last) (operands_of s h.last) ∙ h.results in
      given-gone (Op call) ws none-back (inside s call block h.last x) own
      (subst (λ n. (put s call block h.last x).index < n) (sym long) below)

  inside-not-block : (x : Value) → (inside s call block h.last x).entity ≡ Block block
      → (inside s call block h.last x).index < length (arg_types_of s block) → ⊥
  inside-not-block x own below =
      given-gone (Block block) (operands_of s call) h.none_inner x own
      (subst (λ n. (inside s call block h.last x).index < n) (sym h.arguments) below)

  pub put-not-block : (x : Value) → (put s call block h.last x).entity ≡ Block block
      → (put s call block h.last x).index < length (arg_types_of s block) → ⊥
  put-not-block x own below =
      let ws = map (inside s call block h.last) (operands_of s h.last) in
      elim (given-cases (Op call) ws (inside s call block h.last x)) [
        | inl same ↦
            inside-not-block x (ap (λ z. z.entity) (sym same) ∙ own)
            (subst (λ z. z.index < length (arg_types_of s block)) same below)
        | inr other ↦
            let r = Has-map (inside s call block h.last) (operands_of s h.last) (put s call block h.last x) other in
            inside-not-block r.0 (ap (λ z. z.entity) r.1.1 ∙ own)
            (subst (λ z. z.index < length (arg_types_of s block)) (sym r.1.1) below)
      ]

  module _ (forest : IsForest (look s)) where
    has-last : Has (children s (BasicBlock block)) (Operation h.last)
    has-last = subst (λ xs. Has xs (Operation h.last)) (sym h.ends) (Has-mid h.body [] (Operation h.last))

    pub last-live : IsLive s (Operation h.last)
    last-live = forest.child_live (BasicBlock block) (Operation h.last) has-last

    pub last-parent : parent_of s (Operation h.last) ≡ Some (BasicBlock block)
    last-parent = forest.child_parent (BasicBlock block) (Operation h.last) has-last

    -- the call stands elsewhere
    pub not-in-block : parent_of s (Operation call) ≡ Some (BasicBlock block) → ⊥
    not-in-block e = h.apart (1, e)

    pub call-not-last : Operation call ≡ Operation h.last → ⊥
    call-not-last e = not-in-block (ap (parent_of s) e ∙ last-parent)

    -- what the call stands in
    abbrev pub over : IRNode
    over = (some-of (parent_of s (Operation call)) h.in_block).0

    pub over-is : parent_of s (Operation call) ≡ Some over
    over-is = (some-of (parent_of s (Operation call)) h.in_block).1

    pub in-over : Has (children s over) (Operation call)
    in-over = forest.parent_child over (Operation call) over-is

    -- a node that has the call among its children
    pub over-only : (n : IRNode) → Has (children s n) (Operation call) → n ≡ over
    over-only n has = same_Some n over (sym (forest.child_parent n (Operation call) has) ∙ over-is)

    pub over-not-block : over ≡ BasicBlock block → ⊥
    over-not-block e = not-in-block (over-is ∙ ap Some e)

    pub over-not-last : over ≡ Operation h.last → ⊥
    over-not-last e = subst (λ xs. Has xs (Operation call)) (ap (children s) e ∙ h.last_leaf) in-over

    pub over-not-call : over ≡ Operation call → ⊥
    over-not-call e = subst (λ xs. Has xs (Operation call)) (ap (children s) e ∙ h.leaf) in-over

    module _ (a : ContextView K A T) (hg : IsGiven s a (put s call block h.last)) where
      pub last-unused : HasNoUsedResult a h.last
      last-unused i below u =
          let none : length (result_types_of a h.last) ≡ 0 =
          ap length (given-types s a (put s call block h.last) hg (Op h.last) ∙ h.last_bare) in
          let e : ⊥ = omega (arith, none, below) in e

      module _ (b : ContextView K A T) (t1 : IsTaken a b (Operation h.last)) where
        pub children-block : (zs : List IRNode) → children s (BasicBlock block) ≡ zs ++ Operation h.last ∷ []
            → children b (BasicBlock block) ≡ zs
        children-block zs e =
            t1.here (BasicBlock block) zs [] (hg.keeps.children (BasicBlock block) ∙ e) ∙ append-none zs

        pub children-other : (n : IRNode) → (n ≡ Operation h.last → ⊥) → (n ≡ BasicBlock block → ⊥)
            → children b n ≡ children s n
        children-other n not_last not_block =
            t1.children n not_last (λ e.
            not_block (sym (same_Some (BasicBlock block) n (sym (hg.keeps.parents (Operation h.last) ∙ last-parent) ∙ e))))
            ∙ hg.keeps.children n

        pub block-live : IsLive b (BasicBlock block)
        block-live = t1.live (BasicBlock block) (λ e. cc) ∙ hg.keeps.live (BasicBlock block) ∙ h.block_live

        pub call-live : IsLive b (Operation call)
        call-live = t1.live (Operation call) call-not-last ∙ hg.keeps.live (Operation call) ∙ h.call_live

        pub parent-call : parent_of b (Operation call) ≡ parent_of s (Operation call)
        parent-call = t1.parents (Operation call) call-not-last ∙ hg.keeps.parents (Operation call)

        pub call-linked : IsSome (parent_of b (Operation call))
        call-linked = subst (λ o. IsSome o) (sym parent-call) h.in_block

        parent-block : parent_of b (BasicBlock block) ≡ None
        parent-block = t1.parents (BasicBlock block) (λ e. cc) ∙ hg.keeps.parents (BasicBlock block) ∙ h.alone

        cut-last : (m : IRNode) → (parent_of b m ≡ parent_of s m) ⊎ (parent_of b m ≡ None)
        cut-last m = elim (node-told m (Operation h.last)) [
          | inl is ↦ inr (ap (parent_of b) is ∙ gone-parent)
          | inr off ↦ inl (t1.parents m off ∙ hg.keeps.parents m)
        ]
          where
            gone-parent : parent_of b (Operation h.last) ≡ None
            gone-parent = ap (λ z. cond z (node_over b.nodes (Operation h.last)) None) t1.gone

        pub not-above : IsAncestor b (BasicBlock block) (Operation call) → ⊥
        not-above r = h.apart (
          r.0,
          climb-cut (parent_of s) (parent_of b) cut-last r.0 (Operation call) (BasicBlock block) r.1,
        )

        module _ (d : ContextView K A T)
            (sp : IsSplicedBefore b.nodes d.nodes (BasicBlock block) (Operation call)) where
          pub transferred : (o : IRNode) (xs ys : List IRNode) → children s o ≡ xs ++ Operation call ∷ ys
              → IsTransferred b.nodes d.nodes (BasicBlock block) o (children b (BasicBlock block)) []
              (xs ++ children b (BasicBlock block) ++ Operation call ∷ ys)
          transferred o xs ys e =
              let is : o ≡ over = over-only o (subst (λ zs. Has zs (Operation call)) (sym e) (Has-mid xs ys (Operation call))) in
              sp o xs ys (children-other o (λ x. over-not-last (sym is ∙ x)) (λ x. over-not-block (sym is ∙ x)) ∙ e)

          split : (xs : List IRNode) × (ys : List IRNode) × (children s over ≡ xs ++ Operation call ∷ ys)
          split = Has-split (children s over) (Operation call) in-over

          tr : IsTransferred b.nodes d.nodes (BasicBlock block) over (children b (BasicBlock block)) []
              (split.0 ++ children b (BasicBlock block) ++ Operation call ∷ split.1)
          tr = transferred over split.0 split.1 split.2

          live-d : (n : IRNode) → is_live d n ≡ is_live b n
          live-d (Operation p) = ap (λ z. is_live_at z p.slot p.version) tr.ops
          live-d (Region p) = ap (λ z. is_live_at z p.slot p.version) tr.regions
          live-d (BasicBlock p) = ap (λ z. is_live_at z p.slot p.version) tr.blocks

          given-d : (n : IRNode) → given_out d n ≡ given_out b n
          given-d (Operation p) = ap (λ z. is_given_out z p) tr.ops
          given-d (Region p) = ap (λ z. is_given_out z p) tr.regions
          given-d (BasicBlock p) = ap (λ z. is_given_out z p) tr.blocks

          op-d : (p : Ptr OperationKind) → op_at d p ≡ op_at b p
          op-d p = ap (λ z. content_at z p.slot) tr.ops

          block-d : (p : Ptr BlockKind) → block_at d p ≡ block_at b p
          block-d p = ap (λ z. content_at z p.slot) tr.blocks

          -- what stood in the block stands below it in s
          in-body : (n : IRNode) → Has (children b (BasicBlock block)) n → parent_of s n ≡ Some (BasicBlock block)
          in-body n has =
              forest.child_parent (BasicBlock block) n
              (subst (λ xs. Has xs n) (sym h.ends)
              (Has-append_left h.body (Operation h.last ∷ []) n (subst (λ xs. Has xs n) (children-block h.body h.ends) has)))

          parent-call-d : parent_of d (Operation call) ≡ Some over
          parent-call-d = tr.parents (Operation call) (λ has. not-in-block (in-body (Operation call) has)) ∙ parent-call ∙ over-is

          parent-block-d : parent_of d (BasicBlock block) ≡ None
          parent-block-d =
              tr.parents (BasicBlock block) (λ has.
              none-some (BasicBlock block) (sym h.alone ∙ in-body (BasicBlock block) has))
              ∙ parent-block

          pub call-leaf : children d (Operation call) ≡ []
          call-leaf =
              tr.children (Operation call) (λ x. cc) (λ x. over-not-call (sym x))
              ∙ children-other (Operation call) call-not-last (λ x. cc) ∙ h.leaf

          pub call-live-d : IsLive d (Operation call)
          call-live-d = live-d (Operation call) ∙ call-live

          held-d : (p : Ptr OperationKind) → IsLive d (Operation p)
              → op_at d p ≡ option_map (with_operands_by (put s call block h.last)) (op_at s p)
          held-d p l = op-d p ∙ t1.ops p (sym (live-d (Operation p)) ∙ l) ∙ hg.ops p

          results-d : result_types_of d call ≡ result_types_of s call
          results-d = ap results_in (held-d call call-live-d) ∙ by-results (put s call block h.last) (op_at s call)

          pub call-unused : HasNoUsedResult d call
          call-unused i below u =
              let f = put s call block h.last in
              let v : Value = record { entity = Op call; index = i } in
              let ops : operands_of d u.0 ≡ map f (operands_of s u.0) =
              ap operands_in (held-d u.0 u.1.0) ∙ by-operands f (op_at s u.0) in
              let r = Has-map f (operands_of s u.0) v
              (subst (λ xs. Has xs v) ops (contained (operands_of d u.0) v u.1.1)) in
              put-not-call r.0 (ap (λ z. z.entity) r.1.1)
              (subst (λ z. z.index < length (result_types_of s call)) (sym r.1.1)
              (subst (λ n. i < n) (ap length results-d) below))

          module _ (e : ContextView K A T) (t2 : IsTaken d e (Operation call)) where
            pub block-leaf : children e (BasicBlock block) ≡ []
            block-leaf =
                t2.children (BasicBlock block) (λ x. cc) (λ x.
                over-not-block (same_Some over (BasicBlock block) (sym parent-call-d ∙ x)))
                ∙ tr.left

            pub block-live-e : IsLive e (BasicBlock block)
            block-live-e = t2.live (BasicBlock block) (λ x. cc) ∙ live-d (BasicBlock block) ∙ block-live

            live-before : (p : Ptr OperationKind) → IsLive e (Operation p) → IsLive d (Operation p)
            live-before p l = elim (node-told (Operation p) (Operation call)) [
              | inl is ↦ absurd (true≢false (sym l ∙ ap (is_live e) is ∙ t2.gone))
              | inr off ↦ sym (t2.live (Operation p) off) ∙ l
            ]

            held-e : (p : Ptr OperationKind) → IsLive e (Operation p)
                → op_at e p ≡ option_map (with_operands_by (put s call block h.last)) (op_at s p)
            held-e p l = t2.ops p l ∙ held-d p (live-before p l)

            arguments-e : arg_types_of e block ≡ arg_types_of s block
            arguments-e =
                ap arguments_in (t2.blocks block block-live-e ∙ block-d block ∙ t1.blocks block block-live
                ∙ hg.blocks block)

            pub block-unused : (own : A → List ℕ) → IsWellFormed own e
                → ((n : IRNode) → Reaches (parent_of e) n (BasicBlock block) → n ≡ BasicBlock block)
                → IsUnusedOutside e (BasicBlock block)
            block-unused own whole leaf p live apart =
                let f = put s call block h.last in
                let held = held-e p live in
                record {
                  operands = λ k dflt below r.
                      let v = slice_index_or (operands_of e p) k dflt in
                      let is = entity-block v.entity block (leaf (entity_node v.entity) r) in
                      let at = argument-below e v block (operands-live own e whole p k dflt below) is in
                      let ops : operands_of e p ≡ map f (operands_of s p) = ap operands_in held ∙ by-operands f (op_at s p) in
                      let x = Has-map f (operands_of s p) v
                      (subst (λ xs. Has xs v) ops (has-index (operands_of e p) k dflt below)) in
                      put-not-block x.0 (ap (λ z. z.entity) x.1.1 ∙ is)
                      (subst (λ z. z.index < length (arg_types_of s block)) (sym x.1.1)
                      (subst (λ n. v.index < n) (ap length arguments-e) at));
                  successors = λ k dflt below r.
                      let b2 = slice_index_or (successors_of e p) k dflt in
                      let is = block-same b2 block (leaf (BasicBlock b2) r) in
                      let same : successors_of e p ≡ successors_of s p = ap successors_in held ∙ by-successors f (op_at s p) in
                      h.no_branch p (was-live p live)
                      (subst (Has (successors_of s p)) is (subst (λ xs. Has xs b2) same
                      (has-index (successors_of e p) k dflt below)));
                }
              where
                was-live : (q : Ptr OperationKind) → IsLive e (Operation q) → IsLive s (Operation q)
                was-live q l =
                    let in_b = sym (live-d (Operation q)) ∙ live-before q l in
                    elim (node-told (Operation q) (Operation h.last)) [
                      | inl is ↦ absurd (true≢false (sym in_b ∙ ap (is_live b) is ∙ t1.gone))
                      | inr off ↦ sym (hg.keeps.live (Operation q)) ∙ sym (t1.live (Operation q) off) ∙ in_b
                    ]

            module _ (t : ContextView K A T) (t3 : IsTaken e t (BasicBlock block)) (types_d : d.types ≡ b.types) where
              stays-live : (n : IRNode) → Stays s call block h.last n → is_live t n ≡ is_live s n
              stays-live n y =
                  t3.live n y.not_block ∙ t2.live n y.not_call ∙ live-d n ∙ t1.live n y.not_last ∙ hg.keeps.live n

              live-e : (n : IRNode) → (n ≡ BasicBlock block → ⊥) → IsLive t n → IsLive e n
              live-e n off l = sym (t3.live n off) ∙ l

              parent-block-e : parent_of e (BasicBlock block) ≡ None
              parent-block-e = t2.parents (BasicBlock block) (λ x. cc) ∙ parent-block-d

              pub is-put : IsPut s call block h.last t
              is-put = record {
                ops = λ p l y.
                    let lt = stays-live (Operation p) y ∙ l in
                    t3.ops p lt ∙ held-e p (live-e (Operation p) y.not_block lt);
                blocks = λ x l y.
                    let lt = stays-live (BasicBlock x) y ∙ l in
                    let le = live-e (BasicBlock x) y.not_block lt in
                    let ld = sym (t2.live (BasicBlock x) y.not_call) ∙ le in
                    t3.blocks x lt ∙ t2.blocks x le ∙ block-d x
                    ∙ t1.blocks x (sym (live-d (BasicBlock x)) ∙ ld) ∙ hg.blocks x;
                call_gone = t3.live (Operation call) (λ x. cc) ∙ t2.gone;
                block_gone = t3.gone;
                last_gone = t3.live (Operation h.last) (λ x. cc)
                    ∙ t2.live (Operation h.last) (λ x. call-not-last (sym x)) ∙ live-d (Operation h.last) ∙ t1.gone;
                live = stays-live;
                here = λ o xs ys zs eo eb.
                    let is : o ≡ over = over-only o (subst (λ ks. Has ks (Operation call)) (sym eo) (Has-mid xs ys (Operation call))) in
                    let in_d : children d o ≡ xs ++ zs ++ Operation call ∷ ys =
                    (transferred o xs ys eo).children_over
                    ∙ ap (λ ks. xs ++ ks ++ Operation call ∷ ys) (children-block zs eb) in
                    t3.children o (λ x. over-not-block (sym is ∙ x)) (λ x. none-some o (sym parent-block-e ∙ x))
                    ∙ t2.here o (xs ++ zs) ys in_d;
                children = λ n y off.
                    t3.children n y.not_block (λ x. none-some n (sym parent-block-e ∙ x))
                    ∙ t2.children n y.not_call (λ x. off (over-is ∙ sym parent-call-d ∙ x))
                    ∙ tr.children n y.not_block (λ x. off (over-is ∙ ap Some (sym x)))
                    ∙ children-other n y.not_last y.not_block;
                given_out = λ n.
                    t3.given_out n ∙ t2.given_out n ∙ given-d n ∙ t1.given_out n ∙ hg.keeps.given n;
                types = t3.types ∙ t2.types ∙ types_d ∙ t1.types ∙ hg.keeps.types;
                limit = t3.limit ∙ t2.limit ∙ tr.limit ∙ t1.limit ∙ hg.keeps.limit;
              }
