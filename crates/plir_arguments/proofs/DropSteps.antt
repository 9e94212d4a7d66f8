-- The steps by which an argument is dropped.
use Rattle.std.proofs.Common.{◌≡◌, ℕ, zero, suc, ◌+◌, ◌<◌, arith, true, true≢false, ◌⊎◌, inl, inr, refl, sym, ap, subst, ◌∙◌}
use Rattle.std.proofs.Common.{List, [], length, map, Option, Some, None, option_map, Bool, nat_lt}
use Rattle.std.specs.Prelude.{IsSome, slice_get, slice_set, remove, Contains, option_and_then}
use Rattle.std.specs.Cmp.{second_so}
use Rattle.std.proofs.lemmas.List.Edits.{length-remove}
use Rattle.std.proofs.lemmas.Option.{get_or_from_slice_get, slice_get_within}
use Rattle.plir_store.specs.Members.{Has}
use Rattle.plir_store.specs.MemberLaws.{at-Has, Has-map, Has-mid}
use Rattle.plir_core.specs.declared.ptr.Ptr.{Ptr}
use Rattle.plir_core.specs.declared.ptr.Operation.{Operation as OperationKind}
use Rattle.plir_core.specs.declared.ptr.BasicBlock.{BasicBlock as BlockKind}
use Rattle.plir_core.specs.declared.ptr.IRNode.{IRNode}
use Rattle.plir_core.specs.declared.ptr.IRNode.TheVariants.{Operation, BasicBlock}
use Rattle.plir_core.specs.declared.uses.Use.{Use}
use Rattle.plir_core.specs.declared.value.Value.{Value}
use Rattle.plir_core.specs.declared.value.DefiningEntity.TheVariants.{Block}
use Rattle.plir_core.specs.Above.{Reaches}
use Rattle.plir_core.specs.Contents.{OpView, BlockView}
use Rattle.plir_core.specs.ContextView.{ContextView, IsLive, IsValueLive, arg_types_of, arguments_in, block_at, children}
use Rattle.plir_core.specs.ContextView.{is_live, op_at, operands_in, operands_of, parent_of}
use Rattle.plir_core.specs.ContextView.{successors_in, successors_of, types_from}
use Rattle.plir_core.specs.Forest.{IsForest, look}
use Rattle.plir_core.specs.Made.{IsMade}
use Rattle.plir_core.specs.WellFormed.{IsWellFormed}
use Rattle.plir_copies.specs.Copied.{value_at}
use Rattle.plir_inline.specs.Given.{IsGiven, NoneFrom, with_operands_by}
use Rattle.plir_flow.specs.Branches.{Range as Places}
use Rattle.plir_flow_sets.specs.Branches.{forwarded_to, operands_told}
use Rattle.plir_flow_sets.specs.Told.{told_of}
use Rattle.plir_arguments.specs.Dropped.{CanDrop, CanForwardLess, IsDropped, moved, without_argument}
use Rattle.plir_arguments.specs.Removed.{ForwardsLess}
use Rattle.plir_arguments.specs.Standing.{IsPutFor}
use Rattle.plir_arguments.specs.Turned.{AreTurned, AreUses, GoesTo, NeverGoesTo, with_successor}
use Rattle.plir_arguments.proofs.Changed.{forwarded-same, goes-same, test-same}
use Rattle.plir_arguments.proofs.Members.{bool_cases, has-remove, number-told, place-told, ptr-told, set-at}
use Rattle.plir_arguments.proofs.Moving.{entity-told, moved-hit, moved-other}
use Rattle.plir_arguments.proofs.PutSteps.{block-same}
use Rattle.plir_arguments.proofs.Uses.{successor-there}

below-of : (i j : ℕ) → nat_lt i j ≡ true → i < j
below-of i j e = grind arith

-- an element of a list is contained in it
contained : {X : Type 0} (xs : List X) (x : X) → Has xs x → Contains xs x
contained xs x h = (let r = at-Has xs x h in
    (r.0, slice_get_within xs r.0 x r.1, get_or_from_slice_get xs r.0 x x r.1))

module _ {K A T : Type 0} where
  -- what an operation uses is live
  operands-live : (own : A → List ℕ) (s : ContextView K A T) → IsWellFormed own s → (p : Ptr OperationKind)
      → (v : Value) → Has (operands_of s p) v → IsValueLive s v
  operands-live own s whole p v h = go (op_at s p) refl h
    where
      go : (o : Option (OpView K A)) → op_at s p ≡ o → Has (operands_in o) v → IsValueLive s v
      go None e h = absurd h
      go (Some o) e h =
          let r = at-Has o.operands v h in
          let below : r.0 < length o.operands = slice_get_within o.operands r.0 v r.1 in
          subst (IsValueLive s) (get_or_from_slice_get o.operands r.0 v v r.1)
          ((whole.holds.ops p.slot o e).operands r.0 v below)

  -- a live argument is below the count of arguments
  argument-below : (s : ContextView K A T) (v : Value) (b : Ptr BlockKind) → IsValueLive s v → v.entity ≡ Block b
      → v.index < length (arg_types_of s b)
  argument-below s v b live is =
      let l : nat_lt v.index (length (types_from s v.entity)) ≡ true = second_so _ _ live in
      below-of v.index (length (arg_types_of s b))
      (subst (λ x. nat_lt v.index (length (types_from s x)) ≡ true) is l)

module _ {K A T : Type 0} (removes : ℕ → OpView K A → Bool) (forwards : ℕ → OpView K A → Option Places)
    (keys : List (List ℕ)) (s : ContextView K A T) (b c : Ptr BlockKind) (i : ℕ) (can : CanDrop removes forwards s b i)
    (forest : IsForest (look s)) (m : ContextView K A T) (made : IsMade s.nodes m.nodes (BasicBlock c)) where
  abbrev n : ℕ
  n = length (arg_types_of s b)

  pub apart : b ≡ c → ⊥
  apart e = true≢false (sym can.live ∙ ap (λ z. is_live s (BasicBlock z)) e ∙ made.new)

  args-m : arg_types_of m b ≡ arg_types_of s b
  args-m = ap arguments_in (made.keeps.blocks b can.live)

  pub live-block : IsLive m (BasicBlock b)
  live-block = made.keeps.live (BasicBlock b) can.live

  pub below-m : i < length (arg_types_of m b)
  below-m = subst (λ ts. i < length ts) (sym args-m) can.below

  -- a block is made without operations: nothing stands below it
  module _ (bottom : (x : IRNode) → Reaches (parent_of m) x (BasicBlock c) → x ≡ BasicBlock c) where
    -- so each operation that is live was live before
    pub was-live : (p : Ptr OperationKind) → IsLive m (Operation p) → IsLive s (Operation p)
    was-live p l = elim (bool_cases (is_live s (Operation p))) [
      | inl was ↦ was
      | inr off ↦ absurd (let e : Operation p ≡ BasicBlock c = bottom (Operation p) (made.below (Operation p) l off) in
          let z : ⊥ = cc in z)
    ]

    held-m : (p : Ptr OperationKind) → IsLive m (Operation p) → op_at m p ≡ op_at s p
    held-m p l = made.keeps.ops p (was-live p l)

    goes-s : (p : Ptr OperationKind) (k : ℕ) → IsLive m (Operation p) → GoesTo m p k b → GoesTo s p k b
    goes-s p k l g = goes-same forwards m s p (sym (held-m p l)) k b g

    -- the uses of the block are those that it had
    pub uses-m : (us : List (Use (Ptr BlockKind))) → AreUses s b us → AreUses m b us
    uses-m us h = record {
      apart = h.apart;
      each = λ u has.
          let r = h.each u has in (
            made.keeps.live (Operation u.op) r.0,
            goes-same forwards s m u.op (made.keeps.ops u.op r.0) u.index b r.1,
          );
      all = λ p k l g. h.all p k (was-live p l) (goes-s p k l g);
    }

    -- and each operation that branches to it can forward one value less
    pub can-m : (p : Ptr OperationKind) (k : ℕ) → IsLive m (Operation p) → GoesTo m p k b →
        CanForwardLess removes forwards m b p k
    can-m p k l g =
        let h = can.branches p k (was-live p l) (goes-s p k l g) in
        let same = held-m p l in
        record {
          told = test-same forwards s m p same (removes k) ∙ h.told;
          as_many = ap length (forwarded-same forwards s m p same k) ∙ h.as_many ∙ sym (ap length args-m);
          once = λ j at. h.once j (goes-s p j l at);
        }

    module _ (u : ContextView K A T) (turned : AreTurned keys forwards m u b c i) where
      pub types-u : arg_types_of u b ≡ arg_types_of s b
      types-u = ap arguments_in (turned.blocks b) ∙ args-m

      -- what an operation holds that branches to the block
      record Branch (p : Ptr OperationKind) : Type 0 where
        place : ℕ
        was : OpView K A
        now : OpView K A
        less : OpView K A
        goes : GoesTo m p place b
        was_is : op_at m p ≡ Some was
        now_is : op_at u p ≡ Some now
        forwards_less : ForwardsLess keys forwards place i was less
        is : now ≡ with_successor place c less

      -- an operation branches to it, or it holds what it held
      told : (p : Ptr OperationKind) → IsLive m (Operation p) → Branch p ⊎ (NeverGoesTo m p b × (op_at u p ≡ op_at m p))
      told p l = elim (place-told ptr-told (successors_of m p) b) [
        | inl h ↦
            let there = successor-there (op_at m p) h.0 b h.1 in
            let r = turned.branches p h.0 there.0 l h.1 there.1 in inl (record {
              place = h.0;
              was = there.0;
              now = r.0;
              less = r.2.0;
              goes = h.1;
              was_is = there.1;
              now_is = r.1;
              forwards_less = r.2.1.0;
              is = r.2.1.1;
            })
        | inr never ↦ inr (never, turned.ops p l never)
      ]

      -- the set tells where the operands stand that it forwards
      places : (p : Ptr OperationKind) → IsLive m (Operation p) → (x : Branch p)
          → (r : Places) × (forwards x.place x.was ≡ Some r)
      places p l x =
          let h = can-m p x.place l x.goes in
          let below : i < length (forwarded_to forwards m p x.place) =
          subst (λ k. i < k) (sym h.as_many) below-m in
          let r = some-told (told_of (forwards x.place) m p) below in
          (r.0, sym (ap (option_and_then (forwards x.place)) x.was_is) ∙ r.1)
        where
          some-told : (r : Option Places) → i < length (operands_told m p r) → (q : Places) × (r ≡ Some q)
          some-told None h = absurd (let z : ⊥ = omega (arith, h) in z)
          some-told (Some q) h = (q, refl)

      -- the operands are among those that an operation had
      among : (p : Ptr OperationKind) → IsLive m (Operation p) → (v : Value) → Has (operands_of u p) v
          → Has (operands_of s p) v
      among p l v h = subst (λ o. Has (operands_in o) v) (held-m p l) (elim (told p l) [
        | inr same ↦ subst (λ o. Has (operands_in o) v) same.1 h
        | inl x ↦
            let r = places p l x in
            let now : operands_of u p ≡ remove x.was.operands (r.0.0 + i) =
            ap operands_in x.now_is ∙ ap (λ (o : OpView K A). o.operands) x.is ∙ x.forwards_less.operands r.0 r.1 in
            subst (λ o. Has (operands_in o) v) (sym x.was_is)
            (has-remove x.was.operands (r.0.0 + i) v (subst (λ vs. Has vs v) now h))
      ])

      -- and no operation branches to the block any more
      never-u : (p : Ptr OperationKind) → IsLive m (Operation p) → NeverGoesTo u p b
      never-u p l j g = elim (told p l) [
        | inr same ↦ same.0 j (ap (λ o. slice_get (successors_in o) j) (sym same.1) ∙ g)
        | inl x ↦
            let now : successors_of u p ≡ slice_set x.was.successors x.place c =
            ap successors_in x.now_is ∙ ap (λ (o : OpView K A). o.successors) x.is
            ∙ ap (λ bs. slice_set bs x.place c) x.forwards_less.successors in
            elim (set-at x.was.successors x.place j c b (ap (λ bs. slice_get bs j) (sym now) ∙ g)) [
              | inl h ↦ apart (sym h.1)
              | inr h ↦
                  h.0 ((can-m p x.place l x.goes).once j
                  (ap (λ o. slice_get (successors_in o) j) x.was_is ∙ h.1))
            ]
      ]

      module _ (v : ContextView K A T) (given : IsGiven u v (moved b c i n)) where
        pub live-v : (x : IRNode) → is_live v x ≡ is_live m x
        live-v x = given.keeps.live x ∙ turned.keeps.live x

        live-m : (p : Ptr OperationKind) → IsLive v (Operation p) → IsLive m (Operation p)
        live-m p l = sym (live-v (Operation p)) ∙ l

        pub children-v : (x : IRNode) → children v x ≡ children m x
        children-v x = given.keeps.children x ∙ turned.keeps.children x

        pub parents-v : (x : IRNode) → parent_of v x ≡ parent_of m x
        parents-v x = given.keeps.parents x ∙ turned.keeps.parents x

        pub linked-v : IsSome (parent_of v (BasicBlock b))
        linked-v = subst (λ o. IsSome o) (sym (parents-v (BasicBlock b)
            ∙ made.keeps.parents (BasicBlock b) can.live ∙ can.behind.here)) refl

        held-in : (f : Value → Value) (o : Option (OpView K A))
            → operands_in (option_map (with_operands_by f) o) ≡ map f (operands_in o)
        held-in f None = refl
        held-in f (Some o) = refl

        succs-in : (f : Value → Value) (o : Option (OpView K A))
            → successors_in (option_map (with_operands_by f) o) ≡ successors_in o
        succs-in f None = refl
        succs-in f (Some o) = refl

        -- nothing uses an argument of the block
        pub none-v : (p : Ptr OperationKind) → IsLive v (Operation p) → (own : A → List ℕ) → IsWellFormed own s
            → NoneFrom (Block b) (operands_of v p)
        none-v p l own whole x has from =
            let f = moved b c i n in
            let ops : operands_of v p ≡ map f (operands_of u p) = ap operands_in (given.ops p) ∙ held-in f (op_at u p) in
            let r = Has-map f (operands_of u p) x (subst (λ xs. Has xs x) ops has) in
            let y = r.0 in
            let is : (f y).entity ≡ Block b = ap (λ z. z.entity) r.1.1 ∙ from in
            let in_s = among p (live-m p l) y r.1.0 in
            let live_s = was-live p (live-m p l) in
            elim (entity-told y.entity (Block b)) [
              | inr off ↦ off (ap (λ z. z.entity) (sym (moved-other b c i n y off)) ∙ is)
              | inl own_is ↦
                  let less : y.index < n = argument-below s y b (operands-live own s whole p y in_s) own_is in
                  elim (number-told y.index i) [
                    | inl here ↦
                        let same : y ≡ value_at (Block b) i = (λ j. record { entity = own_is j; index = here j }) in
                        can.unused (
                          p,
                          (
                            live_s,
                            contained (operands_of s p) (value_at (Block b) i)
                                (subst (Has (operands_of s p)) same in_s),
                          ),
                        )
                    | inr off ↦
                        let e : Block c ≡ Block b =
                        sym (ap (λ z. z.entity) (moved-hit b c i n y own_is less off)) ∙ is in
                        apart (let q : b ≡ c = cc in q)
                  ]
            ]

        -- and nothing branches to it
        pub never-v : (p : Ptr OperationKind) → IsLive v (Operation p) → NeverGoesTo v p b
        never-v p l j g =
            never-u p (live-m p l) j
            (ap (λ xs. slice_get xs j) (sym (ap successors_in (given.ops p) ∙ succs-in (moved b c i n) (op_at u p))) ∙ g)

        module _ (held : block_at m c ≡ option_map (without_argument i) (block_at s b))
            (types : m.types ≡ s.types) (t : ContextView K A T) (put : IsPutFor v t b c) where
          live-t : (x : IRNode) → (x ≡ BasicBlock b → ⊥) → is_live t x ≡ is_live m x
          live-t x off = put.live x off ∙ live-v x

          not-block : BasicBlock c ≡ BasicBlock b → ⊥
          not-block e = apart (sym (block-same c b e))

          made-live : IsLive v (BasicBlock c)
          made-live = live-v (BasicBlock c) ∙ made.root

          block-v : (x : Ptr BlockKind) → block_at v x ≡ block_at m x
          block-v x = given.blocks x ∙ turned.blocks x

          children-s : (x : IRNode) → IsLive s x → children v x ≡ children s x
          children-s x l = children-v x ∙ made.children x l

          live-after : (x : IRNode) → (x ≡ BasicBlock c → ⊥) → is_live m x ≡ is_live s x
          live-after x off = elim (bool_cases (is_live s x)) [
            | inl was ↦ made.keeps.live x was ∙ sym was
            | inr past ↦ elim (bool_cases (is_live m x)) [
              | inl now ↦ absurd (off (bottom x (made.below x now past)))
              | inr none ↦ none ∙ sym past
            ]
          ]

          pub is-dropped : IsDropped keys forwards s t b i c
          is-dropped = record {
            new = made.new;
            fresh = made.fresh (BasicBlock c) made.root made.new;
            gone = put.gone;
            made = put.live (BasicBlock c) not-block ∙ made-live;
            held = put.blocks c made-live (λ e. apart (sym e)) ∙ block-v c ∙ held;
            here = λ over xs ys eq.
                let l = forest.parent_live over (BasicBlock b) (forest.child_parent over (BasicBlock b)
                (subst (λ zs. Has zs (BasicBlock b)) (sym eq) (Has-mid xs ys (BasicBlock b)))) in
                put.here over xs ys (children-s over l ∙ eq);
            body = put.body ∙ children-s (BasicBlock b) can.live;
            branches = λ p k o l g is.
                let lm = made.keeps.live (Operation p) l in
                let same = made.keeps.ops p l in
                let r = turned.branches p k o lm (goes-same forwards s m p same k b g) (same ∙ is) in (
                  r.0,
                  r.2,
                  put.ops p (live-v (Operation p) ∙ lm) ∙ given.ops p
                      ∙ ap (option_map (with_operands_by (moved b c i n))) r.1,
                );
            ops = λ p l never.
                let lm = made.keeps.live (Operation p) l in
                let same = made.keeps.ops p l in
                put.ops p (live-v (Operation p) ∙ lm) ∙ given.ops p
                ∙ ap (option_map (with_operands_by (moved b c i n)))
                (turned.ops p lm (λ k g. never k (goes-same forwards m s p (sym same) k b g)) ∙ same);
            blocks = λ x l off.
                let lm = made.keeps.live (BasicBlock x) l in
                put.blocks x (live-v (BasicBlock x) ∙ lm) off ∙ block-v x ∙ made.keeps.blocks x l;
            live = λ x not_b not_c. live-t x not_b ∙ live-after x not_c;
            children = λ x l not_b off.
                put.children x not_b (λ e. true≢false (sym l ∙ ap (is_live s) e ∙ made.new))
                (λ e. off (sym (parents-v (BasicBlock b) ∙ made.keeps.parents (BasicBlock b) can.live) ∙ e))
                ∙ children-s x l;
            given_out = λ x h.
                put.given_out x ∙ given.keeps.given x ∙ turned.keeps.given x ∙ made.keeps.given x h;
            types = put.types ∙ given.keeps.types ∙ turned.keeps.types ∙ types;
            limit = put.limit ∙ given.keeps.limit ∙ turned.keeps.limit ∙ made.keeps.limit;
          }

none-removed : {X : Type 0} (i : ℕ) → remove {X = X} [] i ≡ []
none-removed zero = refl
none-removed (suc i) = refl

-- without an argument a block has one less
pub less-by-one : {K A T : Type 0} (s m : ContextView K A T) (b c : Ptr BlockKind) (i : ℕ)
    → block_at m c ≡ option_map (without_argument i) (block_at s b) → i < length (arg_types_of s b)
    → length (arg_types_of m c) + 1 ≡ length (arg_types_of s b)
less-by-one {K} {A} s m b c i held below =
    let types : arg_types_of m c ≡ remove (arg_types_of s b) i = ap arguments_in held ∙ without (block_at s b) in
    ap (λ ts. length ts + 1) types ∙ length-remove (arg_types_of s b) i below
  where
    without : (x : Option (BlockView A)) → arguments_in (option_map (without_argument i) x) ≡ remove (arguments_in x) i
    without None = sym (none-removed i)
    without (Some x) = refl
