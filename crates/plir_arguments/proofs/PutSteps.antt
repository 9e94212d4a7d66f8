-- The steps by which a block is put in place of another one.
use Rattle.std.proofs.Common.{◌≡◌, ℕ, zero, suc, ◌+◌, arith, true≢false, refl, sym, ap, subst, ◌∙◌}
use Rattle.std.proofs.Common.{List, [], ◌∷◌, ◌++◌, Option, Some, None}
use Rattle.std.specs.Prelude.{IsSome, slice_get, slice_index_or}
use Rattle.std.proofs.lemmas.Option.{none-some, same_Some, slice_get-get_or}
use Rattle.std.proofs.lemmas.List.{append_assoc}
use Rattle.plir_store.specs.Members.{Has}
use Rattle.plir_store.specs.MemberLaws.{Has-mid, Has-split}
use Rattle.plir_store.specs.Table.{content_at, is_live_at}
use Rattle.plir_core.specs.declared.ptr.Ptr.{Ptr}
use Rattle.plir_core.specs.declared.ptr.Operation.{Operation as OperationKind}
use Rattle.plir_core.specs.declared.ptr.BasicBlock.{BasicBlock as BlockKind}
use Rattle.plir_core.specs.declared.ptr.IRNode.{IRNode}
use Rattle.plir_core.specs.declared.ptr.IRNode.TheVariants.{Operation, Region, BasicBlock}
use Rattle.plir_core.specs.declared.value.DefiningEntity.{DefiningEntity}
use Rattle.plir_core.specs.declared.value.DefiningEntity.TheVariants.{Op, Block}
use Rattle.plir_core.specs.Above.{Reaches, climb}
use Rattle.plir_core.specs.ContextView.{ContextView, IsAncestor, IsLive, block_at, children, entity_node, given_out}
use Rattle.plir_core.specs.ContextView.{is_live, op_at, operands_in, operands_of, parent_of, successors_in}
use Rattle.plir_core.specs.ContextView.{successors_of}
use Rattle.plir_core.specs.Erase.{IsErased}
use Rattle.plir_core.specs.Measures.{IsMeasured, depth}
use Rattle.plir_core.specs.Moved.{IsTransferred}
use Rattle.plir_core.specs.Nodes.{is_given_out}
use Rattle.plir_core.specs.Placed.{IsPlaced, IsPlacedBefore}
use Rattle.plir_core.specs.Standing.{IsStanding}
use Rattle.plir_core.specs.Unused.{IsUnusedOutside}
use Rattle.plir_inline.specs.Given.{NoneFrom}
use Rattle.plir_arguments.specs.Standing.{IsPutFor}
use Rattle.plir_arguments.specs.Turned.{NeverGoesTo}
use Rattle.plir_arguments.proofs.Members.{has-index}

pub block-same : (p q : Ptr BlockKind) → BasicBlock p ≡ BasicBlock q → p ≡ q
block-same p q h = cc

pub some-of : {X : Type 0} (o : Option X) → IsSome o → (x : X) × (o ≡ Some x)
some-of None h = absurd (true≢false (sym h))
some-of (Some x) h = (x, refl)

entity-block : (x : DefiningEntity) (b : Ptr BlockKind) → entity_node x ≡ BasicBlock b → x ≡ Block b
entity-block (Op p) b e = absurd (let z : ⊥ = cc in z)
entity-block (Block p) b e = ap Block (block-same p b e)

climb-none : {N : Type 0} (up : N → Option N) (k : ℕ) → climb up k None ≡ None
climb-none up zero = refl
climb-none up (suc k) = refl

-- who climbs some steps stands so much deeper
climb-depth : {K A T : Type 0} (s : ContextView K A T) → IsMeasured s → (k : ℕ) (x a : IRNode)
    → climb (parent_of s) k (Some x) ≡ Some a → depth s x ≡ depth s a + k
climb-depth s m zero x a e =
    let same : depth s x ≡ depth s a = ap (depth s) (same_Some x a e) in omega (arith, same)
climb-depth s m (suc k) x a e = go (λ y c. climb-depth s m k y a c) (parent_of s x) refl e
  where
    go : ((y : IRNode) → climb (parent_of s) k (Some y) ≡ Some a → depth s y ≡ depth s a + k) → (o : Option IRNode)
        → parent_of s x ≡ o → climb (parent_of s) k o ≡ Some a → depth s x ≡ depth s a + suc k
    go up None is c = absurd (none-some a (sym (climb-none (parent_of s) k) ∙ c))
    go up (Some y) is c =
        let more : depth s y ≡ depth s a + k = up y c in
        let one : depth s x ≡ depth s y + 1 = m.deeper y x is in
        omega (arith, more, one)

-- nothing is its own parent
pub not-own : {K A T : Type 0} (s : ContextView K A T) → IsMeasured s → (x : IRNode) → parent_of s x ≡ Some x → ⊥
not-own s m x e =
    let one : depth s x ≡ depth s x + 1 = m.deeper x x e in
    let no : ⊥ = omega (arith, one) in no

module _ {K A T : Type 0} (s : ContextView K A T) (b c : Ptr BlockKind) (stands : IsStanding s)
    (apart : b ≡ c → ⊥) (leaf : children s (BasicBlock c) ≡ [])
    (linked : IsSome (parent_of s (BasicBlock b))) where
  -- what the block stands in
  abbrev pub over : IRNode
  over = (some-of (parent_of s (BasicBlock b)) linked).0

  over-is : parent_of s (BasicBlock b) ≡ Some over
  over-is = (some-of (parent_of s (BasicBlock b)) linked).1

  in-over : Has (children s over) (BasicBlock b)
  in-over = stands.forest.parent_child over (BasicBlock b) over-is

  over-only : (o : IRNode) → Has (children s o) (BasicBlock b) → o ≡ over
  over-only o h = same_Some o over (sym (stands.forest.child_parent o (BasicBlock b) h) ∙ over-is)

  over-not-block : over ≡ BasicBlock b → ⊥
  over-not-block e = not-own s stands.measured (BasicBlock b) (over-is ∙ ap Some e)

  over-not-other : over ≡ BasicBlock c → ⊥
  over-not-other e = subst (λ xs. Has xs (BasicBlock b)) (ap (children s) e ∙ leaf) in-over

  other-not-block : BasicBlock c ≡ BasicBlock b → ⊥
  other-not-block e = apart (sym (block-same c b e))

  split : (xs : List IRNode) × (ys : List IRNode) × (children s over ≡ xs ++ BasicBlock b ∷ ys)
  split = Has-split (children s over) (BasicBlock b) in-over

  module _ (a : ContextView K A T) (pb : IsPlacedBefore s.nodes a.nodes (BasicBlock c) (BasicBlock b)) where
    pl : IsPlaced s.nodes a.nodes (BasicBlock c) over (split.0 ++ BasicBlock c ∷ BasicBlock b ∷ split.1)
    pl = pb over split.0 split.1 split.2

    live-a : (n : IRNode) → is_live a n ≡ is_live s n
    live-a (Operation p) = ap (λ z. is_live_at z p.slot p.version) pl.moved.ops
    live-a (Region p) = ap (λ z. is_live_at z p.slot p.version) pl.moved.regions
    live-a (BasicBlock p) = ap (λ z. is_live_at z p.slot p.version) pl.moved.blocks

    given-a : (n : IRNode) → given_out a n ≡ given_out s n
    given-a (Operation p) = ap (λ z. is_given_out z p) pl.moved.ops
    given-a (Region p) = ap (λ z. is_given_out z p) pl.moved.regions
    given-a (BasicBlock p) = ap (λ z. is_given_out z p) pl.moved.blocks

    pub live-block-a : IsLive s (BasicBlock b) → IsLive a (BasicBlock b)
    live-block-a l = live-a (BasicBlock b) ∙ l

    pub live-other-a : IsLive s (BasicBlock c) → IsLive a (BasicBlock c)
    live-other-a l = live-a (BasicBlock c) ∙ l

    parent-block-a : parent_of a (BasicBlock b) ≡ Some over
    parent-block-a = pl.moved.parents (BasicBlock b) (λ e. other-not-block (sym e)) ∙ over-is

    module _ (stands-a : IsStanding a) where
      -- the two stand side by side
      pub not-above : IsAncestor a (BasicBlock b) (BasicBlock c) → ⊥
      not-above r =
          let m = stands-a.measured in
          let up : depth a (BasicBlock c) ≡ depth a (BasicBlock b) + r.0 =
          climb-depth a m r.0 (BasicBlock c) (BasicBlock b) r.1 in
          let one : depth a (BasicBlock c) ≡ depth a over + 1 = m.deeper over (BasicBlock c) pl.parent in
          let two : depth a (BasicBlock b) ≡ depth a over + 1 = m.deeper over (BasicBlock b) parent-block-a in
          let none : r.0 ≡ 0 = omega (arith, up, one, two) in
          other-not-block (same_Some (BasicBlock c) (BasicBlock b)
          (subst (λ k. climb (parent_of a) k (Some (BasicBlock c)) ≡ Some (BasicBlock b)) none r.1))

      module _ (d : ContextView K A T)
          (sp : IsTransferred a.nodes d.nodes (BasicBlock b) (BasicBlock c) (children a (BasicBlock b)) []
          (children a (BasicBlock c) ++ children a (BasicBlock b))) where
        live-d : (n : IRNode) → is_live d n ≡ is_live s n
        live-d (Operation p) = ap (λ z. is_live_at z p.slot p.version) sp.ops ∙ live-a (Operation p)
        live-d (Region p) = ap (λ z. is_live_at z p.slot p.version) sp.regions ∙ live-a (Region p)
        live-d (BasicBlock p) = ap (λ z. is_live_at z p.slot p.version) sp.blocks ∙ live-a (BasicBlock p)

        given-d : (n : IRNode) → given_out d n ≡ given_out s n
        given-d (Operation p) = ap (λ z. is_given_out z p) sp.ops ∙ given-a (Operation p)
        given-d (Region p) = ap (λ z. is_given_out z p) sp.regions ∙ given-a (Region p)
        given-d (BasicBlock p) = ap (λ z. is_given_out z p) sp.blocks ∙ given-a (BasicBlock p)

        op-d : (p : Ptr OperationKind) → op_at d p ≡ op_at s p
        op-d p = ap (λ z. content_at z p.slot) sp.ops ∙ ap (λ z. content_at z p.slot) pl.moved.ops

        block-d : (x : Ptr BlockKind) → block_at d x ≡ block_at s x
        block-d x = ap (λ z. content_at z x.slot) sp.blocks ∙ ap (λ z. content_at z x.slot) pl.moved.blocks

        pub live-block-d : IsLive s (BasicBlock b) → IsLive d (BasicBlock b)
        live-block-d l = live-d (BasicBlock b) ∙ l

        -- nothing uses the block
        pub block-unused : ((p : Ptr OperationKind) → IsLive s (Operation p) → NoneFrom (Block b) (operands_of s p))
            → ((p : Ptr OperationKind) → IsLive s (Operation p) → NeverGoesTo s p b)
            → ((n : IRNode) → Reaches (parent_of d) n (BasicBlock b) → n ≡ BasicBlock b)
            → IsUnusedOutside d (BasicBlock b)
        block-unused none never bottom p live off =
            let was : IsLive s (Operation p) = sym (live-d (Operation p)) ∙ live in
            let ops : operands_of d p ≡ operands_of s p = ap operands_in (op-d p) in
            let succs : successors_of d p ≡ successors_of s p = ap successors_in (op-d p) in
            record {
              operands = λ k dflt below r.
                  let v = slice_index_or (operands_of d p) k dflt in
                  none p was v (subst (λ xs. Has xs v) ops (has-index (operands_of d p) k dflt below))
                  (entity-block v.entity b (bottom (entity_node v.entity) r));
              successors = λ k dflt below r.
                  let x = slice_index_or (successors_of d p) k dflt in
                  let same : x ≡ b = block-same x b (bottom (BasicBlock x) r) in
                  never p was k (ap (λ xs. slice_get xs k) (sym succs)
                  ∙ slice_get-get_or (successors_of d p) k dflt below ∙ ap Some same);
            }

        parent-block-d : parent_of d (BasicBlock b) ≡ Some over
        parent-block-d = sp.parents (BasicBlock b) (λ has.
            not-own a stands-a.measured (BasicBlock b) (stands-a.forest.child_parent (BasicBlock b) (BasicBlock b) has))
            ∙ parent-block-a

        module _ (t : ContextView K A T) (e : IsErased d.nodes t.nodes (BasicBlock b)) (types : t.types ≡ s.types)
            (bottom : (n : IRNode) → Reaches (parent_of d) n (BasicBlock b) → n ≡ BasicBlock b) where
          away : (n : IRNode) → (n ≡ BasicBlock b → ⊥) → Reaches (parent_of d) n (BasicBlock b) → ⊥
          away n off r = off (bottom n r)

          live-t : (n : IRNode) → (n ≡ BasicBlock b → ⊥) → is_live t n ≡ is_live s n
          live-t n off = e.live n (away n off) ∙ live-d n

          here-t : (o : IRNode) (xs ys : List IRNode) → children s o ≡ xs ++ BasicBlock b ∷ ys
              → children t o ≡ xs ++ BasicBlock c ∷ ys
          here-t o xs ys eq =
              let is : o ≡ over = over-only o (subst (λ zs. Has zs (BasicBlock b)) (sym eq) (Has-mid xs ys (BasicBlock b))) in
              let in-d : children d o ≡ (xs ++ BasicBlock c ∷ []) ++ BasicBlock b ∷ ys =
              sp.children o (λ x. over-not-block (sym is ∙ x)) (λ x. over-not-other (sym is ∙ x))
              ∙ (pb o xs ys eq).children_over ∙ sym (append_assoc xs (BasicBlock c ∷ []) (BasicBlock b ∷ ys)) in
              e.children_over o (xs ++ BasicBlock c ∷ []) ys in-d ∙ append_assoc xs (BasicBlock c ∷ []) ys

          body-t : children t (BasicBlock c) ≡ children s (BasicBlock b)
          body-t =
              e.children (BasicBlock c) (away (BasicBlock c) other-not-block)
              (λ x. over-not-other (same_Some over (BasicBlock c) (sym parent-block-d ∙ x)))
              ∙ sp.children_over
              ∙ ap (λ xs. xs ++ children a (BasicBlock b)) (pl.children (BasicBlock c) (λ x. over-not-other (sym x)) ∙ leaf)
              ∙ pl.children (BasicBlock b) (λ x. over-not-block (sym x))

          pub is-put : IsPutFor s t b c
          is-put = record {
            gone = e.gone (BasicBlock b) (0, refl);
            live = live-t;
            here = here-t;
            body = body-t;
            children = λ n not_block not_other off.
                let not_over : n ≡ over → ⊥ = λ x. off (over-is ∙ ap Some (sym x)) in
                e.children n (away n not_block) (λ x. not_over (sym (same_Some over n (sym parent-block-d ∙ x))))
                ∙ sp.children n not_block not_other ∙ pl.children n not_over;
            ops = λ p l. e.ops p (live-t (Operation p) (λ x. cc) ∙ l) ∙ op-d p;
            blocks = λ x l off.
                e.blocks x (live-t (BasicBlock x) (λ z. off (block-same x b z)) ∙ l) ∙ block-d x;
            given_out = λ n. e.given n ∙ given-d n;
            types = types;
            limit = e.limit ∙ sp.limit ∙ pl.moved.limit;
          }
