-- What is left where the copy of a block is put in place of a call.
use Rattle.std.proofs.Common.{◌≡◌, ℕ, zero, suc, false, true≢false, inl, inr, refl, sym, ap, subst}
use Rattle.std.proofs.Common.{◌∙◌, List, [], ◌∷◌, ◌++◌, map, Option, Some, None, option_map}
use Rattle.std.proofs.lemmas.Option.{none-some, same_Some}
use Rattle.plir_store.specs.Members.{Distinct, Has}
use Rattle.plir_store.specs.MemberLaws.{Distinct-cross, Has-append_cases, Has-mid, map-Has}
use Rattle.plir_data.specs.CallSites.{inlined_at}
use Rattle.plir_data.specs.declared.location.Location.{Location}
use Rattle.plir_core.specs.declared.ptr.Ptr.{Ptr}
use Rattle.plir_core.specs.declared.ptr.Operation.{Operation as OperationKind}
use Rattle.plir_core.specs.declared.ptr.BasicBlock.{BasicBlock as BlockKind}
use Rattle.plir_core.specs.declared.ptr.IRNode.{IRNode}
use Rattle.plir_core.specs.declared.ptr.IRNode.TheVariants.{Operation, Region, BasicBlock}
use Rattle.plir_core.specs.declared.value.Value.{Value}
use Rattle.plir_core.specs.declared.value.DefiningEntity.TheVariants.{Op, Block}
use Rattle.plir_core.specs.Above.{climb}
use Rattle.plir_core.specs.Contents.{OpView}
use Rattle.plir_core.specs.ContextView.{ContextView, IsAncestor, IsLive, children, is_live, op_at}
use Rattle.plir_core.specs.ContextView.{location_of, operands_in, operands_of, parent_of}
use Rattle.plir_core.specs.Forest.{IsForest, look}
use Rattle.plir_core.specs.Made.{IsMade}
use Rattle.plir_core.specs.WellFormed.{IsWellFormed}
use Rattle.plir_copies.specs.Images.{Images, blocks_in, for_call, no_images, value_in}
use Rattle.plir_copies.specs.Copied.{op_under}
use Rattle.plir_copies.specs.Trees.{IsCopyOfTree, node_copy}
use Rattle.plir_inline.specs.Given.{given, with_operands_by}
use Rattle.plir_inline.specs.Inlined.{CanInline, HoldsTheSame, IsInBody, IsInlined, IsInlinedNode, answered, copied}
use Rattle.plir_inline.specs.Put.{IsPut, Stays, inside, put}
use Rattle.plir_inline.proofs.GivenValues.{given-other}
use Rattle.plir_inline.proofs.Giving.{map-as}
use Rattle.plir_inline.proofs.Lists.{map-end}
use Rattle.plir_inline.proofs.Steps.{climb-none}
use Rattle.plir_inline.proofs.Copied.{call-operands, copy-ends, has-last, image, last-below, last-operands, none-inner}
use Rattle.plir_inline.proofs.Copied.{not-copy, top, top-only}

map-agree : {X Y : Type 0} (f g : X → Y) (xs : List X) → ((x : X) → Has xs x → f x ≡ g x) → map f xs ≡ map g xs
map-agree f g [] e = refl
map-agree f g (x ∷ xs) e = λ i. e x (inl refl) i ∷ map-agree f g xs (λ y h. e y (inr h)) i

module _ {K A : Type 0} where
  by-agree : (f g : Value → Value) (o : Option (OpView K A)) → ((x : Value) → Has (operands_in o) x → f x ≡ g x)
      → option_map (with_operands_by f) o ≡ option_map (with_operands_by g) o
  by-agree f g None e = refl
  by-agree f g (Some o) e =
      ap (λ vs. let r : OpView K A = record o { operands = vs } in Some r) (map-agree f g o.operands e)

  abbrev held_under : (Value → Value) → Images → OpView K A → OpView K A
  held_under h m x = record x {
    operands = map h x.operands;
    successors = blocks_in m x.successors;
    location = inlined_at x.location m.call;
  }

  -- operands after a copy
  under-by : (m : Images) (f h : Value → Value) → ((x : Value) → f (value_in m x) ≡ h x) → (o : Option (OpView K A))
      → option_map (with_operands_by f) (option_map (op_under m) o)
      ≡ option_map (held_under h m) o
  under-by m f h e None = refl
  under-by m f h e (Some o) =
      ap (λ vs. let r : OpView K A = record o {
        operands = vs;
        successors = blocks_in m o.successors;
        location = inlined_at o.location m.call;
      } in Some r)
      (map-as (value_in m) f h e o.operands)

module _ {K A T : Type 0} (own : A → List ℕ) (s t : ContextView K A T) (call : Ptr OperationKind) (block copy : Ptr BlockKind)
    (h : CanInline s call block) (whole : IsWellFormed own s) (fs : IsForest (look s)) (ft : IsForest (look t))
    (made : IsMade s.nodes t.nodes (BasicBlock copy)) (place : Location) (m : Images)
    (k : IsCopyOfTree s t (BasicBlock block) (BasicBlock copy) (for_call no_images place) m)
    (u : ContextView K A T) (is-put : IsPut t call copy (k.copies.op h.last) u) where
  -- the call's operands in place of the arguments, and what has come in place of the call's results
  inside-as : (x : Value) → inside t call copy (k.copies.op h.last) x ≡ given (Block (k.copies.block block)) (operands_of s call) x
  inside-as x =
      ap (λ b. given (Block b) (operands_of t call) x) (sym (top own s t call block copy h whole fs ft made place m k))
      ∙ ap (λ vs. given (Block (k.copies.block block)) vs x) (call-operands own s t call block copy h whole fs ft made place m k)

  given-as : map (inside t call copy (k.copies.op h.last)) (operands_of t (k.copies.op h.last))
      ≡ map (copied s u call block h.last k.copies m) (operands_of s h.last)
  given-as =
      ap (map (inside t call copy (k.copies.op h.last))) (last-operands own s t call block copy h whole fs ft made place m k)
      ∙ map-as (value_in m) (inside t call copy (k.copies.op h.last)) (copied s u call block h.last k.copies m)
      (λ x. inside-as (value_in m x)) (operands_of s h.last)

  put-copied : (x : Value) → put t call copy (k.copies.op h.last) (value_in m x)
      ≡ answered s u call block h.last k.copies m (copied s u call block h.last k.copies m x)
  put-copied x =
      ap (λ ws. given (Op call) ws (inside t call copy (k.copies.op h.last) (value_in m x))) given-as
      ∙ ap (λ y. answered s u call block h.last k.copies m y) (inside-as (value_in m x))

  put-old : (p : Ptr OperationKind) (x : Value) → Has (operands_of s p) x → put t call copy (k.copies.op h.last) x
      ≡ answered s u call block h.last k.copies m x
  put-old p x has =
      ap (λ ws. given (Op call) ws (inside t call copy (k.copies.op h.last) x)) given-as
      ∙ ap (λ y. answered s u call block h.last k.copies m y) (given-other (Block copy) (operands_of t call) _ x
      (none-inner own s t call block copy h whole fs ft made place m k p x has))

  -- nodes that were live stay, but for the call
  old-stays : (n : IRNode) → IsLive s n → (n ≡ Operation call → ⊥) → Stays t call copy (k.copies.op h.last) n
  old-stays n live off = record {
    not_call = off;
    not_block = λ e. true≢false (sym live ∙ ap (is_live s) e ∙ made.new);
    not_last = λ e.
        not-copy own s t call block copy h whole fs ft made place m k (Operation h.last) n
        (last-below own s t call block copy h whole fs ft made place m k) live (sym e);
  }

  child-copied : (n x : IRNode) → IsAncestor s (BasicBlock block) x → parent_of s n ≡ Some x
      → parent_of t (node_copy k.copies n) ≡ Some (node_copy k.copies x)
  child-copied n x up p =
      ft.child_parent (node_copy k.copies x) (node_copy k.copies n)
      (subst (λ xs. Has xs (node_copy k.copies n)) (sym (k.tree x up).children)
      (map-Has (node_copy k.copies) (children s x) n (fs.parent_child x n p)))

  last-parent : parent_of s (Operation h.last) ≡ Some (BasicBlock block)
  last-parent = fs.child_parent (BasicBlock block) (Operation h.last) (has-last own s t call block copy h whole fs ft made place m k)

  -- no other node has become the copy of the last operation
  last-only : (n : IRNode) → IsAncestor s (BasicBlock block) n → (n ≡ BasicBlock block → ⊥)
      → (n ≡ Operation h.last → ⊥) → node_copy k.copies n ≡ Operation (k.copies.op h.last) → ⊥
  last-only n below not_block not_last is = go below.0 below.1
    where
      c : IRNode → IRNode
      c x = node_copy k.copies x

      in-block : parent_of s n ≡ Some (BasicBlock block) → ⊥
      in-block p =
          let in_list : Has (h.body ++ Operation h.last ∷ []) n =
          subst (λ xs. Has xs n) h.ends (fs.parent_child (BasicBlock block) n p) in
          let once : Distinct (map (node_copy k.copies) h.body ++ node_copy k.copies (Operation h.last) ∷ []) =
          subst (λ xs. Distinct xs) ((k.tree (BasicBlock block) (0, refl)).children ∙ ap (map (node_copy k.copies)) h.ends
          ∙ map-end (node_copy k.copies) h.body (Operation h.last)) (ft.once (node_copy k.copies (BasicBlock block))) in
          elim (Has-append_cases h.body (Operation h.last ∷ []) n in_list) [
            | inl has ↦
                Distinct-cross (map (node_copy k.copies) h.body) (node_copy k.copies (Operation h.last) ∷ []) once
                (node_copy k.copies n) (map-Has (node_copy k.copies) h.body n has) (inl (sym is))
            | inr has ↦ elim has [ inl e ↦ not_last (sym e) | inr z ↦ z ]
          ]

      under : (x : IRNode) → IsAncestor s (BasicBlock block) x → parent_of s n ≡ Some x → ⊥
      under x up p =
          let same : node_copy k.copies x ≡ node_copy k.copies (BasicBlock block) =
          same_Some (node_copy k.copies x) (node_copy k.copies (BasicBlock block)) (sym (child-copied n x up p)
          ∙ ap (parent_of t) is ∙ child-copied (Operation h.last) (BasicBlock block) (0, refl) last-parent) in
          in-block (p ∙ ap Some (top-only own s t call block copy h whole fs ft made place m k x up (same ∙ k.top)))

      step : (j : ℕ) (o : Option IRNode) → parent_of s n ≡ o → climb (parent_of s) j o ≡ Some (BasicBlock block) → ⊥
      step j None p e = none-some (BasicBlock block) (sym (climb-none (parent_of s) j) ∙ e)
      step j (Some x) p e = under x (j, e) p

      go : (j : ℕ) → climb (parent_of s) j (Some n) ≡ Some (BasicBlock block) → ⊥
      go zero e = not_block (same_Some n (BasicBlock block) e)
      go (suc j) e = step j (parent_of s n) refl e

  body-stays : (n : IRNode) → IsInBody s u call block h.last k.copies m n
      → Stays t call copy (k.copies.op h.last) (node_copy k.copies n)
  body-stays n i = record {
    not_call = λ e. not-copy own s t call block copy h whole fs ft made place m k n (Operation call) i.below h.stand.call_live e;
    not_block = λ e. i.not_block (top-only own s t call block copy h whole fs ft made place m k n i.below e);
    not_last = last-only n i.below i.not_block i.not_last;
  }

  call-parent : parent_of t (Operation call) ≡ parent_of s (Operation call)
  call-parent = made.keeps.parents (Operation call) h.stand.call_live

  parent-live : (n : IRNode) → parent_of t (Operation call) ≡ Some n → IsLive s n
  parent-live n e = fs.parent_live n (Operation call) (sym call-parent ∙ e)

  held : (n : IRNode) → IsAncestor s (BasicBlock block) n → Stays t call copy (k.copies.op h.last) (node_copy k.copies n)
      → HoldsTheSame s u call block h.last k.copies m n
  held (Operation p) below y =
      is-put.ops (k.copies.op p) (k.tree (Operation p) below).live y
      ∙ ap (option_map (with_operands_by (put t call copy (k.copies.op h.last)))) (k.tree (Operation p) below).holds
      ∙ under-by m (put t call copy (k.copies.op h.last))
      (λ x. answered s u call block h.last k.copies m (copied s u call block h.last k.copies m x)) put-copied (op_at s p)
  held (Region p) below y = tt
  held (BasicBlock p) below y =
      is-put.blocks (k.copies.block p) (k.tree (BasicBlock p) below).live y ∙ (k.tree (BasicBlock p) below).holds

  body-copied : (n : IRNode) → IsInBody s u call block h.last k.copies m n
      → IsInlinedNode s u call block h.last k.copies m n
  body-copied n i =
      let y = body-stays n i in
      let e = k.tree n i.below in
      record {
        new = e.new;
        live = is-put.live (node_copy k.copies n) y ∙ e.live;
        holds = held n i.below y;
        children = is-put.children (node_copy k.copies n) y (λ p.
            not-copy own s t call block copy h whole fs ft made place m k n (node_copy k.copies n) i.below
            (parent-live (node_copy k.copies n) p) refl) ∙ e.children;
      }

  -- what is live afterwards was live before the put
  was-live : (n : IRNode) → IsLive u n → IsLive t n
  was-live n l = sym (is-put.live n (record {
    not_call = λ e. true≢false (sym l ∙ ap (is_live u) e ∙ is-put.call_gone);
    not_block = λ e. true≢false (sym l ∙ ap (is_live u) e ∙ is-put.block_gone);
    not_last = λ e. true≢false (sym l ∙ ap (is_live u) e ∙ is-put.last_gone);
  })) ∙ l

  new-copied : (n : IRNode) → IsLive u n → is_live s n ≡ false
      → (o : IRNode) × (IsInBody s u call block h.last k.copies m o × (node_copy k.copies o ≡ n))
  new-copied n l new =
      let r = image own s t call block copy h whole fs ft made place m k n (was-live n l) new in (
        r.0,
        (
          record {
            below = r.1.0;
            not_block = λ e. true≢false (sym l ∙ ap (is_live u) (sym r.1.1 ∙ ap (node_copy k.copies) e ∙ k.top)
                ∙ is-put.block_gone);
            not_last = λ e. true≢false (sym l ∙ ap (is_live u) (sym r.1.1 ∙ ap (node_copy k.copies) e) ∙ is-put.last_gone);
          },
          r.1.1,
        ),
      )

  pub inlined : t.types ≡ s.types → location_of s call ≡ Some place → IsInlined s u call block
  inlined types called =
      let ends = copy-ends own s t call block copy h whole fs ft made place m k in
      record {
        body = h.body;
        last = h.last;
        ends = h.ends;
        place = place;
        called = called;
        copies = k.copies;
        images = m;
        mapped = k.mapped;
        tree = body-copied;
        here = λ over xs ys e.
            let has : Has (children s over) (Operation call) = subst (λ zs. Has zs (Operation call)) (sym e) (Has-mid xs ys (Operation call)) in
            let live = fs.parent_live over (Operation call) (fs.child_parent over (Operation call) has) in
            is-put.here over xs ys (map (node_copy k.copies) h.body) (made.children over live ∙ e) ends;
        ops = λ p l off.
            is-put.ops p (made.keeps.live (Operation p) l)
            (old-stays (Operation p) l (λ e. off (let z : p ≡ call = cc in z)))
            ∙ ap (option_map (with_operands_by (put t call copy (k.copies.op h.last)))) (made.keeps.ops p l)
            ∙ by-agree (put t call copy (k.copies.op h.last)) (answered s u call block h.last k.copies m) (op_at s p) (put-old p);
        blocks = λ b l.
            is-put.blocks b (made.keeps.live (BasicBlock b) l) (old-stays (BasicBlock b) l (λ e. cc)) ∙ made.keeps.blocks b l;
        gone = is-put.call_gone;
        live = λ n l off. is-put.live n (old-stays n l off) ∙ made.keeps.live n l;
        children = λ n l off other.
            is-put.children n (old-stays n l off) (λ e. other (sym call-parent ∙ e)) ∙ made.children n l;
        new = new-copied;
        fresh = λ n l new. made.fresh n (was-live n l) new;
        given_out = λ n g. is-put.given_out n ∙ made.keeps.given n g;
        types = is-put.types ∙ types;
        limit = is-put.limit ∙ made.keeps.limit;
      }
