-- Operations that are no symbols, put, taken out and erased.
use Rattle.std.proofs.Common.{◌≡◌, Bool, List, [], ◌∷◌, ◌++◌, Option, Some, None, inl, inr, refl, sym, ap}
use Rattle.std.proofs.Common.{subst, ◌∙◌}
use Rattle.std.specs.Prelude.{IsSome}
use Rattle.std.proofs.lemmas.List.{append_assoc, append-nil}
use Rattle.std.proofs.lemmas.Option.{none-some, same_Some}
use Rattle.plir_store.specs.FilterLaws.{not-both}
use Rattle.plir_store.specs.Members.{Has}
use Rattle.plir_store.specs.MemberLaws.{Has-append_cases, Has-append_left, Has-append_right, Has-mid, Has-split}
use Rattle.plir_store.specs.Table.{content_at, is_live_at}
use Rattle.plir_core.specs.declared.ptr.Ptr.{Ptr}
use Rattle.plir_core.specs.declared.ptr.Operation.{Operation as OperationKind}
use Rattle.plir_core.specs.declared.ptr.Region.{Region as RegionKind}
use Rattle.plir_core.specs.declared.ptr.BasicBlock.{BasicBlock as BasicBlockKind}
use Rattle.plir_core.specs.declared.ptr.IRNode.{IRNode}
use Rattle.plir_core.specs.declared.ptr.IRNode.TheVariants.{Operation, Region, BasicBlock}
use Rattle.plir_core.specs.Above.{Reaches}
use Rattle.plir_core.specs.Contents.{BlockView, OpView}
use Rattle.plir_core.specs.Erase.{IsErased}
use Rattle.plir_core.specs.Forest.{look, IsForest}
use Rattle.plir_core.specs.ContextView.{ContextView, IsAncestor, IsLive, is_live, children, op_at, parent_of}
use Rattle.plir_core.specs.Moved.{IsMovedBefore, IsMovedBehind}
use Rattle.plir_core.specs.Nodes.{Nodes, node_children}
use Rattle.plir_core.specs.Placed.{IsPlaced, IsPlacedBefore, IsPlacedBehind, IsUnlinked, MovesOnly}
use Rattle.plir_read.specs.Keeping.{KeepsOlder}
use Rattle.plir_walk.specs.NodeLaws.{block-tells, same-op}
use Rattle.plir_builtin.specs.Lasting.{LastsOverTables}
use Rattle.plir_builtin.specs.Symbols.{symbols_among}
use Rattle.plir_builtin.specs.Table.{Tables}
use Rattle.plir_agreement.specs.Lasts.{AreOfLive, IsNoSymbol, Lasts, MovesLast}
use Rattle.plir_agreement.proofs.Shapes.{no-op-under-op, no-op-under-region, over-op}
use Rattle.plir_agreement.proofs.Staying.{lasts, same-symbol, symbols-without}

module _ {K A T : Type 0} (own own_table : K → Bool) (c : Tables) (s t : ContextView K A T)
    (law : LastsOverTables own own_table s t) (w : IsForest (look s)) (w' : IsForest (look t)) where
  -- where what was live is as it was, and tables are cached for what is live
  pub older-lasts : AreOfLive c s → KeepsOlder s t → Lasts own own_table c s t
  older-lasts of-live k =
      lasts own own_table s t law c w w' (record {
        ops = λ p was is. same-symbol (op_at s p) (op_at t p) (k.keeps.ops p was);
        regions = λ p was is. same (Operation p) was;
        bodies = λ r was is. same (Region r) was;
        old = λ b x was is h. w.child_live (BasicBlock b) x (subst (λ z. Has z x) (same (BasicBlock b) was) h);
        blocks = λ b was is. ap (symbols_among own (op_at s)) (same (BasicBlock b) was);
      }) (λ p tab has. (λ l. (of-live p tab has).1, λ l. (of-live p tab has).0))
    where
      same : (m : IRNode) → IsLive s m → children t m ≡ children s m
      same m l = k.children m l (λ e. none-some m e)

  module _ (p : Ptr OperationKind) (none : IsNoSymbol own s p) where
    -- the symbols among the nodes of a list
    abbrev Sees : List IRNode → List IRNode → Type 0
    Sees xs ys = symbols_among own (op_at s) xs ≡ symbols_among own (op_at s) ys

    come : (ts ss xs ys : List IRNode) → ts ≡ xs ++ Operation p ∷ ys → ss ≡ xs ++ ys → Sees ts ss
    come ts ss xs ys e f =
        ap (symbols_among own (op_at s)) e ∙ symbols-without own (op_at s) p xs ys none
        ∙ sym (ap (symbols_among own (op_at s)) f)

    gone : (ts ss xs ys : List IRNode) → ts ≡ xs ++ ys → ss ≡ xs ++ Operation p ∷ ys → Sees ts ss
    gone ts ss xs ys e f = sym (come ss ts xs ys f e)

    -- where an operation alone has moved
    module _ (m : MovesOnly s.nodes t.nodes (Operation p)) where
      moved-live : (n : IRNode) → is_live t n ≡ is_live s n
      moved-live (Operation q) = ap (λ z. is_live_at z q.slot q.version) m.ops
      moved-live (Region q) = ap (λ z. is_live_at z q.slot q.version) m.regions
      moved-live (BasicBlock q) = ap (λ z. is_live_at z q.slot q.version) m.blocks

      of-move : ((q : Ptr OperationKind) → children t (Operation q) ≡ children s (Operation q)) →
          ((r : Ptr RegionKind) → children t (Region r) ≡ children s (Region r)) →
          ((b : Ptr BasicBlockKind) → Sees (children t (BasicBlock b)) (children s (BasicBlock b))) →
          Lasts own own_table c s t
      of-move regions bodies blocks =
          lasts own own_table s t law c w w' (record {
            ops = λ q was is. same-symbol (op_at s q) (op_at t q) (ap (λ z. content_at z q.slot) m.ops);
            regions = λ q was is. regions q;
            bodies = λ r was is. bodies r;
            old = λ b x was is h. sym (moved-live x) ∙ w'.child_live (BasicBlock b) x h;
            blocks = λ b was is. blocks b;
          }) (λ q tab has.
          (λ l. sym (moved-live (Operation tab.op)) ∙ l, λ l. sym (moved-live (Operation q)) ∙ l))

    placed : (b : Ptr BasicBlockKind) (ks xs ys : List IRNode) →
        IsPlaced s.nodes t.nodes (Operation p) (BasicBlock b) ks → ks ≡ xs ++ Operation p ∷ ys →
        children s (BasicBlock b) ≡ xs ++ ys → Lasts own own_table c s t
    placed b ks xs ys f e e' =
        of-move f.moved (λ q. f.children (Operation q) (λ z. cc z)) (λ r. f.children (Region r) (λ z. cc z))
        (λ a. elim (block-tells (BasicBlock a) b) [
          | inl same ↦ subst (λ z. Sees (children t z) (children s z)) (sym same)
              (come (children t (BasicBlock b)) (children s (BasicBlock b)) xs ys (f.children_over ∙ e) e')
          | inr other ↦ ap (symbols_among own (op_at s)) (f.children (BasicBlock a) other)
        ])

    -- where another operation stands in its block
    beside : (mark : Ptr OperationKind) → IsSome (parent_of s (Operation mark)) →
        (b : Ptr BasicBlockKind) × (xs : List IRNode) × (ys : List IRNode) ×
        (children s (BasicBlock b) ≡ xs ++ Operation mark ∷ ys)
    beside mark = by (parent_of s (Operation mark)) refl
      where
        by : (o : Option IRNode) → parent_of s (Operation mark) ≡ o → IsSome o →
            (b : Ptr BasicBlockKind) × (xs : List IRNode) × (ys : List IRNode) ×
            (children s (BasicBlock b) ≡ xs ++ Operation mark ∷ ys)
        by None e h = absurd (let z : ⊥ = cc h in z)
        by (Some over) e h =
            (let has = w.parent_child over (Operation mark) e in
            let b = over-op s over mark has in
            let f = Has-split (children s over) (Operation mark) has in
            (b.0, f.0, f.1, subst (λ z. children s z ≡ f.0 ++ Operation mark ∷ f.1) b.1 f.2))

    placed-before : (mark : Ptr OperationKind) → IsSome (parent_of s (Operation mark)) →
        IsPlacedBefore s.nodes t.nodes (Operation p) (Operation mark) → Lasts own own_table c s t
    placed-before mark linked f =
        let at = beside mark linked in
        placed at.0 (at.1 ++ Operation p ∷ Operation mark ∷ at.2) at.1 (Operation mark ∷ at.2)
        (f (BasicBlock at.0) at.1 at.2 at.3) refl at.3

    placed-behind : (mark : Ptr OperationKind) → IsSome (parent_of s (Operation mark)) →
        IsPlacedBehind s.nodes t.nodes (Operation p) (Operation mark) → Lasts own own_table c s t
    placed-behind mark linked f =
        let at = beside mark linked in
        placed at.0 (at.1 ++ Operation mark ∷ Operation p ∷ at.2) (at.1 ++ Operation mark ∷ []) at.2
        (f (BasicBlock at.0) at.1 at.2 at.3)
        (sym (append_assoc at.1 (Operation mark ∷ []) (Operation p ∷ at.2)))
        (at.3 ∙ sym (append_assoc at.1 (Operation mark ∷ []) at.2))

    -- nothing but a block is its parent
    over-no-op : (q : Ptr OperationKind) → parent_of s (Operation p) ≡ Some (Operation q) → ⊥
    over-no-op q e = no-op-under-op s q p (w.parent_child (Operation q) (Operation p) e)

    over-no-region : (r : Ptr RegionKind) → parent_of s (Operation p) ≡ Some (Region r) → ⊥
    over-no-region r e = no-op-under-region s r p (w.parent_child (Region r) (Operation p) e)

    -- a block that is its parent has lost it, and any other has the children that it had
    lost : (a : Ptr BasicBlockKind) (left : List IRNode) →
        ((xs ys : List IRNode) → children s (BasicBlock a) ≡ xs ++ Operation p ∷ ys → left ≡ xs ++ ys) →
        ((parent_of s (Operation p) ≡ Some (BasicBlock a) → ⊥) → left ≡ children s (BasicBlock a)) →
        Sees left (children s (BasicBlock a))
    lost a left over other = by (parent_of s (Operation p)) refl
      where
        by : (o : Option IRNode) → parent_of s (Operation p) ≡ o → Sees left (children s (BasicBlock a))
        by None e = ap (symbols_among own (op_at s)) (other (λ z. none-some (BasicBlock a) (sym e ∙ z)))
        by (Some n) e = elim (block-tells n a) [
          | inl same ↦
              (let has = w.parent_child (BasicBlock a) (Operation p) (e ∙ ap Some same) in
              let f = Has-split (children s (BasicBlock a)) (Operation p) has in
              gone left (children s (BasicBlock a)) f.0 f.1 (over f.0 f.1 f.2) f.2)
          | inr differs ↦ ap (symbols_among own (op_at s))
              (other (λ z. differs (same_Some n (BasicBlock a) (sym e ∙ z))))
        ]

    unlinked : IsUnlinked s.nodes t.nodes (Operation p) → Lasts own own_table c s t
    unlinked f =
        of-move f.moved (λ q. f.children (Operation q) (over-no-op q)) (λ r. f.children (Region r) (over-no-region r))
        (λ a. lost a (children t (BasicBlock a)) (f.children_over (BasicBlock a)) (f.children (BasicBlock a)))

    -- what it is moved beside still stands in its block once it is taken out
    still : (out : Nodes (OpView K A) (BlockView A)) → IsUnlinked s.nodes out (Operation p) → (mark : Ptr OperationKind) →
        (mark ≡ p → ⊥) → (b : Ptr BasicBlockKind) → Has (children s (BasicBlock b)) (Operation mark) →
        Has (node_children out (BasicBlock b)) (Operation mark)
    still out f mark other b here = by (parent_of s (Operation p)) refl
      where
        same : node_children out (BasicBlock b) ≡ children s (BasicBlock b) →
            Has (node_children out (BasicBlock b)) (Operation mark)
        same e = subst (λ z. Has z (Operation mark)) (sym e) here

        by : (o : Option IRNode) → parent_of s (Operation p) ≡ o → Has (node_children out (BasicBlock b)) (Operation mark)
        by None e = same (f.children (BasicBlock b) (λ z. none-some (BasicBlock b) (sym e ∙ z)))
        by (Some n) e = elim (block-tells n b) [
          | inl over ↦
              (let has = w.parent_child (BasicBlock b) (Operation p) (e ∙ ap Some over) in
              let k = Has-split (children s (BasicBlock b)) (Operation p) has in
              subst (λ z. Has z (Operation mark)) (sym (f.children_over (BasicBlock b) k.0 k.1 k.2))
              (elim (Has-append_cases k.0 (Operation p ∷ k.1) (Operation mark)
              (subst (λ z. Has z (Operation mark)) k.2 here)) [
                | inl front ↦ Has-append_left k.0 k.1 (Operation mark) front
                | inr back ↦ Has-append_right k.0 k.1 (Operation mark) (elim back [
                  | inl z ↦ absurd (other (sym (same-op p mark z)))
                  | inr rest ↦ rest
                ])
              ]))
          | inr differs ↦ same (f.children (BasicBlock b) (λ z. differs (same_Some n (BasicBlock b) (sym e ∙ z))))
        ]

    -- it is taken out, and then put into a block
    moved : (out : Nodes (OpView K A) (BlockView A)) → IsUnlinked s.nodes out (Operation p) → (b : Ptr BasicBlockKind)
        (ks xs ys : List IRNode) → IsPlaced out t.nodes (Operation p) (BasicBlock b) ks → ks ≡ xs ++ Operation p ∷ ys →
        node_children out (BasicBlock b) ≡ xs ++ ys → Lasts own own_table c s t
    moved out f b ks xs ys g e e' =
        of-move (record {
          ops = g.moved.ops ∙ f.moved.ops;
          regions = g.moved.regions ∙ f.moved.regions;
          blocks = g.moved.blocks ∙ f.moved.blocks;
          limit = g.moved.limit ∙ f.moved.limit;
          parents = λ m z. g.moved.parents m z ∙ f.moved.parents m z;
        })
        (λ q. g.children (Operation q) (λ z. cc z) ∙ f.children (Operation q) (over-no-op q))
        (λ r. g.children (Region r) (λ z. cc z) ∙ f.children (Region r) (over-no-region r))
        (λ a. put a ∙ lost a (node_children out (BasicBlock a)) (f.children_over (BasicBlock a)) (f.children (BasicBlock a)))
      where
        put : (a : Ptr BasicBlockKind) → Sees (children t (BasicBlock a)) (node_children out (BasicBlock a))
        put a = elim (block-tells (BasicBlock a) b) [
          | inl same ↦ subst (λ z. Sees (children t z) (node_children out z)) (sym same)
              (come (children t (BasicBlock b)) (node_children out (BasicBlock b)) xs ys (g.children_over ∙ e) e')
          | inr other ↦ ap (symbols_among own (op_at s)) (g.children (BasicBlock a) other)
        ]

    not-itself : (mark : Ptr OperationKind) → (IsAncestor s (Operation p) (Operation mark) → ⊥) → mark ≡ p → ⊥
    not-itself mark apart same = apart (0, ap (λ z. Some (Operation z)) same)

    -- the block beside which it is put, and what stands there before and behind
    target : (out : Nodes (OpView K A) (BlockView A)) → IsUnlinked s.nodes out (Operation p) → (mark : Ptr OperationKind) →
        IsSome (parent_of s (Operation mark)) → (mark ≡ p → ⊥) →
        (b : Ptr BasicBlockKind) × (xs : List IRNode) × (ys : List IRNode) ×
        (node_children out (BasicBlock b) ≡ xs ++ Operation mark ∷ ys)
    target out f mark linked other =
        let at = beside mark linked in
        let here = subst (λ z. Has z (Operation mark)) (sym at.3) (Has-mid at.1 at.2 (Operation mark)) in
        let k = Has-split (node_children out (BasicBlock at.0)) (Operation mark) (still out f mark other at.0 here) in
        (at.0, k.0, k.1, k.2)

    moved-before : (mark : Ptr OperationKind) → IsSome (parent_of s (Operation mark)) →
        (IsAncestor s (Operation p) (Operation mark) → ⊥) →
        IsMovedBefore s.nodes t.nodes (Operation p) (Operation mark) → Lasts own own_table c s t
    moved-before mark linked apart f =
        let at = target f.0 f.1.0 mark linked (not-itself mark apart) in
        moved f.0 f.1.0 at.0 (at.1 ++ Operation p ∷ Operation mark ∷ at.2) at.1 (Operation mark ∷ at.2)
        (f.1.1 (BasicBlock at.0) at.1 at.2 at.3) refl at.3

    moved-behind : (mark : Ptr OperationKind) → IsSome (parent_of s (Operation mark)) →
        (IsAncestor s (Operation p) (Operation mark) → ⊥) →
        IsMovedBehind s.nodes t.nodes (Operation p) (Operation mark) → Lasts own own_table c s t
    moved-behind mark linked apart f =
        let at = target f.0 f.1.0 mark linked (not-itself mark apart) in
        moved f.0 f.1.0 at.0 (at.1 ++ Operation mark ∷ Operation p ∷ at.2) (at.1 ++ Operation mark ∷ []) at.2
        (f.1.1 (BasicBlock at.0) at.1 at.2 at.3)
        (sym (append_assoc at.1 (Operation mark ∷ []) (Operation p ∷ at.2)))
        (at.3 ∙ sym (append_assoc at.1 (Operation mark ∷ []) at.2))

    erased : IsErased s.nodes t.nodes (Operation p) → Lasts own own_table c s t
    erased f =
        lasts own own_table s t law c w w' (record {
          ops = λ q was is. same-symbol (op_at s q) (op_at t q) (f.ops q is);
          regions = λ q was is. f.children (Operation q) (apart (Operation q) is) (over-no-op q);
          bodies = λ r was is. f.children (Region r) (apart (Region r) is) (over-no-region r);
          old = λ b x was is h. older x (w'.child_live (BasicBlock b) x h);
          blocks = λ b was is. lost b (children t (BasicBlock b)) (f.children_over (BasicBlock b))
              (f.children (BasicBlock b) (apart (BasicBlock b) is));
        }) (λ q tab has. (older (Operation tab.op), older (Operation q)))
      where
        apart : (n : IRNode) → IsLive t n → Reaches (parent_of s) n (Operation p) → ⊥
        apart n l r = not-both (is_live t n) l (f.gone n r)

        older : (n : IRNode) → IsLive t n → IsLive s n
        older n l = sym (f.live n (apart n l)) ∙ l

    pub moves-last : MovesLast own own_table c s t p
    moves-last = record {
      first = λ b f. placed b (Operation p ∷ children s (BasicBlock b)) [] (children s (BasicBlock b)) f refl refl;
      last = λ b f. placed b (children s (BasicBlock b) ++ Operation p ∷ []) (children s (BasicBlock b)) [] f refl
          (sym (append-nil (children s (BasicBlock b))));
      before = placed-before;
      behind = placed-behind;
      unlinked = unlinked;
      moved_before = moved-before;
      moved_behind = moved-behind;
      erased = erased;
    }
