-- Written operations that stand in a context go on standing there while others are made.
use Rattle.std.proofs.Common.{◌≡◌, ℕ, zero, suc, ◌+◌, List, [], ◌∷◌, ◌++◌, Option, Some, None, inl, inr, refl, sym, ap}
use Rattle.std.proofs.Common.{subst, ◌∙◌, arith}
use Rattle.std.proofs.lemmas.Option.{same_Some, none-some}
use Rattle.plir_data.specs.AttrView.{AttrView}
use Rattle.plir_store.specs.Table.{content_at}
use Rattle.plir_core.specs.declared.ptr.Ptr.{Ptr}
use Rattle.plir_core.specs.declared.ptr.Operation.{Operation as OperationKind}
use Rattle.plir_core.specs.declared.ptr.BasicBlock.{BasicBlock as BasicBlockKind}
use Rattle.plir_core.specs.declared.ptr.IRNode.{IRNode}
use Rattle.plir_core.specs.declared.ptr.IRNode.TheVariants.{Operation, Region, BasicBlock}
use Rattle.plir_core.specs.Above.{climb, Reaches}
use Rattle.plir_core.specs.Contents.{OpView, BlockView}
use Rattle.plir_core.specs.Made.{IsMade}
use Rattle.plir_store.specs.Members.{Has}
use Rattle.plir_core.specs.Placed.{IsPlaced}
use Rattle.plir_core.specs.Standing.{IsStanding}
use Rattle.plir_core.specs.ContextView.{ContextView, IsLive, children, parent_of, op_at, block_at}
use Rattle.plir_core.specs.Measures.{depth}
use Rattle.plir_attr_text.specs.Names.{Grows}
use Rattle.plir_attr_text.specs.laws.Growth.{Grows-itself, Names-grown, NamesAll-grown}
use Rattle.plir_attr_text.specs.laws.Meanings.{IsMeant-grown, IsDictMeant-grown}
use Rattle.plir_attr_text.specs.Terms.{AttrTerm, TypeTerm}
use Rattle.plir_read.specs.OpTerms.{Head, module_head, func_head, Header, BlockHead, OpTerm, op_term, constant_term}
use Rattle.plir_read.specs.OpTerms.{BlockTerms, no_blocks, block_before, OpTerms, no_ops, op_before, ops_of, BlockTerm}
use Rattle.plir_read.specs.OpTerms.{blocks_of}
use Rattle.plir_read.specs.Heads.{result_names, argument_types, written_block}
use Rattle.plir_read.specs.OpsStanding.{HoldsOp, HoldsBlock, IsConstantAt, IsHeadAt, IsHeaderAt, IsBlockHeadAt, IsOpAt}
use Rattle.plir_read.specs.OpsStanding.{AreBlocksAt, AreOpsAt, IsBlockAt}

module _ {K A T : Type 0} where
  -- The nodes that pass hold what they held and have the children that they had, and their children pass.
  pub record IsFrame (s t : ContextView K A T) (P : IRNode → Type 0) : Type 0 where
    pub same : (m : IRNode) → P m → children t m ≡ children s m
    pub ops : (p : Ptr OperationKind) → P (Operation p) → op_at t p ≡ op_at s p
    pub blocks : (p : Ptr BasicBlockKind) → P (BasicBlock p) → block_at t p ≡ block_at s p
    pub down : (m x : IRNode) → P m → Has (children s m) x → P x
    pub types : Grows s.types t.types

  module _ (s t : ContextView K A T) (P : IRNode → Type 0) (f : IsFrame s t P) where
    holds_op : (n : IRNode) (v : OpView K A) → P n → HoldsOp s n v → HoldsOp t n v
    holds_op (Operation p) v h e = f.ops p h ∙ e
    holds_op (Region p) v h e = e
    holds_op (BasicBlock p) v h e = e

    holds_block : (n : IRNode) (v : BlockView A) → P n → HoldsBlock s n v → HoldsBlock t n v
    holds_block (BasicBlock p) v h e = f.blocks p h ∙ e
    holds_block (Region p) v h e = e
    holds_block (Operation p) v h e = e

    head_kept : (n : IRNode) (h : Head) (entries : List (List ℕ × AttrView A)) → P n → IsHeadAt s n h entries →
        IsHeadAt t n h entries
    head_kept n (module_head w) entries h e = holds_op n _ h e
    head_kept n (func_head w ty) entries h e = (e.0, Names-grown s.types t.types e.0 ty f.types e.1, holds_op n _ h e.2)

    header_kept : (n : IRNode) (h : Header) → P n → IsHeaderAt s n h → IsHeaderAt t n h
    header_kept n h p e = (e.0, IsDictMeant-grown s.types t.types f.types h.1 e.0 e.1, head_kept n h.0 e.0 p e.2)

    block_head_kept : (n : IRNode) (b : BlockHead) → P n → IsBlockHeadAt s n b → IsBlockHeadAt t n b
    block_head_kept n b h e = (
      e.0,
      NamesAll-grown s.types t.types e.0 (argument_types b.1) f.types e.1,
      holds_block n (written_block b e.0) h e.2,
    )

    constant_kept : (n : IRNode) (names : List (Option (List ℕ))) (c : AttrTerm × TypeTerm) → P n →
        IsConstantAt s n names c → IsConstantAt t n names c
    constant_kept n names c h e = (
      e.0,
      e.1,
      record {
        meant = IsMeant-grown s.types t.types f.types c.0 e.0 e.2.meant;
        typed =
            Names-grown s.types t.types e.1 c.1 f.types e.2.typed;
      },
      holds_op n _ h e.3,
      f.same n h ∙ e.4,
    )

    mutual
      pub IsOpAt-kept : (n : IRNode) (o : OpTerm) → P n → IsOpAt s n o → IsOpAt t n o
      IsOpAt-kept n (constant_term w a ty) p e = constant_kept n (result_names (w ∷ [])) (a, ty) p e
      IsOpAt-kept n (op_term h bs) p e =
          let inside : P e.0 = f.down n e.0 p (subst (λ z. Has z e.0) (sym e.2) (inl refl)) in (
            e.0,
            header_kept n h p e.1,
            f.same n p ∙ e.2,
            subst (λ z. AreBlocksAt t z bs) (sym (f.same e.0 inside))
                (AreBlocksAt-kept (children s e.0) bs (λ x. f.down e.0 x inside) e.3),
          )

      pub AreBlocksAt-kept : (ns : List IRNode) (bs : BlockTerms) → ((x : IRNode) → Has ns x → P x) →
          AreBlocksAt s ns bs → AreBlocksAt t ns bs
      AreBlocksAt-kept ns no_blocks all e = e
      AreBlocksAt-kept ns (block_before b os bs) all e =
          let here : P e.0 = all e.0 (subst (λ z. Has z e.0) (sym e.2) (inl refl)) in (
            e.0,
            e.1,
            e.2,
            block_head_kept e.0 b here e.3,
            subst (λ z. AreOpsAt t z os) (sym (f.same e.0 here))
                (AreOpsAt-kept (children s e.0) os (λ x. f.down e.0 x here) e.4),
            AreBlocksAt-kept e.1 bs (λ x h. all x (subst (λ z. Has z x) (sym e.2) (inr h))) e.5,
          )

      pub AreOpsAt-kept : (ns : List IRNode) (os : OpTerms) → ((x : IRNode) → Has ns x → P x) → AreOpsAt s ns os →
          AreOpsAt t ns os
      AreOpsAt-kept ns no_ops all e = e
      AreOpsAt-kept ns (op_before o os) all e =
          let here : P e.0 = all e.0 (subst (λ z. Has z e.0) (sym e.2) (inl refl)) in (
            e.0,
            e.1,
            e.2,
            IsOpAt-kept e.0 o here e.3,
            AreOpsAt-kept e.1 os (λ x h. all x (subst (λ z. Has z x) (sym e.2) (inr h))) e.4,
          )

    pub IsBlockAt-kept : (n : IRNode) (b : BlockTerm) → P n → IsBlockAt s n b → IsBlockAt t n b
    IsBlockAt-kept n b p e = record {
      head = block_head_kept n b.0 p e.head;
      ops = subst (λ z. AreOpsAt t z (ops_of b.1)) (sym (f.same n p))
          (AreOpsAt-kept (children s n) (ops_of b.1) (λ x. f.down n x p) e.ops);
    }

  module _ (s : ContextView K A T) where
    -- one operation more
    pub AreOpsAt-push : (ns : List IRNode) (os : List OpTerm) (n : IRNode) (o : OpTerm) → AreOpsAt s ns (ops_of os) →
        IsOpAt s n o → AreOpsAt s (ns ++ n ∷ []) (ops_of (os ++ o ∷ []))
    AreOpsAt-push ns [] n o e h = (n, [], ap (λ (l : List IRNode). l ++ n ∷ []) e, h, refl)
    AreOpsAt-push ns (x ∷ os) n o e h =
        (e.0, e.1 ++ n ∷ [], ap (λ (l : List IRNode). l ++ n ∷ []) e.2, e.3, AreOpsAt-push e.1 os n o e.4 h)

    -- one block more
    pub AreBlocksAt-push : (ns : List IRNode) (bs : List BlockTerm) (n : IRNode) (b : BlockTerm) →
        AreBlocksAt s ns (blocks_of bs) → IsBlockAt s n b → AreBlocksAt s (ns ++ n ∷ []) (blocks_of (bs ++ b ∷ []))
    AreBlocksAt-push ns [] n b e h = (n, [], ap (λ (l : List IRNode). l ++ n ∷ []) e, h.head, h.ops, refl)
    AreBlocksAt-push ns (x ∷ bs) n b e h =
        (e.0, e.1 ++ n ∷ [], ap (λ (l : List IRNode). l ++ n ∷ []) e.2, e.3, e.4, AreBlocksAt-push e.1 bs n b e.5 h)

  -- ---- which nodes pass

  climb_nothing : (s : ContextView K A T) (k : ℕ) → climb (parent_of s) k None ≡ None
  climb_nothing s zero = refl
  climb_nothing s (suc k) = refl

  pub climb_on : (s : ContextView K A T) (j : ℕ) (x : Option IRNode) (o r : IRNode) → climb (parent_of s) j x ≡ Some o →
      Reaches (parent_of s) o r → (k : ℕ) × (climb (parent_of s) k x ≡ Some r)
  climb_on s zero x o r e q = (q.0, ap (climb (parent_of s) q.0) e ∙ q.1)
  climb_on s (suc j) None o r e q = absurd (none-some o e)
  climb_on s (suc j) (Some m) o r e q = let h = climb_on s j (parent_of s m) o r e q in (suc h.0, h.1)

  -- k steps up are k levels
  depth_climbed : (s : ContextView K A T) → IsStanding s → (k : ℕ) (m a : IRNode) →
      climb (parent_of s) k (Some m) ≡ Some a → depth s m ≡ depth s a + k
  depth_climbed s w zero m a e = let q : depth s m ≡ depth s a = ap (depth s) (same_Some m a e) in omega arith
  depth_climbed s w (suc k) m a e = at (λ b f. depth_climbed s w k b a f) (parent_of s m) refl
    where
      at : ((b : IRNode) → climb (parent_of s) k (Some b) ≡ Some a → depth s b ≡ depth s a + k) → (o : Option IRNode) →
          parent_of s m ≡ o → depth s m ≡ depth s a + suc k
      at rec None f = absurd (none-some a (sym (climb_nothing s k) ∙ ap (climb (parent_of s) k) (sym f) ∙ e))
      at rec (Some b) f = let d = w.measured.deeper b m f in let r = rec b (ap (climb (parent_of s) k) (sym f) ∙ e) in
          omega (arith, d, r)

  -- a node is not below its child
  pub child_below : (s : ContextView K A T) → IsStanding s → (a x : IRNode) → Has (children s a) x →
      Reaches (parent_of s) a x → ⊥
  child_below s w a x h r =
      let d = w.measured.deeper a x (w.forest.child_parent a x h) in
      let e = depth_climbed s w r.0 a x r.1 in
      omega (arith, d, e)

  -- what was live is as it was, once a tree is made
  pub frame_made : (s t : ContextView K A T) (n : IRNode) → IsStanding s → IsMade s.nodes t.nodes n →
      Grows s.types t.types → IsFrame s t (λ m. IsLive s m)
  frame_made s t n w m g = record {
    same = λ x e. m.children x e;
    ops = λ p e. m.keeps.ops p e;
    blocks = λ p e. m.keeps.blocks p e;
    down = λ a x e h. w.forest.child_live a x h;
    types = g;
  }

  -- what is not above `over` is as it was, once a node is put there
  pub frame_placed : (s t : ContextView K A T) (n over : IRNode) (ks : List IRNode) → IsStanding s →
      IsPlaced s.nodes t.nodes n over ks → t.types ≡ s.types → IsFrame s t (λ m. Reaches (parent_of s) over m → ⊥)
  frame_placed s t n over ks w p e = record {
    same = λ x away. p.children x (λ q. away (0, ap (λ z. Some z) (sym q)));
    ops = λ x away. ap (λ z. content_at z x.slot) p.moved.ops;
    blocks = λ x away. ap (λ z. content_at z x.slot) p.moved.blocks;
    down = λ a x away h r. away (climb_on s r.0 (Some over) x a r.1 (1, w.forest.child_parent a x h));
    types = subst (Grows s.types) (sym e) (Grows-itself s.types);
  }
