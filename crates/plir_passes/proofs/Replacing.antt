-- A tree is made, and put before the operation that it is to replace.
use Rattle.std.proofs.Common.{◌≡◌, ℕ, zero, Bool, true, false, cond, List, [], ◌∷◌, ◌++◌, length, Some, inl, inr}
use Rattle.std.proofs.Common.{refl, sym, ap, subst, ◌∙◌, slice_get}
use Rattle.std.specs.List.{filter}
use Rattle.std.proofs.lemmas.Bool.{false_from_ne_true}
use Rattle.plir_data.specs.declared.op_set.OpKind.{OpKind}
use Rattle.plir_store.specs.Members.{Has}
use Rattle.plir_store.specs.MemberLaws.{Has-split, Has-append_left, Has-append_right, Has-append_cases}
use Rattle.plir_store.specs.FilterLaws.{not-both}
use Rattle.plir_core.specs.declared.ptr.Ptr.{Ptr}
use Rattle.plir_core.specs.declared.ptr.Operation.{Operation as OperationKind}
use Rattle.plir_core.specs.declared.ptr.BasicBlock.{BasicBlock as BasicBlockKind}
use Rattle.plir_core.specs.declared.ptr.IRNode.{IRNode}
use Rattle.plir_core.specs.declared.ptr.IRNode.TheVariants.{Operation, Region, BasicBlock}
use Rattle.plir_core.specs.Changes.{SameLive, with_op_before}
use Rattle.plir_core.specs.Made.{IsMade}
use Rattle.plir_core.specs.Placed.{IsPlacedBefore}
use Rattle.plir_core.specs.Forest.{look, IsForest}
use Rattle.plir_core.specs.ContextView.{ContextView, IsLive, is_live, children, parent_of, given_out, kind_in, op_at}
use Rattle.plir_core.specs.ContextView.{block_at, operands_in, limit}
use Rattle.plir_core.specs.ButOperands.{but_operands}
use Rattle.plir_walk.specs.Lawful.{Lawful}
use Rattle.plir_walk.specs.LawfulChanges.{LawfulChanges}
use Rattle.plir_walk.specs.Additions.{IsNewBefore}
use Rattle.plir_walk.specs.AdditionLaws.{new-before}
use Rattle.plir_walk.specs.NodeLaws.{block-tells}
use Rattle.plir_passes.specs.Legal.{is_illegal, is_kind}
use Rattle.plir_passes.specs.Kept.{Keeps, KeepsTypes, same-types}
use Rattle.plir_passes.specs.Prepared.{IsPrepared}
use Rattle.plir_passes.specs.Rewritten.{IsRewriting}

-- what a test refuses does not count
pub filter-skip : {A : Type 0} (p : A → Bool) (xs ys : List A) (x : A) → p x ≡ false
    → filter p (xs ++ x ∷ ys) ≡ filter p (xs ++ ys)
filter-skip p [] ys x e = rw e refl
filter-skip p (y ∷ xs) ys x e = ap (λ z. cond (p y) (y ∷ z) z) (filter-skip p xs ys x e)

module _ {K A T : Type 0} (illegal : OpKind K → Bool) where
  -- a node that holds what it held has the kind that it had
  pub same-legal : (s t : ContextView K A T) (a : IRNode)
      → ((p : Ptr OperationKind) → a ≡ Operation p → op_at t p ≡ op_at s p)
      → is_illegal illegal t a ≡ is_illegal illegal s a
  same-legal s t (Operation p) e = ap (λ z. is_kind illegal (kind_in z)) (e p refl)
  same-legal s t (Region p) e = refl
  same-legal s t (BasicBlock p) e = refl

  -- what was live is live, where it stood, and holds what it held
  pub keeps-all : (s t : ContextView K A T) (P : IRNode → Type 0) → ((n : IRNode) → IsLive s n → P n → IsLive t n)
      → ((n : IRNode) → IsLive s n → P n → parent_of t n ≡ parent_of s n)
      → ((p : Ptr OperationKind) → IsLive s (Operation p) → P (Operation p) → op_at t p ≡ op_at s p)
      → ((b : Ptr BasicBlockKind) → IsLive s (BasicBlock b) → P (BasicBlock b) → block_at t b ≡ block_at s b)
      → ((picks : IRNode → Bool) → ((m : IRNode) → picks m ≡ true → IsLive s m × P m) → (n : IRNode) → IsLive s n
      → P n → filter picks (children t n) ≡ filter picks (children s n))
      → KeepsTypes s t → limit t ≡ limit s → Keeps s t P
  keeps-all s t P live parents ops blocks children types same = record {
    live = live;
    parents = parents;
    children = children;
    ops = λ p l a. ap but_operands (ops p l a);
    num_operands = λ p l a. ap (λ z. length (operands_in z)) (ops p l a);
    operands = λ p i v l a e m b. ap (λ z. slice_get (operands_in z) i) (ops p l a) ∙ e;
    blocks = blocks;
    types = types;
    limit = same;
  }

  -- types that are the same keep their handles
  pub types-then : (s t u : ContextView K A T) → KeepsTypes s t → u.types ≡ t.types → KeepsTypes s u
  types-then s t u f e h x k = same-types t u e h x (f h x k)

  pub rewriting-refused : (s t : ContextView K A T) (b : Ptr BasicBlockKind) (op : Ptr OperationKind)
      → IsForest (look s) → Lawful (look s) (BasicBlock b) (look t) → SameLive s t → IsRewriting illegal s t b op
  rewriting-refused s t b op w l same = record {
    lawful = l;
    kept =
        keeps-all s t _ (λ n l a. same.nodes.live n ∙ l) (λ n l a. same.nodes.parents n) (λ p l a. same.nodes.ops p l)
        (λ q l a. same.nodes.blocks q l) (λ picks only n l a. ap (filter picks) (same.nodes.children n))
        (same-types s t same.types) same.nodes.limit;
    legal = λ n a g h i.
        (let k : Has (children s n) a = subst (λ z. Has z a) (same.nodes.children n) h in
        (k, sym (same-legal s t a (λ p e. same.nodes.ops p (subst (IsLive s) e (w.child_live n a k)))) ∙ i));
  }

  module _ (own : A → List ℕ) (laws : LawfulChanges K A T own) (s t u : ContextView K A T) (b : Ptr BasicBlockKind)
      (op x : Ptr OperationKind)
      (w : IsForest (look s)) (here : parent_of s (Operation op) ≡ Some (BasicBlock b))
      (made : IsMade s.nodes t.nodes (Operation x)) (types : KeepsTypes s t)
      (placed : IsPlacedBefore t.nodes u.nodes (Operation x) (Operation op)) (put : u ≡ with_op_before t x op) where
    at : IsNewBefore s t u (Operation x) (Operation op) (BasicBlock b)
    at = new-before s t u (Operation x) (Operation op) (BasicBlock b) w here made placed

    cut : (front : List IRNode) × (back : List IRNode) × (children s (BasicBlock b) ≡ front ++ Operation op ∷ back)
    cut = Has-split (children s (BasicBlock b)) (Operation op) (w.parent_child (BasicBlock b) (Operation op) here)

    -- a test that holds only of what was live refuses the new one
    not-picked : (picks : IRNode → Bool) → ((m : IRNode) → picks m ≡ true → IsLive s m)
        → picks (Operation x) ≡ false
    not-picked picks only =
        false_from_ne_true (picks (Operation x)) (λ k. at.older (Operation x) (only (Operation x) k) refl)

    children-u : (picks : IRNode → Bool) → ((m : IRNode) → picks m ≡ true → IsLive s m) → (n : IRNode) → IsLive s n
        → filter picks (children u n) ≡ filter picks (children s n)
    children-u picks only n l = elim (block-tells n b) [
      | inl e ↦ subst (λ z. filter picks (children u z) ≡ filter picks (children s z)) (sym e)
          (ap (filter picks) (at.place cut.0 cut.1 cut.2)
          ∙ filter-skip picks cut.0 (Operation op ∷ cut.1) (Operation x) (not-picked picks only)
          ∙ ap (filter picks) (sym cut.2))
      | inr ne ↦ ap (filter picks) (at.children n l ne)
    ]

    -- a node that is there and was given out before was there before
    was-live : (n : IRNode) → IsLive u n → given_out s n ≡ true → IsLive s n
    was-live n l g = go (is_live s n) refl
      where
        go : (z : Bool) → is_live s n ≡ z → is_live s n ≡ true
        go true e = e
        go false e = absurd (not-both (given_out s n) g (at.fresh n l e))

    module _ (w' : IsForest (look u)) (legal : is_illegal illegal t (Operation x) ≡ false) where
      -- what stands under an older node stood there, but for the new one
      brought-u : (n a : IRNode) → IsLive s n → Has (children u n) a → is_illegal illegal u a ≡ true
          → Has (children s n) a × (is_illegal illegal s a ≡ true)
      brought-u n a l h i = elim (block-tells n b) [
        | inl e ↦
            let k : Has (cut.0 ++ Operation x ∷ Operation op ∷ cut.1) a =
            subst (λ z. Has z a) (at.place cut.0 cut.1 cut.2) (subst (λ z. Has (children u z) a) e h) in
            let old : Has (children s (BasicBlock b)) a → Has (children s n) a × (is_illegal illegal s a ≡ true) =
            λ h. (let z = kept (BasicBlock b) h in (subst (λ m. Has (children s m) a) (sym e) z.0, z.1)) in
            elim (Has-append_cases cut.0 (Operation x ∷ Operation op ∷ cut.1) a k) [
              | inl f ↦ old (subst (λ z. Has z a) (sym cut.2) (Has-append_left cut.0 (Operation op ∷ cut.1) a f))
              | inr (inl q) ↦ absurd (not-both (is_illegal illegal u (Operation x))
                  (subst (λ z. is_illegal illegal u z ≡ true) (sym q) i)
                  (ap (λ z. is_kind illegal (kind_in z)) (at.held x) ∙ legal))
              | inr (inr f) ↦ old (subst (λ z. Has z a) (sym cut.2) (Has-append_right cut.0 (Operation op ∷ cut.1) a f))
            ]
        | inr ne ↦ kept n (subst (λ z. Has z a) (at.children n l ne) h)
      ]
        where
          kept : (m : IRNode) → Has (children s m) a → Has (children s m) a × (is_illegal illegal s a ≡ true)
          kept m f = (
            f,
            sym (same-legal s u a (λ p e. at.keeps.ops p (subst (IsLive s) e (w.child_live m a f)))) ∙ i,
          )

      pub rewriting-added : IsRewriting illegal s u b op
      rewriting-added = record {
        lawful =
            laws.placed_before s t u (BasicBlock b) (BasicBlock b) (Operation x) (Operation op) w (zero, refl) here made
            placed;
        kept = keeps-all s u _ (λ n l a. at.keeps.live n l) (λ n l a. at.keeps.parents n l)
            (λ p l a. at.keeps.ops p l) (λ q l a. at.keeps.blocks q l)
            (λ picks only n l a. children-u picks (λ m k. (only m k).0) n l)
            (types-then s t u types (ap (λ z. z.types) put)) at.keeps.limit;
        legal = λ n a g h i. brought-u n a (was-live n (w'.parent_live n a (w'.child_parent n a h)) g) h i;
      }

      pub prepared-added : IsPrepared illegal s u b op
      prepared-added = record {
        rewriting = rewriting-added;
        live = at.keeps.live;
        parents = at.keeps.parents;
        place = λ xs ys e. (Operation x ∷ [], at.place xs ys e);
        children = at.children;
        ops = λ p l. ap but_operands (at.keeps.ops p l);
        blocks = at.keeps.blocks;
      }
