-- A replacement is made in steps: what each leaves, one after another, and what is left where the operation is erased.
use Rattle.std.proofs.Common.{◌≡◌, ℕ, zero, suc, Bool, true, false, cond, List, [], ◌∷◌, ◌++◌, length, map}
use Rattle.std.proofs.Common.{Option, Some, None, inl, inr, refl, sym, ap, subst, ◌∙◌, append_assoc, slice_get}
use Rattle.std.specs.Prelude.{option_map}
use Rattle.std.specs.List.{filter}
use Rattle.std.proofs.lemmas.Bool.{false_from_ne_true}
use Rattle.std.proofs.lemmas.List.{length-map}
use Rattle.std.proofs.lemmas.Option.{same_Some}
use Rattle.plir_data.specs.declared.op_set.OpKind.{OpKind}
use Rattle.plir_store.specs.Members.{Has}
use Rattle.plir_store.specs.MemberLaws.{Has-split, Has-append_left, Has-append_right, Has-append_cases}
use Rattle.plir_store.specs.FilterLaws.{not-both}
use Rattle.plir_store.specs.Table.{content_at}
use Rattle.plir_core.specs.declared.ptr.Ptr.{Ptr}
use Rattle.plir_core.specs.declared.ptr.Operation.{Operation as OperationKind}
use Rattle.plir_core.specs.declared.ptr.BasicBlock.{BasicBlock as BasicBlockKind}
use Rattle.plir_core.specs.declared.ptr.IRNode.{IRNode}
use Rattle.plir_core.specs.declared.ptr.IRNode.TheVariants.{Operation, Region, BasicBlock}
use Rattle.plir_core.specs.declared.value.Value.{Value}
use Rattle.plir_core.specs.declared.value.DefiningEntity.{DefiningEntity}
use Rattle.plir_core.specs.declared.value.DefiningEntity.TheVariants.{Op, Block}
use Rattle.plir_core.specs.Above.{climb, Reaches}
use Rattle.plir_core.specs.Changes.{SameLive}
use Rattle.plir_core.specs.Contents.{OpView}
use Rattle.plir_core.specs.Erase.{IsErased}
use Rattle.plir_core.specs.Forest.{look, IsForest}
use Rattle.plir_core.specs.Replaced.{replaced, op_replaced}
use Rattle.plir_core.specs.Rewired.{IsRewired}
use Rattle.plir_core.specs.SameValue.{same_value, value-exact}
use Rattle.plir_core.specs.ContextView.{ContextView, IsLive, IsValueLive, is_live, children, parent_of, kind_in, op_at}
use Rattle.plir_core.specs.ContextView.{arguments_in, entity_node, limit, operands_in, operands_of, results_in}
use Rattle.plir_core.specs.ContextView.{result_types_of, type_of_value, types_from}
use Rattle.plir_core.specs.Unused.{without_tree}
use Rattle.plir_core.specs.ButOperands.{but_operands}
use Rattle.plir_walk.specs.AdditionLaws.{value-stays, value-type-stays}
use Rattle.plir_walk.specs.Lawful.{Lawful}
use Rattle.plir_walk.specs.LawfulChanges.{LawfulChanges}
use Rattle.plir_walk.specs.NodeLaws.{block-tells, climb-nothing}
use Rattle.plir_passes.specs.Legal.{is_illegal, is_kind}
use Rattle.plir_passes.specs.Kept.{Keeps, same-types}
use Rattle.plir_passes.specs.Prepared.{IsPrepared}
use Rattle.plir_passes.specs.Rewritten.{IsRewriting, IsReplaced}
use Rattle.plir_passes.proofs.Replacing.{filter-skip, keeps-all, same-legal, rewriting-refused}

get-map : {X : Type 0} (f : X → X) (xs : List X) (i : ℕ) → slice_get (map f xs) i ≡ option_map f (slice_get xs i)
get-map f [] zero = refl
get-map f [] (suc i) = refl
get-map f (x ∷ xs) zero = refl
get-map f (x ∷ xs) (suc i) = get-map f xs i

-- ---- a value has come in place of another one

module _ {K A : Type 0} (v w : Value) where
  kind-map : (o : Option (OpView K A)) → kind_in (option_map (op_replaced v w) o) ≡ kind_in o
  kind-map None = refl
  kind-map (Some o) = refl

  but-map : (o : Option (OpView K A)) → but_operands (option_map (op_replaced v w) o) ≡ but_operands o
  but-map None = refl
  but-map (Some o) = refl

  operands-map : (o : Option (OpView K A)) → operands_in (option_map (op_replaced v w) o) ≡
      map (replaced v w) (operands_in o)
  operands-map None = refl
  operands-map (Some o) = refl

-- a value that is not one of those that were replaced stays
stays : (v w x : Value) → (x ≡ v → ⊥) → replaced v w x ≡ x
stays v w x ne = at (same_value x v) refl
  where
    at : (b : Bool) → same_value x v ≡ b → cond b w x ≡ x
    at false e = refl
    at true e = absurd (ne ((value-exact x v).0 e))

-- an operation that stands in a block is live
pub op-live : {K A T : Type 0} (s : ContextView K A T) (b : Ptr BasicBlockKind) (op : Ptr OperationKind)
    → IsForest (look s) → parent_of s (Operation op) ≡ Some (BasicBlock b) → IsLive s (Operation op)
op-live s b op w here =
    w.child_live (BasicBlock b) (Operation op) (w.parent_child (BasicBlock b) (Operation op) here)

-- nothing was done
pub prepared-begun : {K A T : Type 0} (illegal : OpKind K → Bool) (own : A → List ℕ) (laws : LawfulChanges K A T own)
    (s : ContextView K A T) (b : Ptr BasicBlockKind) (op : Ptr OperationKind) → IsPrepared illegal s s b op
prepared-begun illegal own laws s b op = record {
  rewriting = record {
    lawful = laws.none s (BasicBlock b);
    kept = keeps-all illegal s s _ (λ n l a. l) (λ n l a. refl) (λ p l a. refl) (λ q l a. refl)
        (λ picks only n l a. refl) (same-types s s refl) refl;
    legal = λ n a g h i. (h, i);
  };
  live = λ n l. l;
  parents = λ n l. refl;
  place = λ xs ys e. ([], e);
  children = λ n l ne. refl;
  ops = λ p l. refl;
  blocks = λ q l. refl;
}

module _ {K A T : Type 0} (illegal : OpKind K → Bool) (own : A → List ℕ) (laws : LawfulChanges K A T own)
    (s t : ContextView K A T) (b : Ptr BasicBlockKind) (op : Ptr OperationKind) where
  pub prepared-unmade : IsForest (look s) → Lawful (look s) (BasicBlock b) (look t) → SameLive s t
      → IsPrepared illegal s t b op
  prepared-unmade w l same = record {
    rewriting = rewriting-refused illegal s t b op w l same;
    live = λ n l. same.nodes.live n ∙ l;
    parents = λ n l. same.nodes.parents n;
    place = λ xs ys e. ([], same.nodes.children (BasicBlock b) ∙ e);
    children = λ n l ne. same.nodes.children n;
    ops = λ p l. ap but_operands (same.nodes.ops p l);
    blocks = λ q l. same.nodes.blocks q l;
  }

  module _ (v w : Value) (from : Reaches (parent_of s) (entity_node v.entity) (Operation op))
      (r : IsRewired s t v w) where
    apart-kept : Keeps s t (λ n. Reaches (parent_of s) n (Operation op) → ⊥)
    apart-kept = record {
      live = λ n l a. r.keeps.live n ∙ l;
      parents = λ n l a. r.keeps.parents n;
      children = λ picks only n l a. ap (filter picks) (r.keeps.children n);
      ops = λ p l a. ap but_operands (r.ops p) ∙ but-map v w (op_at s p);
      num_operands = λ p l a.
          ap (λ z. length (operands_in z)) (r.ops p) ∙ ap length (operands-map v w (op_at s p))
          ∙ length-map (operands_of s p) (replaced v w);
      operands = λ p i x l a e m u.
          ap (λ z. slice_get (operands_in z) i) (r.ops p)
          ∙ ap (λ z. slice_get z i) (operands-map v w (op_at s p)) ∙ get-map (replaced v w) (operands_of s p) i
          ∙ ap (option_map (replaced v w)) e
          ∙ ap Some (stays v w x
          (λ q. u (subst (λ z. Reaches (parent_of s) (entity_node z.entity) (Operation op)) (sym q) from)));
      blocks = λ q l a. ap (λ z. content_at z q.slot) r.blocks;
      types = same-types s t r.keeps.types;
      limit = r.keeps.limit;
    }

    same-kind : (a : IRNode) → is_illegal illegal t a ≡ is_illegal illegal s a
    same-kind (Operation p) =
        ap (λ z. is_kind illegal (kind_in z)) (r.ops p) ∙ ap (is_kind illegal) (kind-map v w (op_at s p))
    same-kind (Region p) = refl
    same-kind (BasicBlock p) = refl

    pub prepared-rewired : IsPrepared illegal s t b op
    prepared-rewired = record {
      rewriting = record {
        lawful = laws.rewired s t (BasicBlock b) v w r;
        kept = apart-kept;
        legal = λ n a g h i. (subst (λ z. Has z a) (r.keeps.children n) h, sym (same-kind a) ∙ i);
      };
      live = λ n l. r.keeps.live n ∙ l;
      parents = λ n l. r.keeps.parents n;
      place = λ xs ys e. ([], r.keeps.children (BasicBlock b) ∙ e);
      children = λ n l ne. r.keeps.children n;
      ops = λ p l. ap but_operands (r.ops p) ∙ but-map v w (op_at s p);
      blocks = λ q l. ap (λ z. content_at z q.slot) r.blocks;
    }

-- ---- one step after another

module _ {K A T : Type 0} (op : Ptr OperationKind) where
  -- a node stands apart from the operation
  abbrev Apart : ContextView K A T → IRNode → Type 0
  Apart s n = Reaches (parent_of s) n (Operation op) → ⊥

  up-apart : (s : ContextView K A T) (n a : IRNode) → parent_of s n ≡ Some a → Apart s n → Apart s a
  up-apart s n a e u r = u (suc r.0, ap (climb (parent_of s) r.0) e ∙ r.1)

  way : (s t : ContextView K A T) → IsForest (look s) → Keeps s t (Apart s) → (k : ℕ) (n a : IRNode)
      → IsLive s n → Apart s n → climb (parent_of t) k (Some n) ≡ Some a → climb (parent_of s) k (Some n) ≡ Some a
  way s t w f zero n a l u e = e
  way s t w f (suc k) n a l u e = up (λ b m v g. way s t w f k b a m v g) (parent_of s n) refl
    where
      up : ((b : IRNode) → IsLive s b → Apart s b → climb (parent_of t) k (Some b) ≡ Some a
          → climb (parent_of s) k (Some b) ≡ Some a)
          → (o : Option IRNode) → parent_of s n ≡ o → climb (parent_of s) k (parent_of s n) ≡ Some a
      up rest None q =
          absurd (climb-nothing (parent_of t) k a (ap (climb (parent_of t) k) (sym (f.parents n l u ∙ q)) ∙ e))
      up rest (Some b) q =
          ap (climb (parent_of s) k) q
          ∙ rest b (w.parent_live b n q) (up-apart s n b q u)
          (ap (climb (parent_of t) k) (sym (f.parents n l u ∙ q)) ∙ e)

  still : (s t : ContextView K A T) → IsForest (look s) → Keeps s t (Apart s) → (n : IRNode) → IsLive s n → Apart s n
      → Apart t n
  still s t w f n l u r = u (r.0, way s t w f r.0 n (Operation op) l u r.1)

  keeps-both : (s t u : ContextView K A T) → IsForest (look s) → Keeps s t (Apart s) → Keeps t u (Apart t)
      → Keeps s u (Apart s)
  keeps-both s t u w f g =
      let st = still s t w f in
      record {
        live = λ n l a. g.live n (f.live n l a) (st n l a);
        parents = λ n l a. g.parents n (f.live n l a) (st n l a) ∙ f.parents n l a;
        children = λ picks only n l a.
            g.children picks (λ m k. (let o = only m k in (f.live m o.0 o.1, st m o.0 o.1))) n (f.live n l a) (st n l a)
            ∙ f.children picks only n l a;
        ops = λ p l a. g.ops p (f.live (Operation p) l a) (st (Operation p) l a) ∙ f.ops p l a;
        num_operands =
            λ p l a. g.num_operands p (f.live (Operation p) l a) (st (Operation p) l a) ∙ f.num_operands p l a;
        operands =
            λ p i v l a e m b. g.operands p i v (f.live (Operation p) l a) (st (Operation p) l a)
            (f.operands p i v l a e m b) (f.live (entity_node v.entity) m b) (st (entity_node v.entity) m b);
        blocks = λ b l a. g.blocks b (f.live (BasicBlock b) l a) (st (BasicBlock b) l a) ∙ f.blocks b l a;
        types = λ h x k. g.types h x (f.types h x k);
        limit = g.limit ∙ f.limit;
      }

module _ {K A T : Type 0} (illegal : OpKind K → Bool) (own : A → List ℕ) (laws : LawfulChanges K A T own)
    (s t u : ContextView K A T) (b : Ptr BasicBlockKind) (op : Ptr OperationKind) (w : IsForest (look s)) where
  pub rewriting-both : IsRewriting illegal s t b op → IsRewriting illegal t u b op → IsRewriting illegal s u b op
  rewriting-both f g = record {
    lawful = laws.both s t u (BasicBlock b) w f.lawful g.lawful;
    kept = keeps-both op s t u w f.kept g.kept;
    legal = λ n a d h i. (let r = g.legal n a (f.lawful.given n d) h i in f.legal n a d r.0 r.1);
  }

  pub prepared-both : IsPrepared illegal s t b op → IsPrepared illegal t u b op → IsPrepared illegal s u b op
  prepared-both f g = record {
    rewriting = rewriting-both f.rewriting g.rewriting;
    live = λ n l. g.live n (f.live n l);
    parents = λ n l. g.parents n (f.live n l) ∙ f.parents n l;
    place = λ xs ys e.
        (let i = f.place xs ys e in
        let j = g.place (xs ++ i.0) ys (i.1 ∙ sym (append_assoc xs i.0 (Operation op ∷ ys))) in (
          i.0 ++ j.0,
          j.1 ∙ append_assoc xs i.0 (j.0 ++ Operation op ∷ ys)
              ∙ ap (λ z. xs ++ z) (sym (append_assoc i.0 j.0 (Operation op ∷ ys))),
        ));
    children = λ n l ne. g.children n (f.live n l) ne ∙ f.children n l ne;
    ops = λ p l. g.ops p (f.live (Operation p) l) ∙ f.ops p l;
    blocks = λ q l. g.blocks q (f.live (BasicBlock q) l) ∙ f.blocks q l;
  }

-- ---- what an operation and a value are while a replacement is prepared

results-but : {K A : Type 0} (o : Option (OpView K A)) → results_in (but_operands o) ≡ results_in o
results-but None = refl
results-but (Some o) = refl

module _ {K A T : Type 0} (illegal : OpKind K → Bool) (s t : ContextView K A T) (b : Ptr BasicBlockKind)
    (op : Ptr OperationKind) (f : IsPrepared illegal s t b op) where
  pub same-results : (p : Ptr OperationKind) → IsLive s (Operation p) → result_types_of t p ≡ result_types_of s p
  same-results p l = sym (results-but (op_at t p)) ∙ ap results_in (f.ops p l) ∙ results-but (op_at s p)

  same-types-from : (e : DefiningEntity) → IsLive s (entity_node e) → types_from t e ≡ types_from s e
  same-types-from (Op p) l = same-results p l
  same-types-from (Block p) l = ap arguments_in (f.blocks p l)

  pub same-value-in : (v : Value) → IsValueLive s v → IsValueLive t v × (type_of_value t v ≡ type_of_value s v)
  same-value-in v l = (
    value-stays s t v (f.live (entity_node v.entity)) (same-types-from v.entity) l,
    value-type-stays s t v (same-types-from v.entity) l,
  )

-- ---- the operation is erased

module _ {K A T : Type 0} (illegal : OpKind K → Bool) (own : A → List ℕ) (laws : LawfulChanges K A T own)
    (t u : ContextView K A T) (b : Ptr BasicBlockKind) (op : Ptr OperationKind) (w : IsForest (look t))
    (w' : IsForest (look u)) (here : parent_of t (Operation op) ≡ Some (BasicBlock b))
    (erased : IsErased t.nodes u.nodes (Operation op)) (freed : u ≡ without_tree t (Operation op)) where
  -- what is there is no part of the tree that is gone
  apart : (n : IRNode) → IsLive u n → Reaches (parent_of t) n (Operation op) → ⊥
  apart n l r = not-both (is_live u n) l (erased.gone n r)

  cut : (front : List IRNode) × (back : List IRNode) × (children t (BasicBlock b) ≡ front ++ Operation op ∷ back)
  cut = Has-split (children t (BasicBlock b)) (Operation op) (w.parent_child (BasicBlock b) (Operation op) here)

  cut-u : children u (BasicBlock b) ≡ cut.0 ++ cut.1
  cut-u = erased.children_over (BasicBlock b) cut.0 cut.1 cut.2

  not-over : (n : IRNode) → (n ≡ BasicBlock b → ⊥) → parent_of t (Operation op) ≡ Some n → ⊥
  not-over n ne q = ne (same_Some n (BasicBlock b) (sym q ∙ here))

  stood : (n a : IRNode) → Has (children u n) a → Has (children t n) a
  stood n a h = elim (block-tells n b) [
    | inl e ↦
        let k = subst (λ z. Has z a) cut-u (subst (λ z. Has (children u z) a) e h) in
        subst (λ z. Has (children t z) a) (sym e)
        (subst (λ z. Has z a) (sym cut.2) (elim (Has-append_cases cut.0 cut.1 a k) [
          | inl f ↦ Has-append_left cut.0 (Operation op ∷ cut.1) a f
          | inr f ↦ Has-append_right cut.0 (Operation op ∷ cut.1) a (inr f)
        ]))
    | inr ne ↦ subst (λ z. Has z a)
        (erased.children n (apart n (w'.parent_live n a (w'.child_parent n a h))) (not-over n ne)) h
  ]

  live-u : (n : IRNode) → IsLive t n → (Reaches (parent_of t) n (Operation op) → ⊥) → IsLive u n
  live-u n l a = erased.live n a ∙ l

  children-u : (picks : IRNode → Bool)
      → ((m : IRNode) → picks m ≡ true → IsLive t m × (Reaches (parent_of t) m (Operation op) → ⊥))
      → (n : IRNode) → IsLive t n → (Reaches (parent_of t) n (Operation op) → ⊥)
      → filter picks (children u n) ≡ filter picks (children t n)
  children-u picks only n l a = elim (block-tells n b) [
    | inl e ↦ subst (λ z. filter picks (children u z) ≡ filter picks (children t z)) (sym e)
        (ap (filter picks) cut-u
        ∙ sym (filter-skip picks cut.0 cut.1 (Operation op)
        (false_from_ne_true (picks (Operation op)) (λ k. (only (Operation op) k).1 (zero, refl))))
        ∙ ap (filter picks) (sym cut.2))
    | inr ne ↦ ap (filter picks) (erased.children n a (not-over n ne))
  ]

  rewriting-erased : IsRewriting illegal t u b op
  rewriting-erased = record {
    lawful = laws.erased t u (BasicBlock b) (Operation op) (zero, here) erased;
    kept = keeps-all illegal t u _ live-u (λ n l a. erased.parents n a)
        (λ p l a. erased.ops p (live-u (Operation p) l a)) (λ q l a. erased.blocks q (live-u (BasicBlock q) l a))
        children-u (same-types t u (ap (λ z. z.types) freed)) erased.limit;
    legal = λ n a g h i. (
      stood n a h,
      sym (same-legal illegal t u a (λ p e. erased.ops p (subst (IsLive u) e (w'.child_live n a h)))) ∙ i,
    );
  }

  module _ (s : ContextView K A T) (first : IsForest (look s)) (f : IsPrepared illegal s t b op) where
    pub prepared-erased : IsRewriting illegal s u b op
    prepared-erased = rewriting-both illegal own laws s t u b op first f.rewriting rewriting-erased

    pub prepared-replaced : IsReplaced s u b op
    prepared-replaced = record {
      gone = erased.gone (Operation op) (zero, refl);
      place = λ xs ys e.
          (let i = f.place xs ys e in (
            i.0,
            erased.children_over (BasicBlock b) (xs ++ i.0) ys (i.1 ∙ sym (append_assoc xs i.0 (Operation op ∷ ys)))
                ∙ append_assoc xs i.0 ys,
          ));
    }
