-- What an operation or a block holds is edited.
use Rattle.std.proofs.Common.{◌≡◌, ◌<◌, ℕ, suc, length, get_or, true, false, cond, List, [], ◌∷◌, map, take, drop}
use Rattle.std.proofs.Common.{Option, Some, None, Result, Ok, Err, OnOk, OnErr, refl, sym, subst, slice_set, ◌⊎◌, inl}
use Rattle.std.proofs.Common.{inr}
use Rattle.std.specs.Prelude.{All, IfOk, IfSome, insert, remove}
use Rattle.std.proofs.lemmas.List.Elements.{All-get_or, All-append, All-cons, All-head, All-tail, All-take, All-drop}
use Rattle.std.proofs.lemmas.List.Elements.{All-set}
use Rattle.plir_data.specs.AttrView.{AttrView}
use Rattle.plir_data.specs.declared.location.Location.{Location}
use Rattle.plir_data.specs.Dictionary.{is_key, dict_without}
use Rattle.plir_store.specs.Table.{content_at, with_content}
use Rattle.plir_core.specs.declared.value.Value.{Value}
use Rattle.plir_data.specs.AttrLive.{IsAttrLive, IsLiveWith}
use Rattle.plir_core.specs.Contents.{OpView, BlockView}
use Rattle.plir_core.specs.declared.ptr.Ptr.{Ptr}
use Rattle.plir_core.specs.declared.ptr.Operation.{Operation as OperationKind}
use Rattle.plir_core.specs.declared.ptr.BasicBlock.{BasicBlock as BasicBlockKind}
use Rattle.plir_core.specs.declared.ptr.IRNode.TheVariants.{BasicBlock}
use Rattle.plir_core.specs.ContextView.{ContextView, IsLive, IsValueLive, operands_of}
use Rattle.plir_core.specs.WellFormed.{OpHoldsLive, BlockHoldsLive, IsWellFormed}
use Rattle.plir_core.specs.Replaced.{replaced}
use Rattle.plir_core.specs.Changes.{with_op_content, with_block_content}
use Rattle.plir_core.proofs.Changes.{IsStored-held_op, IsStored-held_block}
use Rattle.plir_core.proofs.ReplacedUses.{All-replaced}
use Rattle.plir_core.proofs.Holds.{op_replaced, block_replaced, op_content_keeps, value_kept}

-- what a slot holds is u, where it is v and u is v
pub held_as : {C : Type 0} {o : Option C} {u v : C} → o ≡ Some v → u ≡ v → o ≡ Some u
held_as e f = rw f e

-- lists with an element more, fewer or changed
module _ {X : Type 0} (P : X → Type 0) (xs : List X) (i : ℕ) where
  All-insert : (x : X) → P x → All P xs → All P (insert xs i x)
  All-insert x p a = All-append P (take i xs) (x ∷ drop i xs) (All-take P i xs a)
      (All-cons P x (drop i xs) p (All-drop P i xs a))

  All-remove : All P xs → All P (remove xs i)
  All-remove a = All-append P (take i xs) (drop (suc i) xs) (All-take P i xs a) (All-drop P (suc i) xs a)

-- attributes after one is taken out
All-dict_without : {V : Type 0} (P : List ℕ × V → Type 0) (es : List (List ℕ × V)) (k : List ℕ) → All P es → All P
    (dict_without es k)
All-dict_without P [] k a = a
All-dict_without P (e ∷ es) k a = elim (is_key k e.0) as (λ b. All P (cond b es (e ∷ dict_without es k))) [
  | true ↦ All-tail P e es a
  | false ↦ All-cons P e (dict_without es k) (All-head P e es a) (All-dict_without P es k (All-tail P e es a))
]

-- of two ways to end, one came
pub either_way : {X Y P Q : Type 0} (r : Result X Y) → OnOk r P → OnErr r Q → P ⊎ Q
either_way (Ok x) p q = inl p
either_way (Err y) p q = inr q

-- The edits of a context, where t is its value and s is made of the fields.
module _ {K A T : Type 0} (own : A → List ℕ) (s t : ContextView K A T) (view : s ≡ t) (w : IsWellFormed own s) where
  -- of an operation all but the types of the results may change
  pub op_edited : (i : ℕ) (u v : OpView K A) → content_at s.nodes.ops i ≡ Some u → v.result_types ≡ u.result_types →
      (OpHoldsLive own s u → OpHoldsLive own s v) → IsWellFormed own (with_op_content s i v)
  op_edited i u v was same keeps = op_replaced own s w (record s.nodes { ops = with_content s.nodes.ops i v }) i u v
      refl (IsStored-held_op s.nodes w.stored i v (rw was refl)) was same (keeps (w.holds.ops i u was))

  -- of a block all but the types of the arguments may change
  pub block_edited : (i : ℕ) (u v : BlockView A) → content_at s.nodes.blocks i ≡ Some u → v.arg_types ≡ u.arg_types →
      (BlockHoldsLive own s u → BlockHoldsLive own s v) → IsWellFormed own (with_block_content s i v)
  block_edited i u v was same keeps = block_replaced own s w (record s.nodes {
    blocks = with_content s.nodes.blocks i v;
  }) i u v refl (IsStored-held_block s.nodes w.stored i v (rw was refl)) was same (keeps (w.holds.blocks i u was))

  operands_edited : (i : ℕ) (u : OpView K A) (xs : List Value) → content_at s.nodes.ops i ≡ Some u →
      (All (IsValueLive s) u.operands → All (IsValueLive s) xs) → IsWellFormed own
      (with_op_content s i (record u { operands = xs }))
  operands_edited i u xs was keeps = op_edited i u (record u { operands = xs }) was refl (λ h. record {
    operands = keeps h.operands;
    successors = h.successors;
    result_types = h.result_types;
    attributes = h.attributes;
  })

  successors_edited : (i : ℕ) (u : OpView K A) (xs : List (Ptr BasicBlockKind)) → content_at s.nodes.ops i ≡ Some u →
      (All (λ b. IsLive s (BasicBlock b)) u.successors → All (λ b. IsLive s (BasicBlock b)) xs) → IsWellFormed own
      (with_op_content s i (record u { successors = xs }))
  successors_edited i u xs was keeps = op_edited i u (record u { successors = xs }) was refl (λ h. record {
    operands = h.operands;
    successors = keeps h.successors;
    result_types = h.result_types;
    attributes = h.attributes;
  })

  value_live : (x : Value) → IsValueLive t x → IsValueLive s x
  value_live x l = subst (λ z. IsValueLive z x) (sym view) l

  pub operand_inserted : (i n : ℕ) (u : OpView K A) (x : Value) (xs : List Value) → content_at s.nodes.ops i ≡ Some u →
      xs ≡ insert u.operands n x → IsValueLive t x → IsWellFormed own (with_op_content s i (record u { operands = xs }))
  operand_inserted i n u x xs was e l = operands_edited i u xs was
      (λ a. subst (All (IsValueLive s)) (sym e) (All-insert (IsValueLive s) u.operands n x (value_live x l) a))

  pub operand_removed : (i n : ℕ) (u : OpView K A) (xs : List Value) → content_at s.nodes.ops i ≡ Some u → xs ≡ remove
      u.operands n → IsWellFormed own (with_op_content s i (record u { operands = xs }))
  operand_removed i n u xs was e = operands_edited i u xs was
      (λ a. subst (All (IsValueLive s)) (sym e) (All-remove (IsValueLive s) u.operands n a))

  -- an operand is live once it is taken out
  pub operand_taken : (p : Ptr OperationKind) (n : ℕ) (u : OpView K A) (x : Value) (xs : List Value) → content_at
      s.nodes.ops p.slot ≡ Some u → n < length (operands_of t p) → x ≡ get_or u.operands n x → IsValueLive
      (with_op_content s p.slot (record u { operands = xs })) x
  operand_taken p n u x xs was below is =
      let same : operands_of s p ≡ u.operands = rw was refl in
      let within : n < length u.operands = subst (λ zs. n < length zs) same (subst (λ z. n < length (operands_of z p))
      (sym view) below) in
      value_kept s (with_op_content s p.slot (record u { operands = xs })) (op_content_keeps s p.slot u
      (record u { operands = xs }) was refl) x (subst (IsValueLive s) (sym is)
      (All-get_or (IsValueLive s) u.operands n x within (w.holds.ops p.slot u was).operands))

  -- and so is an attribute
  pub op_attr_taken : {X : Type 0} (see : X → AttrView A) (r : Option X) (i : ℕ) (u : OpView K A) → content_at
      s.nodes.ops i ≡ Some u → IfSome r (λ x. IsLiveWith T u.attributes (see x)) → IfSome r
      (λ x. IsAttrLive own s.types (see x))
  op_attr_taken see None i u was h = tt
  op_attr_taken see (Some x) i u was h = h own s.types (w.holds.ops i u was).attributes

  pub op_attr_swapped : {X Y : Type 0} (see : X → AttrView A) (r : Result X Y) (i : ℕ) (u : OpView K A) → content_at
      s.nodes.ops i ≡ Some u → IfOk r (λ x. IsLiveWith T u.attributes (see x)) → IfOk r
      (λ x. IsAttrLive own s.types (see x))
  op_attr_swapped see (Err y) i u was h = tt
  op_attr_swapped see (Ok x) i u was h = h own s.types (w.holds.ops i u was).attributes

  pub block_attr_taken : {X : Type 0} (see : X → AttrView A) (r : Option X) (i : ℕ) (u : BlockView A) → content_at
      s.nodes.blocks i ≡ Some u → IfSome r (λ x. IsLiveWith T u.attributes (see x)) → IfSome r
      (λ x. IsAttrLive own s.types (see x))
  block_attr_taken see None i u was h = tt
  block_attr_taken see (Some x) i u was h = h own s.types (w.holds.blocks i u was).attributes

  pub block_attr_swapped : {X Y : Type 0} (see : X → AttrView A) (r : Result X Y) (i : ℕ) (u : BlockView A) → content_at
      s.nodes.blocks i ≡ Some u → IfOk r (λ x. IsLiveWith T u.attributes (see x)) → IfOk r
      (λ x. IsAttrLive own s.types (see x))
  block_attr_swapped see (Err y) i u was h = tt
  block_attr_swapped see (Ok x) i u was h = h own s.types (w.holds.blocks i u was).attributes

  pub operand_replaced : (i n : ℕ) (u : OpView K A) (x : Value) (xs : List Value) → content_at s.nodes.ops i ≡ Some u →
      xs ≡ slice_set u.operands n x → IsValueLive t x → IsWellFormed own (with_op_content s i
      (record u { operands = xs }))
  operand_replaced i n u x xs was e l = operands_edited i u xs was
      (λ a. subst (All (IsValueLive s)) (sym e) (All-set (IsValueLive s) u.operands n x (value_live x l) a))

  pub successor_replaced : (i n : ℕ) (u : OpView K A) (x : Ptr BasicBlockKind) (xs : List (Ptr BasicBlockKind)) →
      content_at s.nodes.ops i ≡ Some u → xs ≡ slice_set u.successors n x → IsLive t (BasicBlock x) → IsWellFormed own
      (with_op_content s i (record u { successors = xs }))
  successor_replaced i n u x xs was e l =
      let live : IsLive s (BasicBlock x) = subst (λ z. IsLive z (BasicBlock x)) (sym view) l in
      successors_edited i u xs was (λ a. subst (All (λ b. IsLive s (BasicBlock b))) (sym e)
      (All-set (λ b. IsLive s (BasicBlock b)) u.successors n x live a))

  pub operands_replaced : (i : ℕ) (u : OpView K A) (v w : Value) (xs : List Value) → content_at s.nodes.ops i ≡ Some u →
      xs ≡ map (replaced v w) u.operands → IsValueLive t w → IsWellFormed own (with_op_content s i
      (record u { operands = xs }))
  operands_replaced i u v w xs was e l = operands_edited i u xs was
      (λ a. subst (All (IsValueLive s)) (sym e) (All-replaced v w (IsValueLive s) u.operands (value_live w l) a))

  pub operands_same : (i : ℕ) (u : OpView K A) (xs : List Value) → content_at s.nodes.ops i ≡ Some u → xs ≡ u.operands →
      IsWellFormed own (with_op_content s i (record u { operands = xs }))
  operands_same i u xs was e = operands_edited i u xs was (λ a. subst (All (IsValueLive s)) (sym e) a)

  pub located : (i : ℕ) (u : OpView K A) (l : Location) → content_at s.nodes.ops i ≡ Some u → IsWellFormed own
      (with_op_content s i (record u { location = l }))
  located i u l was = op_edited i u (record u { location = l }) was refl (λ h. record {
    operands = h.operands;
    successors = h.successors;
    result_types = h.result_types;
    attributes = h.attributes;
  })

  pub labelled : (i : ℕ) (u : BlockView A) (l : Option (List ℕ)) → content_at s.nodes.blocks i ≡ Some u → IsWellFormed
      own (with_block_content s i (record u { label = l }))
  labelled i u l was = block_edited i u (record u { label = l }) was refl
      (λ h. record { arg_types = h.arg_types; attributes = h.attributes })

  pub op_attr_removed : (i : ℕ) (u : OpView K A) (k : List ℕ) (es : List (List ℕ × AttrView A)) → content_at s.nodes.ops
      i ≡ Some u → es ≡ dict_without u.attributes k → IsWellFormed own (with_op_content s i
      (record u { attributes = es }))
  op_attr_removed i u k es was e = op_edited i u (record u { attributes = es }) was refl (λ h. record {
    operands = h.operands;
    successors = h.successors;
    result_types = h.result_types;
    attributes = rw e (All-dict_without (λ x. IsAttrLive own s.types x.1) u.attributes k h.attributes);
  })

  pub block_attr_removed : (i : ℕ) (u : BlockView A) (k : List ℕ) (es : List (List ℕ × AttrView A)) → content_at
      s.nodes.blocks i ≡ Some u → es ≡ dict_without u.attributes k → IsWellFormed own
      (with_block_content s i (record u { attributes = es }))
  block_attr_removed i u k es was e = block_edited i u (record u { attributes = es }) was refl (λ h. record {
    arg_types = h.arg_types;
    attributes = rw e (All-dict_without (λ x. IsAttrLive own s.types x.1) u.attributes k h.attributes);
  })
