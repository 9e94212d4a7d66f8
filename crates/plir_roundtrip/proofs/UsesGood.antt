-- What was made of a written operation uses nothing that has a fault, where each name means what it was written for.
use Rattle.std.proofs.Common.{◌≡◌, ℕ, suc, Bool, List, [], ◌∷◌, ◌++◌, All, map, inl, inr, Option, Some, None, refl}
use Rattle.std.proofs.Common.{sym, ap, subst, ◌∙◌}
use Rattle.std.proofs.lemmas.Option.{slice_get_within, get_or_from_slice_get}
use Rattle.plir_data.specs.Types.{IsTypeTable}
use Rattle.plir_data.specs.declared.op_set.OpKind.{OpKind}
use Rattle.plir_data.specs.declared.op_set.OpKind.TheVariants.{Module, Func, Constant, ForwardRef, Own}
use Rattle.plir_data.specs.declared.op_set.OpSet as op_set
use Rattle.plir_names.specs.declared.names.Meaning.TheVariants.{Unknown, Only, Ambiguous}
use Rattle.plir_store.specs.MemberLaws.{Has-append_cases, at-Has}
use Rattle.plir_store.specs.Members.{Has}
use Rattle.plir_core.specs.ContextView.{ContextView, children, kind_of, operands_of, successors_of, type_of_value}
use Rattle.plir_core.specs.ContextView.{IsValueLive}
use Rattle.plir_core.specs.Results.{result_of}
use Rattle.plir_core.specs.WellFormed.{IsWellFormed}
use Rattle.plir_core.specs.declared.ptr.Ptr.{Ptr}
use Rattle.plir_core.specs.declared.ptr.Operation.{Operation as OperationKind}
use Rattle.plir_core.specs.declared.ptr.Region.{Region as RegionKind}
use Rattle.plir_core.specs.declared.ptr.BasicBlock.{BasicBlock as BlockKind}
use Rattle.plir_core.specs.declared.ptr.IRNode.{IRNode}
use Rattle.plir_core.specs.declared.ptr.IRNode.TheVariants.{Operation, Region, BasicBlock}
use Rattle.plir_core.specs.declared.value.Value.{Value}
use Rattle.plir_attr_text.specs.Names.{Grows, Names}
use Rattle.plir_attr_text.specs.laws.SameNames.{same_handle}
use Rattle.plir_walk.specs.Tree.{HasOnePlaceEach}
use Rattle.plir_print.specs.ValueNames.{block_name, results_of, value_name}
use Rattle.plir_read_ir.specs.IrMeaning.{argument_words}
use Rattle.plir_read_ir.specs.Mentions.{Mention, value_bears, block_bears, operand_named, successor_named, Scope}
use Rattle.plir_read_ir.specs.Mentions.{argument_of, block_meant, front_mentions, head_mentions}
use Rattle.plir_read_ir.specs.Mentions.{labels_in, operands_named, results_bear, successors_named, uses_in}
use Rattle.plir_read_ir.specs.Mentions.{uses_named, value_meant, values_bear, values_in}
use Rattle.plir_read_ir.specs.UseFaults.{IsFrontMade, IsUnmeant}
use Rattle.plir_read_ir.specs.declared.fault.IrFault.{IrFault}
use Rattle.plir_read_ir.specs.declared.fault.IrFault.TheVariants.{Text, UnknownName, AmbiguousName, TypeMismatch}
use Rattle.plir_roundtrip.specs.Written.{block_head_term, some_type_term}
use Rattle.plir_roundtrip.specs.IrReadable.{IsOwnReadable, IsReadableAs, IsUseReadable}
use Rattle.plir_roundtrip.specs.IrWritten.{front_of, names_of, own_header, types_written}
use Rattle.plir_roundtrip.specs.SameIrTree.{AreAtOnePlace, IsSameTarget}
use Rattle.plir_roundtrip.specs.UsesMeant.{IsUseMeant}
use Rattle.plir_roundtrip.proofs.IrChildren.{op_readable}
use Rattle.plir_roundtrip.proofs.MadeTold.{IsKnown, IsTypedSame, known_in}
use Rattle.plir_roundtrip.proofs.MeantOver.{meant_over}
use Rattle.plir_roundtrip.proofs.Mentioned.{SameScopes, Telling}
use Rattle.plir_roundtrip.proofs.Related.{SameScope, SayAlike}
use Rattle.plir_roundtrip.proofs.TypesKept.{IsTypedUse, operands_live, typed_use}

-- what is in a list has what all of it have
pub all_has : {X : Type 0} (P : X → Type 0) (xs : List X) (x : X) → All P xs → Has xs x → P x
all_has P xs x all h =
    let i = at-Has xs x h in
    subst P (get_or_from_slice_get xs i.0 x x i.1) (all i.0 x (slice_get_within xs i.0 x i.1))

-- ---- the names that are used

uses_append : (ms ns : List Mention) → uses_in (ms ++ ns) ≡ uses_in ms ++ uses_in ns
uses_append [] ns = refl
uses_append (value_bears w v ∷ ms) ns = uses_append ms ns
uses_append (block_bears l b ∷ ms) ns = uses_append ms ns
uses_append (operand_named w t ∷ ms) ns = ap (λ z. operand_named w t ∷ z) (uses_append ms ns)
uses_append (successor_named l ∷ ms) ns = ap (λ z. successor_named l ∷ z) (uses_append ms ns)

none_used : (body : Option (Ptr OperationKind)) (f : ℕ → Value) (i : ℕ) (ws : List (List ℕ))
    → uses_in (values_bear body f i ws) ≡ []
none_used body f i [] = refl
none_used body f i (w ∷ ws) = none_used body f (suc i) ws

module _ {D K A T E : Type 0} (o : op_set.Ghosts D K A T E) (find : List ℕ → Option K) (isolated : K → Bool)
    (s t : ContextView K A T) (whole : IsWellFormed o.attr_handles s) (g : Grows s.types t.types)
    (table : IsTypeTable o.type_handles t.types) (x y : IRNode) (once : HasOnePlaceEach (children s) x)
    (again : HasOnePlaceEach (children t) y) (ms ns : List Mention)
    (said : SayAlike s t x y (IsTypedSame s t x y) ms ns) where
  -- A name that is used means one value, of the type that is written, or one block.
  abbrev pub IsGood : Mention → Type 0
  IsGood (value_bears w v) = Unit {0}
  IsGood (block_bears l b) = Unit {0}
  IsGood (operand_named w ty) = (z : Value) × (h : ℕ) × (value_meant ns w ≡ Only z) × (type_of_value t z ≡ Some h)
      × Names t.types h ty
  IsGood (successor_named l) = (b : Ptr BlockKind) × (block_meant ns l ≡ Only b)

  abbrev pub AreGood : List Mention → Type 0
  AreGood us = (m : Mention) → Has (uses_in us) m → IsGood m

  both_good : (us vs : List Mention) → AreGood us → AreGood vs → AreGood (us ++ vs)
  both_good us vs f h m k =
      elim (Has-append_cases (uses_in us) (uses_in vs) m (subst (λ l. Has l m) (uses_append us vs) k)) [
        | inl a ↦ f m a
        | inr b ↦ h m b
      ]

  bearing_good : (body : Option (Ptr OperationKind)) (f : ℕ → Value) (i : ℕ) (ws : List (List ℕ))
      → AreGood (values_bear body f i ws)
  bearing_good body f i ws m k = absurd (subst (λ l. Has l m) (none_used body f i ws) k)

  -- ---- operands and successors

  operand_good : (b c : Option (Ptr OperationKind)) → SameScope s t x y (λ p. Operation p) b c → (v : Value)
      → value_meant ms (b, value_name s v) ≡ Only v → IsTypedUse o s t whole g table v
      → IsGood (operand_named (c, value_name s v) (some_type_term s.types (type_of_value s v)))
  operand_good b c same v mine use_ =
      let over =
      meant_over s t x y (λ p. Operation p) (IsTypedSame s t x y) once again
      (λ p q e. let same : p ≡ q = cc in same) (values_in ms) (values_in ns) said.values (b, value_name s v)
      (c, value_name s v) same refl v mine in
      (over.0, use_.handle, over.1, over.2.typed ∙ use_.held, use_.named)

  operands_good : (b c : Option (Ptr OperationKind)) → SameScope s t x y (λ p. Operation p) b c → (vs : List Value)
      → map (λ v. value_meant ms (b, value_name s v)) vs ≡ map Only vs
      → ((v : Value) → Has vs v → IsTypedUse o s t whole g table v)
      → AreGood (operands_named c (names_of s vs) (types_written s vs))
  operands_good b c same [] mine each m k = absurd k
  operands_good b c same (v ∷ vs) mine each m (inl is) =
      let first : value_meant ms (b, value_name s v) ≡ Only v = cc in
      subst IsGood is (operand_good b c same v first (each v (inl refl)))
  operands_good b c same (v ∷ vs) mine each m (inr k) =
      let others : map (λ z. value_meant ms (b, value_name s z)) vs ≡ map Only vs = cc in
      operands_good b c same vs others (λ z n. each z (inr n)) m k

  successors_good : (b c : Option (Ptr RegionKind)) → SameScope s t x y (λ p. Region p) b c
      → (bs : List (Ptr BlockKind)) → map (λ a. block_meant ms (b, block_name s a)) bs ≡ map Only bs
      → AreGood (successors_named c (map (block_name s) bs))
  successors_good b c same [] mine m k = absurd k
  successors_good b c same (a ∷ bs) mine m (inl is) =
      let first : block_meant ms (b, block_name s a) ≡ Only a = cc in
      let over =
      meant_over s t x y (λ p. Region p) (IsSameTarget s t x y) once again
      (λ p q e. let same : p ≡ q = cc in same) (labels_in ms) (labels_in ns) said.labels (b, block_name s a)
      (c, block_name s a) same refl a first in
      subst IsGood is (over.0, over.1)
  successors_good b c same (a ∷ bs) mine m (inr k) =
      let others : map (λ z. block_meant ms (b, block_name s z)) bs ≡ map Only bs = cc in
      successors_good b c same bs others m k

  -- ---- what stands before regions, and heads of blocks

  uses_good : (at bt : Scope) (p : Ptr OperationKind) (k : K) → SameScopes isolated s t x y at bt
      → IsOwnReadable o find s k p → IsUseMeant s ms at p
      → AreGood (uses_named bt (own_header o s k p).uses (own_header o s k p).signature)
  uses_good at bt p k scopes r meant =
      both_good (operands_named bt.body (names_of s (operands_of s p)) (types_written s (operands_of s p)))
      (successors_named bt.region (map (block_name s) (successors_of s p)))
      (operands_good at.body bt.body scopes.body (operands_of s p) meant.operands (λ v h.
      typed_use o s t whole g table v
      (all_has (IsValueLive s) (operands_of s p) v (operands_live o s whole p) h)
      (all_has (IsUseReadable o find s) (operands_of s p) v r.operands h)))
      (successors_good at.region bt.region scopes.region (successors_of s p) meant.successors)

  fronts_good : (at bt : Scope) (p q : Ptr OperationKind) → SameScopes isolated s t x y at bt
      → AreAtOnePlace s t x y (Operation p) (Operation q) → IsKnown o find isolated s ms at (Operation p)
      → IsFrontMade t bt (Operation q) (front_of o s (kind_of s p) p)
      → AreGood (front_mentions isolated bt (Operation q) (front_of o s (kind_of s p) p))
  fronts_good at bt p q scopes place known h = by (kind_of s p) (op_readable o find s p known.readable)
    where
      by : (kind : Option (OpKind K)) → IsReadableAs o find s kind p
          → AreGood (front_mentions isolated bt (Operation q) (front_of o s kind p))
      by (Some Module) r = λ m h. absurd h
      by (Some Func) r = λ m h. absurd h
      by (Some Constant) r = λ m h. absurd h
      by (Some ForwardRef) r = λ m h. absurd h
      by (Some (Own k)) r =
          both_good (results_bear bt.body (Operation q) (names_of s (results_of s p)))
          (uses_named bt (own_header o s k p).uses (own_header o s k p).signature)
          (bearing_good bt.body (result_of q) 0 (names_of s (results_of s p)))
          (uses_good at bt p k scopes r (known.meant []))
      by None r = λ m h. absurd h

  heads_good : (bt : Scope) (b c : Ptr BlockKind)
      → AreGood (head_mentions isolated bt (BasicBlock c) (block_head_term s b))
  heads_good bt b c =
      bearing_good bt.body (argument_of c) 0 (argument_words (block_head_term s b).1)

  pub good_told : Telling o isolated s t x y (IsFrontMade t) (IsKnown o find isolated s ms) (λ us vs. AreGood vs)
  good_told = record {
    known_in = known_in o find isolated s ms;
    nothing = λ m k. absurd k;
    both = λ us as_ vs bs f h. both_good vs bs f h;
    fronts = fronts_good;
    heads = λ at bt b c scopes place known h. heads_good bt b c;
  }

  -- ---- no fault

  pub refuted : (fault : IrFault) (m : Mention) → IsGood m → IsUnmeant t ns fault m → ⊥
  refuted (Text f) m good e = e
  refuted UnknownName (value_bears w v) good e = e
  refuted UnknownName (block_bears l b) good e = e
  refuted UnknownName (operand_named w ty) good e = let f : Only good.0 ≡ Unknown = sym good.2 ∙ e in absurd cc
  refuted UnknownName (successor_named l) good e = let f : Only good.0 ≡ Unknown = sym good.1 ∙ e in absurd cc
  refuted AmbiguousName (value_bears w v) good e = e
  refuted AmbiguousName (block_bears l b) good e = e
  refuted AmbiguousName (operand_named w ty) good e = let f : Only good.0 ≡ Ambiguous = sym good.2 ∙ e in absurd cc
  refuted AmbiguousName (successor_named l) good e = let f : Only good.0 ≡ Ambiguous = sym good.1 ∙ e in absurd cc
  refuted TypeMismatch (value_bears w v) good e = e
  refuted TypeMismatch (block_bears l b) good e = e
  refuted TypeMismatch (operand_named w ty) good e =
      let meant : Only good.0 ≡ Only e.0 = sym good.2 ∙ e.2 in
      let value : good.0 ≡ e.0 = cc in
      let handle : good.1 ≡ e.1 = same_handle o.type_handles t.types table ty good.1 e.1 good.4 e.3 in
      e.4 (ap (type_of_value t) (sym value) ∙ good.3 ∙ ap (λ h. Some h) handle)
  refuted TypeMismatch (successor_named l) good e = e
