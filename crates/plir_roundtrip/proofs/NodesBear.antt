-- What nodes of a tree bear in its text: results and arguments their names, and blocks their labels.
use Rattle.std.proofs.Common.{◌≡◌, ℕ, zero, suc, ◌+◌, ◌<◌, ◌≤◌, Bool, true, List, [], ◌∷◌, ◌++◌, length, map, inl, inr}
use Rattle.std.proofs.Common.{Option, Some, None, refl, sym, ap, ap₂, subst, ◌∙◌, arith, append-nil}
use Rattle.std.specs.List.{range_with_len}
use Rattle.std.specs.Prelude.{slice_get, nat_lt}
use Rattle.std.proofs.lemmas.Bool.{and_parts, ltb-true}
use Rattle.plir_data.specs.declared.op_set.OpKind.{OpKind}
use Rattle.plir_data.specs.declared.op_set.OpKind.TheVariants.{Module, Func, Constant, ForwardRef, Own}
use Rattle.plir_data.specs.declared.op_set.OpSet as op_set
use Rattle.plir_store.specs.MemberLaws.{Distinct-one, Has-at}
use Rattle.plir_store.specs.Members.{Has, Distinct}
use Rattle.plir_core.specs.ContextView.{ContextView, IsValueLive, children, entity_node, is_live, kind_of}
use Rattle.plir_core.specs.ContextView.{result_types_of}
use Rattle.plir_core.specs.ContextView.{types_from}
use Rattle.plir_core.specs.Results.{result_of}
use Rattle.plir_core.specs.Standing.{IsStanding}
use Rattle.plir_core.specs.declared.ptr.Ptr.{Ptr}
use Rattle.plir_core.specs.declared.ptr.Operation.{Operation as OperationKind}
use Rattle.plir_core.specs.declared.ptr.Region.{Region as RegionKind}
use Rattle.plir_core.specs.declared.ptr.BasicBlock.{BasicBlock as BlockKind}
use Rattle.plir_core.specs.declared.ptr.IRNode.{IRNode}
use Rattle.plir_core.specs.declared.ptr.IRNode.TheVariants.{Operation, Region, BasicBlock}
use Rattle.plir_core.specs.declared.value.DefiningEntity.{DefiningEntity}
use Rattle.plir_core.specs.declared.value.DefiningEntity.TheVariants.{Op, Block}
use Rattle.plir_core.specs.declared.value.Value.{Value}
use Rattle.plir_attr_text.specs.Terms.{TypeTerms, no_types, type_before}
use Rattle.plir_print.specs.HeaderAttrs.{has_header_of}
use Rattle.plir_print.specs.ValueNames.{arguments_of, block_name, results_of, value_name, values_from}
use Rattle.plir_walk.specs.Tree.{IsUnder}
use Rattle.plir_read_ir.specs.IrMeaning.{argument_words}
use Rattle.plir_read_ir.specs.Mentions.{Scope, WordIn, argument_of, labels_in}
use Rattle.plir_read_ir.specs.Mentions.{operands_named, results_bear, successors_named, uses_named}
use Rattle.plir_read_ir.specs.Mentions.{front_mentions, values_bear, values_in}
use Rattle.plir_roundtrip.specs.Readable.{IsBodyReadable, IsKindReadable}
use Rattle.plir_roundtrip.specs.Written.{argument_term}
use Rattle.plir_roundtrip.specs.IrReadable.{HasReadableText, IsReadableAs}
use Rattle.plir_roundtrip.specs.IrWritten.{front_of, own_header}
use Rattle.plir_roundtrip.proofs.Bearers.{AreBearers}
use Rattle.plir_roundtrip.proofs.Children.{in_row}
use Rattle.plir_roundtrip.proofs.Flattened.{own_mentions}
use Rattle.plir_roundtrip.proofs.OpParts.{constant_there}
use Rattle.plir_roundtrip.proofs.PartLevels.{value_there}
use Rattle.plir_roundtrip.proofs.Related.{labels_append, values_append}

-- ---- what a node bears

no_values : (body : Option (Ptr OperationKind)) (ws : List (List ℕ)) (ts : TypeTerms)
    → values_in (operands_named body ws ts) ≡ []
no_values body [] ts = refl
no_values body (w ∷ ws) no_types = refl
no_values body (w ∷ ws) (type_before t ts) = no_values body ws ts

no_labels : (body : Option (Ptr OperationKind)) (ws : List (List ℕ)) (ts : TypeTerms)
    → labels_in (operands_named body ws ts) ≡ []
no_labels body [] ts = refl
no_labels body (w ∷ ws) no_types = refl
no_labels body (w ∷ ws) (type_before t ts) = no_labels body ws ts

no_more_values : (region : Option (Ptr RegionKind)) (ws : List (List ℕ)) → values_in (successors_named region ws) ≡ []
no_more_values region [] = refl
no_more_values region (w ∷ ws) = no_more_values region ws

no_more_labels : (region : Option (Ptr RegionKind)) (ws : List (List ℕ)) → labels_in (successors_named region ws) ≡ []
no_more_labels region [] = refl
no_more_labels region (w ∷ ws) = no_more_labels region ws

unlabelled : (body : Option (Ptr OperationKind)) (f : ℕ → Value) (i : ℕ) (ws : List (List ℕ))
    → labels_in (values_bear body f i ws) ≡ []
unlabelled body f i [] = refl
unlabelled body f i (w ∷ ws) = unlabelled body f (suc i) ws

-- values in a row bear their names
row_borne : (body : Option (Ptr OperationKind)) (name : Value → List ℕ) (f : ℕ → Value) (i n : ℕ)
    → values_in (values_bear body f i (map name (map f (range_with_len i n))))
    ≡ map (λ v. ((body, name v), v)) (map f (range_with_len i n))
row_borne body name f i zero = refl
row_borne body name f i (suc n) =
    let next : suc i ≡ i + 1 = omega arith in
    ap (λ l. ((body, name (f i)), f i) ∷ l)
    (subst (λ j. values_in (values_bear body f j (map name (map f (range_with_len (i + 1) n))))
    ≡ map (λ v. ((body, name v), v)) (map f (range_with_len (i + 1) n))) (sym next)
    (row_borne body name f (i + 1) n))

-- the value of an entity at a place
abbrev value_of_entity : DefiningEntity → ℕ → Value
value_of_entity e k = record { entity = e; index = k }

row_later : (e : DefiningEntity) (a m : ℕ) (v : Value) → Has (map (value_of_entity e) (range_with_len a m)) v
    → (k : ℕ) × (a ≤ k) × (value_of_entity e k ≡ v)
row_later e a zero v h = absurd h
row_later e a (suc m) v (inl is) = (a, omega arith, is)
row_later e a (suc m) v (inr h) = let r = row_later e (a + 1) m v h in (r.0, omega (arith, r.1), r.2)

row_once : (e : DefiningEntity) (i n : ℕ) → Distinct (map (value_of_entity e) (range_with_len i n))
row_once e i zero = tt
row_once e i (suc n) = (
  λ h. let r = row_later e (i + 1) n (value_of_entity e i) h in
      let same : r.0 ≡ i = ap (λ (v : Value). v.index) r.2 in
      omega (arith, r.1, same),
  row_once e (i + 1) n,
)

module _ {K A T : Type 0} (s : ContextView K A T) where
  -- the results of a node, or its arguments; and the block at a node
  abbrev pub values_at : IRNode → List Value
  values_at (Operation p) = results_of s p
  values_at (Region r) = []
  values_at (BasicBlock b) = arguments_of s b

  abbrev pub blocks_at : IRNode → List (Ptr BlockKind)
  blocks_at (Operation p) = []
  blocks_at (Region r) = []
  blocks_at (BasicBlock b) = b ∷ []

  values_once : (n : IRNode) → Distinct (values_at n)
  values_once (Operation p) = row_once (Op p) 0 (length (types_from s (Op p)))
  values_once (Region r) = tt
  values_once (BasicBlock b) = row_once (Block b) 0 (length (types_from s (Block b)))

  blocks_once : (n : IRNode) → Distinct (blocks_at n)
  blocks_once (Operation p) = tt
  blocks_once (Region r) = tt
  blocks_once (BasicBlock b) = Distinct-one b

  -- those that come from an entity
  from_entity : (e : DefiningEntity) (v : Value) → Has (values_from s e) v
      → (v.entity ≡ e) × (v.index < length (types_from s e))
  from_entity e v h =
      let r = in_row (λ (k : ℕ). record { entity = e; index = k }) 0 (length (types_from s e)) v h in
      let index : v.index ≡ r.0 = ap (λ z. z.index) r.2 in (ap (λ z. z.entity) r.2, omega (arith, r.1, index))

  values_home : (n : IRNode) (v : Value) → Has (values_at n) v → entity_node v.entity ≡ n
  values_home (Operation p) v h = ap entity_node (from_entity (Op p) v h).0
  values_home (Region r) v h = absurd h
  values_home (BasicBlock b) v h = ap entity_node (from_entity (Block b) v h).0

  blocks_home : (n : IRNode) (b : Ptr BlockKind) → Has (blocks_at n) b → BasicBlock b ≡ n
  blocks_home (Operation p) b h = absurd h
  blocks_home (Region r) b h = absurd h
  blocks_home (BasicBlock c) b (inl e) = ap BasicBlock (sym e)
  blocks_home (BasicBlock c) b (inr h) = absurd h

  values_of_entity : (e : DefiningEntity) → values_at (entity_node e) ≡ values_from s e
  values_of_entity (Op p) = refl
  values_of_entity (Block b) = refl

  pub counted : (v : Value) → Has (values_at (entity_node v.entity)) v → v.index < length (types_from s v.entity)
  counted v h = (from_entity v.entity v (subst (λ l. Has l v) (values_of_entity v.entity) h)).1

  -- a live value is one of those of its node
  pub live_there : (v : Value) → IsValueLive s v → Has (values_at (entity_node v.entity)) v
  live_there v live =
      let within : v.index < length (types_from s v.entity) =
      ltb-true v.index (length (types_from s v.entity))
      (and_parts (is_live s (entity_node v.entity)) (nat_lt v.index (length (types_from s v.entity))) live).1 in
      let at : slice_get (values_from s v.entity) v.index ≡ Some v = value_there s v.entity v.index within in
      subst (λ l. Has l v) (sym (values_of_entity v.entity)) (Has-at (values_from s v.entity) v.index v at)

  -- ---- the names of arguments, as they are written

  words_are : (vs : List Value) → argument_words (map (argument_term s) vs) ≡ map (value_name s) vs
  words_are [] = refl
  words_are (v ∷ vs) = ap (λ l. value_name s v ∷ l) (words_are vs)

module _ {D K A T E : Type 0} (o : op_set.Ghosts D K A T E) (find : List ℕ → Option K) (isolated : K → Bool)
    (s : ContextView K A T) (st : IsStanding s) (root : Ptr OperationKind) (readable : HasReadableText o find s root)
  where
    abbrev Under : IRNode → Type 0
    Under n = IsUnder (children s) (Operation root) n

    -- ---- what each node bears

    abbrev borne : Scope → Value → WordIn OperationKind × Value
    borne at v = ((at.body, value_name s v), v)

    own_values : (at : Scope) (n : IRNode) → Under n
        → values_in (own_mentions o isolated s at n) ≡ map (borne at) (values_at s n)
    own_values at (Region r) under = refl
    own_values at (BasicBlock b) under =
        ap (λ ws. values_in (values_bear at.body (argument_of b) 0 ws)) (words_are s (arguments_of s b))
        ∙ row_borne at.body (value_name s) (argument_of b) 0 (length (types_from s (Block b)))
    own_values at (Operation p) under = by (kind_of s p) refl (readable.nodes.ops p under)
      where
        -- the results by their types
        with_types : (types : List ℕ) → result_types_of s p ≡ types
            → map (borne at) (results_of s p)
            ≡ map (borne at) (map (value_of_entity (Op p)) (range_with_len 0 (length types)))
        with_types types e =
            ap (λ (l : List ℕ). map (borne at) (map (value_of_entity (Op p)) (range_with_len 0 (length l)))) e

        of_body : IsBodyReadable s p → [] ≡ map (borne at) (results_of s p)
        of_body b = sym (with_types [] b.results)

        none_used : (k : K) → values_in (uses_named at (own_header o s k p).uses (own_header o s k p).signature) ≡ []
        none_used k =
            let h = own_header o s k p in
            values_append (operands_named at.body h.uses.operands h.signature.operand_types)
            (successors_named at.region h.uses.successors)
            ∙ ap₂ (λ a b. a ++ b) (no_values at.body h.uses.operands h.signature.operand_types)
            (no_more_values at.region h.uses.successors)

        by : (kind : Option (OpKind K)) → kind_of s p ≡ kind → IsReadableAs o find s kind p
            → values_in (front_mentions isolated at (Operation p) (front_of o s kind p))
            ≡ map (borne at) (results_of s p)
        by (Some Module) is r = of_body (subst (λ z. IsKindReadable s z p) is r.kind)
        by (Some Func) is r = of_body (subst (λ z. IsKindReadable s z p) is r.kind)
        by (Some Constant) is r =
            let c = constant_there s p (subst (λ z. has_header_of s z p ≡ true) is r.header) in
            sym (with_types (c.handle ∷ []) c.result)
        by (Some ForwardRef) is r = absurd (subst (λ z. IsKindReadable s z p) is r.kind)
        by (Some (Own k)) is r =
            let h = own_header o s k p in
            values_append (results_bear at.body (Operation p) h.names) (uses_named at h.uses h.signature)
            ∙ ap₂ (λ a b. a ++ b)
            (row_borne at.body (value_name s) (result_of p) 0 (length (types_from s (Op p)))) (none_used k)
            ∙ append-nil (map (borne at) (results_of s p))
        by None is r = absurd (subst (λ z. IsKindReadable s z p) is r.kind)

    abbrev labelled : Scope → Ptr BlockKind → WordIn RegionKind × Ptr BlockKind
    labelled at b = ((at.region, block_name s b), b)

    own_labels : (at : Scope) (n : IRNode) → Under n
        → labels_in (own_mentions o isolated s at n) ≡ map (labelled at) (blocks_at s n)
    own_labels at (Region r) under = refl
    own_labels at (BasicBlock b) under =
        ap (λ l. labelled at b ∷ l)
        (unlabelled at.body (argument_of b) 0 (argument_words (map (argument_term s) (arguments_of s b))))
    own_labels at (Operation p) under = by (kind_of s p)
      where
        by : (kind : Option (OpKind K))
            → labels_in (front_mentions isolated at (Operation p) (front_of o s kind p)) ≡ []
        by (Some Module) = refl
        by (Some Func) = refl
        by (Some Constant) = refl
        by (Some ForwardRef) = refl
        by (Some (Own k)) =
            let h = own_header o s k p in
            labels_append (results_bear at.body (Operation p) h.names) (uses_named at h.uses h.signature)
            ∙ ap₂ (λ a b. a ++ b) (unlabelled at.body (result_of p) 0 h.names)
            (labels_append (operands_named at.body h.uses.operands h.signature.operand_types)
            (successors_named at.region h.uses.successors)
            ∙ ap₂ (λ a b. a ++ b) (no_labels at.body h.uses.operands h.signature.operand_types)
            (no_more_labels at.region h.uses.successors))
        by None = refl

    pub value_bearers : AreBearers o isolated s st values_in (values_at s) (λ v. entity_node v.entity) (value_name s)
        (λ at. at.body) (Operation root)
    value_bearers = record {
      nothing = refl;
      joined = values_append;
      own = own_values;
      once = values_once s;
      homes = values_home s;
    }

    pub label_bearers : AreBearers o isolated s st labels_in (blocks_at s) (λ b. BasicBlock b) (block_name s)
        (λ at. at.region) (Operation root)
    label_bearers = record {
      nothing = refl;
      joined = labels_append;
      own = own_labels;
      once = blocks_once s;
      homes = blocks_home s;
    }
