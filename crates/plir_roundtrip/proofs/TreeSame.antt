-- A tree that stands where the text of another was read is the same.
use Rattle.std.proofs.Common.{◌≡◌, ◌⊎◌, ℕ, zero, suc, ◌<◌, true, List, [], ◌∷◌, length, map, inl, inr, Option}
use Rattle.std.proofs.Common.{Some, None, is_some, flat_map, option_and_then, refl, sym, ap, subst, ◌∙◌}
use Rattle.std.proofs.Common.{append-nil}
use Rattle.std.specs.Prelude.{slice_get}
use Rattle.std.proofs.lemmas.Bool.{and_parts}
use Rattle.plir_data.specs.AttrView.{AttrView}
use Rattle.plir_data.specs.Dictionary.{dict_get}
use Rattle.plir_data.specs.Laws.{IsDictOfItself}
use Rattle.plir_data.specs.Types.{IsTypeTable}
use Rattle.plir_data.specs.declared.op_set.OpKind.{OpKind}
use Rattle.plir_data.specs.declared.op_set.OpKind.TheVariants.{Module, Func, Constant, ForwardRef, Own}
use Rattle.plir_data.specs.declared.op_set.OpSet as op_set
use Rattle.plir_core.specs.declared.ptr.Ptr.{Ptr}
use Rattle.plir_core.specs.declared.ptr.Operation.{Operation as OperationKind}
use Rattle.plir_core.specs.declared.ptr.Region.{Region as RegionKind}
use Rattle.plir_core.specs.declared.ptr.BasicBlock.{BasicBlock as BlockKind}
use Rattle.plir_core.specs.declared.ptr.IRNode.{IRNode}
use Rattle.plir_core.specs.declared.ptr.IRNode.TheVariants.{Operation, Region, BasicBlock}
use Rattle.plir_core.specs.declared.value.DefiningEntity.TheVariants.{Block}
use Rattle.plir_store.specs.Members.{Has}
use Rattle.plir_core.specs.Standing.{IsStanding}
use Rattle.plir_core.specs.ContextView.{ContextView, children, kind_of, op_at, block_at, attributes_of}
use Rattle.plir_core.specs.ContextView.{arg_types_of, arguments_in, label_in, block_attributes_in}
use Rattle.plir_core.specs.WellFormed.{IsWellFormed}
use Rattle.plir_attr_text.specs.Meaning.{IsDictMeant}
use Rattle.plir_attr_text.specs.Names.{Grows}
use Rattle.plir_walk.specs.GivenNames.{names_at, names_in, name_at}
use Rattle.plir_walk.specs.Tree.{Place, node_at}
use Rattle.plir_builtin.specs.BuiltinOps.{func_type_of, value_of}
use Rattle.plir_builtin.specs.ResultNames.{result_name}
use Rattle.plir_builtin.specs.Symbols.{name_held}
use Rattle.plir_print.specs.Dictionaries.{is_shown, shown}
use Rattle.plir_print.specs.HeaderAttrs.{has_header_of}
use Rattle.plir_print.specs.ValueNames.{arguments_of}
use Rattle.plir_read.specs.Heads.{module_attributes, func_attributes, module_op, func_op, constant_op, result_names}
use Rattle.plir_read.specs.Heads.{argument_names, written_block}
use Rattle.plir_read.specs.OpTerms.{Argument, OpTerm, BlockTerms, ops_of, blocks_of}
use Rattle.plir_read.specs.OpsStanding.{IsBlockHeadAt, IsOpAt, AreBlocksAt, AreOpsAt}
use Rattle.plir_read.specs.Suffixes.{given_name}
use Rattle.plir_read.specs.declared.names.Suffix.TheVariants as kinds
use Rattle.plir_roundtrip.specs.Readable.{IsBodyReadable, IsConstantReadable, IsKindReadable, IsOpReadable}
use Rattle.plir_roundtrip.specs.Readable.{IsBlockReadable}
use Rattle.plir_roundtrip.specs.SameTree.{IsSameOp, IsSameBlock, IsSameNode, IsSameOrNone}
use Rattle.plir_roundtrip.specs.Written.{argument_term, block_head_term, block_term, blocks_under}
use Rattle.plir_roundtrip.specs.Written.{symbol_of, dictionary_term, term_of_kind, term_at}
use Rattle.plir_roundtrip.specs.ReadableParts.{AllReadable}
use Rattle.plir_roundtrip.proofs.Children.{child_of_region, child_of_block, only_region, child_readable, op_readable}
use Rattle.plir_roundtrip.proofs.Children.{block_readable, HasRoom, some_room, lower_room, child_room}
use Rattle.plir_roundtrip.proofs.MeantAgain.{handle_again, attr_again, dictionary_again}
use Rattle.plir_roundtrip.proofs.NamesAgain.{names_again, no_others, name_in_row}
use Rattle.plir_roundtrip.proofs.OpSame.{op_held, block_held, module_holds_same, func_holds_same, body_same}
use Rattle.plir_roundtrip.proofs.OpSame.{constant_same, value_of_place}
use Rattle.plir_roundtrip.proofs.OpParts.{constant_there, func_type_there}
use Rattle.plir_roundtrip.proofs.PrintedNames.{block_name_given, argument_name_given}
use Rattle.plir_roundtrip.proofs.EntriesShown.{filter_dictionary, shown_writable}
use Rattle.plir_roundtrip.proofs.TypesKept.{argument_types_same, constant_type_same}

-- ---- lists of nodes

module _ {K A T : Type 0} (s t : ContextView K A T) (f g : IRNode → Option IRNode) where
  -- at each place of two lists stands the same, or nothing
  abbrev SameAt : List IRNode → List IRNode → ℕ → Type 0
  SameAt xs ys i = IsSameOrNone s t (option_and_then f (slice_get xs i)) (option_and_then g (slice_get ys i))

  one_each : (x y : IRNode) (i : ℕ) → IsSameOrNone s t (f x) (g y) → SameAt (x ∷ []) (y ∷ []) i
  one_each x y zero h = h
  one_each x y (suc i) h = tt

  blocks_each : (write : IRNode → OpTerm) (xs ys : List IRNode) (i : ℕ)
      → AreBlocksAt t ys (blocks_of (map (block_term s write) xs))
      → ((x y : IRNode) → Has xs x → IsBlockHeadAt t y (block_term s write x).0
      → AreOpsAt t (children t y) (ops_of (block_term s write x).1) → IsSameOrNone s t (f x) (g y)) → SameAt xs ys i
  blocks_each write [] ys i h each = subst (λ z. SameAt [] z i) (sym h) tt
  blocks_each write (x ∷ xs) ys zero h each = subst (λ z. SameAt (x ∷ xs) z 0) (sym h.2) (each x h.0 (inl refl) h.3 h.4)
  blocks_each write (x ∷ xs) ys (suc i) h each =
      subst (λ z. SameAt (x ∷ xs) z (suc i)) (sym h.2) (blocks_each write xs h.1 i h.5 (λ a b m. each a b (inr m)))

  ops_each : (write : IRNode → OpTerm) (xs ys : List IRNode) (i : ℕ) → AreOpsAt t ys (ops_of (map write xs))
      → ((x y : IRNode) → Has xs x → IsOpAt t y (write x) → IsSameOrNone s t (f x) (g y)) → SameAt xs ys i
  ops_each write [] ys i h each = subst (λ z. SameAt [] z i) (sym h) tt
  ops_each write (x ∷ xs) ys zero h each = subst (λ z. SameAt (x ∷ xs) z 0) (sym h.2) (each x h.0 (inl refl) h.3)
  ops_each write (x ∷ xs) ys (suc i) h each =
      subst (λ z. SameAt (x ∷ xs) z (suc i)) (sym h.2) (ops_each write xs h.1 i h.4 (λ a b m. each a b (inr m)))

module _ {D K A T E : Type 0} (o : op_set.Ghosts D K A T E) (s t : ContextView K A T) (st : IsStanding s)
    (whole : IsWellFormed o.attr_handles s) (itself : IsDictOfItself (AttrView A)) (g : Grows s.types t.types)
    (table : IsTypeTable o.type_handles t.types) where
  -- ---- blocks

  -- the block at a node, and that it is the same
  record BlockMatch (b : Ptr BlockKind) (y : IRNode) : Type 0 where
    block : Ptr BlockKind
    is : y ≡ BasicBlock block
    same : IsSameBlock s t b block

  block_matches : (b : Ptr BlockKind) (y : IRNode) → IsBlockReadable s b → IsBlockHeadAt t y (block_head_term s b)
      → BlockMatch b y
  block_matches b y r h =
      let held = block_held t y (written_block (block_head_term s b) h.0) h.2 in
      record { block = held.0; is = held.1; same = same held.0 held.2 }
    where
      as_ : List Argument
      as_ = map (argument_term s) (arguments_of s b)

      types_are : h.0 ≡ arg_types_of s b
      types_are = argument_types_same o s t whole g table b r h.0 h.1

      name_is : (i : ℕ) → i < length (arg_types_of s b)
          → name_at (argument_names as_) i ≡ name_at (names_at s (Block b)) i
      name_is i lt =
          name_in_row (λ (a : Argument). given_name kinds.Argument a.0) (argument_term s) (value_of_place s t b)
          (length (arg_types_of s b)) i lt ∙ argument_name_given s b i (r.arguments.names i lt)

      same : (c : Ptr BlockKind) → block_at t c ≡ Some (written_block (block_head_term s b) h.0) → IsSameBlock s t b c
      same c held = record {
        label = sym (ap label_in held ∙ block_name_given s b r.label);
        arguments = record {
          types = sym (ap arguments_in held ∙ types_are);
          names =
              λ i lt. sym (ap (λ z. name_at (names_in (block_attributes_in z)) i) held
              ∙ names_again A (argument_names as_) i ∙ name_is i lt);
          attributes =
              λ k other. r.only k (rw other refl)
              ∙ sym (ap (λ z. dict_get (block_attributes_in z) k) held ∙ no_others A (argument_names as_) k other);
        };
      }

  -- ---- operations

  abbrev blocks_in : (j : ℕ) → IRNode → BlockTerms
  blocks_in j r = blocks_of (map (block_term s (term_at o s j)) (children s r))

  -- both have no region, or one with the blocks that are written
  abbrev RegionsMatch : (j : ℕ) → Ptr OperationKind → IRNode → Type 0
  RegionsMatch j p y =
      ((children s (Operation p) ≡ []) × (children t y ≡ [])) ⊎
      ((r u : Ptr RegionKind) × (children s (Operation p) ≡ Region r ∷ []) × (children t y ≡ Region u ∷ []) ×
      AreBlocksAt t (children t (Region u)) (blocks_in j (Region r)))

  -- the operation at a node, and that it is the same
  record OpMatch (j : ℕ) (p : Ptr OperationKind) (y : IRNode) : Type 0 where
    op : Ptr OperationKind
    is : y ≡ Operation op
    same : IsSameOp s t p op
    regions : RegionsMatch j p y

  one_body : (j : ℕ) (p q : Ptr OperationKind) (y u : IRNode) → y ≡ Operation q → IsBodyReadable s p
      → children t y ≡ u ∷ []
      → AreBlocksAt t (children t u) (blocks_of (map (block_term s (term_at o s j)) (blocks_under s p)))
      → RegionsMatch j p y
  one_body j p q y u is b children_are blocks =
      let r = only_region s p b.region b.body in
      let ours : children s (Operation p) ≡ Region r.0 ∷ [] = b.body ∙ ap (λ x. x ∷ []) r.1 in
      let v = only_region t q u (subst (λ z. children t z ≡ u ∷ []) is children_are) in
      let under : blocks_under s p ≡ children s (Region r.0) =
      ap (flat_map (children s)) ours ∙ append-nil (children s (Region r.0)) in
      inr (
        r.0,
        v.0,
        ours,
        children_are ∙ ap (λ x. x ∷ []) v.1,
        subst (λ z. AreBlocksAt t (children t z) (blocks_in j (Region r.0))) v.1
            (subst (λ l. AreBlocksAt t (children t u) (blocks_of (map (block_term s (term_at o s j)) l))) under blocks),
      )

  entries_are : (p : Ptr OperationKind) (b : IsBodyReadable s p) (entries : List (List ℕ × AttrView A))
      → IsDictMeant t.types (dictionary_term o s p) entries → entries ≡ shown o s p
  entries_are p b entries m =
      dictionary_again o.type_handles s.types t.types g table itself (shown o s p) entries
      (filter_dictionary (is_shown o (kind_of s p)) (attributes_of s p) b.dictionary)
      (shown_writable o s.types (kind_of s p) (attributes_of s p) b.dictionary b.entries) m

  module _ (j : ℕ) (p : Ptr OperationKind) (y : IRNode) (readable : IsOpReadable s p) where
    abbrev bs : BlockTerms
    bs = blocks_of (map (block_term s (term_at o s j)) (blocks_under s p))

    module_matches : kind_of s p ≡ Some Module → IsBodyReadable s p → has_header_of s (Some Module) p ≡ true
        → IsOpAt t y (term_of_kind o s (Some Module) bs p) → OpMatch j p y
    module_matches is b e h =
        let entries = entries_are p b h.1.0 h.1.1 in
        let held = op_held t y (module_op (symbol_of s p) h.1.0) h.1.2 in
        let same = subst (λ z. op_at t held.0 ≡ Some (module_op (symbol_of s p) z)) entries held.2 in
        record {
          op = held.0;
          is = held.1;
          same =
              body_same s t Module p held.0 (module_attributes (symbol_of s p) (shown o s p)) is readable b same
              (module_holds_same o s p b is e);
          regions = one_body j p held.0 y h.0 held.1 b h.2 h.3;
        }

    func_matches : kind_of s p ≡ Some Func → IsBodyReadable s p → has_header_of s (Some Func) p ≡ true
        → IsOpAt t y (term_of_kind o s (Some Func) bs p) → OpMatch j p y
    func_matches is b e h =
        let ends = and_parts (is_some (name_held (op_at s p))) (is_some (func_type_of s p)) e in
        let type = func_type_there o s p b ends.1 in
        let entries = entries_are p b h.1.0 h.1.1 in
        let head = h.1.2 in
        let handle : head.0 ≡ type.0 =
        handle_again o.type_handles s.types t.types g table (func_type_of s p) type.0 head.0 type.1 type.2.0
        type.2.1 head.1 in
        let held = op_held t y (func_op (symbol_of s p) head.0 h.1.0) head.2 in
        let same =
        subst (λ z. op_at t held.0 ≡ Some (func_op (symbol_of s p) z (shown o s p))) handle
        (subst (λ z. op_at t held.0 ≡ Some (func_op (symbol_of s p) head.0 z)) entries held.2) in
        record {
          op = held.0;
          is = held.1;
          same =
              body_same s t Func p held.0 (func_attributes (symbol_of s p) type.0 (shown o s p)) is readable b same
              (func_holds_same o s p b is ends.0 type.0 type.3);
          regions = one_body j p held.0 y h.0 held.1 b h.2 h.3;
        }

    constant_matches : kind_of s p ≡ Some Constant → IsConstantReadable s p → has_header_of s (Some Constant) p ≡ true
        → IsOpAt t y (term_of_kind o s (Some Constant) bs p) → OpMatch j p y
    constant_matches is r e h =
        let c = constant_there s p e in
        let handle : h.1 ≡ c.handle =
        constant_type_same o s t whole g table p c readable.results h.1 h.2.typed in
        let value : h.0 ≡ c.value =
        attr_again o.type_handles s.types t.types g table itself (value_of s p) c.value h.0 c.held
        (r.value c.value c.held) h.2.meant in
        let names = result_names (result_name s p 0 ∷ []) in
        let held = op_held t y (constant_op names h.0 h.1) h.3 in
        let same =
        subst (λ z. op_at t held.0 ≡ Some (constant_op names c.value z)) handle
        (subst (λ z. op_at t held.0 ≡ Some (constant_op names z h.1)) value held.2) in
        record {
          op = held.0;
          is = held.1;
          same = constant_same s t p held.0 c is readable r same;
          regions = inl (r.regions, h.4);
        }

    op_matches : IsOpAt t y (term_at o s (suc j) (Operation p)) → OpMatch j p y
    op_matches h = at (kind_of s p) refl readable.kind readable.header h
      where
        at : (kind : Option (OpKind K)) → kind_of s p ≡ kind → IsKindReadable s kind p → has_header_of s kind p ≡ true
            → IsOpAt t y (term_of_kind o s kind bs p) → OpMatch j p y
        at (Some Module) is b e h = module_matches is b e h
        at (Some Func) is b e h = func_matches is b e h
        at (Some Constant) is b e h = constant_matches is b e h
        at (Some ForwardRef) is b e h = absurd b
        at (Some (Own x)) is b e h = absurd b
        at None is b e h = absurd b

  -- ---- all below

  there : (p : Ptr OperationKind) (r : IRNode) → children s (Operation p) ≡ r ∷ [] → Has (children s (Operation p)) r
  there p r e = subst (λ l. Has l r) (sym e) (inl refl)

  abbrev Same : Place → IRNode → IRNode → Type 0
  Same place x y = IsSameOrNone s t (node_at (children s) x place) (node_at (children t) y place)

  -- at a place below an operation, where it is the same at each place in the region
  over_regions : (i : ℕ) (rest : Place) (j : ℕ) (p : Ptr OperationKind) (y : IRNode)
      → ((r u : Ptr RegionKind) → children s (Operation p) ≡ Region r ∷ []
      → AreBlocksAt t (children t (Region u)) (blocks_in j (Region r)) → Same rest (Region r) (Region u))
      → RegionsMatch j p y → Same (i ∷ rest) (Operation p) y
  over_regions i rest j p y inside (inl none) =
      subst (λ l. SameAt s t (λ c. node_at (children s) c rest) (λ c. node_at (children t) c rest) l (children t y) i)
      (sym none.0) (subst
      (λ l. SameAt s t (λ c. node_at (children s) c rest) (λ c. node_at (children t) c rest) [] l i) (sym none.1)
      tt)
  over_regions i rest j p y inside (inr m) =
      subst (λ l. SameAt s t (λ c. node_at (children s) c rest) (λ c. node_at (children t) c rest) l (children t y) i)
      (sym m.2) (subst
      (λ l. SameAt s t (λ c. node_at (children s) c rest) (λ c. node_at (children t) c rest) (Region m.0 ∷ []) l i)
      (sym m.3) (one_each s t (λ c. node_at (children s) c rest) (λ c. node_at (children t) c rest) (Region m.0)
      (Region m.1) i (inside m.0 m.1 m.2 m.4)))

  mutual
    pub op_same : (place : Place) (j : ℕ) (p : Ptr OperationKind) (y : IRNode) → HasRoom s (Operation p) j
        → AllReadable s (Operation p) → IsOpAt t y (term_at o s j (Operation p)) → Same place (Operation p) y
    op_same place zero p y room all h = absurd (some_room s st (Operation p) room)
    op_same [] (suc j) p y room all h =
        let m = op_matches j p y (op_readable s p all) h in
        subst (λ z. IsSameNode s t (Operation p) z) (sym m.is) m.same
    op_same (i ∷ rest) (suc j) p y room all h =
        over_regions i rest j p y (λ r u e blocks. region_same rest j r u
        (child_room s st (Operation p) (Region r) j (there p (Region r) e) room)
        (child_readable s (Operation p) (Region r) (there p (Region r) e) all) blocks)
        (op_matches j p y (op_readable s p all) h).regions

    region_same : (place : Place) (j : ℕ) (r u : Ptr RegionKind) → HasRoom s (Region r) j → AllReadable s (Region r)
        → AreBlocksAt t (children t (Region u)) (blocks_in j (Region r)) → Same place (Region r) (Region u)
    region_same [] j r u room all h = tt
    region_same (i ∷ rest) j r u room all h =
        blocks_each s t (λ c. node_at (children s) c rest) (λ c. node_at (children t) c rest) (term_at o s j)
        (children s (Region r)) (children t (Region u)) i h
        (λ x y m head ops. block_same rest j x y (child_of_region s r x m) (lower_room s st (Region r) x j m room)
        (child_readable s (Region r) x m all) head ops)

    block_same : (place : Place) (j : ℕ) (x y : IRNode) → (b : Ptr BlockKind) × (x ≡ BasicBlock b) → HasRoom s x j
        → AllReadable s x → IsBlockHeadAt t y (block_term s (term_at o s j) x).0
        → AreOpsAt t (children t y) (ops_of (block_term s (term_at o s j) x).1) → Same place x y
    block_same [] j x y is room all head ops =
        let b = is.0 in
        let m =
        block_matches b y (block_readable s b (subst (AllReadable s) is.1 all))
        (subst (λ z. IsBlockHeadAt t y (block_term s (term_at o s j) z).0) is.1 head) in
        subst (λ z. IsSameNode s t z y) (sym is.1) (subst (λ z. IsSameNode s t (BasicBlock b) z) (sym m.is) m.same)
    block_same (i ∷ rest) j x y is room all head ops =
        let b = is.0 in
        let here = subst (AllReadable s) is.1 all in
        let enough = subst (λ z. HasRoom s z j) is.1 room in
        subst (λ z. Same (i ∷ rest) z y) (sym is.1)
        (ops_each s t (λ c. node_at (children s) c rest) (λ c. node_at (children t) c rest) (term_at o s j)
        (children s (BasicBlock b)) (children t y) i
        (subst (λ z. AreOpsAt t (children t y) (ops_of (block_term s (term_at o s j) z).1)) is.1 ops)
        (λ z w m at. let q = child_of_block s b z m in
        subst (λ v. Same rest v w) (sym q.1) (op_same rest j q.0 w
        (subst (λ v. HasRoom s v j) q.1 (lower_room s st (BasicBlock b) z j m enough))
        (subst (AllReadable s) q.1 (child_readable s (BasicBlock b) z m here))
        (subst (λ v. IsOpAt t w (term_at o s j v)) q.1 at))))
