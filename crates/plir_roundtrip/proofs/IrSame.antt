-- A tree that stands where the text of another was read is the same, with what its operations use.
use Rattle.std.proofs.Common.{◌≡◌, ℕ, zero, suc, ◌<◌, Bool, true, List, [], ◌∷◌, length, map, Option}
use Rattle.std.proofs.Common.{Some, None, is_some, option_and_then, refl, sym, ap, subst, ◌∙◌}
use Rattle.std.specs.Prelude.{slice_get}
use Rattle.std.proofs.lemmas.Bool.{and_parts}
use Rattle.plir_data.specs.AttrView.{AttrView}
use Rattle.plir_data.specs.Dictionary.{IsDictionary, dict_get}
use Rattle.plir_data.specs.Laws.{IsDictOfItself}
use Rattle.plir_data.specs.Types.{IsTypeTable}
use Rattle.plir_data.specs.declared.op_set.OpKind.{OpKind}
use Rattle.plir_data.specs.declared.op_set.OpKind.TheVariants.{Module, Func, Constant, ForwardRef, Own}
use Rattle.plir_data.specs.declared.op_set.OpSet as op_set
use Rattle.plir_store.specs.MemberLaws.{Has-at}
use Rattle.plir_core.specs.ContextView.{ContextView, children, kind_of, kind_in, op_at, attributes_of}
use Rattle.plir_core.specs.ContextView.{attributes_in, result_types_of, results_in, operands_of, operands_in}
use Rattle.plir_core.specs.ContextView.{successors_of, successors_in, arg_types_of, arguments_in, label_in}
use Rattle.plir_core.specs.ContextView.{block_attributes_in}
use Rattle.plir_core.specs.Standing.{IsStanding}
use Rattle.plir_core.specs.WellFormed.{IsWellFormed}
use Rattle.plir_core.specs.declared.ptr.Ptr.{Ptr}
use Rattle.plir_core.specs.declared.ptr.Operation.{Operation as OperationKind}
use Rattle.plir_core.specs.declared.ptr.Region.{Region as RegionKind}
use Rattle.plir_core.specs.declared.ptr.BasicBlock.{BasicBlock as BlockKind}
use Rattle.plir_core.specs.declared.ptr.IRNode.{IRNode}
use Rattle.plir_core.specs.declared.ptr.IRNode.TheVariants.{Operation, Region, BasicBlock}
use Rattle.plir_core.specs.declared.value.DefiningEntity.TheVariants.{Block}
use Rattle.plir_attr_text.specs.Meaning.{IsDictMeant}
use Rattle.plir_attr_text.specs.Names.{Grows}
use Rattle.plir_walk.specs.GivenNames.{names_at, names_in, name_at}
use Rattle.plir_walk.specs.Tree.{HasOnePlaceEach, Place, node_at}
use Rattle.plir_builtin.specs.BuiltinOps.{func_type_of, value_of}
use Rattle.plir_builtin.specs.ResultNames.{result_name}
use Rattle.plir_builtin.specs.Symbols.{name_held}
use Rattle.plir_print.specs.Dictionaries.{is_shown, shown}
use Rattle.plir_print.specs.HeaderAttrs.{has_header_of}
use Rattle.plir_print.specs.ValueNames.{arguments_of, block_name, value_name}
use Rattle.plir_read.specs.Heads.{module_attributes, func_attributes, module_op, func_op, constant_op, result_names}
use Rattle.plir_read.specs.Heads.{argument_names}
use Rattle.plir_read.specs.OpTerms.{Argument, BlockHead}
use Rattle.plir_read.specs.OpsStanding.{IsBlockHeadAt}
use Rattle.plir_read.specs.Suffixes.{given_name}
use Rattle.plir_read.specs.declared.names.Suffix.TheVariants as kinds
use Rattle.plir_read_ir.specs.IrStanding.{AreBlocksAt, AreOpsAt, AreRegionsAt, IsFrontAt, IsIrAt}
use Rattle.plir_read_ir.specs.IrTerms.{Front, IrOp, blocks_of, ops_of, regions_of}
use Rattle.plir_read_ir.specs.OwnOps.{own_attributes}
use Rattle.plir_read_ir.specs.Mentions.{Mention, Scope, block_meant, body_in, labels_in, value_meant, values_in}
use Rattle.plir_roundtrip.specs.Readable.{IsBodyReadable, IsConstantReadable, IsKindReadable, IsOpReadable}
use Rattle.plir_roundtrip.specs.Readable.{IsBlockReadable}
use Rattle.plir_roundtrip.specs.SameTree.{IsSameOp, IsSameBlock}
use Rattle.plir_roundtrip.specs.Written.{argument_term, block_head_term, symbol_of, dictionary_term}
use Rattle.plir_roundtrip.specs.IrReadable.{AreIrReadable, IsIrOpReadable, IsOwnReadable, IsReadableAs}
use Rattle.plir_roundtrip.specs.IrWritten.{block_written, front_of, ir_term_at, region_written}
use Rattle.plir_roundtrip.specs.SameIrTree.{AreAtOnePlace, IsSameIrOp, IsSameIrOrNone, IsSameTarget}
use Rattle.plir_roundtrip.specs.SameIrTree.{IsSameValue, Pairwise}
use Rattle.plir_roundtrip.specs.UsesMeant.{IsMeantBelow, IsUseMeant}
use Rattle.plir_roundtrip.proofs.Children.{child_of_block, child_of_op, child_of_region}
use Rattle.plir_roundtrip.proofs.Children.{HasRoom, some_room, lower_room, child_room}
use Rattle.plir_roundtrip.proofs.IrChildren.{child_readable, op_readable, block_readable, meant_in}
use Rattle.plir_roundtrip.proofs.EntriesShown.{filter_dictionary, shown_writable}
use Rattle.plir_roundtrip.proofs.OpParts.{constant_there, func_type_there}
use Rattle.plir_roundtrip.proofs.MeantAgain.{handle_again, attr_again, dictionary_again}
use Rattle.plir_roundtrip.proofs.Mentioned.{InRow, SameScopes, bodies_alike, children_in_row, first_in_row}
use Rattle.plir_roundtrip.proofs.Mentioned.{others_in_row}
use Rattle.plir_roundtrip.proofs.NamesAgain.{names_again, no_others, name_in_row}
use Rattle.plir_roundtrip.proofs.OpSame.{block_held, module_holds_same, func_holds_same, body_same, constant_same}
use Rattle.plir_roundtrip.proofs.OpSame.{value_of_place}
use Rattle.plir_roundtrip.proofs.OwnSame.{own_holds_same, own_names_same, read_attributes, read_names}
use Rattle.plir_roundtrip.proofs.PartsShown.{AreWritable}
use Rattle.plir_roundtrip.proofs.PrintedNames.{block_name_given, argument_name_given}
use Rattle.plir_roundtrip.proofs.Related.{SameScope, SayAlike, all_meant, meant_alike}
use Rattle.plir_roundtrip.proofs.TypesKept.{argument_types_same, constant_type_same, own_types_same}

-- ---- lists of nodes

module _ {K A T : Type 0} (isolated : K → Bool) (s t : ContextView K A T) (x y : IRNode) (f g : IRNode → Option IRNode)
    (front : Scope → IRNode → Front K → Type 0) where
  -- at each place of two lists stands the same, or nothing
  abbrev SameAt : List IRNode → List IRNode → ℕ → Type 0
  SameAt us vs i = IsSameIrOrNone s t x y (option_and_then f (slice_get us i)) (option_and_then g (slice_get vs i))

  regions_each : (c : Option (Ptr OperationKind)) (write : IRNode → List (BlockHead × List (IrOp K)))
      (us vs : List IRNode) (i : ℕ) → InRow isolated s t x y us vs
      → AreRegionsAt isolated t front c vs (regions_of (map write us))
      → ((u : IRNode) (r : Ptr RegionKind) → slice_get us i ≡ Some u → AreAtOnePlace s t x y u (Region r)
      → AreBlocksAt isolated t front (record { body = c; region = Some r }) (children t (Region r))
      (blocks_of (write u))
      → IsSameIrOrNone s t x y (f u) (g (Region r))) → SameAt us vs i
  regions_each c write [] vs i row h each = subst (λ l. SameAt [] l i) (sym h) tt
  regions_each c write (u ∷ us) vs zero row h each =
      subst (λ l. SameAt (u ∷ us) l 0) (sym h.2)
      (each u h.0 refl (first_in_row isolated s t x y u (Region h.0) us vs h.1 h.2 row) h.3)
  regions_each c write (u ∷ us) vs (suc i) row h each =
      subst (λ l. SameAt (u ∷ us) l (suc i)) (sym h.2)
      (regions_each c write us h.1 i (others_in_row isolated s t x y u (Region h.0) us vs h.1 h.2 row) h.4 each)

  blocks_each : (bt : Scope) (write : IRNode → BlockHead × List (IrOp K)) (us vs : List IRNode) (i : ℕ)
      → InRow isolated s t x y us vs → AreBlocksAt isolated t front bt vs (blocks_of (map write us))
      → ((u v : IRNode) → slice_get us i ≡ Some u → AreAtOnePlace s t x y u v → IsBlockHeadAt t v (write u).0
      → AreOpsAt isolated t front bt (children t v) (ops_of (write u).1) → IsSameIrOrNone s t x y (f u) (g v))
      → SameAt us vs i
  blocks_each bt write [] vs i row h each = subst (λ l. SameAt [] l i) (sym h) tt
  blocks_each bt write (u ∷ us) vs zero row h each =
      subst (λ l. SameAt (u ∷ us) l 0) (sym h.2)
      (each u h.0 refl (first_in_row isolated s t x y u h.0 us vs h.1 h.2 row) h.3 h.4)
  blocks_each bt write (u ∷ us) vs (suc i) row h each =
      subst (λ l. SameAt (u ∷ us) l (suc i)) (sym h.2)
      (blocks_each bt write us h.1 i (others_in_row isolated s t x y u h.0 us vs h.1 h.2 row) h.5 each)

  ops_each : (bt : Scope) (write : IRNode → IrOp K) (us vs : List IRNode) (i : ℕ) → InRow isolated s t x y us vs
      → AreOpsAt isolated t front bt vs (ops_of (map write us))
      → ((u v : IRNode) → slice_get us i ≡ Some u → slice_get vs i ≡ Some v → AreAtOnePlace s t x y u v
      → IsIrAt isolated t front bt v (write u) → IsSameIrOrNone s t x y (f u) (g v)) → SameAt us vs i
  ops_each bt write [] vs i row h each = subst (λ l. SameAt [] l i) (sym h) tt
  ops_each bt write (u ∷ us) vs zero row h each =
      subst (λ l. SameAt (u ∷ us) l 0) (sym h.2)
      (each u h.0 refl (ap (λ l. slice_get l 0) h.2) (first_in_row isolated s t x y u h.0 us vs h.1 h.2 row) h.3)
  ops_each bt write (u ∷ us) vs (suc i) row h each =
      subst (λ l. SameAt (u ∷ us) l (suc i)) (sym h.2)
      (ops_each bt write us h.1 i (others_in_row isolated s t x y u h.0 us vs h.1 h.2 row) h.4
      (λ a b e k at there. each a b e (ap (λ l. slice_get l (suc i)) h.2 ∙ k) at there))

module _ {D K A T E : Type 0} (o : op_set.Ghosts D K A T E) (find : List ℕ → Option K) (isolated : K → Bool)
    (s t : ContextView K A T) (st : IsStanding s) (whole : IsWellFormed o.attr_handles s)
    (itself : IsDictOfItself (AttrView A)) (g : Grows s.types t.types) (table : IsTypeTable o.type_handles t.types)
    (x y : IRNode) (once : HasOnePlaceEach (children s) x) (ms ns : List Mention)
    (said : SayAlike s t x y (IsSameValue s t x y) ms ns) where
  -- ---- blocks

  block_matches : (b c : Ptr BlockKind) → IsBlockReadable s b → IsBlockHeadAt t (BasicBlock c) (block_head_term s b)
      → IsSameBlock s t b c
  block_matches b c r h = record {
    label = sym (ap label_in h.2 ∙ block_name_given s b r.label);
    arguments = record {
      types = sym (ap arguments_in h.2 ∙ types_are);
      names =
          λ i lt. sym (ap (λ z. name_at (names_in (block_attributes_in z)) i) h.2
          ∙ names_again A (argument_names as_) i ∙ name_is i lt);
      attributes =
          λ k other. r.only k (rw other refl)
          ∙ sym (ap (λ z. dict_get (block_attributes_in z) k) h.2 ∙ no_others A (argument_names as_) k other);
    };
  }
    where
      as_ : List Argument
      as_ = map (argument_term s) (arguments_of s b)

      types_are : h.0 ≡ arg_types_of s b
      types_are = argument_types_same o s t whole g table b r h.0 h.1

      name_is : (i : ℕ) → i < length (arg_types_of s b)
          → name_at (argument_names as_) i ≡ name_at (names_at s (Block b)) i
      name_is i lt =
          name_in_row (λ (a : Argument). given_name kinds.Argument a.0) (argument_term s) (value_of_place s t b)
          (length (arg_types_of s b)) i lt ∙ argument_name_given s b i (r.arguments.names i lt)

  -- ---- operations

  -- without operands and successors
  plain_same : (p q : Ptr OperationKind) → IsSameOp s t p q → IsSameIrOp s t x y p q
  plain_same p q h = record {
    kind = h.kind;
    results = h.results;
    operands =
        subst (λ l. Pairwise (IsSameValue s t x y) l (operands_of t q)) (sym h.operands.0)
        (subst (λ l. Pairwise (IsSameValue s t x y) [] l) (sym h.operands.1) tt);
    successors =
        subst (λ l. Pairwise (IsSameTarget s t x y) l (successors_of t q)) (sym h.successors.0)
        (subst (λ l. Pairwise (IsSameTarget s t x y) [] l) (sym h.successors.1) tt);
  }

  entries_are : (p : Ptr OperationKind) → IsDictionary (attributes_of s p)
      → (entries : List (List ℕ × AttrView A)) → IsDictMeant t.types (dictionary_term o s p) entries
      → AreWritable s.types (shown o s p) → entries ≡ shown o s p
  entries_are p ascending entries m written =
      dictionary_again o.type_handles s.types t.types g table itself (shown o s p) entries
      (filter_dictionary (is_shown o (kind_of s p)) (attributes_of s p) ascending) written m

  module _ (p q : Ptr OperationKind) (at bt : Scope) (scopes : SameScopes isolated s t x y at bt)
      (meant : IsUseMeant s ms at p) where
    abbrev IsFront : Option (OpKind K) → Type 0
    IsFront kind = IsFrontAt t ns bt (Operation q) (front_of o s kind p)

    module_matches : kind_of s p ≡ Some Module → IsOpReadable s p → IsBodyReadable s p
        → has_header_of s (Some Module) p ≡ true → IsFront (Some Module) → IsSameIrOp s t x y p q
    module_matches is readable b e h =
        let entries =
        entries_are p b.dictionary h.0 h.1
        (shown_writable o s.types (kind_of s p) (attributes_of s p) b.dictionary b.entries) in
        let same = subst (λ z. op_at t q ≡ Some (module_op (symbol_of s p) z)) entries h.2 in
        plain_same p q (body_same s t Module p q (module_attributes (symbol_of s p) (shown o s p)) is readable b same
        (module_holds_same o s p b is e))

    func_matches : kind_of s p ≡ Some Func → IsOpReadable s p → IsBodyReadable s p
        → has_header_of s (Some Func) p ≡ true → IsFront (Some Func) → IsSameIrOp s t x y p q
    func_matches is readable b e h =
        let ends = and_parts (is_some (name_held (op_at s p))) (is_some (func_type_of s p)) e in
        let type = func_type_there o s p b ends.1 in
        let entries =
        entries_are p b.dictionary h.0 h.1
        (shown_writable o s.types (kind_of s p) (attributes_of s p) b.dictionary b.entries) in
        let head = h.2 in
        let handle : head.0 ≡ type.0 =
        handle_again o.type_handles s.types t.types g table (func_type_of s p) type.0 head.0 type.1 type.2.0
        type.2.1 head.1 in
        let same =
        subst (λ z. op_at t q ≡ Some (func_op (symbol_of s p) z (shown o s p))) handle
        (subst (λ z. op_at t q ≡ Some (func_op (symbol_of s p) head.0 z)) entries head.2) in
        plain_same p q (body_same s t Func p q (func_attributes (symbol_of s p) type.0 (shown o s p)) is readable b same
        (func_holds_same o s p b is ends.0 type.0 type.3))

    constant_matches : kind_of s p ≡ Some Constant → IsOpReadable s p → IsConstantReadable s p
        → has_header_of s (Some Constant) p ≡ true → IsFront (Some Constant) → IsSameIrOp s t x y p q
    constant_matches is readable r e h =
        let c = constant_there s p e in
        let handle : h.1 ≡ c.handle =
        constant_type_same o s t whole g table p c readable.results h.1 h.2.typed in
        let value : h.0 ≡ c.value =
        attr_again o.type_handles s.types t.types g table itself (value_of s p) c.value h.0 c.held
        (r.value c.value c.held) h.2.meant in
        let names = result_names (result_name s p 0 ∷ []) in
        let same =
        subst (λ z. op_at t q ≡ Some (constant_op names c.value z)) handle
        (subst (λ z. op_at t q ≡ Some (constant_op names z h.1)) value h.3) in
        plain_same p q (constant_same s t p q c is readable r same)

    own_matches : (k : K) → kind_of s p ≡ Some (Own k) → IsOwnReadable o find s k p → IsFront (Some (Own k))
        → IsSameIrOp s t x y p q
    own_matches k is r h =
        let entries : h.entries ≡ shown o s p =
        entries_are p r.dictionary h.entries h.entries_meant
        (shown_writable o s.types (kind_of s p) (attributes_of s p) r.dictionary r.entries) in
        let types : h.result_types ≡ result_types_of s p =
        own_types_same o s t whole g table p r.results h.result_types h.results_typed in
        let held = h.holds in
        let attributes : attributes_of t q ≡ read_attributes o find s k p is r =
        ap attributes_in held ∙ ap (own_attributes (read_names o find s k p is r)) entries in
        record {
          kind = is ∙ sym (ap kind_in held);
          results = record {
            types = sym (ap results_in held ∙ types);
            names =
                λ i lt. own_names_same o find s k p is r i lt
                ∙ sym (ap (λ z. name_at (names_in z) i) attributes);
            attributes =
                λ l other. own_holds_same o find s k p is r l other
                ∙ sym (ap (λ z. dict_get z l) attributes);
          };
          operands =
              subst (λ l. Pairwise (IsSameValue s t x y) (operands_of s p) l) (sym (ap operands_in held))
              (all_meant (IsSameValue s t x y) (value_name s) (λ w. value_meant ms (at.body, w))
              (λ w. value_meant ns (bt.body, w)) (λ w v z e f. meant_alike s t x y (λ a. Operation a)
              (IsSameValue s t x y) once (λ a b d. let same : a ≡ b = cc in same) (values_in ms) (values_in ns)
              said.values (at.body, w) (bt.body, w) scopes.body refl v z e f) (operands_of s p) h.operands
              meant.operands h.operands_meant);
          successors =
              subst (λ l. Pairwise (IsSameTarget s t x y) (successors_of s p) l) (sym (ap successors_in held))
              (all_meant (IsSameTarget s t x y) (block_name s) (λ w. block_meant ms (at.region, w))
              (λ w. block_meant ns (bt.region, w)) (λ w v z e f. meant_alike s t x y (λ a. Region a)
              (IsSameTarget s t x y) once (λ a b d. let same : a ≡ b = cc in same) (labels_in ms) (labels_in ns)
              said.labels (at.region, w) (bt.region, w) scopes.region refl v z e f) (successors_of s p) h.successors
              meant.successors h.successors_meant);
        }

    op_matches : IsIrOpReadable o find s p → IsFront (kind_of s p) → IsSameIrOp s t x y p q
    op_matches r h = by (kind_of s p) refl r h
      where
        builtin : (kind : Option (OpKind K)) → kind_of s p ≡ kind → IsOpReadable s p → IsKindReadable s kind p
        builtin kind is r = subst (λ z. IsKindReadable s z p) is r.kind

        headed : (kind : Option (OpKind K)) → kind_of s p ≡ kind → IsOpReadable s p → has_header_of s kind p ≡ true
        headed kind is r = subst (λ z. has_header_of s z p ≡ true) is r.header

        by : (kind : Option (OpKind K)) → kind_of s p ≡ kind → IsReadableAs o find s kind p → IsFront kind
            → IsSameIrOp s t x y p q
        by (Some Module) is r h = module_matches is r (builtin (Some Module) is r) (headed (Some Module) is r) h
        by (Some Func) is r h = func_matches is r (builtin (Some Func) is r) (headed (Some Func) is r) h
        by (Some Constant) is r h = constant_matches is r (builtin (Some Constant) is r) (headed (Some Constant) is r) h
        by (Some ForwardRef) is r h = absurd (builtin (Some ForwardRef) is r)
        by (Some (Own k)) is r h = own_matches k is r h
        by None is r h = absurd (builtin None is r)

  -- ---- all below

  abbrev At : Scope → IRNode → IrOp K → Type 0
  At bt n w = IsIrAt isolated t (IsFrontAt t ns) bt n w

  abbrev Meant : Place → Scope → IRNode → Type 0
  Meant place at n = IsMeantBelow o isolated s ms place at n

  abbrev Same : Place → IRNode → IRNode → Type 0
  Same place u v = IsSameIrOrNone s t x y (node_at (children s) u place) (node_at (children t) v place)

  -- the same at a place below two nodes, where it is known below what these are
  both_are : (place : Place) (u v a b : IRNode) → u ≡ a → v ≡ b → Same place a b → Same place u v
  both_are place u v a b e f h = subst (λ z. Same place z v) (sym e) (subst (Same place a) (sym f) h)

  placed : (u v a b : IRNode) → u ≡ a → v ≡ b → AreAtOnePlace s t x y u v → AreAtOnePlace s t x y a b
  placed u v a b e f h = subst (λ z. AreAtOnePlace s t x y z b) e (subst (AreAtOnePlace s t x y u) f h)

  mutual
    pub op_same : (place : Place) (k : ℕ) (at bt : Scope) (p q : Ptr OperationKind) → SameScopes isolated s t x y at bt
        → HasRoom s (Operation p) k → AreIrReadable o find s (Operation p)
        → AreAtOnePlace s t x y (Operation p) (Operation q) → At bt (Operation q) (ir_term_at o s k (Operation p))
        → Meant place at (Operation p) → Same place (Operation p) (Operation q)
    op_same place zero at bt p q scopes room all at_one h meant = absurd (some_room s st (Operation p) room)
    op_same [] (suc k) at bt p q scopes room all at_one h meant =
        op_matches p q at bt scopes meant (op_readable o find s p all) h.0
    op_same (i ∷ rest) (suc k) at bt p q scopes room all at_one h meant =
        let front = front_of o s (kind_of s p) p in
        let b = body_in isolated at.body (Operation p) front in
        let c = body_in isolated bt.body (Operation q) front in
        regions_each isolated s t x y (λ n. node_at (children s) n rest) (λ n. node_at (children t) n rest)
        (IsFrontAt t ns) c (region_written s (ir_term_at o s k)) (children s (Operation p)) (children t (Operation q)) i
        (children_in_row isolated s t x y (Operation p) (Operation q) at_one) h.1 (λ u r e here blocks.
        let m = Has-at (children s (Operation p)) i u e in
        let is = child_of_op s p u m in
        both_are rest u (Region r) (Region is.0) (Region r) is.1 refl
        (region_same rest k b c is.0 r (bodies_alike isolated s t x y at.body bt.body p q scopes.body at_one front)
        (subst (λ z. HasRoom s z k) is.1 (child_room s st (Operation p) u k m room))
        (subst (AreIrReadable o find s) is.1 (child_readable o find s (Operation p) u m all))
        (placed u (Region r) (Region is.0) (Region r) is.1 refl here)
        (subst (λ z. AreBlocksAt isolated t (IsFrontAt t ns) (record { body = c; region = Some r })
        (children t (Region r)) (blocks_of (region_written s (ir_term_at o s k) z))) is.1 blocks)
        (subst (Meant rest (record { body = b; region = None })) is.1
        (meant_in o isolated s ms i rest at (Operation p) u meant e))))

    region_same : (place : Place) (k : ℕ) (b c : Option (Ptr OperationKind)) (d r : Ptr RegionKind)
        → SameScope s t x y (λ a. Operation a) b c → HasRoom s (Region d) k → AreIrReadable o find s (Region d)
        → AreAtOnePlace s t x y (Region d) (Region r)
        → AreBlocksAt isolated t (IsFrontAt t ns) (record { body = c; region = Some r }) (children t (Region r))
        (blocks_of (region_written s (ir_term_at o s k) (Region d)))
        → Meant place (record { body = b; region = None }) (Region d) → Same place (Region d) (Region r)
    region_same [] k b c d r same room all at_one blocks meant = tt
    region_same (i ∷ rest) k b c d r same room all at_one blocks meant =
        blocks_each isolated s t x y (λ n. node_at (children s) n rest) (λ n. node_at (children t) n rest)
        (IsFrontAt t ns) (record { body = c; region = Some r }) (block_written s (ir_term_at o s k))
        (children s (Region d)) (children t (Region r)) i
        (children_in_row isolated s t x y (Region d) (Region r) at_one) blocks (λ u v e here head ops.
        let m = Has-at (children s (Region d)) i u e in
        let is = child_of_region s d u m in
        let held = block_held t v _ head.2 in
        both_are rest u v (BasicBlock is.0) (BasicBlock held.0) is.1 held.1
        (block_same rest k (record { body = b; region = Some d }) (record { body = c; region = Some r }) is.0 held.0
        (record { body = same; region = at_one })
        (subst (λ z. HasRoom s z k) is.1 (lower_room s st (Region d) u k m room))
        (subst (AreIrReadable o find s) is.1 (child_readable o find s (Region d) u m all))
        (placed u v (BasicBlock is.0) (BasicBlock held.0) is.1 held.1 here)
        (subst (λ z. IsBlockHeadAt t z (block_head_term s is.0)) held.1
        (subst (λ z. IsBlockHeadAt t v (block_written s (ir_term_at o s k) z).0) is.1 head))
        (subst (λ z. AreOpsAt isolated t (IsFrontAt t ns) (record { body = c; region = Some r }) (children t z)
        (ops_of (block_written s (ir_term_at o s k) (BasicBlock is.0)).1)) held.1
        (subst (λ z. AreOpsAt isolated t (IsFrontAt t ns) (record { body = c; region = Some r }) (children t v)
        (ops_of (block_written s (ir_term_at o s k) z).1)) is.1 ops))
        (subst (Meant rest (record { body = b; region = Some d })) is.1
        (meant_in o isolated s ms i rest (record { body = b; region = None }) (Region d) u meant e))))

    block_same : (place : Place) (k : ℕ) (at bt : Scope) (d c : Ptr BlockKind) → SameScopes isolated s t x y at bt
        → HasRoom s (BasicBlock d) k → AreIrReadable o find s (BasicBlock d)
        → AreAtOnePlace s t x y (BasicBlock d) (BasicBlock c)
        → IsBlockHeadAt t (BasicBlock c) (block_head_term s d)
        → AreOpsAt isolated t (IsFrontAt t ns) bt (children t (BasicBlock c))
        (ops_of (block_written s (ir_term_at o s k) (BasicBlock d)).1)
        → Meant place at (BasicBlock d) → Same place (BasicBlock d) (BasicBlock c)
    block_same [] k at bt d c scopes room all at_one head ops meant =
        block_matches d c (block_readable o find s d all) head
    block_same (i ∷ rest) k at bt d c scopes room all at_one head ops meant =
        ops_each isolated s t x y (λ n. node_at (children s) n rest) (λ n. node_at (children t) n rest)
        (IsFrontAt t ns) bt (ir_term_at o s k) (children s (BasicBlock d)) (children t (BasicBlock c)) i
        (children_in_row isolated s t x y (BasicBlock d) (BasicBlock c) at_one) ops (λ u v e f here there.
        let m = Has-at (children s (BasicBlock d)) i u e in
        let p = child_of_block s d u m in
        let q = child_of_block t c v (Has-at (children t (BasicBlock c)) i v f) in
        both_are rest u v (Operation p.0) (Operation q.0) p.1 q.1
        (op_same rest k at bt p.0 q.0 scopes
        (subst (λ z. HasRoom s z k) p.1 (lower_room s st (BasicBlock d) u k m room))
        (subst (AreIrReadable o find s) p.1 (child_readable o find s (BasicBlock d) u m all))
        (placed u v (Operation p.0) (Operation q.0) p.1 q.1 here)
        (subst (λ z. At bt z (ir_term_at o s k (Operation p.0))) q.1
        (subst (λ z. At bt v (ir_term_at o s k z)) p.1 there))
        (subst (Meant rest at) p.1 (meant_in o isolated s ms i rest at (BasicBlock d) u meant e))))
