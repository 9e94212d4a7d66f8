-- A new module can be read back.
use Rattle.std.proofs.Common.{◌≡◌, ◌⊎◌, ℕ, zero, suc, ◌+◌, ◌-◌, ◌<◌, ◌≤◌, true, List, [], ◌∷◌, ◌++◌, length, map, inl}
use Rattle.std.proofs.Common.{inr, All, Option, Some, None, is_some, flat_map, option_and_then, refl, sym, ap, subst}
use Rattle.std.proofs.Common.{◌∙◌, arith}
use Rattle.std.specs.List.{range_with_len}
use Rattle.std.specs.Prelude.{slice_get}
use Rattle.std.proofs.lemmas.Option.{same_Some, none-some}
use Rattle.plir_data.specs.AttrView.{entries_of}
use Rattle.plir_data.specs.Dictionary.{dict_get, IsDictionary}
use Rattle.plir_data.specs.Identifier.{is_identifier}
use Rattle.plir_data.specs.declared.op_set.OpKind.TheVariants.{Module}
use Rattle.plir_data.specs.declared.op_set.OpSet as op_set
use Rattle.plir_core.specs.declared.ptr.Ptr.{Ptr}
use Rattle.plir_core.specs.declared.ptr.Operation.{Operation as OperationKind}
use Rattle.plir_core.specs.declared.ptr.BasicBlock.{BasicBlock as BlockKind}
use Rattle.plir_core.specs.declared.ptr.IRNode.{IRNode}
use Rattle.plir_core.specs.declared.ptr.IRNode.TheVariants.{Operation, Region, BasicBlock}
use Rattle.plir_core.specs.declared.value.DefiningEntity.TheVariants.{Op, Block}
use Rattle.plir_core.specs.Standing.{IsStanding}
use Rattle.plir_core.specs.ContextView.{ContextView, children, kind_of, kind_in, attributes_of, attributes_in}
use Rattle.plir_core.specs.ContextView.{results_in, operands_in, successors_in, arguments_in, label_in}
use Rattle.plir_core.specs.ContextView.{block_attributes_in, limit}
use Rattle.plir_core.specs.Measures.{depth}
use Rattle.plir_attr_text.specs.Terms.{entries_levels}
use Rattle.plir_attr_text.specs.Writable.{entry_terms, IsNameOrMark}
use Rattle.plir_walk.specs.Tree.{Place, node_at}
use Rattle.plir_builtin.specs.BuiltinOps.{IsNewModule, module_attributes}
use Rattle.plir_builtin.specs.Symbols.{name_held}
use Rattle.plir_print.specs.Dictionaries.{shown, shown_of}
use Rattle.plir_print.specs.HeaderAttrs.{has_header_of}
use Rattle.plir_print.specs.OpText.{room}
use Rattle.plir_print.specs.ValueNames.{arguments_of}
use Rattle.plir_read.specs.OpTerms.{OpTerm, ops_of, blocks_of, arguments_levels, op_levels, ops_levels, blocks_levels}
use Rattle.plir_roundtrip.specs.Readable.{IsEntryReadable, AreValuesReadable, IsKindReadable, IsOpReadable}
use Rattle.plir_roundtrip.specs.Readable.{IsBlockReadable, IsReadable}
use Rattle.plir_roundtrip.specs.Written.{argument_term, block_term, blocks_under, dictionary_term, term_of_kind}
use Rattle.plir_roundtrip.specs.Written.{term_at}

-- ---- the nodes of a new module

-- of one child
one_child : (f : IRNode → Option IRNode) (xs : List IRNode) (x n : IRNode) (i : ℕ) → xs ≡ x ∷ []
    → option_and_then f (slice_get xs i) ≡ Some n → f x ≡ Some n
one_child f xs x n i e h = at i (subst (λ l. option_and_then f (slice_get l i) ≡ Some n) e h)
  where
    at : (i : ℕ) → option_and_then f (slice_get (x ∷ []) i) ≡ Some n → f x ≡ Some n
    at zero h = h
    at (suc i) h = absurd (none-some n h)

no_child : (f : IRNode → Option IRNode) (xs : List IRNode) (n : IRNode) (i : ℕ) → xs ≡ []
    → option_and_then f (slice_get xs i) ≡ Some n → ⊥
no_child f xs n i e h = none-some n (subst (λ l. option_and_then f (slice_get l i) ≡ Some n) e h)

abbrev op_in : IRNode → Option (Ptr OperationKind)
op_in (Operation p) = Some p
op_in _ = None

abbrev block_in : IRNode → Option (Ptr BlockKind)
block_in (BasicBlock b) = Some b
block_in _ = None

module _ {D K A T E : Type 0} (o : op_set.Ghosts D K A T E) (s : ContextView K A T) (st : IsStanding s)
    (p : Ptr OperationKind) (name : List ℕ) (good : is_identifier name ≡ true) (new : IsNewModule s p name) where
  at_block : (place : Place) (n : IRNode) → node_at (children s) (BasicBlock new.block) place ≡ Some n
      → n ≡ BasicBlock new.block
  at_block [] n e = sym (same_Some (BasicBlock new.block) n e)
  at_block (i ∷ rest) n e =
      absurd (no_child (λ c. node_at (children s) c rest) (children s (BasicBlock new.block)) n i new.empty e)

  at_region : (place : Place) (n : IRNode) → node_at (children s) (Region new.region) place ≡ Some n
      → (n ≡ Region new.region) ⊎ (n ≡ BasicBlock new.block)
  at_region [] n e = inl (sym (same_Some (Region new.region) n e))
  at_region (i ∷ rest) n e =
      inr (at_block rest n (one_child (λ c. node_at (children s) c rest) (children s (Region new.region))
      (BasicBlock new.block) n i new.blocks e))

  at_op : (place : Place) (n : IRNode) → node_at (children s) (Operation p) place ≡ Some n
      → (n ≡ Operation p) ⊎ ((n ≡ Region new.region) ⊎ (n ≡ BasicBlock new.block))
  at_op [] n e = inl (sym (same_Some (Operation p) n e))
  at_op (i ∷ rest) n e =
      inr (at_region rest n
      (one_child (λ c. node_at (children s) c rest) (children s (Operation p)) (Region new.region) n i new.regions e))

  -- ---- each can be read

  kind_is : kind_of s p ≡ Some Module
  kind_is = ap kind_in new.holds

  attributes_are : attributes_of s p ≡ module_attributes name
  attributes_are = ap attributes_in new.holds

  no_values : AreValuesReadable s (Op p)
  no_values = record {
    types =
        λ k d lt. absurd (let none : k < 0 = subst (λ (l : List ℕ). k < length l) (ap results_in new.holds) lt in
        omega (arith, none));
    names =
        λ i lt. absurd (let none : i < 0 = subst (λ (l : List ℕ). i < length l) (ap results_in new.holds) lt in
        omega (arith, none));
  }

  name_readable : All (λ e. IsEntryReadable s.types e.0 e.1) (module_attributes {A = A} name)
  name_readable zero d lt = good
  name_readable (suc k) d lt = absurd (omega (arith, lt))

  op_good : IsOpReadable s p
  op_good = record {
    header = subst (λ k. has_header_of s k p ≡ true) (sym kind_is) (ap (λ v. is_some (name_held v)) new.holds);
    kind = subst (λ k. IsKindReadable s k p) (sym kind_is) (record {
      results = ap results_in new.holds;
      region = Region new.region;
      body = new.regions;
      dictionary = subst IsDictionary (sym attributes_are) (refl, tt, tt);
      entries = subst (All (λ e. IsEntryReadable s.types e.0 e.1)) (sym attributes_are) name_readable;
    });
    results = no_values;
    operands = ap operands_in new.holds;
    successors = ap successors_in new.holds;
  }

  block_good : IsBlockReadable s new.block
  block_good = record {
    label = subst IsNameOrMark (sym (ap label_in new.block_holds)) tt;
    arguments = record {
      types =
          λ k d lt. absurd (let none : k < 0 =
          subst (λ (l : List ℕ). k < length l) (ap arguments_in new.block_holds) lt in omega (arith, none));
      names =
          λ i lt. absurd (let none : i < 0 =
          subst (λ (l : List ℕ). i < length l) (ap arguments_in new.block_holds) lt in omega (arith, none));
    };
    only = λ k other. ap (λ v. dict_get (block_attributes_in v) k) new.block_holds;
  }

  -- ---- it has one level

  none_shown : shown o s p ≡ []
  none_shown = ap (λ k. shown_of o k (attributes_of s p)) kind_is ∙ ap (shown_of o (Some Module)) attributes_are

  one_block : blocks_under s p ≡ BasicBlock new.block ∷ []
  one_block = ap (flat_map (children s)) new.regions ∙ ap (λ l. l ++ []) new.blocks

  no_arguments : arguments_levels (map (argument_term s) (arguments_of s new.block)) ≡ 0
  no_arguments =
      ap (λ (l : List ℕ). arguments_levels
      (map (argument_term s) (map (λ i. record { entity = Block new.block; index = i }) (range_with_len 0 (length l)))))
      (ap arguments_in new.block_holds)

  module _ (write : IRNode → OpTerm) where
    no_ops : ops_levels (ops_of (map write (children s (BasicBlock new.block)))) ≡ 0
    no_ops = ap (λ l. ops_levels (ops_of (map write l))) new.empty

    low_blocks : blocks_levels (blocks_of (map (block_term s write) (blocks_under s p))) ≡ 0
    low_blocks =
        ap (λ l. blocks_levels (blocks_of (map (block_term s write) l))) one_block ∙ omega (arith, no_arguments, no_ops)

  low_entries : entries_levels (dictionary_term o s p) ≡ 0
  low_entries = ap (λ es. entries_levels (entry_terms s.types (entries_of es))) none_shown

  level : (j : ℕ) → op_levels (term_at o s (suc j) (Operation p)) ≤ 200
  level j =
      let bs = blocks_of (map (block_term s (term_at o s j)) (blocks_under s p)) in
      let blocks : blocks_levels bs ≡ 0 = low_blocks (term_at o s j) in
      subst (λ k. op_levels (term_of_kind o s k bs p) ≤ 200) (sym kind_is) (omega (arith, low_entries, blocks))

  pub new_module_readable : IsReadable o s p
  new_module_readable = record {
    ops = λ q u. elim (at_op u.0 (Operation q) u.1) [
      | inl e ↦ subst (λ z. IsOpReadable s z) (sym (same_Some q p (ap op_in e))) op_good
      | inr e ↦ elim e [
        | inl f ↦ absurd (none-some q (sym (ap op_in f)))
        | inr f ↦ absurd (none-some q (sym (ap op_in f)))
      ]
    ];
    blocks = λ b u. elim (at_op u.0 (BasicBlock b) u.1) [
      | inl e ↦ absurd (none-some b (sym (ap block_in e)))
      | inr e ↦ elim e [
        | inl f ↦ absurd (none-some b (sym (ap block_in f)))
        | inr f ↦ subst (λ z. IsBlockReadable s z) (sym (same_Some b new.block (ap block_in f))) block_good
      ]
    ];
    levels =
        let d = st.measured.deepest (Operation p) in
        let is : room s (Operation p) ≡ suc (limit s + 1 - depth s (Operation p)) = omega (arith, d) in
        subst (λ k. op_levels (term_at o s k (Operation p)) ≤ 200) (sym is)
        (level (limit s + 1 - depth s (Operation p)));
  }
