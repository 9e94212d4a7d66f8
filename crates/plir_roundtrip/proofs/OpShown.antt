-- The text of an operation is tokens that stand for it.
use Rattle.std.proofs.Common.{◌≡◌, ℕ, zero, suc, ◌+◌, ◌<◌, true, false, List, [], ◌∷◌, ◌++◌, codes, length, map, inl}
use Rattle.std.proofs.Common.{inr, Option, Some, None, is_some, refl, sym, ap, subst, ◌∙◌, arith, append_assoc}
use Rattle.std.proofs.Common.{append-nil, flat_map}
use Rattle.std.specs.Prelude.{slice_get}
use Rattle.std.proofs.lemmas.Bool.{and_parts}
use Rattle.plir_data.specs.AttrView as views
use Rattle.plir_data.specs.AttrView.{AttrView}
use Rattle.plir_data.specs.Identifier.{is_identifier}
use Rattle.plir_data.specs.TypeTree.{tree_of}
use Rattle.plir_data.specs.declared.op_set.OpKind.{OpKind}
use Rattle.plir_data.specs.declared.op_set.OpKind.TheVariants.{Module, Func, Constant, ForwardRef, Own}
use Rattle.plir_data.specs.declared.op_set.OpSet as op_set
use Rattle.plir_core.specs.declared.ptr.Ptr.{Ptr}
use Rattle.plir_core.specs.declared.ptr.Operation.{Operation as OperationKind}
use Rattle.plir_core.specs.declared.ptr.Region.{Region as RegionKind}
use Rattle.plir_core.specs.declared.ptr.BasicBlock.{BasicBlock as BlockKind}
use Rattle.plir_core.specs.declared.ptr.IRNode.{IRNode}
use Rattle.plir_core.specs.declared.ptr.IRNode.TheVariants.{Operation, Region, BasicBlock}
use Rattle.plir_core.specs.declared.value.DefiningEntity.TheVariants.{Op}
use Rattle.plir_store.specs.Members.{Has}
use Rattle.plir_core.specs.Standing.{IsStanding}
use Rattle.plir_core.specs.ContextView.{ContextView, children, kind_of, op_at, attributes_of, result_types_of}
use Rattle.plir_attr_text.specs.laws.Runs.{Shown, Tail, Shown-as, Tail-as, nothing}
use Rattle.plir_attr_text.specs.Tokens.{Token, sign}
use Rattle.plir_attr_text.specs.TypeGrammar.{enclosed}
use Rattle.plir_attr_text.specs.Writable.{IsBuiltin, entry_terms}
use Rattle.plir_builtin.specs.BuiltinOps.{func_type_of, value_of}
use Rattle.plir_builtin.specs.ResultNames.{result_name}
use Rattle.plir_builtin.specs.Symbols.{name_held}
use Rattle.plir_print.specs.Dictionaries.{shown}
use Rattle.plir_print.specs.HeaderAttrs.{has_header_of}
use Rattle.plir_print.specs.Headers.{header_of}
use Rattle.plir_data.specs.TextParts.{parted, parted_from}
use Rattle.plir_print.specs.OpText.{line, line_of, results_text}
use Rattle.plir_print.specs.OpText.{text_at}
use Rattle.plir_read.specs.OpGrammar.{SpellsHead, SpellsBlockHead, SpellsOp}
use Rattle.plir_read.specs.OpGrammar.{SpellsOps, SpellsMoreOps, SpellsBlocks}
use Rattle.plir_read.specs.OpTerms.{Head, OpTerm, op_term, BlockTerm, BlockTerms, ops_of, blocks_of}
use Rattle.plir_roundtrip.specs.Readable.{AreValuesReadable, IsBodyReadable, IsConstantReadable}
use Rattle.plir_roundtrip.specs.Readable.{IsKindReadable, IsOpReadable}
use Rattle.plir_roundtrip.specs.Written.{some_type_term, block_term}
use Rattle.plir_roundtrip.specs.Written.{blocks_under, symbol_of, head_term, term_of_kind, term_at}
use Rattle.plir_roundtrip.proofs.Joined.{tail-shown, run-shown, line-shown, Then, both-shown, sign-shown}
use Rattle.plir_roundtrip.proofs.Joined.{look-semicolon, Between, braced}
use Rattle.plir_roundtrip.specs.ReadableParts.{AllReadable}
use Rattle.plir_roundtrip.proofs.Children.{child_of_region, child_of_block, only_region, child_readable, op_readable}
use Rattle.plir_roundtrip.proofs.Children.{block_readable, HasRoom, some_room, child_room, lower_room}
use Rattle.plir_roundtrip.proofs.PartsShown.{AreWritable}
use Rattle.plir_roundtrip.proofs.PartsShown.{module-shown, func-shown}
use Rattle.plir_roundtrip.proofs.PartsShown.{constant-shown}
use Rattle.plir_roundtrip.proofs.PrintedNames.{result_name_good}
use Rattle.plir_roundtrip.proofs.EntriesShown.{shown_writable}
use Rattle.plir_roundtrip.proofs.OpParts.{constant_there, at_first, some_type-shown, some_attr-shown}
use Rattle.plir_roundtrip.proofs.OpParts.{block_front-shown, dictionary-shown, one_result, text_by, regroup}
use Rattle.plir_roundtrip.proofs.OpParts.{func_type_there, symbol_good}

-- ---- operations and blocks in a row

module _ (write : IRNode → OpTerm) (text : IRNode → List ℕ) (n : ℕ) where
  more_ops-shown : (xs : List IRNode) → ((x : IRNode) → Has xs x → Shown (SpellsOp (write x)) (text x))
      → Tail (SpellsMoreOps (ops_of (map write xs))) (parted_from false (codes ";") (λ x. line n ++ text x) xs)
  more_ops-shown [] each = nothing
  more_ops-shown (x ∷ xs) each =
      Tail-as (λ ts s. (s.1.0, s.1.1, s.1.2, s.1.3, s.2 ∙ ap (λ l. sign 59 ∷ l) s.1.4))
      (tail-shown 59 refl (sign-shown 59 look-semicolon
      (run-shown (both-shown (more_ops-shown xs (λ y h. each y (inr h))) (line-shown n (each x (inl refl)))))))

  pub ops-shown : (xs : List IRNode) → ((x : IRNode) → Has xs x → Shown (SpellsOp (write x)) (text x))
      → Tail (SpellsOps (ops_of (map write xs))) (parted (codes ";") (λ x. line n ++ text x) xs)
  ops-shown [] each = nothing
  ops-shown (x ∷ xs) each =
      tail-shown 10 refl (both-shown (more_ops-shown xs (λ y h. each y (inr h))) (line-shown n (each x (inl refl))))

-- a block with its operations
abbrev pub SpellsBlock : BlockTerm → List Token → Type 0
SpellsBlock b = Then (SpellsBlockHead b.0) (SpellsOps (ops_of b.1))

module _ (write : IRNode → BlockTerm) (text : IRNode → List ℕ) (n : ℕ) where
  pub blocks-shown : (xs : List IRNode) → ((x : IRNode) → Has xs x → Shown (SpellsBlock (write x)) (text x))
      → Tail (SpellsBlocks (blocks_of (map write xs))) (flat_map (λ x. line n ++ text x) xs)
  blocks-shown [] each = nothing
  blocks-shown (x ∷ xs) each =
      tail-shown 10 refl (Shown-as (λ ts s.
      (s.2.0, s.2.1, s.1, s.2.2, s.2.3, s.3, s.4 ∙ ap (λ l. l ++ s.1) s.2.4 ∙ append_assoc s.2.0 s.2.1 s.1))
      (both-shown (blocks-shown xs (λ y h. each y (inr h))) (line-shown n (each x (inl refl)))))

-- ---- one operation and one block, where what is in it is shown

module _ {D K A T E : Type 0} (o : op_set.Ghosts D K A T E) (s : ContextView K A T) where
  -- a header and a body
  bodied-shown : {header more : List ℕ} (n : ℕ) (head : Head) (es : List (List ℕ × AttrView A)) (bs : BlockTerms)
      → AreWritable s.types es → Shown (SpellsHead head) header → Shown (Between 123 125 (SpellsBlocks bs)) more
      → Tail (Between 123 125 (SpellsBlocks bs)) more
      → Shown (SpellsOp (op_term (head, entry_terms s.types (views.entries_of es)) bs))
      (header ++ (32 ∷ (line_of o s.types n es ++ more)))
  bodied-shown n head es bs w p q m =
      Shown-as (λ ts r. let behind = r.3 in let body = behind.3 in (
        r.0 ++ behind.0,
        body.0,
        (r.0, behind.0, r.2, behind.2, refl),
        body.1,
        r.4 ∙ ap (λ l. r.0 ++ l) (behind.4 ∙ ap (λ l. behind.0 ++ l) body.2)
            ∙ sym (append_assoc r.0 behind.0 (enclosed 123 body.0 125)),
      )) (both-shown (dictionary-shown o s n es w q m) p)

  -- ---- by the kind of the operation

  module _ (n : ℕ) (p : Ptr OperationKind) (bs : BlockTerms) (below : List ℕ) where
    module_shown : IsBodyReadable s p → Shown (Between 123 125 (SpellsBlocks bs)) below
        → Tail (Between 123 125 (SpellsBlocks bs)) below → AreWritable s.types (shown o s p)
        → has_header_of s (Some Module) p ≡ true
        → Shown (SpellsOp (term_of_kind o s (Some Module) bs p)) (text_by o s n below (Some Module) p)
    module_shown r q m w e =
        subst (Shown (SpellsOp (term_of_kind o s (Some Module) bs p)))
        (sym (regroup o s n (header_of o s (Some Module) p) below p r.results))
        (bodied-shown n (head_term s (Some Module) p) (shown o s p) bs w
        (module-shown (symbol_of s p) (symbol_good o s p r e)) q m)

    function_shown : IsBodyReadable s p → Shown (Between 123 125 (SpellsBlocks bs)) below
        → Tail (Between 123 125 (SpellsBlocks bs)) below → AreWritable s.types (shown o s p)
        → has_header_of s (Some Func) p ≡ true
        → Shown (SpellsOp (term_of_kind o s (Some Func) bs p)) (text_by o s n below (Some Func) p)
    function_shown r q m w e =
        let ends = and_parts (is_some (name_held (op_at s p))) (is_some (func_type_of s p)) e in
        let type = func_type_there o s p r ends.1 in
        subst (Shown (SpellsOp (term_of_kind o s (Some Func) bs p)))
        (sym (regroup o s n (header_of o s (Some Func) p) below p r.results))
        (bodied-shown n (head_term s (Some Func) p) (shown o s p) bs w
        (func-shown (symbol_of s p) (some_type_term s.types (func_type_of s p)) (symbol_good o s p r ends.0)
        (some_type-shown o s (func_type_of s p) type.0 type.1 type.2.1)) q m)

    constant_shown : IsConstantReadable s p → AreValuesReadable s (Op p) → has_header_of s (Some Constant) p ≡ true
        → below ≡ [] → Shown (SpellsOp (term_of_kind o s (Some Constant) bs p)) (text_by o s n below (Some Constant) p)
    constant_shown r v e none =
        let c = constant_there s p e in
        let first : slice_get (result_types_of s p) 0 ≡ Some c.handle = ap (λ (l : List ℕ). slice_get l 0) c.result in
        let builtin : IsBuiltin (tree_of s.types c.handle) =
        at_first (λ h. IsBuiltin (tree_of s.types h)) (result_types_of s p) c.handle c.result v.types in
        let name : is_identifier (result_name s p 0) ≡ true =
        result_name_good s p 0 (v.names 0 (subst (λ (l : List ℕ). 0 < length l) (sym c.result) (omega arith))) in
        let made =
        constant-shown (result_name s p 0) _ _ name
        (some_attr-shown o s (value_of s p) c.value c.held (r.value c.value c.held))
        (some_type-shown o s (slice_get (result_types_of s p) 0) c.handle first builtin) in
        let header = header_of o s (Some Constant) p in
        let text : text_by o s n below (Some Constant) p ≡ result_name s p 0 ++ (32 ∷ 61 ∷ 32 ∷ header) =
        ap (λ z. (results_text s p ++ (header ++ [])) ++ z) none
        ∙ append-nil (results_text s p ++ (header ++ []))
        ∙ ap (λ z. results_text s p ++ z) (append-nil header)
        ∙ ap (λ z. z ++ header) (one_result o s p c.handle c.result)
        ∙ append_assoc (result_name s p 0) (codes " = ") header in
        subst (Shown (SpellsOp (term_of_kind o s (Some Constant) bs p))) (sym text) made

-- ---- an operation with all below it

module _ {D K A T E : Type 0} (o : op_set.Ghosts D K A T E) (s : ContextView K A T) (st : IsStanding s) where
  -- the blocks of a region, as they are written
  abbrev blocks_in : (j : ℕ) → IRNode → BlockTerms
  blocks_in j r = blocks_of (map (block_term s (term_at o s j)) (children s r))

  -- the text of the one region is that of all
  one_region : (k n : ℕ) (p : Ptr OperationKind) (r : IRNode) → children s (Operation p) ≡ r ∷ []
      → flat_map (text_at o s k n) (children s (Operation p)) ≡ text_at o s k n r
  one_region k n p r e = ap (flat_map (text_at o s k n)) e ∙ append-nil (text_at o s k n r)

  one_body : (p : Ptr OperationKind) (r : IRNode) → children s (Operation p) ≡ r ∷ [] → blocks_under s p ≡ children s r
  one_body p r e = ap (flat_map (children s)) e ∙ append-nil (children s r)

  there : (p : Ptr OperationKind) (r : IRNode) → children s (Operation p) ≡ r ∷ [] → Has (children s (Operation p)) r
  there p r e = subst (λ l. Has l r) (sym e) (inl refl)

  -- a module or a function, by its region
  abbrev RegionShown : (k n j : ℕ) → Ptr RegionKind → Type 0
  RegionShown k n j r =
      Shown (Between 123 125 (SpellsBlocks (blocks_in j (Region r)))) (text_at o s k n (Region r)) ×
      Tail (Between 123 125 (SpellsBlocks (blocks_in j (Region r)))) (text_at o s k n (Region r))

  over_region : (k n j : ℕ) (p : Ptr OperationKind) (readable : IsOpReadable s p)
      → ((r : Ptr RegionKind) → children s (Operation p) ≡ Region r ∷ [] → RegionShown k n j r)
      → Shown (SpellsOp (term_at o s (suc j) (Operation p))) (text_at o s (suc k) n (Operation p))
  over_region k n j p readable inside = at (kind_of s p) refl readable.kind readable.header
    where
      bs : BlockTerms
      bs = blocks_of (map (block_term s (term_at o s j)) (blocks_under s p))

      below : List ℕ
      below = flat_map (text_at o s k n) (children s (Operation p))

      body : (b : IsBodyReadable s p)
          → Shown (Between 123 125 (SpellsBlocks bs)) below × Tail (Between 123 125 (SpellsBlocks bs)) below
      body b =
          let r = only_region s p b.region b.body in
          let is : children s (Operation p) ≡ Region r.0 ∷ [] = b.body ∙ ap (λ x. x ∷ []) r.1 in
          let q = inside r.0 is in
          let text = sym (one_region k n p (Region r.0) is) in
          let term = ap (λ l. blocks_of (map (block_term s (term_at o s j)) l)) (sym (one_body p (Region r.0) is)) in (
            subst (Shown (Between 123 125 (SpellsBlocks bs))) text
                (subst (λ z. Shown (Between 123 125 (SpellsBlocks z)) (text_at o s k n (Region r.0))) term q.0),
            subst (Tail (Between 123 125 (SpellsBlocks bs))) text
                (subst (λ z. Tail (Between 123 125 (SpellsBlocks z)) (text_at o s k n (Region r.0))) term q.1),
          )

      writable : (b : IsBodyReadable s p) → AreWritable s.types (shown o s p)
      writable b = shown_writable o s.types (kind_of s p) (attributes_of s p) b.dictionary b.entries

      at : (kind : Option (OpKind K)) → kind_of s p ≡ kind → IsKindReadable s kind p → has_header_of s kind p ≡ true
          → Shown (SpellsOp (term_of_kind o s kind bs p)) (text_by o s n below kind p)
      at (Some Module) is b e = let q = body b in module_shown o s n p bs below b q.0 q.1 (writable b) e
      at (Some Func) is b e = let q = body b in function_shown o s n p bs below b q.0 q.1 (writable b) e
      at (Some Constant) is b e =
          constant_shown o s n p bs below b readable.results e (ap (flat_map (text_at o s k n)) b.regions)
      at (Some ForwardRef) is b e = absurd b
      at (Some (Own x)) is b e = absurd b
      at None is b e = absurd b

  mutual
    pub op-shown : (k n j : ℕ) (p : Ptr OperationKind) → HasRoom s (Operation p) k → HasRoom s (Operation p) j
        → AllReadable s (Operation p) → Shown (SpellsOp (term_at o s j (Operation p))) (text_at o s k n (Operation p))
    op-shown zero n j p room enough all = absurd (some_room s st (Operation p) room)
    op-shown (suc k) n zero p room enough all = absurd (some_room s st (Operation p) enough)
    op-shown (suc k) n (suc j) p room enough all =
        over_region k n j p (op_readable s p all) (λ r is.
        let h = there p (Region r) is in
        region-shown k n j r (child_room s st (Operation p) (Region r) k h room)
        (child_room s st (Operation p) (Region r) j h enough) (child_readable s (Operation p) (Region r) h all))

    region-shown : (k n j : ℕ) (r : Ptr RegionKind) → HasRoom s (Region r) k → HasRoom s (Region r) j
        → AllReadable s (Region r) → RegionShown k n j r
    region-shown zero n j r room enough all = absurd (some_room s st (Region r) room)
    region-shown (suc k) n j r room enough all =
        let shown =
        braced n (blocks-shown (block_term s (term_at o s j)) (text_at o s k (n + 2)) (n + 2)
        (children s (Region r)) (λ x h. block-shown k (n + 2) j x (child_of_region s r x h)
        (child_room s st (Region r) x k h room) (lower_room s st (Region r) x j h enough)
        (child_readable s (Region r) x h all))).run in
        (shown, tail-shown 10 refl shown)

    block-shown : (k n j : ℕ) (x : IRNode) → (b : Ptr BlockKind) × (x ≡ BasicBlock b) → HasRoom s x k → HasRoom s x j
        → AllReadable s x → Shown (SpellsBlock (block_term s (term_at o s j) x)) (text_at o s k n x)
    block-shown zero n j x is room enough all = absurd (some_room s st x room)
    block-shown (suc k) n j x is room enough all =
        let b = is.0 in
        let here = subst (λ z. AllReadable s z) is.1 all in
        let front = block_front-shown o s b (block_readable s b here) in
        let inner = ops-shown (term_at o s j) (text_at o s k (n + 2)) (n + 2) (children s (BasicBlock b)) (λ y h.
        let up = subst (λ z. Has (children s z) y) (sym is.1) h in
        let q = child_of_block s b y h in
        subst (λ z. Shown (SpellsOp (term_at o s j z)) (text_at o s k (n + 2) z)) (sym q.1)
        (op-shown k (n + 2) j q.0 (subst (λ z. HasRoom s z k) q.1 (child_room s st x y k up room))
        (subst (λ z. HasRoom s z j) q.1 (lower_room s st x y j up enough))
        (subst (AllReadable s) q.1 (child_readable s x y up all)))) in
        subst (λ z. Shown (SpellsBlock (block_term s (term_at o s j) z)) (text_at o s (suc k) n z)) (sym is.1)
        (both-shown inner front)
