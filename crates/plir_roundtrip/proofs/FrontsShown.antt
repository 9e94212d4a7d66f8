-- Heads of blocks, and operations where their regions are shown.
use Rattle.std.proofs.Common.{◌≡◌, ℕ, ◌<◌, true, List, [], ◌∷◌, ◌++◌, codes, length, map, Option, Some, None}
use Rattle.std.proofs.Common.{is_some, refl, sym, ap, subst, ◌∙◌, arith, append_assoc, append-nil}
use Rattle.std.specs.Prelude.{slice_get}
use Rattle.std.proofs.lemmas.Bool.{and_parts}
use Rattle.plir_data.specs.AttrView as views
use Rattle.plir_data.specs.AttrView.{AttrView}
use Rattle.plir_data.specs.Identifier.{is_identifier}
use Rattle.plir_data.specs.TypeTree.{tree_of}
use Rattle.plir_data.specs.declared.op_set.OpKind.{OpKind}
use Rattle.plir_data.specs.declared.op_set.OpKind.TheVariants.{Module, Func, Constant, ForwardRef, Own}
use Rattle.plir_data.specs.declared.op_set.OpSet as op_set
use Rattle.plir_core.specs.declared.ptr.Ptr.{Ptr}
use Rattle.plir_core.specs.declared.ptr.Operation.{Operation as OperationKind}
use Rattle.plir_core.specs.declared.ptr.IRNode.{IRNode}
use Rattle.plir_core.specs.declared.ptr.IRNode.TheVariants.{Operation}
use Rattle.plir_core.specs.declared.value.DefiningEntity.TheVariants.{Op}
use Rattle.plir_core.specs.ContextView.{ContextView, children, kind_of, op_at, attributes_of, result_types_of}
use Rattle.plir_attr_text.specs.Writable.{IsBuiltin, entry_terms}
use Rattle.plir_attr_text.specs.laws.Printed.{is_word}
use Rattle.plir_attr_text.specs.laws.Runs.{Shown, Tail, Shown-as}
use Rattle.plir_builtin.specs.BuiltinOps.{func_type_of, value_of}
use Rattle.plir_builtin.specs.ResultNames.{result_name}
use Rattle.plir_builtin.specs.Symbols.{name_held}
use Rattle.plir_print.specs.Dictionaries.{shown}
use Rattle.plir_print.specs.HeaderAttrs.{has_header_of}
use Rattle.plir_print.specs.Headers.{header_of}
use Rattle.plir_print.specs.OpText.{space_behind, line_of, results_text}
use Rattle.plir_print.specs.OpText.{op_front}
use Rattle.plir_read.specs.OpGrammar.{SpellsHead}
use Rattle.plir_read.specs.OpTerms.{Head, BlockHead}
use Rattle.plir_read_own.specs.OwnGrammar.{has_point}
use Rattle.plir_read_ir.specs.IrGrammar.{HasRegions, SpellsOp, SpellsRegions, own_kind}
use Rattle.plir_read_ir.specs.IrTerms.{bodied_front, IrOp, ir_op, IrRegions, blocks_of, regions_of}
use Rattle.plir_roundtrip.specs.Readable.{AreValuesReadable, IsBodyReadable, IsConstantReadable, IsKindReadable}
use Rattle.plir_roundtrip.specs.Readable.{IsOpReadable}
use Rattle.plir_roundtrip.specs.Written.{some_type_term, symbol_of}
use Rattle.plir_roundtrip.specs.Written.{head_term}
use Rattle.plir_roundtrip.specs.IrWritten.{front_of}
use Rattle.plir_roundtrip.proofs.EntriesShown.{shown_writable}
use Rattle.plir_roundtrip.proofs.Joined.{blank-shown, both-shown, tail-shown}
use Rattle.plir_roundtrip.proofs.OwnShown.{IsShownOwn, own_header-shown}
use Rattle.plir_roundtrip.proofs.PartsShown.{AreWritable}
use Rattle.plir_roundtrip.proofs.PartsShown.{module-shown, func-shown}
use Rattle.plir_roundtrip.proofs.PartsShown.{constant-shown}
use Rattle.plir_roundtrip.proofs.PrintedNames.{result_name_good}
use Rattle.plir_roundtrip.proofs.OpParts.{HoldsConstant, constant_there, at_first, some_type-shown, some_attr-shown}
use Rattle.plir_roundtrip.proofs.OpParts.{dictionary-shown, one_result, text_by, regroup, symbol_good}
use Rattle.plir_roundtrip.proofs.OpParts.{func_type_there}

-- ---- what is asked of an operation

module _ {D K A T E : Type 0} (o : op_set.Ghosts D K A T E) (find : List ℕ → Option K) (s : ContextView K A T) where
  -- an own operation: its id is a word that names its kind, and what stands before its regions can be written
  pub record IsOwnReady (k : K) (p : Ptr OperationKind) : Type 0 where
    pub is : is_word (o.kind_id k) ≡ true
    pub point : has_point (o.kind_id k) ≡ true
    pub found : own_kind find (o.kind_id k) ≡ Some k
    pub writable : AreWritable s.types (shown o s p)
    pub values : IsShownOwn s p

  abbrev pub IsReadyAs : Option (OpKind K) → Ptr OperationKind → Type 0
  IsReadyAs (Some (Own k)) p = IsOwnReady k p
  IsReadyAs _ p = IsOpReadable s p

-- regions in a row, and the first of them, if there is one
pub record RegionsShown {K : Type 0} (find : List ℕ → Option K) (rs : IrRegions K) (xs : List IRNode)
    (text : List ℕ) : Type 0 where
  pub tail : Tail (SpellsRegions find rs) text
  pub some : (x : IRNode) (ys : List IRNode) → xs ≡ x ∷ ys → Shown (SpellsRegions find rs) text

-- ---- one operation, where its regions are shown

module _ {D K A T E : Type 0} (o : op_set.Ghosts D K A T E) (find : List ℕ → Option K) (s : ContextView K A T) where
  bodied-shown : {header more : List ℕ} (n : ℕ) (head : Head) (es : List (List ℕ × AttrView A)) (rs : IrRegions K)
      → HasRegions (bodied_front (head, entry_terms s.types (views.entries_of es))) rs
      → AreWritable s.types es → Shown (SpellsHead head) header → Shown (SpellsRegions find rs) more
      → Tail (SpellsRegions find rs) more
      → Shown (SpellsOp find (ir_op (bodied_front (head, entry_terms s.types (views.entries_of es))) rs))
      (header ++ (32 ∷ (line_of o s.types n es ++ more)))
  bodied-shown n head es rs has w p q m =
      Shown-as (λ ts r. let behind = r.3 in (
        r.0 ++ behind.0,
        behind.1,
        has,
        (r.0, behind.0, r.2, behind.2, refl),
        behind.3,
        r.4 ∙ ap (λ l. r.0 ++ l) behind.4 ∙ sym (append_assoc r.0 behind.0 behind.1),
      )) (both-shown (dictionary-shown o s n es w q m) p)

  module _ (n : ℕ) (p : Ptr OperationKind) (write : IRNode → List (BlockHead × List (IrOp K))) (below : List ℕ)
      (regions : RegionsShown find (regions_of (map write (children s (Operation p)))) (children s (Operation p)) below)
    where
      abbrev written : IrRegions K
      written = regions_of (map write (children s (Operation p)))

      abbrev OpShown : Option (OpKind K) → Type 0
      OpShown kind = Shown (SpellsOp find (ir_op (front_of o s kind p) written)) (text_by o s n below kind p)

      -- a module and a function have one region
      body_shown : (r : IsBodyReadable s p) → Shown (SpellsRegions find written) below
      body_shown r = regions.some r.region [] r.body

      body_writable : IsBodyReadable s p → AreWritable s.types (shown o s p)
      body_writable r = shown_writable o s.types (kind_of s p) (attributes_of s p) r.dictionary r.entries

      module_shown : IsBodyReadable s p → has_header_of s (Some Module) p ≡ true → OpShown (Some Module)
      module_shown r e =
          subst (Shown (SpellsOp find (ir_op (front_of o s (Some Module) p) written)))
          (sym (regroup o s n (header_of o s (Some Module) p) below p r.results))
          (bodied-shown n (head_term s (Some Module) p) (shown o s p) written
          (blocks_of (write r.region), ap (λ l. regions_of (map write l)) r.body) (body_writable r)
          (module-shown (symbol_of s p) (symbol_good o s p r e)) (body_shown r) regions.tail)

      function_shown : IsBodyReadable s p → has_header_of s (Some Func) p ≡ true → OpShown (Some Func)
      function_shown r e =
          let ends = and_parts (is_some (name_held (op_at s p))) (is_some (func_type_of s p)) e in
          let type = func_type_there o s p r ends.1 in
          subst (Shown (SpellsOp find (ir_op (front_of o s (Some Func) p) written)))
          (sym (regroup o s n (header_of o s (Some Func) p) below p r.results))
          (bodied-shown n (head_term s (Some Func) p) (shown o s p) written
          (blocks_of (write r.region), ap (λ l. regions_of (map write l)) r.body) (body_writable r)
          (func-shown (symbol_of s p) (some_type_term s.types (func_type_of s p)) (symbol_good o s p r ends.0)
          (some_type-shown o s (func_type_of s p) type.0 type.1 type.2.1)) (body_shown r) regions.tail)

      -- the result's name, the value and the type
      constant_text : (c : HoldsConstant s p) → text_by o s n below (Some Constant) p ≡
          (result_name s p 0 ++ (32 ∷ 61 ∷ 32 ∷ header_of o s (Some Constant) p)) ++ below
      constant_text c =
          let header = header_of o s (Some Constant) p in
          ap (λ z. (results_text s p ++ z) ++ below) (append-nil header)
          ∙ ap (λ z. (z ++ header) ++ below) (one_result o s p c.handle c.result)
          ∙ ap (λ z. z ++ below) (append_assoc (result_name s p 0) (codes " = ") header)

      constant_shown : IsConstantReadable s p → AreValuesReadable s (Op p) → has_header_of s (Some Constant) p ≡ true
          → OpShown (Some Constant)
      constant_shown r v e =
          let c = constant_there s p e in
          let first : slice_get (result_types_of s p) 0 ≡ Some c.handle =
          ap (λ (l : List ℕ). slice_get l 0) c.result in
          let builtin : IsBuiltin (tree_of s.types c.handle) =
          at_first (λ h. IsBuiltin (tree_of s.types h)) (result_types_of s p) c.handle c.result v.types in
          let name : is_identifier (result_name s p 0) ≡ true =
          result_name_good s p 0 (v.names 0 (subst (λ (l : List ℕ). 0 < length l) (sym c.result) (omega arith))) in
          let front =
          constant-shown (result_name s p 0) _ _ name
          (some_attr-shown o s (value_of s p) c.value c.held (r.value c.value c.held))
          (some_type-shown o s (slice_get (result_types_of s p) 0) c.handle first builtin) in
          let none = ap (λ l. regions_of (map write l)) r.regions in
          subst (Shown (SpellsOp find (ir_op (front_of o s (Some Constant) p) written))) (sym (constant_text c))
          (Shown-as (λ ts q. (q.0, q.1, none, q.2, q.3, q.4)) (both-shown regions.tail front))

      -- the space before regions, where there are any
      spaced : (k : K) (xs : List IRNode) → children s (Operation p) ≡ xs
          → Tail (SpellsRegions find written) (space_behind (Some (Own k)) xs ++ below)
      spaced k [] e = regions.tail
      spaced k (x ∷ xs) e = tail-shown 32 refl (blank-shown 32 refl (regions.some x xs e))

      own_text : (k : K) → text_by o s n below (Some (Own k)) p ≡
          (results_text s p ++ header_of o s (Some (Own k)) p) ++
          (space_behind (Some (Own k)) (children s (Operation p)) ++ below)
      own_text k =
          let results = results_text s p in
          let header = header_of o s (Some (Own k)) p in
          let space = space_behind (Some (Own k)) (children s (Operation p)) in
          ap (λ z. (results ++ (header ++ z)) ++ below) (append-nil space)
          ∙ ap (λ z. z ++ below) (sym (append_assoc results header space))
          ∙ append_assoc (results ++ header) space below

      own_shown : (k : K) → IsOwnReady o find s k p → OpShown (Some (Own k))
      own_shown k r =
          subst (Shown (SpellsOp find (ir_op (front_of o s (Some (Own k)) p) written))) (sym (own_text k))
          (Shown-as (λ ts q. (q.0, q.1, tt, q.2, q.3, q.4))
          (both-shown (spaced k (children s (Operation p)) refl)
          (own_header-shown o s (own_kind find) k p r.is r.point r.found r.writable r.values)))

      pub op_front-shown : IsReadyAs o find s (kind_of s p) p
          → Shown (SpellsOp find (ir_op (front_of o s (kind_of s p) p) written)) (op_front o s n p ++ below)
      op_front-shown ready = at (kind_of s p) refl ready
        where
          builtin : (kind : Option (OpKind K)) → kind_of s p ≡ kind → IsOpReadable s p → IsKindReadable s kind p
          builtin kind is r = subst (λ z. IsKindReadable s z p) is r.kind

          headed : (kind : Option (OpKind K)) → kind_of s p ≡ kind → IsOpReadable s p → has_header_of s kind p ≡ true
          headed kind is r = subst (λ z. has_header_of s z p ≡ true) is r.header

          at : (kind : Option (OpKind K)) → kind_of s p ≡ kind → IsReadyAs o find s kind p → OpShown kind
          at (Some Module) is r = module_shown (builtin (Some Module) is r) (headed (Some Module) is r)
          at (Some Func) is r = function_shown (builtin (Some Func) is r) (headed (Some Func) is r)
          at (Some Constant) is r =
              constant_shown (builtin (Some Constant) is r) r.results (headed (Some Constant) is r)
          at (Some ForwardRef) is r = absurd (builtin (Some ForwardRef) is r)
          at (Some (Own k)) is r = own_shown k r
          at None is r = absurd (builtin None is r)
