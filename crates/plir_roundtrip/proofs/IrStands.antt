-- The text of an operation of any kind stands for it.
use Rattle.std.proofs.Common.{◌≡◌, ℕ, suc, List, [], ◌∷◌, All, length, inl, inr, Option, Some, None, refl}
use Rattle.std.proofs.Common.{subst, arith, append-nil, get_or}
use Rattle.std.specs.Prelude.{nat_lt}
use Rattle.std.proofs.lemmas.Bool.{and_parts, ltb-true}
use Rattle.std.proofs.lemmas.Option.{slice_get-get_or}
use Rattle.plir_data.specs.declared.op_set.OpKind.{OpKind}
use Rattle.plir_data.specs.declared.op_set.OpKind.TheVariants.{Module, Func, Constant, ForwardRef, Own}
use Rattle.plir_data.specs.declared.op_set.OpSet as op_set
use Rattle.plir_store.specs.Members.{Has}
use Rattle.plir_core.specs.declared.ptr.Ptr.{Ptr}
use Rattle.plir_core.specs.declared.ptr.Operation.{Operation as OperationKind}
use Rattle.plir_core.specs.declared.ptr.IRNode.TheVariants.{Operation}
use Rattle.plir_core.specs.declared.value.Value.{Value}
use Rattle.plir_core.specs.Contents.{OpView}
use Rattle.plir_core.specs.Standing.{IsStanding}
use Rattle.plir_core.specs.ContextView.{ContextView, IsValueLive, attributes_of, entity_node, is_live, kind_of}
use Rattle.plir_core.specs.ContextView.{label_of}
use Rattle.plir_core.specs.ContextView.{op_at, operands_in, operands_of, successors_of, types_from}
use Rattle.plir_core.specs.WellFormed.{IsWellFormed}
use Rattle.plir_attr_text.specs.Tokens.{Token, Begins}
use Rattle.plir_attr_text.specs.TypeGrammar.{IsText}
use Rattle.plir_attr_text.specs.Writable.{IsNameOrMark}
use Rattle.plir_attr_text.specs.laws.Runs.{Shown}
use Rattle.plir_print.specs.OpText.{op_text, room}
use Rattle.plir_read_ir.specs.IrGrammar.{IrWithin}
use Rattle.plir_roundtrip.specs.IrReadable.{HasReadableText, IsOwnReadable, IsReadableAs, IsUseReadable}
use Rattle.plir_roundtrip.specs.IrWritten.{ir_term_of}
use Rattle.plir_roundtrip.proofs.Children.{HasRoom}
use Rattle.plir_roundtrip.proofs.EntriesShown.{shown_writable}
use Rattle.plir_roundtrip.proofs.FrontsShown.{IsOwnReady, IsReadyAs}
use Rattle.plir_roundtrip.proofs.Ids.{id_has_point, id_is_word}
use Rattle.plir_roundtrip.proofs.IrShown.{op-shown}
use Rattle.plir_roundtrip.proofs.OwnShown.{IsShownValue, result_shown}

-- a text that is tokens which spell something stands for it
pub whole_text : {X : Type 0} (E : X → List Token → Type 0) (x : X) (text : List ℕ) → Shown (E x) text → IsText E text x
whole_text E x text p = record {
  tokens = p.first ∷ p.others;
  are_tokens =
      record {
        rest = [];
        begins = subst (λ bytes. Begins bytes (p.first ∷ p.others) []) (append-nil text) (p.begun [] tt);
        blank = refl;
      };
  spelled = p.spelled;
}

-- what is said of all is said of each
pub of_each : {X : Type 0} (P : X → Type 0) (xs : List X) (x : X) → All P xs → Has xs x → P x
of_each P [] x all h = absurd h
of_each P (y ∷ xs) x all (inl e) = subst P e (all 0 y (omega arith))
of_each P (y ∷ xs) x all (inr h) = of_each P xs x (λ k d lt. all (suc k) d (omega (arith, lt))) h

module _ {D K A T E : Type 0} (o : op_set.Ghosts D K A T E) (find : List ℕ → Option K) (s : ContextView K A T)
    (whole : IsWellFormed o.attr_handles s) where
  operands_live : (p : Ptr OperationKind) → All (IsValueLive s) (operands_of s p)
  operands_live p = at (op_at s p) refl
    where
      at : (v : Option (OpView K A)) → op_at s p ≡ v → All (IsValueLive s) (operands_in v)
      at None e = λ k d lt. absurd (omega (arith, lt))
      at (Some v) e = (whole.holds.ops p.slot v e).operands

  use_shown : (v : Value) → IsValueLive s v → IsUseReadable o find s v → IsShownValue s v
  use_shown v live r =
      let ends = and_parts (is_live s (entity_node v.entity)) (nat_lt v.index (length (types_from s v.entity))) live in
      let lt = ltb-true v.index (length (types_from s v.entity)) ends.1 in
      let has = slice_get-get_or (types_from s v.entity) v.index 0 lt in
      record {
        named = r.1;
        handle = get_or (types_from s v.entity) v.index 0;
        has = has;
        builtin = r.0 (get_or (types_from s v.entity) v.index 0) has;
      }

  own_ready : (k : K) (p : Ptr OperationKind) → IsOwnReadable o find s k p → IsOwnReady o find s k p
  own_ready k p r = record {
    is = id_is_word (o.kind_id k) r.id;
    point = id_has_point (o.kind_id k) r.id;
    found = r.found;
    writable = shown_writable o s.types (kind_of s p) (attributes_of s p) r.dictionary r.entries;
    values = record {
      operands =
          λ v h. use_shown v (of_each (IsValueLive s) (operands_of s p) v (operands_live p) h)
          (of_each (IsUseReadable o find s) (operands_of s p) v r.operands h);
      results = result_shown s p r.results;
      successors = λ b h. of_each (λ c. IsNameOrMark (label_of s c)) (successors_of s p) b r.successors h;
    };
  }

  ready : (kind : Option (OpKind K)) (p : Ptr OperationKind) → IsReadableAs o find s kind p
      → IsReadyAs o find s kind p
  ready (Some Module) p r = r
  ready (Some Func) p r = r
  ready (Some Constant) p r = r
  ready (Some ForwardRef) p r = r
  ready (Some (Own k)) p r = own_ready k p r
  ready None p r = r

  -- the text of an operation stands for it, as it is written
  pub ir_stands : IsStanding s → (p : Ptr OperationKind) → HasReadableText o find s p
      → IsText (IrWithin find 200) (op_text o s p) (ir_term_of o s p)
  ir_stands st p readable =
      let enough : HasRoom s (Operation p) (room s (Operation p)) = omega arith in
      let shown =
      op-shown o find s st (λ q r. ready (kind_of s q) q r) (room s (Operation p)) 0 (room s (Operation p)) p enough
      enough readable.nodes in
      whole_text (IrWithin find 200) (ir_term_of o s p) (op_text o s p) (record {
        first = shown.first;
        others = shown.others;
        spelled = (shown.spelled, readable.levels);
        begun = shown.begun;
      })
