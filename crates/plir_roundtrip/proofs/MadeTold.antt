-- What was made of a written operation, whatever it uses, bears the same names, with values of the same types.
use Rattle.std.proofs.Common.{◌≡◌, ℕ, Bool, true, List, [], ◌∷◌, Option, Some, None, refl, sym, ap, subst, ◌∙◌}
use Rattle.std.specs.Prelude.{slice_get}
use Rattle.plir_data.specs.Types.{IsTypeTable}
use Rattle.plir_data.specs.declared.op_set.OpKind.{OpKind}
use Rattle.plir_data.specs.declared.op_set.OpKind.TheVariants.{Module, Func, Constant, ForwardRef, Own}
use Rattle.plir_data.specs.declared.op_set.OpSet as op_set
use Rattle.plir_store.specs.MemberLaws.{at-Has}
use Rattle.plir_store.specs.Members.{Has}
use Rattle.plir_core.specs.ContextView.{ContextView, children, kind_of, result_types_of, results_in, arg_types_of}
use Rattle.plir_core.specs.ContextView.{arguments_in, type_of_value}
use Rattle.plir_core.specs.Results.{result_of}
use Rattle.plir_core.specs.WellFormed.{IsWellFormed}
use Rattle.plir_core.specs.declared.ptr.Ptr.{Ptr}
use Rattle.plir_core.specs.declared.ptr.Operation.{Operation as OperationKind}
use Rattle.plir_core.specs.declared.ptr.BasicBlock.{BasicBlock as BlockKind}
use Rattle.plir_core.specs.declared.ptr.IRNode.{IRNode}
use Rattle.plir_core.specs.declared.ptr.IRNode.TheVariants.{Operation, BasicBlock}
use Rattle.plir_core.specs.declared.value.Value.{Value}
use Rattle.plir_attr_text.specs.Names.{Grows}
use Rattle.plir_walk.specs.Tree.{Place}
use Rattle.plir_print.specs.HeaderAttrs.{has_header_of}
use Rattle.plir_read.specs.OpsStanding.{IsBlockHeadAt}
use Rattle.plir_read_ir.specs.Mentions.{Mention, Scope, front_mentions, head_mentions}
use Rattle.plir_read_ir.specs.UseFaults.{IsFrontMade}
use Rattle.plir_roundtrip.specs.Readable.{IsOpReadable}
use Rattle.plir_roundtrip.specs.Written.{block_head_term}
use Rattle.plir_roundtrip.specs.IrReadable.{AreIrReadable, IsReadableAs}
use Rattle.plir_roundtrip.specs.IrWritten.{front_of}
use Rattle.plir_roundtrip.specs.SameIrTree.{AreAtOnePlace, IsSameValue}
use Rattle.plir_roundtrip.specs.UsesMeant.{IsMeantBelow, scope_in}
use Rattle.plir_roundtrip.proofs.IrChildren.{block_readable, child_readable, meant_in, op_readable}
use Rattle.plir_roundtrip.proofs.Mentioned.{SameScopes, Telling, front_said, head_said}
use Rattle.plir_roundtrip.proofs.OpParts.{constant_there}
use Rattle.plir_roundtrip.proofs.Related.{SayAlike, nothing_said, say_both}
use Rattle.plir_roundtrip.proofs.TypesKept.{argument_types_same, constant_type_same, own_types_same}

-- all below a node in a scope can be read, and what it uses means what is used, by what these mentions say
pub record IsKnown {D K A T E : Type 0} (o : op_set.Ghosts D K A T E) (find : List ℕ → Option K) (isolated : K → Bool)
    (s : ContextView K A T) (ms : List Mention) (at : Scope) (n : IRNode) : Type 0 where
  pub readable : AreIrReadable o find s n
  pub meant : (place : Place) → IsMeantBelow o isolated s ms place at n

module _ {D K A T E : Type 0} (o : op_set.Ghosts D K A T E) (find : List ℕ → Option K) (isolated : K → Bool)
    (s : ContextView K A T) (ms : List Mention) where
  pub known_in : (at : Scope) (n c : IRNode) → Has (children s n) c → IsKnown o find isolated s ms at n
      → IsKnown o find isolated s ms (scope_in o isolated s at n) c
  known_in at n c m known =
      let i = at-Has (children s n) c m in record {
        readable = child_readable o find s n c m known.readable;
        meant = λ place. meant_in o isolated s ms i.0 place at n c (known.meant (i.0 ∷ place)) i.1;
      }

module _ {K A T : Type 0} (s t : ContextView K A T) (x y : IRNode) where
  -- values with one index, of nodes at the same place, of the same type
  pub record IsTypedSame (v z : Value) : Type 0 where
    pub same : IsSameValue s t x y v z
    pub typed : type_of_value t z ≡ type_of_value s v

module _ {D K A T E : Type 0} (o : op_set.Ghosts D K A T E) (find : List ℕ → Option K) (isolated : K → Bool)
    (s t : ContextView K A T) (whole : IsWellFormed o.attr_handles s) (g : Grows s.types t.types)
    (table : IsTypeTable o.type_handles t.types) (x y : IRNode) (ms : List Mention) where
  abbrev Said : List Mention → List Mention → Type 0
  Said us vs = SayAlike s t x y (IsTypedSame s t x y) us vs

  results_alike : (p q : Ptr OperationKind) → AreAtOnePlace s t x y (Operation p) (Operation q)
      → result_types_of t q ≡ result_types_of s p → (i : ℕ) → IsTypedSame s t x y (result_of p i) (result_of q i)
  results_alike p q place types i = record {
    same = record { from = place; index = refl };
    typed = ap (λ (l : List ℕ). slice_get l i) types;
  }

  abbrev Told : (at bt : Scope) → (p q : Ptr OperationKind) → Option (OpKind K) → Type 0
  Told at bt p q kind =
      Said (front_mentions isolated at (Operation p) (front_of o s kind p))
      (front_mentions isolated bt (Operation q) (front_of o s kind p))

  fronts_told : (at bt : Scope) (p q : Ptr OperationKind) → SameScopes isolated s t x y at bt
      → AreAtOnePlace s t x y (Operation p) (Operation q) → IsKnown o find isolated s ms at (Operation p)
      → IsFrontMade t bt (Operation q) (front_of o s (kind_of s p) p)
      → Told at bt p q (kind_of s p)
  fronts_told at bt p q scopes place known h = by (kind_of s p) refl (op_readable o find s p known.readable) h
    where
      with_types : (kind : Option (OpKind K)) → result_types_of t q ≡ result_types_of s p → Told at bt p q kind
      with_types kind types =
          front_said isolated s t x y (IsTypedSame s t x y) at bt p q scopes (results_alike p q place types)
          (front_of o s kind p)

      of_constant : kind_of s p ≡ Some Constant → IsOpReadable s p
          → IsFrontMade t bt (Operation q) (front_of o s (Some Constant) p) → Told at bt p q (Some Constant)
      of_constant is r h =
          let headed : has_header_of s (Some Constant) p ≡ true =
          subst (λ z. has_header_of s z p ≡ true) is r.header in
          let c = constant_there s p headed in
          let handle : h.1 ≡ c.handle =
          constant_type_same o s t whole g table p c r.results h.1 h.2.typed in
          with_types (Some Constant) (ap results_in h.3 ∙ ap (λ z. z ∷ []) handle ∙ sym c.result)

      by : (kind : Option (OpKind K)) → kind_of s p ≡ kind → IsReadableAs o find s kind p
          → IsFrontMade t bt (Operation q) (front_of o s kind p) → Told at bt p q kind
      by (Some Module) is r h = nothing_said s t x y (IsTypedSame s t x y)
      by (Some Func) is r h = nothing_said s t x y (IsTypedSame s t x y)
      by (Some Constant) is r h = of_constant is r h
      by (Some ForwardRef) is r h = nothing_said s t x y (IsTypedSame s t x y)
      by (Some (Own k)) is r h =
          with_types (Some (Own k)) (ap results_in h.holds
          ∙ own_types_same o s t whole g table p r.results h.result_types h.results_typed)
      by None is r h = nothing_said s t x y (IsTypedSame s t x y)

  heads_told : (at bt : Scope) (b c : Ptr BlockKind) → SameScopes isolated s t x y at bt
      → AreAtOnePlace s t x y (BasicBlock b) (BasicBlock c) → IsKnown o find isolated s ms at (BasicBlock b)
      → IsBlockHeadAt t (BasicBlock c) (block_head_term s b)
      → Said (head_mentions isolated at (BasicBlock b) (block_head_term s b))
      (head_mentions isolated bt (BasicBlock c) (block_head_term s b))
  heads_told at bt b c scopes place known h =
      let types : arg_types_of t c ≡ arg_types_of s b =
      ap arguments_in h.2
      ∙ argument_types_same o s t whole g table b (block_readable o find s b known.readable) h.0 h.1 in
      head_said isolated s t x y (IsTypedSame s t x y) at bt b c scopes place (λ i. record {
        same = record { from = place; index = refl };
        typed = ap (λ (l : List ℕ). slice_get l i) types;
      }) (block_head_term s b)

  pub made_told : Telling o isolated s t x y (IsFrontMade t) (IsKnown o find isolated s ms) Said
  made_told = record {
    known_in = known_in o find isolated s ms;
    nothing = nothing_said s t x y (IsTypedSame s t x y);
    both = say_both s t x y (IsTypedSame s t x y);
    fronts = fronts_told;
    heads = heads_told;
  }
