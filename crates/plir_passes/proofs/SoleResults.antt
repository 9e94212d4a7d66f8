-- An operation without regions is unused once another value has come in place of its one result.
use Rattle.std.proofs.Common.{◌≡◌, ◌<◌, ℕ, List, [], length, Option, Some, None, arith, nat_lt, refl, sym, ap, subst}
use Rattle.std.proofs.Common.{◌∙◌}
use Rattle.std.specs.Prelude.{All, Contains}
use Rattle.std.proofs.lemmas.Bool.{and_parts, ltb-true}
use Rattle.std.proofs.lemmas.List.Elements.{All-contains}
use Rattle.std.proofs.lemmas.Option.{slice_get_within, get_or_from_slice_get}
use Rattle.plir_core.specs.declared.ptr.Ptr.{Ptr}
use Rattle.plir_core.specs.declared.ptr.Operation.{Operation as OperationKind}
use Rattle.plir_core.specs.declared.ptr.IRNode.TheVariants.{Operation}
use Rattle.plir_core.specs.declared.value.Value.{Value}
use Rattle.plir_core.specs.declared.value.DefiningEntity.TheVariants.{Op}
use Rattle.plir_core.specs.Contents.{OpView}
use Rattle.plir_core.specs.Forest.{look, IsForest}
use Rattle.plir_core.specs.Results.{result_of}
use Rattle.plir_core.specs.Rewired.{IsRewired}
use Rattle.plir_core.specs.Unused.{IsUnusedOutside}
use Rattle.plir_core.specs.WellFormed.{IsWellFormed}
use Rattle.plir_core.specs.ContextView.{ContextView, IsLive, IsValueLive, children, is_live, op_at, operands_in}
use Rattle.plir_core.specs.ContextView.{operands_of, result_types_of}
use Rattle.plir_walk.specs.NodeLaws.{reach-leaf}
use Rattle.plir_passes.specs.Dead.{IsUsedByNone}
use Rattle.plir_passes.proofs.Unused.{by-none-unused}

module _ {K A T : Type 0} (own : A → List ℕ) (s t : ContextView K A T) (op : Ptr OperationKind) (x : Value)
    (w : IsForest (look t)) (whole : IsWellFormed own t) (single : length (result_types_of s op) ≡ 1)
    (none : children s (Operation op) ≡ []) (apart : x.entity ≡ Op op → ⊥)
    (r : IsRewired s t (result_of op 0) x) where
  operands_live : (o : Option (OpView K A)) (q : Ptr OperationKind) → op_at t q ≡ o → All (IsValueLive t) (operands_in o)
  operands_live None q e = λ k d h. absurd (omega (arith, h))
  operands_live (Some v) q e = (whole.holds.ops q.slot v e).operands

  by-none : IsUsedByNone t op
  by-none q l ne u =
      let v = result_of op u.index in
      let c : Contains (operands_of t q) v = (
        u.place,
        slice_get_within (operands_of t q) u.place v u.here,
        get_or_from_slice_get (operands_of t q) u.place v v u.here,
      ) in
      let lives : IsValueLive t v = All-contains (IsValueLive t) (operands_of t q) v (operands_live (op_at t q) q refl) c in
      let below : u.index < length (result_types_of s op) =
      ltb-true u.index (length (result_types_of s op))
      (and_parts (is_live s (Operation op)) (nat_lt u.index (length (result_types_of s op)))
      (sym (r.values v) ∙ lives)).1 in
      let first : u.index ≡ 0 = omega (arith, below, single) in
      r.gone (λ e. apart (ap (λ z. z.entity) (sym e)))
      (subst (λ z. (p : Ptr OperationKind) × (IsLive t (Operation p) × Contains (operands_of t p) (result_of op z))) first
      (q, (l, c)))

  pub replaced-unused : IsUnusedOutside t (Operation op)
  replaced-unused =
      by-none-unused t op
      (λ n h. reach-leaf t (Operation op) w (r.keeps.children (Operation op) ∙ none) h.0 n h.1) by-none
