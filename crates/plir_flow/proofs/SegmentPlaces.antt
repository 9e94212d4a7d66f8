-- The types in a segment, among the types of all operands.
use Rattle.std.proofs.Common.{◌≡◌, ◌↔◌, ℕ, ◌+◌, ◌-◌, ◌<◌, Bool, length, Option, Some, None, refl, sym, ap, subst, ◌∙◌}
use Rattle.std.proofs.Common.{arith}
use Rattle.std.specs.Prelude.{option_map, option_and_then, IsNone, IfSome}
use Rattle.std.proofs.lemmas.List.{length-map}
use Rattle.std.proofs.lemmas.Option.{slice_get-map}
use Rattle.plir_data.specs.Types.{TypeView}
use Rattle.plir_core.specs.declared.ptr.Ptr.{Ptr}
use Rattle.plir_core.specs.declared.ptr.Operation.{Operation as OperationKind}
use Rattle.plir_core.specs.ContextView.{ContextView, operands_of, type_of_value}
use Rattle.plir_iface.specs.Counts.{operand_types}
use Rattle.plir_iface.specs.Sides.{type_in}
use Rattle.plir_iface.specs.TypeRules.{Passes, EachPasses, IsFirstFailing, IsBetween}
use Rattle.plir_flow.specs.Segments.{segment_at, segments_of, segment_size, num_segments, sizes_of, start_in}
use Rattle.plir_flow.specs.Segments.{IsSegmented}
use Rattle.plir_flow.specs.SegmentTypes.{segment_types, FailsFirstIn}
use Rattle.plir_flow.proofs.SegmentsPut.{size-is, value-is}

module _ {K A T : Type 0} (s : ContextView K A T) (op : Ptr OperationKind) (n : ℕ) (w : IsSegmented s op)
    (below : n < num_segments s op) where
  abbrev start : ℕ
  start = start_in (sizes_of s op) n

  pub count-types : length (segment_types s op n) ≡ segment_size s op n
  count-types = length-map (segment_at (segments_of s op) n) (type_of_value s) ∙ sym (size-is s op w n)

  pub type-at : (k : ℕ) → k < segment_size s op n
      → type_in (segment_types s op n) k ≡ type_in (operand_types s op) (start + k)
  type-at k within =
      ap (option_and_then (λ t. t)) (
      slice_get-map (type_of_value s) (segment_at (segments_of s op) n) k
      ∙ ap (option_map (type_of_value s)) (sym (value-is s op w n k below within))
      ∙ sym (slice_get-map (type_of_value s) (operands_of s op) (start + k)))

  module _ (passes : TypeView T → Bool) where
    passes-along : (t u : Option ℕ) → t ≡ u → Passes passes s u → Passes passes s t
    passes-along t u e p = subst (Passes passes s) (sym e) p

    -- what the first place among all operands that fails says of the segment
    pub first-in : (r : Option ℕ)
        → IsFirstFailing passes s (IsBetween start (start + segment_size s op n)) (operand_types s op) r
        → (IsNone r ↔ EachPasses passes s (segment_types s op n))
        × IfSome r (λ p. (i : ℕ) ×
        (FailsFirstIn passes s op n i × (type_in (segment_types s op n) i ≡ type_in (operand_types s op) p)))
        × IfSome r (λ p. p < start + segment_size s op n)
    first-in None all = (
      (
        λ h k b.
            let in_size : k < segment_size s op n = omega (arith, count-types) in
            passes-along (type_in (segment_types s op n) k) (type_in (operand_types s op) (start + k))
            (type-at k in_size) (all (start + k) (omega arith, omega arith)),
        λ h. refl,
      ),
      tt,
      tt,
    )
    first-in (Some p) f =
        let i : ℕ = p - start in
        let at : start + i ≡ p = omega (arith, f.0.0) in
        let in_size : i < segment_size s op n = omega (arith, f.0.0, f.0.1) in
        let same : type_in (segment_types s op n) i ≡ type_in (operand_types s op) p =
        type-at i in_size ∙ ap (type_in (operand_types s op)) at in
        let in_types : i < length (segment_types s op n) = omega (arith, count-types) in
        let fails : Passes passes s (type_in (segment_types s op n) i) → ⊥ =
        λ h. f.1 (passes-along (type_in (operand_types s op) p) (type_in (segment_types s op n) i) (sym same) h) in (
          (λ h. absurd (let z : ⊥ = cc (h) in z), λ h. absurd (fails (h i in_types))),
          (
            i,
            (
              (
                in_types,
                fails,
                λ k b before.
                    let in_size_k : k < segment_size s op n = omega (arith, count-types) in
                    passes-along (type_in (segment_types s op n) k) (type_in (operand_types s op) (start + k))
                    (type-at k in_size_k) (f.2 (start + k) (omega arith, omega arith) (omega arith)),
              ),
              same,
            ),
          ),
          f.0.1,
        )
