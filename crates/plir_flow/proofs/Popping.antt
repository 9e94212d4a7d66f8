-- A value that is pushed to a segment and popped.
use Rattle.std.proofs.Common.{◌≡◌, ℕ, ◌-◌, ◌<◌, List, [], ◌∷◌, ◌++◌, length, take, map, Some, sym, ap, ◌∙◌, arith}
use Rattle.std.specs.Prelude.{slice_get}
use Rattle.std.proofs.lemmas.List.{length_push}
use Rattle.std.proofs.lemmas.Option.{same_Some}
use Rattle.plir_core.specs.declared.ptr.Ptr.{Ptr}
use Rattle.plir_core.specs.declared.ptr.Operation.{Operation as OperationKind}
use Rattle.plir_core.specs.declared.value.Value.{Value}
use Rattle.plir_core.specs.ContextView.{ContextView, operands_of}
use Rattle.plir_flow.specs.Segments.{flatten, segment_at, edit_at, segments_of, sizes_of, segment_size, num_segments}
use Rattle.plir_flow.specs.Segments.{IsSegmented, IsResegmented}
use Rattle.plir_flow.proofs.SegmentLists.{count-edit, edit-here, edit-taken, last-put}
use Rattle.plir_flow.proofs.SegmentsPut.{count-is, sizes-are, values-are}

module _ {K A T : Type 0} (s t : ContextView K A T) (op : Ptr OperationKind) (i : ℕ) (v : Value) (w : IsSegmented s op)
    (below : i < num_segments s op)
    (pushed : IsResegmented s t op (edit_at i (λ xs. xs ++ v ∷ []) (segments_of s op))) where
  abbrev more : List Value → List Value
  more xs = xs ++ v ∷ []

  pub still-below : i < num_segments t op
  still-below = omega (arith, pushed.count, count-edit i more (segments_of s op), count-is s op w)

  seg-is : segment_at (edit_at i more (segments_of s op)) i ≡ segment_at (segments_of s op) i ++ v ∷ []
  seg-is = edit-here i more (segments_of s op) (omega (arith, count-is s op w))

  size-now : segment_size t op i ≡ length (segment_at (segments_of s op) i ++ v ∷ [])
  size-now = pushed.size_at i ∙ ap length seg-is

  pub not-empty : 0 < segment_size t op i
  not-empty = omega (arith, size-now, length_push (segment_at (segments_of s op) i) v)

  pub value-back : (u : Value) → slice_get (segment_at (segments_of t op) i) (segment_size t op i - 1) ≡ Some u → u ≡ v
  value-back u got =
      let here : segment_at (segments_of t op) i ≡ segment_at (segments_of s op) i ++ v ∷ [] =
      ap (λ z. segment_at z i) pushed.segments ∙ seg-is in
      same_Some u v (sym got ∙ ap (λ z. slice_get z (segment_size t op i - 1)) here
      ∙ last-put (segment_at (segments_of s op) i) v (segment_size t op i) size-now)

  module _ (u : ContextView K A T)
      (popped : IsResegmented t u op (edit_at i (λ xs. take (length xs - 1) xs) (segments_of t op))) where
    segs-back : edit_at i (λ xs. take (length xs - 1) xs) (segments_of t op) ≡ segments_of s op
    segs-back =
        ap (edit_at i (λ (xs : List Value). take (length xs - 1) xs)) pushed.segments
        ∙ edit-taken i v (segments_of s op)

    pub segments-back : segments_of u op ≡ segments_of s op
    segments-back = popped.segments ∙ segs-back

    pub sizes-back : sizes_of u op ≡ sizes_of s op
    sizes-back = popped.sizes ∙ ap (map length) segs-back ∙ sizes-are s op w

    pub operands-back : operands_of u op ≡ operands_of s op
    operands-back = popped.operands ∙ ap flatten segs-back ∙ values-are s op w
