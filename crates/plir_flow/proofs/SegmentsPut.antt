-- An operation whose operands and sizes were edited has come to have other segments.
use Rattle.std.proofs.Common.{◌≡◌, ℕ, ◌+◌, ◌-◌, ◌<◌, ◌≤◌, List, [], ◌∷◌, length, map, sum, Option, Some, None, IsSome}
use Rattle.std.proofs.Common.{is_some, ◌&&◌, ◌==◌, true, refl, sym, ap, subst, ◌∙◌, arith}
use Rattle.std.specs.Prelude.{insert, remove, option_map, slice_get, slice_set, slice_index_or, unwrap_or}
use Rattle.std.specs.Prelude.{option_and_then}
use Rattle.std.proofs.lemmas.List.{length-append, length-map}
use Rattle.std.proofs.lemmas.List.Edits.{length-insert, length-remove}
use Rattle.plir_store.specs.Table.{version_at}
use Rattle.plir_data.specs.Dictionary.{dict_get, dict_put}
use Rattle.plir_core.specs.declared.ptr.Ptr.{Ptr}
use Rattle.plir_core.specs.declared.ptr.Operation.{Operation as OperationKind}
use Rattle.plir_core.specs.declared.ptr.IRNode.TheVariants.{Operation}
use Rattle.plir_core.specs.declared.value.Value.{Value}
use Rattle.plir_core.specs.Contents.{OpView}
use Rattle.plir_core.specs.ContextView.{ContextView, IsLive, is_live, op_at, kind_in, results_in, successors_in}
use Rattle.plir_core.specs.ContextView.{location_in, operands_in, operands_of, attributes_in, attributes_of}
use Rattle.plir_core.specs.Changes.{with_op_edit}
use Rattle.plir_core.specs.Held.{IsOpEdited}
use Rattle.plir_flow.specs.Segments.{in_segments, flatten, segment_at, edit_at, start_in, sizes_in, sizes_key}
use Rattle.plir_flow.specs.Segments.{sizes_attr, with_sizes, sizes_under, sizes_of, segments_of, segment_size}
use Rattle.plir_flow.specs.Segments.{num_segments, in_op, with_segments, IsCount, IsSegmented, HasSegments}
use Rattle.plir_flow.specs.Segments.{IsKeptBySegments, IsResegmented}
use Rattle.plir_flow.proofs.SegmentLists.{sum-cons, flatten-in, sizes-in, in-flatten, size-at, sizes-edit, count-edit}
use Rattle.plir_flow.proofs.SegmentLists.{count-in, value-at, segment-range, flatten-insert, flatten-remove}
use Rattle.plir_data.specs.DictLaws.{get-put, get-other}
use Rattle.plir_flow.proofs.SizesPut.{Join, Same}

pub sum-lengths : (segs : List (List Value)) → sum (map length segs) ≡ length (flatten segs)
sum-lengths [] = refl
sum-lengths (seg ∷ segs) =
    sum-cons (length seg) (map length segs) ∙ ap (λ n. length seg + n) (sum-lengths segs)
    ∙ sym (length-append seg (flatten segs))

-- what is held by an operation that has come to have segments
module _ {K A T : Type 0} (s t : ContextView K A T) (op : Ptr OperationKind) (segs : List (List Value))
    (live : IsLive s (Operation op)) (is : t ≡ with_segments s op segs)
    (edited : IsOpEdited s (with_segments s op segs) op (in_op segs)) where
  held : (o : Option (OpView K A)) → op_at s op ≡ o
      → (is_some o && (version_at s.nodes.ops op.slot == op.version)) ≡ true
      → (o : OpView K A) × ((op_at t op ≡ Some (in_op segs o)) × (op_at s op ≡ Some o))
  held None e l = absurd (let z : ⊥ = cc (l) in z)
  held (Some o) e l = (o, (ap (λ z. op_at z op) is ∙ edited.held ∙ ap (option_map (in_op segs)) e, e))

  pub resegmented : IsResegmented s t op segs
  resegmented =
      let h = held (op_at s op) refl live in
      let under : sizes_under t op ≡ Some (map length segs) =
      ap (λ z. option_and_then sizes_in (dict_get (attributes_in z) sizes_key)) h.1.0
      ∙ ap (option_and_then sizes_in) (get-put h.0.attributes sizes_key (sizes_attr (map length segs))) in
      let sizes : sizes_of t op ≡ map length segs = ap (λ z. unwrap_or z []) under in
      let operands : operands_of t op ≡ flatten segs = ap operands_in h.1.0 in
      let segments : segments_of t op ≡ segs =
      ap (λ z. in_segments z (operands_of t op)) sizes ∙ ap (in_segments (map length segs)) operands
      ∙ in-flatten segs in
      record {
        after = is;
        edited = subst (λ z. IsOpEdited s z op (in_op segs)) (sym is) edited;
        segmented = record {
          present = subst IsSome (sym under) refl;
          total = ap sum sizes ∙ sum-lengths segs ∙ ap length (sym operands);
        };
        sizes = sizes;
        segments = segments;
        operands = operands;
        live = ap (λ z. is_live z (Operation op)) is ∙ edited.keeps.live (Operation op) ∙ live;
        count = ap length sizes ∙ length-map segs length;
        size_at = λ i. ap (λ ns. slice_index_or ns i 0) sizes ∙ size-at segs i;
        within = λ i. sym (segment-range (sizes_of t op) i (operands_of t op)) ∙ ap (λ z. segment_at z i) segments;
        kind = ap kind_in h.1.0 ∙ ap kind_in (sym h.1.1);
        result_types = ap results_in h.1.0 ∙ ap results_in (sym h.1.1);
        successors = ap successors_in h.1.0 ∙ ap successors_in (sym h.1.1);
        location = ap location_in h.1.0 ∙ ap location_in (sym h.1.1);
        attributes =
            λ k other. ap (λ z. dict_get (attributes_in z) k) h.1.0
            ∙ get-other h.0.attributes sizes_key k (sizes_attr (map length segs)) other
            ∙ ap (λ z. dict_get (attributes_in z) k) (sym h.1.1);
      }

module _ {K A T : Type 0} (s : ContextView K A T) (op : Ptr OperationKind) where
  -- an edit of the operands keeps the sizes
  pub sizes-kept : (t : ContextView K A T) (f : List Value → List Value)
      → t ≡ with_op_edit s op (λ o. record o { operands = f o.operands })
      → IsOpEdited s (with_op_edit s op (λ o. record o { operands = f o.operands })) op
      (λ o. record o { operands = f o.operands })
      → sizes_under t op ≡ sizes_under s op
  sizes-kept t f is edited =
      ap (λ es. option_and_then sizes_in (dict_get es sizes_key))
      (ap (λ z. attributes_of z op) is ∙ ap attributes_in edited.held ∙ by (op_at s op))
    where
      put : OpView K A → OpView K A
      put v = record v { operands = f v.operands }

      by : (o : Option (OpView K A)) → attributes_in (option_map put o) ≡ attributes_in o
      by None = refl
      by (Some v) = refl

  -- and it leaves the operation live
  pub live-kept : (t : ContextView K A T) (f : OpView K A → OpView K A) → t ≡ with_op_edit s op f
      → IsOpEdited s (with_op_edit s op f) op f → IsLive s (Operation op) → IsLive t (Operation op)
  live-kept t f is edited live = ap (λ z. is_live z (Operation op)) is ∙ edited.keeps.live (Operation op) ∙ live

  -- an edit of the operands and one of the sizes
  pub put-together : (t u : ContextView K A T) (f : List Value → List Value) (ns : List ℕ) (segs : List (List Value))
      → Join s op → Same s op
      → f (operands_of s op) ≡ flatten segs → ns ≡ map length segs
      → t ≡ with_op_edit s op (λ o. record o { operands = f o.operands })
      → u ≡ with_op_edit t op (with_sizes (sizes_attr ns)) → u ≡ with_segments s op segs
  put-together t u f ns segs join same values sizes first second =
      second
      ∙ ap (λ z. with_op_edit z op (with_sizes (sizes_attr ns))) first
      ∙ join (λ o. record o { operands = f o.operands }) (with_sizes (sizes_attr ns))
      ∙ same (λ o. with_sizes (sizes_attr ns) (record o { operands = f o.operands })) (in_op segs) (λ o h.
      ap (λ vs. with_sizes (sizes_attr ns) (record o { operands = vs })) (ap f (sym (ap operands_in h)) ∙ values)
      ∙ ap (λ m. record o { operands = flatten segs; attributes = dict_put o.attributes sizes_key (sizes_attr m) })
      sizes)

  module _ (w : IsSegmented s op) where
    pub values-are : flatten (segments_of s op) ≡ operands_of s op
    values-are = flatten-in (sizes_of s op) (operands_of s op) w.total

    pub sizes-are : map length (segments_of s op) ≡ sizes_of s op
    sizes-are = sizes-in (sizes_of s op) (operands_of s op) (omega (arith, w.total))

    pub size-is : (i : ℕ) → segment_size s op i ≡ length (segment_at (segments_of s op) i)
    size-is i = ap (λ ns. slice_index_or ns i 0) (sym sizes-are) ∙ size-at (segments_of s op) i

    pub start-is : (i : ℕ) → start_in (map length (segments_of s op)) i ≡ start_in (sizes_of s op) i
    start-is i = ap (λ ns. start_in ns i) sizes-are

    pub count-is : length (segments_of s op) ≡ num_segments s op
    count-is = count-in (sizes_of s op) (operands_of s op)

    pub inserted-values : (i k : ℕ) (v : Value) → i < num_segments s op → k ≤ segment_size s op i
        → insert (operands_of s op) (start_in (sizes_of s op) i + k) v ≡
        flatten (edit_at i (λ xs. insert xs k v) (segments_of s op))
    inserted-values i k v below within =
        ap (λ xs. insert xs (start_in (sizes_of s op) i + k) v) (sym values-are)
        ∙ ap (λ n. insert (flatten (segments_of s op)) (n + k) v) (sym (start-is i))
        ∙ sym (flatten-insert i k v (segments_of s op) (omega (arith, count-is)) (omega (arith, size-is i)))

    pub inserted-sizes : (i k n : ℕ) (v : Value) → k ≤ segment_size s op i → n ≡ segment_size s op i + 1
        → slice_set (sizes_of s op) i n ≡ map length (edit_at i (λ xs. insert xs k v) (segments_of s op))
    inserted-sizes i k n v within more =
        let seg : List Value = segment_at (segments_of s op) i in
        let len : n ≡ length (insert seg k v) =
        omega (arith, size-is i, length-insert seg k v (omega (arith, size-is i))) in
        ap (λ ns. slice_set ns i n) (sym sizes-are) ∙ ap (slice_set (map length (segments_of s op)) i) len
        ∙ sym (sizes-edit i (λ xs. insert xs k v) (segments_of s op))

    pub removed-values : (i k : ℕ) → i < num_segments s op → k < segment_size s op i
        → remove (operands_of s op) (start_in (sizes_of s op) i + k) ≡
        flatten (edit_at i (λ xs. remove xs k) (segments_of s op))
    removed-values i k below within =
        ap (λ xs. remove xs (start_in (sizes_of s op) i + k)) (sym values-are)
        ∙ ap (λ n. remove (flatten (segments_of s op)) (n + k)) (sym (start-is i))
        ∙ sym (flatten-remove i k (segments_of s op) (omega (arith, count-is)) (omega (arith, size-is i)))

    pub removed-sizes : (i k n : ℕ) → k < segment_size s op i → n ≡ segment_size s op i - 1
        → slice_set (sizes_of s op) i n ≡ map length (edit_at i (λ xs. remove xs k) (segments_of s op))
    removed-sizes i k n within less =
        let seg : List Value = segment_at (segments_of s op) i in
        let len : n ≡ length (remove seg k) =
        omega (arith, size-is i, length-remove seg k (omega (arith, size-is i))) in
        ap (λ ns. slice_set ns i n) (sym sizes-are) ∙ ap (slice_set (map length (segments_of s op)) i) len
        ∙ sym (sizes-edit i (λ xs. remove xs k) (segments_of s op))

    pub value-is : (i k : ℕ) → i < num_segments s op → k < segment_size s op i
        → slice_get (operands_of s op) (start_in (sizes_of s op) i + k) ≡ slice_get (segment_at (segments_of s op) i) k
    value-is i k below within =
        ap (λ xs. slice_get xs (start_in (sizes_of s op) i + k)) (sym values-are)
        ∙ ap (λ n. slice_get (flatten (segments_of s op)) (n + k)) (sym (start-is i))
        ∙ value-at i k (segments_of s op) (omega (arith, count-is)) (omega (arith, size-is i))

-- The rule holds after an edit of a segment, if the number that is expected doesn't depend on the segments.
module _ {K A T : Type 0} (s t : ContextView K A T) (op : Ptr OperationKind)
    (expected : ContextView K A T → Option ℕ) where
  pub rule-kept : ((segs : List (List Value)) → IsResegmented s t op segs → expected t ≡ expected s)
      → HasSegments (expected s) s op
      → (i : ℕ) (f : List Value → List Value) → IsResegmented s t op (edit_at i f (segments_of s op))
      → HasSegments (expected t) t op
  rule-kept kept rule i f r =
      let segs : List (List Value) = edit_at i f (segments_of s op) in
      let same : expected t ≡ expected s = kept segs r in
      let count : num_segments t op ≡ num_segments s op =
      ap length r.sizes ∙ length-map segs length ∙ count-edit i f (segments_of s op)
      ∙ count-is s op rule.segmented in
      record {
        segmented = r.segmented;
        count =
            subst (λ x. IsCount x (num_segments t op)) (sym same) (subst (IsCount (expected s)) (sym count) rule.count);
      }

-- The same, over an operation that is named otherwise.
module _ {K A T : Type 0} (s : ContextView K A T) (op : Ptr OperationKind) (expected : ContextView K A T → Option ℕ)
    (kept : IsKeptBySegments expected op) where
  pub rule-after : IsLive s (Operation op) → HasSegments (expected s) s op
      → (i : ℕ) (f : List Value → List Value) (t : ContextView K A T) (o : Ptr OperationKind) → o ≡ op
      → IsResegmented s t o (edit_at i f (segments_of s o)) → HasSegments (expected t) t op
  rule-after live rule i f t o e r =
      rule-kept s t op expected (λ segs edited. kept s t segs live edited) rule i f
      (subst (λ z. IsResegmented s t z (edit_at i f (segments_of s z))) e r)
