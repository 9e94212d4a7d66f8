-- Operands in segments: a list of lists, whose lengths are the sizes and whose flattening is the operands.
use Rattle.std.specs.Prelude.{◌≡◌, ℕ, zero, suc, ◌+◌, ◌-◌, ◌<◌, List, [], ◌∷◌, ◌++◌, insert, remove, length, map, take}
use Rattle.std.specs.Prelude.{drop, sum, slice_get, slice_index_or, slice_range, false, Option, Some, None, IsSome}
use Rattle.std.specs.Prelude.{unwrap_or, option_and_then, codes}
use Rattle.std.specs.List.{flat_map}
use Rattle.plir_data.specs.AttrView.{AttrView, leaf, operand_segment_sizes}
use Rattle.plir_data.specs.Dictionary.{dict_get, dict_put, is_key}
use Rattle.plir_core.specs.declared.ptr.Ptr.{Ptr}
use Rattle.plir_core.specs.declared.ptr.Operation.{Operation as OperationKind}
use Rattle.plir_core.specs.declared.ptr.IRNode.TheVariants.{Operation}
use Rattle.plir_core.specs.declared.value.Value.{Value}
use Rattle.plir_core.specs.Contents.{OpView}
use Rattle.plir_core.specs.ContextView.{ContextView, IsLive, kind_of, result_types_of, operands_of, successors_of}
use Rattle.plir_core.specs.ContextView.{attributes_of}
use Rattle.plir_core.specs.ContextView.{location_of}
use Rattle.plir_core.specs.Changes.{with_op_edit}
use Rattle.plir_core.specs.Held.{IsOpEdited}

module _ {V : Type 0} where
  -- values in segments of these sizes, from the first value on
  abbrev pub in_segments : List ℕ → List V → List (List V)
  in_segments [] vs = []
  in_segments (n ∷ ns) vs = take n vs ∷ in_segments ns (drop n vs)

  -- the values of all segments, in order
  abbrev pub flatten : List (List V) → List V
  flatten segs = flat_map (λ seg. seg) segs

  -- the segment at an index; past the last it is empty
  abbrev pub segment_at : List (List V) → ℕ → List V
  segment_at segs i = slice_index_or segs i []

  -- the segments with the one at an index edited
  abbrev pub edit_at : ℕ → (List V → List V) → List (List V) → List (List V)
  edit_at i f [] = []
  edit_at zero f (seg ∷ segs) = f seg ∷ segs
  edit_at (suc i) f (seg ∷ segs) = seg ∷ edit_at i f segs

  -- a segment with one more value at its end, and one without its last
  abbrev pub put_last : V → List V → List V
  put_last v xs = xs ++ v ∷ []

  abbrev pub take_last : List V → List V
  take_last xs = take (length xs - 1) xs

-- an edit of the values in a segment
abbrev pub SegmentEdit : Type 0
SegmentEdit = List Value → List Value

-- how many values stand before a segment
abbrev pub start_in : List ℕ → ℕ → ℕ
start_in ns i = sum (take i ns)

-- the key that the sizes stand under
abbrev pub sizes_key : List ℕ
sizes_key = codes "builtin_operand_segment_sizes"

module _ {A : Type 0} where
  -- the sizes in an attribute of sizes
  abbrev pub sizes_in : AttrView A → Option (List ℕ)
  sizes_in (leaf (operand_segment_sizes ns)) = Some ns
  sizes_in _ = None

  -- the attribute of sizes
  abbrev pub sizes_attr : List ℕ → AttrView A
  sizes_attr ns = leaf (operand_segment_sizes ns)

-- there are as many segments as are expected, where a number is
abbrev pub IsCount : Option ℕ → ℕ → Type 0
IsCount None n = Unit {0}
IsCount (Some expected) n = n ≡ expected

module _ {K A T : Type 0} where
  -- the sizes that stand under the key, if an attribute of sizes does
  abbrev pub sizes_under : ContextView K A T → Ptr OperationKind → Option (List ℕ)
  sizes_under s op = option_and_then sizes_in (dict_get (attributes_of s op) sizes_key)

  -- the sizes of an operation's segments, and how many there are
  abbrev pub sizes_of : ContextView K A T → Ptr OperationKind → List ℕ
  sizes_of s op = unwrap_or (sizes_under s op) []

  abbrev pub num_segments : ContextView K A T → Ptr OperationKind → ℕ
  num_segments s op = length (sizes_of s op)

  -- the size of the segment at an index; past the last it is 0
  abbrev pub segment_size : ContextView K A T → Ptr OperationKind → ℕ → ℕ
  segment_size s op i = slice_index_or (sizes_of s op) i 0

  -- the indices of the operands in a segment: the first, and the one behind the last
  abbrev pub segment_places : ContextView K A T → Ptr OperationKind → ℕ → ℕ × ℕ
  segment_places s op i = (start_in (sizes_of s op) i, start_in (sizes_of s op) i + segment_size s op i)

  -- its operands in their segments
  abbrev pub segments_of : ContextView K A T → Ptr OperationKind → List (List Value)
  segments_of s op = in_segments (sizes_of s op) (operands_of s op)

  -- The sizes are there, and their sum, a whole number, is the number of operands.
  pub record IsSegmented (s : ContextView K A T) (op : Ptr OperationKind) : Type 0 where
    pub present : IsSome (sizes_under s op)
    pub total : sum (sizes_of s op) ≡ length (operands_of s op)

  -- The rule: this, and there are as many segments as are expected.
  pub record HasSegments (expected : Option ℕ) (s : ContextView K A T) (op : Ptr OperationKind) : Type 0 where
    pub segmented : IsSegmented s op
    pub count : IsCount expected (num_segments s op)

-- what an operation holds, with an attribute under the key of sizes
abbrev pub with_sizes : {K A : Type 0} → AttrView A → OpView K A → OpView K A
with_sizes a o = record o { attributes = dict_put o.attributes sizes_key a }

-- what an operation holds, with other operands in segments
abbrev pub in_op : {K A : Type 0} → List (List Value) → OpView K A → OpView K A
in_op segs o = record o {
  operands = flatten segs;
  attributes =
      dict_put o.attributes sizes_key (sizes_attr (map length segs));
}

module _ {K A T : Type 0} where
  -- an operation has come to have these segments
  abbrev pub with_segments : ContextView K A T → Ptr OperationKind → List (List Value) → ContextView K A T
  with_segments s op segs = with_op_edit s op (in_op segs)

  -- From s to t an operation has come to have these segments, and nothing else has changed.
  pub record IsResegmented (s t : ContextView K A T) (op : Ptr OperationKind) (segs : List (List Value)) : Type 0 where
    pub after : t ≡ with_segments s op segs
    pub edited : IsOpEdited s t op (in_op segs)
    pub segmented : IsSegmented t op
    pub sizes : sizes_of t op ≡ map length segs
    pub segments : segments_of t op ≡ segs
    pub operands : operands_of t op ≡ flatten segs
    pub live : IsLive t (Operation op)
    pub count : num_segments t op ≡ length segs
    pub size_at : (i : ℕ) → segment_size t op i ≡ length (segment_at segs i)
    pub within : (i : ℕ) → slice_range (operands_of t op) (segment_places t op i).0 (segment_places t op i).1 ≡
        segment_at segs i
    pub kind : kind_of t op ≡ kind_of s op
    pub result_types : result_types_of t op ≡ result_types_of s op
    pub successors : successors_of t op ≡ successors_of s op
    pub location : location_of t op ≡ location_of s op
    pub attributes : (k : List ℕ) → is_key k sizes_key ≡ false →
        dict_get (attributes_of t op) k ≡ dict_get (attributes_of s op) k

  -- a function of the context does not depend on the segments that an operation has, as long as the operation is live
  abbrev pub IsKeptBySegments : {X : Type 0} → (ContextView K A T → X) → Ptr OperationKind → Type 0
  IsKeptBySegments f op = (s t : ContextView K A T) (segs : List (List Value)) → IsLive s (Operation op) →
      IsResegmented s t op segs → f t ≡ f s

  -- From s to t one segment of an operation has been edited, and beside the sizes nothing else has changed.
  abbrev pub IsSegmentEdited : (s t : ContextView K A T) → Ptr OperationKind → ℕ → (List Value → List Value) → Type 0
  IsSegmentEdited s t op seg f = IsResegmented s t op (edit_at seg f (segments_of s op))

  -- the value stands at an index of a segment
  abbrev pub StandsInSegment : ContextView K A T → Ptr OperationKind → (seg place : ℕ) → Value → Type 0
  StandsInSegment s op seg place v = slice_get (segment_at (segments_of s op) seg) place ≡ Some v

  -- Among the operands one more has come in at an index of a segment, or behind its last; or one has gone from there.
  module _ (s t : ContextView K A T) (op : Ptr OperationKind) (seg : ℕ) where
    abbrev pub IsOperandPutAt : (place : ℕ) → Value → Type 0
    IsOperandPutAt place v = operands_of t op ≡ insert (operands_of s op) ((segment_places s op seg).0 + place) v

    abbrev pub IsOperandPutLast : Value → Type 0
    IsOperandPutLast v = operands_of t op ≡ insert (operands_of s op) (segment_places s op seg).1 v

    abbrev pub IsOperandTakenAt : (place : ℕ) → Type 0
    IsOperandTakenAt place = operands_of t op ≡ remove (operands_of s op) ((segment_places s op seg).0 + place)

    abbrev pub IsLastOperandTaken : Type 0
    IsLastOperandTaken = operands_of t op ≡ remove (operands_of s op) ((segment_places s op seg).1 - 1)

module _ {K A T : Type 0} where
  -- from s to t a value is pushed to a segment, which there is
  pub record IsPushed (s t : ContextView K A T) (op : Ptr OperationKind) (seg : ℕ) (v : Value) : Type 0 where
    pub segmented : IsSegmented s op
    pub below : seg < num_segments s op
    pub edited : IsSegmentEdited s t op seg (λ xs. xs ++ v ∷ [])

  -- from s to t the value that stood last in a segment is popped
  pub record IsPopped (s t : ContextView K A T) (op : Ptr OperationKind) (seg : ℕ) (v : Value) : Type 0 where
    pub value : StandsInSegment s op seg (segment_size s op seg - 1) v
    pub edited : IsSegmentEdited s t op seg (λ xs. take (length xs - 1) xs)

  -- the operation has the same segments in s and in t
  pub record HasSameSegments (s t : ContextView K A T) (op : Ptr OperationKind) : Type 0 where
    pub segments : segments_of t op ≡ segments_of s op
    pub sizes : sizes_of t op ≡ sizes_of s op
    pub operands : operands_of t op ≡ operands_of s op

  -- once a value is pushed to a segment, the segment is there and not empty
  abbrev pub CanBePopped : (s t : ContextView K A T) → Ptr OperationKind → Type 0
  CanBePopped s t op = (seg : ℕ) (v : Value) → IsPushed s t op seg v → (seg < num_segments t op) ×
      (0 < segment_size t op seg)

  -- the value that is popped from a segment is the one that was pushed right before, and the segments are those before
  -- the push
  abbrev pub PopsWhatWasPushed : (s t u : ContextView K A T) → Ptr OperationKind → Type 0
  PopsWhatWasPushed s t u op = (seg : ℕ) (v w : Value) → IsPushed s t op seg v → IsPopped t u op seg w → (w ≡ v) ×
      HasSameSegments s u op
