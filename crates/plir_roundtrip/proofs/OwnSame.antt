-- What an operation of one's own holds that was read is what the one held that was printed.
use Rattle.std.proofs.Common.{◌≡◌, ℕ, suc, ◌+◌, ◌<◌, Bool, true, false, cond, List, [], ◌∷◌, length, map, Option, Some}
use Rattle.std.proofs.Common.{None, filter, is_none, unwrap_or, refl, sym, ap, subst, ◌∙◌, arith}
use Rattle.std.specs.List.{list_all, range_with_len}
use Rattle.std.specs.Prelude.{slice_get}
use Rattle.plir_data.specs.AttrCalls.{is_outlined}
use Rattle.plir_data.specs.AttrView as views
use Rattle.plir_data.specs.AttrView.{AttrView, leaf, dict, vec}
use Rattle.plir_data.specs.DictLaws.{get-put, get-other}
use Rattle.plir_data.specs.Dictionary.{dict_get, dict_put, is_key}
use Rattle.plir_data.specs.Keys.{names_key}
use Rattle.plir_data.specs.declared.op_set.OpKind.{OpKind}
use Rattle.plir_data.specs.declared.op_set.OpKind.TheVariants.{Own}
use Rattle.plir_data.specs.declared.op_set.OpSet as op_set
use Rattle.plir_core.specs.ContextView.{ContextView, attributes_of, kind_of, result_types_of, type_of_value}
use Rattle.plir_core.specs.declared.ptr.Ptr.{Ptr}
use Rattle.plir_core.specs.declared.ptr.Operation.{Operation as OperationKind}
use Rattle.plir_core.specs.declared.value.DefiningEntity.TheVariants.{Op}
use Rattle.plir_core.specs.declared.value.Value.{Value}
use Rattle.plir_attr_text.specs.Names.{Names, NamesAll}
use Rattle.plir_attr_text.specs.Terms.{types_of}
use Rattle.plir_walk.specs.GivenNames.{name_at, names_at, names_in, names_of, names_under}
use Rattle.plir_print.specs.Dictionaries.{is_in_header, is_shown, shown, shown_of}
use Rattle.plir_print.specs.ValueNames.{results_of, value_name}
use Rattle.plir_read.specs.Heads.{result_names}
use Rattle.plir_read.specs.Suffixes.{given_name}
use Rattle.plir_read.specs.declared.names.Suffix.TheVariants as kinds
use Rattle.plir_read_ir.specs.OwnOps.{own_attributes}
use Rattle.plir_roundtrip.specs.SameTree.{HoldSame}
use Rattle.plir_roundtrip.specs.Written.{some_type_term}
use Rattle.plir_roundtrip.specs.IrReadable.{IsOwnReadable}
use Rattle.plir_roundtrip.specs.IrWritten as written
use Rattle.plir_roundtrip.proofs.EntriesShown.{not_or, shown_there}
use Rattle.plir_roundtrip.proofs.NamesAgain.{name_in_row, none_named}
use Rattle.plir_roundtrip.proofs.PrintedNames.{result_name_given}

-- ---- names are not shown

module _ {A : Type 0} (own : A → Bool) where
  -- what is not outlined has no names
  no_names : (x : AttrView A) → is_outlined own x ≡ false → names_of x ≡ None
  no_names (leaf (views.identifier w)) e = refl
  no_names (leaf (views.string s)) e = refl
  no_names (leaf (views.bool b)) e = refl
  no_names (leaf (views.integer t w b)) e = refl
  no_names (leaf views.unit) e = refl
  no_names (leaf (views.type_of t)) e = refl
  no_names (leaf (views.operand_segment_sizes ns)) e = refl
  no_names (leaf (views.given_names ns)) e = absurd (let f : ⊥ = cc in f)
  no_names (leaf (views.own a)) e = refl
  no_names (dict es) e = refl
  no_names (vec xs) e = refl

module _ {D K A T E : Type 0} (o : op_set.Ghosts D K A T E) (kind : Option (OpKind K)) where
  shown_unnamed : (es : List (List ℕ × AttrView A)) → names_in (shown_of o kind es) ≡ []
  shown_unnamed [] = refl
  shown_unnamed (a ∷ es) = by (is_shown o kind a) refl (shown_unnamed es)
    where
      here : (b : Bool) → is_outlined o.attr_outlined a.1 ≡ false
          → names_under (dict_get (filter (is_shown o kind) es) names_key) ≡ []
          → names_under (cond b (Some a.1) (dict_get (filter (is_shown o kind) es) names_key)) ≡ []
      here true e rest = ap (λ z. unwrap_or z []) (no_names o.attr_outlined a.1 e)
      here false e rest = rest

      by : (b : Bool) → is_shown o kind a ≡ b
          → names_under (dict_get (filter (is_shown o kind) es) names_key) ≡ []
          → names_under (dict_get (cond b (a ∷ filter (is_shown o kind) es) (filter (is_shown o kind) es)) names_key) ≡
          []
      by true e rest =
          here (is_key names_key a.0)
          (not_or (is_in_header kind a.0) (is_outlined o.attr_outlined a.1) e) rest
      by false e rest = rest

-- ---- the names that are read are the ones that are held

module _ {A : Type 0} (ns : List (Option (List ℕ))) (es : List (List ℕ × AttrView A)) where
  names_kept : names_in es ≡ [] → (i : ℕ) → name_at (names_in (own_attributes ns es)) i ≡ name_at ns i
  names_kept none i = at (list_all is_none ns) refl
    where
      at : (b : Bool) → list_all is_none ns ≡ b
          → name_at (names_in (cond b es (dict_put es names_key (leaf (views.given_names ns))))) i ≡ name_at ns i
      at true e = ap (λ z. name_at z i) none ∙ sym (none_named ns i e)
      at false e = ap (λ z. name_at (names_under z) i) (get-put es names_key (leaf (views.given_names ns)))

  others_kept : (k : List ℕ) → is_key k names_key ≡ false → dict_get (own_attributes ns es) k ≡ dict_get es k
  others_kept k other = at (list_all is_none ns)
    where
      at : (b : Bool) → dict_get (cond b es (dict_put es names_key (leaf (views.given_names ns)))) k ≡ dict_get es k
      at true = refl
      at false = get-other es names_key k (leaf (views.given_names ns)) other

module _ {D K A T E : Type 0} (o : op_set.Ghosts D K A T E) (find : List ℕ → Option K) (s : ContextView K A T) (k : K)
    (p : Ptr OperationKind) (is : kind_of s p ≡ Some (Own k)) (r : IsOwnReadable o find s k p) where
  -- the names of the results, as they are read
  abbrev pub read_names : List (Option (List ℕ))
  read_names = result_names (written.names_of s (results_of s p))

  abbrev pub read_attributes : List (List ℕ × AttrView A)
  read_attributes = own_attributes read_names (shown o s p)

  pub own_holds_same : HoldSame (attributes_of s p) read_attributes
  own_holds_same l other =
      let apart : is_in_header (kind_of s p) l ≡ false = subst (λ z. is_in_header z l ≡ false) (sym is) refl in
      sym (others_kept read_names (shown o s p) l other
      ∙ shown_there o s.types (kind_of s p) (attributes_of s p) l r.entries apart other)

  pub own_names_same : (i : ℕ) → i < length (result_types_of s p)
      → name_at (names_at s (Op p)) i ≡ name_at (names_in read_attributes) i
  own_names_same i lt =
      sym (names_kept read_names (shown o s p) (shown_unnamed o (kind_of s p) (attributes_of s p)) i
      ∙ name_in_row (given_name kinds.OpResult) (value_name s) (λ j. record { entity = Op p; index = j })
      (length (result_types_of s p)) i lt
      ∙ result_name_given s p i (r.results.names i lt))

-- ---- the types of results

module _ {K A T : Type 0} (s t : ContextView K A T) (p : Ptr OperationKind) where
  abbrev value_at : ℕ → Value
  value_at i = record { entity = Op p; index = i }

  pub results_typed : (hs : List ℕ) (a : ℕ)
      → ((i : ℕ) → i < length hs → slice_get (result_types_of s p) (a + i) ≡ slice_get hs i)
      → ((h k : ℕ) → slice_get (result_types_of s p) k ≡ Some h
      → Names t.types h (some_type_term s.types (slice_get (result_types_of s p) k)))
      → NamesAll t.types hs (types_of (map (λ v. some_type_term s.types (type_of_value s v))
      (map value_at (range_with_len a (length hs)))))
  results_typed [] a same each = refl
  results_typed (h ∷ hs) a same each =
      let here : slice_get (result_types_of s p) a ≡ Some h =
      ap (slice_get (result_types_of s p)) (let e : a ≡ a + 0 = omega arith in e) ∙ same 0 (omega arith) in (
        h,
        hs,
        each h a here,
        results_typed hs (a + 1) (λ i lt. ap (slice_get (result_types_of s p))
            (let e : a + 1 + i ≡ a + suc i = omega arith in e) ∙ same (suc i) (omega (arith, lt))) each,
        refl,
      )
