-- What the text of an operation shows of its attributes.
use Rattle.std.proofs.Common.{◌≡◌, ℕ, suc, Bool, true, false, cond, not, ◌||◌, bytes_eq, List, [], ◌∷◌, All, Ordering}
use Rattle.std.proofs.Common.{Less, Equal, Greater, Option, Some, None, nat_cmp, filter, get_or, is_some, unwrap_or}
use Rattle.std.proofs.Common.{refl, sym, ap, subst, ◌∙◌, arith}
use Rattle.std.proofs.lemmas.Cmp.{nat_list_cmp_total}
use Rattle.std.proofs.lemmas.Map.Lookups.{exact_bytes}
use Rattle.std.proofs.lemmas.Option.{same_Some, none-some}
use Rattle.std.proofs.lemmas.Slice.Eq.{bytes_eq-Decides}
use Rattle.std.specs.Cmp.Lexicographic.{slice_cmp}
use Rattle.std.specs.Ordering.{is_eq, ordering_reverse}
use Rattle.plir_data.specs.AttrCalls.{is_outlined, type_in_attr}
use Rattle.plir_data.specs.AttrView as views
use Rattle.plir_data.specs.AttrView.{AttrView, leaf, dict, vec}
use Rattle.plir_data.specs.Dictionary.{dict_get, is_key, IsBelowAll, IsDictionary}
use Rattle.plir_data.specs.Types.{TypeView}
use Rattle.plir_data.specs.declared.op_set.OpKind.{OpKind}
use Rattle.plir_data.specs.declared.op_set.OpSet as op_set
use Rattle.plir_data.specs.Keys.{names_key}
use Rattle.plir_attr_text.specs.Writable.{IsWritable}
use Rattle.plir_builtin.specs.Symbols.{name_in}
use Rattle.plir_print.specs.Dictionaries.{is_in_header, is_shown, shown_of}
use Rattle.plir_roundtrip.specs.Readable.{IsEntryReadable}
use Rattle.plir_roundtrip.proofs.PartsShown.{AreWritable}

-- ---- keys

pub same_key : (k : List ℕ) → is_key k k ≡ true
same_key k = by (slice_cmp nat_cmp k k) (nat_list_cmp_total.antisymm k k)
  where
    by : (o : Ordering) → o ≡ ordering_reverse o → is_eq o ≡ true
    by Less e = absurd cc
    by Equal e = refl
    by Greater e = absurd cc

pub key_is : (k l : List ℕ) → is_key k l ≡ true → k ≡ l
key_is k l e = by (slice_cmp nat_cmp k l) refl e
  where
    by : (o : Ordering) → slice_cmp nat_cmp k l ≡ o → is_eq o ≡ true → k ≡ l
    by Less f e = absurd cc
    by Equal f e = exact_bytes k l f
    by Greater f e = absurd cc

-- another key has other bytes
pub other_bytes : (k l : List ℕ) → is_key k l ≡ false → bytes_eq k l ≡ false
other_bytes k l e = by (bytes_eq k l) refl
  where
    by : (t : Bool) → bytes_eq k l ≡ t → t ≡ false
    by true f =
        let same : k ≡ l = (bytes_eq-Decides k l).0 f in
        let self : is_key k k ≡ false = subst (λ z. is_key k z ≡ false) (sym same) e in
        absurd (let g = same_key k in let z : ⊥ = cc (self, g) in z)
    by false f = refl

-- ---- entries

module _ {A : Type 0} where
  -- what is said of all entries is said of the one under a key
  pub at_key : (P : List ℕ → AttrView A → Type 0) (es : List (List ℕ × AttrView A)) (k : List ℕ) (x : AttrView A)
      → All (λ e. P e.0 e.1) es → dict_get es k ≡ Some x → (l : List ℕ) × P l x
  at_key P [] k x all e = absurd (none-some x e)
  at_key P (a ∷ es) k x all e =
      by (is_key k a.0) e (λ f. at_key P es k x (λ i d lt. all (suc i) d (omega (arith, lt))) f)
    where
      by : (t : Bool) → cond t (Some a.1) (dict_get es k) ≡ Some x → (dict_get es k ≡ Some x → (l : List ℕ) × P l x)
          → (l : List ℕ) × P l x
      by true f rest = (a.0, subst (P a.0) (same_Some a.1 x f) (all 0 a (omega arith)))
      by false f rest = rest f

  -- an entry that passes a test is found among those that do
  pub get-filter : (test : List ℕ × AttrView A → Bool) (es : List (List ℕ × AttrView A)) (k : List ℕ)
      → All (λ e. is_key k e.0 ≡ true → test e ≡ true) es → dict_get (filter test es) k ≡ dict_get es k
  get-filter test [] k all = refl
  get-filter test (a ∷ es) k all =
      by (test a) (is_key k a.0) refl refl (all 0 a (omega arith))
      (get-filter test es k (λ i d lt. all (suc i) d (omega (arith, lt))))
    where
      by : (t u : Bool) → test a ≡ t → is_key k a.0 ≡ u → (u ≡ true → t ≡ true)
          → dict_get (filter test es) k ≡ dict_get es k
          → dict_get (cond t (a ∷ filter test es) (filter test es)) k ≡ cond u (Some a.1) (dict_get es k)
      by true true e f h rest = ap (λ z. cond z (Some a.1) (dict_get (filter test es) k)) f
      by true false e f h rest = ap (λ z. cond z (Some a.1) (dict_get (filter test es) k)) f ∙ rest
      by false true e f h rest = let g = h refl in absurd cc
      by false false e f h rest = rest

  below-filter : (test : List ℕ × AttrView A → Bool) (es : List (List ℕ × AttrView A)) (k : List ℕ) → IsBelowAll k es
      → IsBelowAll k (filter test es)
  below-filter test [] k h = tt
  below-filter test (a ∷ es) k h = by (test a) (below-filter test es k h.1)
    where
      by : (t : Bool) → IsBelowAll k (filter test es) → IsBelowAll k (cond t (a ∷ filter test es) (filter test es))
      by true rest = (h.0, rest)
      by false rest = rest

  pub filter_dictionary : (test : List ℕ × AttrView A → Bool) (es : List (List ℕ × AttrView A)) → IsDictionary es
      → IsDictionary (filter test es)
  filter_dictionary test [] h = tt
  filter_dictionary test (a ∷ es) h = by (test a) (filter_dictionary test es h.2)
    where
      by : (t : Bool) → IsDictionary (filter test es) → IsDictionary (cond t (a ∷ filter test es) (filter test es))
      by true rest = (h.0, below-filter test es a.0 h.1, rest)
      by false rest = rest

  -- the name, and the type, that a header shows
  pub name_there : (g : Option (AttrView A)) → is_some (name_in g) ≡ true
      → g ≡ Some (leaf (views.identifier (unwrap_or (name_in g) [])))
  name_there None e = absurd cc
  name_there (Some (leaf (views.identifier w))) e = refl
  name_there (Some (leaf (views.string s))) e = absurd cc
  name_there (Some (leaf (views.bool b))) e = absurd cc
  name_there (Some (leaf (views.integer t w b))) e = absurd cc
  name_there (Some (leaf views.unit)) e = absurd cc
  name_there (Some (leaf (views.type_of t))) e = absurd cc
  name_there (Some (leaf (views.operand_segment_sizes ns))) e = absurd cc
  name_there (Some (leaf (views.given_names ns))) e = absurd cc
  name_there (Some (leaf (views.own a))) e = absurd cc
  name_there (Some (dict es)) e = absurd cc
  name_there (Some (vec xs)) e = absurd cc

  pub type_there : (x : AttrView A) → is_some (type_in_attr x) ≡ true → (handle : ℕ) × (x ≡ leaf (views.type_of handle))
  type_there (leaf (views.identifier w)) e = absurd cc
  type_there (leaf (views.string s)) e = absurd cc
  type_there (leaf (views.bool b)) e = absurd cc
  type_there (leaf (views.integer t w b)) e = absurd cc
  type_there (leaf views.unit) e = absurd cc
  type_there (leaf (views.type_of t)) e = (t, refl)
  type_there (leaf (views.operand_segment_sizes ns)) e = absurd cc
  type_there (leaf (views.given_names ns)) e = absurd cc
  type_there (leaf (views.own a)) e = absurd cc
  type_there (dict es) e = absurd cc
  type_there (vec xs) e = absurd cc

-- ---- what is shown

module _ {A T : Type 0} (types : List (TypeView T)) (own : A → Bool) where
  -- what is not outlined can be written
  entry_writable : (k : List ℕ) (x : AttrView A) → IsEntryReadable types k x → is_outlined own x ≡ false
      → IsWritable types x
  entry_writable k (leaf (views.identifier w)) h e = h
  entry_writable k (leaf (views.string s)) h e = h
  entry_writable k (leaf (views.bool b)) h e = h
  entry_writable k (leaf (views.integer t w b)) h e = h
  entry_writable k (leaf views.unit) h e = h
  entry_writable k (leaf (views.type_of t)) h e = h
  entry_writable k (leaf (views.operand_segment_sizes ns)) h e = h
  entry_writable k (leaf (views.given_names ns)) h e = absurd cc
  entry_writable k (leaf (views.own a)) h e = h
  entry_writable k (dict es) h e = h
  entry_writable k (vec xs) h e = h

  -- what stands under another key than that of names is not outlined
  entry_kept : (k : List ℕ) (x : AttrView A) → IsEntryReadable types k x → is_key k names_key ≡ false
      → is_outlined own x ≡ false
  entry_kept k (leaf (views.identifier w)) h e = refl
  entry_kept k (leaf (views.string s)) h e = refl
  entry_kept k (leaf (views.bool b)) h e = refl
  entry_kept k (leaf (views.integer t w b)) h e = refl
  entry_kept k (leaf views.unit) h e = refl
  entry_kept k (leaf (views.type_of t)) h e = refl
  entry_kept k (leaf (views.operand_segment_sizes ns)) h e = refl
  entry_kept k (leaf (views.given_names ns)) h e =
      let self : is_key k k ≡ false = subst (λ z. is_key k z ≡ false) (sym h) e in
      absurd (let g = same_key k in let z : ⊥ = cc (self, g) in z)
  entry_kept k (leaf (views.own a)) h e = absurd h
  entry_kept k (dict es) h e = refl
  entry_kept k (vec xs) h e = refl

pub not_or : (a b : Bool) → not (a || b) ≡ true → b ≡ false
not_or true b e = absurd cc
not_or false true e = absurd cc
not_or false false e = refl

module _ {D K A T E : Type 0} (o : op_set.Ghosts D K A T E) (types : List (TypeView T)) (kind : Option (OpKind K)) where
  -- each entry that is shown can be written
  pub shown_writable : (es : List (List ℕ × AttrView A)) → IsDictionary es → All (λ e. IsEntryReadable types e.0 e.1) es
      → AreWritable types (shown_of o kind es)
  shown_writable [] d all = tt
  shown_writable (a ∷ es) d all =
      by (is_shown o kind a) refl (shown_writable es d.2 (λ i e lt. all (suc i) e (omega (arith, lt))))
    where
      by : (t : Bool) → is_shown o kind a ≡ t → AreWritable types (shown_of o kind es)
          → AreWritable types (cond t (a ∷ shown_of o kind es) (shown_of o kind es))
      by true e rest = (
        d.0,
        entry_writable types o.attr_outlined a.0 a.1 (all 0 a (omega arith))
            (not_or (is_in_header kind a.0) (is_outlined o.attr_outlined a.1) e),
        rest,
      )
      by false e rest = rest

  -- where the header shows nothing of a key, and it is not that of names, what stands under it is shown
  pub shown_there : (es : List (List ℕ × AttrView A)) (k : List ℕ) → All (λ e. IsEntryReadable types e.0 e.1) es
      → is_in_header kind k ≡ false → is_key k names_key ≡ false → dict_get (shown_of o kind es) k ≡ dict_get es k
  shown_there es k all e f = get-filter (is_shown o kind) es k (λ i d lt same.
      let a = all i d lt in
      at (get_or es i d) a same)
    where
      at : (a : List ℕ × AttrView A) → IsEntryReadable types a.0 a.1 → is_key k a.0 ≡ true → is_shown o kind a ≡ true
      at a h same =
          let is : k ≡ a.0 = key_is k a.0 same in
          let told : is_in_header kind a.0 ≡ false = subst (λ z. is_in_header kind z ≡ false) is e in
          let outlined : is_outlined o.attr_outlined a.1 ≡ false =
          entry_kept types o.attr_outlined a.0 a.1 h (subst (λ z. is_key z names_key ≡ false) is f) in
          rw (told, outlined) refl
