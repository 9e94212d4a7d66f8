-- Whether handles name types of a table, asked of their parts.
use Rattle.std.proofs.Common.{◌≡◌, ◌↔◌, ℕ, Bool, true, false, cond, List, [], ◌∷◌, ◌++◌, Option, Some, None, IsTrue}
use Rattle.std.proofs.Common.{option_map, sym, subst, arith}
use Rattle.std.specs.Prelude.{All, Contains, IfSome}
use Rattle.std.proofs.lemmas.List.Elements.{All-append, All-contains, All-head, All-tail}
use Rattle.std.proofs.lemmas.Option.{none-some, same_Some}
use Rattle.plir_data.specs.AttrLive.{IsAttrLive, AreEntriesLive, IsLiveWith, IsHeldLive}
use Rattle.plir_data.specs.Dictionary.{dict_get, is_key}
use Rattle.plir_data.specs.AttrCalls.{attr_type}
use Rattle.plir_data.specs.AttrView.{identifier, string, bool, integer, unit, type_of, operand_segment_sizes}
use Rattle.plir_data.specs.AttrView.{given_names, own, AttrView, leaf, dict, vec, entries_of}
use Rattle.plir_data.specs.Types.{TypeView, IsLive, AllLive, IsTypeTable, handles_of, type_at}
use Rattle.plir_data.specs.LiveLaws.{all_left, all_right}

module _ {T : Type 0} (types : List (TypeView T)) (first rest : List ℕ) (a : Bool) where
  -- of handles behind others the second part is asked where the first is live
  pub both_live : (b : Bool) → (IsTrue a ↔ AllLive types first) → (IsTrue b ↔ AllLive types rest) → a ≡ true → IsTrue b
      ↔ AllLive types (first ++ rest)
  both_live b p q e = (
    λ t. All-append (IsLive types) first rest (p.0 e) (q.0 t),
    λ h. q.1
        (all_right (IsLive types) first rest h),
  )

  pub not_both_live : (IsTrue a ↔ AllLive types first) → a ≡ false → IsTrue a ↔ AllLive types (first ++ rest)
  not_both_live p e = (λ t. absurd (let f : ⊥ = cc in f), λ h. p.1 (all_left (IsLive types) first rest h))

-- R, which what is left of a dictionary decides, is decided by what stands behind a live entry, and is false at
-- another.
module _ {A T : Type 0} (own_handles : A → List ℕ) (types : List (TypeView T)) (R : Type 0)
    (es fs : List (List ℕ × AttrView A)) (e : List ℕ × AttrView A) where
  pub entry_live : es ≡ e ∷ fs → IsAttrLive own_handles types e.1 → (AreEntriesLive own_handles types (entries_of es) ↔
      R) → AreEntriesLive own_handles types (entries_of fs) ↔ R
  entry_live is first all =
      let h : (IsAttrLive own_handles types e.1 × AreEntriesLive own_handles types (entries_of fs)) ↔ R = subst
      (λ l. AreEntriesLive own_handles types (entries_of l) ↔ R) is all in
      (λ others. h.0 (first, others), λ r. (h.1 r).1)

  pub entry_dead : es ≡ e ∷ fs → (IsAttrLive own_handles types e.1 → ⊥) → (AreEntriesLive own_handles types
      (entries_of es) ↔ R) → R → ⊥
  entry_dead is first all r =
      let h : (IsAttrLive own_handles types e.1 × AreEntriesLive own_handles types (entries_of fs)) ↔ R = subst
      (λ l. AreEntriesLive own_handles types (entries_of l) ↔ R) is all in
      first (h.1 r).0

-- what holds of all values of a dictionary holds of the one at a key
module _ {V : Type 0} (P : V → Type 0) (k : List ℕ) where
  one_or_later : (b : Bool) (v : V) (o : Option V) → P v → IfSome o P → IfSome (cond b (Some v) o) P
  one_or_later true v o p q = p
  one_or_later false v o p q = q

  held_at : (es : List (List ℕ × V)) → All (λ e. P e.1) es → IfSome (dict_get es k) P
  held_at [] all = tt
  held_at (e ∷ es) all = one_or_later (is_key k e.0) e.1 (dict_get es k) (All-head
      (λ f. P f.1) e es all) (held_at es (All-tail (λ f. P f.1) e es all))

-- so an attribute that is seen under a key is live where all of the dictionary are
module _ {A X : Type 0} (T : Type 0) (see : X → AttrView A) where
  pub seen_live : (r : Option X) (es : List (List ℕ × AttrView A)) (k : List ℕ) → option_map see r ≡ dict_get es k →
      IfSome r (λ x. IsLiveWith T es (see x))
  seen_live None es k is = tt
  seen_live (Some x) es k is = λ own_handles types all. subst (λ o. IfSome o (IsAttrLive own_handles types)) (sym is)
      (held_at (IsAttrLive own_handles types) k es all)

-- the type of an attribute is among the handles in it
module _ {A : Type 0} (T : Type 0) (own_handles : A → List ℕ) (own_type : A → Option ℕ)
    (held : (a : A) (h : ℕ) → own_type a ≡ Some h → Contains (own_handles a) h) where
  the_one : (h t : ℕ) → Some h ≡ Some t → (types : List (TypeView T)) → AllLive types (t ∷ []) → IsLive types h
  the_one h t is types all = subst (IsLive types) (sym (same_Some h t is)) (All-head (IsLive types) t [] all)

  type_held : (a : AttrView A) (h : ℕ) → Some h ≡ attr_type own_type a → IsHeldLive T own_handles a h
  type_held (leaf (identifier w)) h is = absurd (none-some h (sym is))
  type_held (leaf (string s)) h is = absurd (none-some h (sym is))
  type_held (leaf (bool b)) h is = absurd (none-some h (sym is))
  type_held (leaf (integer t w b)) h is = the_one h t is
  type_held (leaf unit) h is = absurd (none-some h (sym is))
  type_held (leaf (type_of t)) h is = the_one h t is
  type_held (leaf (operand_segment_sizes ns)) h is = absurd (none-some h (sym is))
  type_held (leaf (given_names ns)) h is = absurd (none-some h (sym is))
  type_held (leaf (own a)) h is = λ types all. All-contains (IsLive types) (own_handles a) h all (held a h (sym is))
  type_held (dict es) h is = absurd (none-some h (sym is))
  type_held (vec xs) h is = absurd (none-some h (sym is))

  pub typed_live : (a : AttrView A) (o : Option ℕ) → o ≡ attr_type own_type a → IfSome o (IsHeldLive T own_handles a)
  typed_live a None is = tt
  typed_live a (Some h) is = type_held a h is

-- the handles that a type of a table holds name types before it, so they are live
pub parts_live : {T : Type 0} (own_handles : T → List ℕ) (types : List (TypeView T)) → IsTypeTable own_handles types →
    (h : ℕ) → IsLive types h → (t : TypeView T) → type_at types h ≡ Some t → AllLive types (handles_of own_handles t)
parts_live own_handles types table h live t is = λ k d p. let less = table.before t h is k d p in omega
    (arith, less, live)
