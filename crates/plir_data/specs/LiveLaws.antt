-- Laws of handles that name types of a table, proved beside their words so that the crates above can cite them: what is
-- live in a type, in a list and in a dictionary, and after an entry was put. No contract cites this module.
use Rattle.std.proofs.Common.{ℕ, zero, suc, ◌<◌, ◌≡◌, List, [], ◌∷◌, ◌++◌, length, get_or, map, Option, Some, None}
use Rattle.std.proofs.Common.{Ordering, Less, Equal, Greater, nat_cmp, subst, arith}
use Rattle.std.specs.Prelude.{All, IfSome}
use Rattle.std.proofs.lemmas.List.Elements.{All-cons, All-head, All-nil, All-tail}
use Rattle.std.specs.Cmp.Lexicographic.{slice_cmp}
use Rattle.std.specs.Ordering.{match_ordering}
use Rattle.plir_data.specs.AttrLive.{IsAttrLive, AreItemsLive, AreEntriesLive, HandlesLive, IsHeldLive}
use Rattle.plir_data.specs.AttrView.{AttrView, items_of, entries_of}
use Rattle.plir_data.specs.Dictionary.{dict_put}
use Rattle.plir_data.specs.Types.{TypeView, IsLive, AllLive}

module _ {X : Type 0} (P : X → Type 0) where
  -- a fact of all of two lists joined is one of each: where the handles in a type of functions are live, those of its
  -- arguments are, and those of its results
  pub all_left : (xs ys : List X) → All P (xs ++ ys) → All P xs
  all_left [] ys all k d p = absurd (omega (arith, p))
  all_left (x ∷ xs) ys all zero d p = all 0 d (omega arith)
  all_left (x ∷ xs) ys all (suc k) d p
      = all_left xs ys (λ i e q. all (suc i) e (omega (arith, q))) k d (omega (arith, p))

  pub all_right : (xs ys : List X) → All P (xs ++ ys) → All P ys
  all_right [] ys all = all
  all_right (x ∷ xs) ys all = all_right xs ys (λ i e q. all (suc i) e (omega (arith, q)))

module _ {T : Type 0} (types : List (TypeView T)) where
  -- the arguments and the results of a type of functions whose handles are live
  pub arguments_live : (arguments results : List ℕ) → AllLive types (arguments ++ results) → AllLive types arguments
  arguments_live = all_left (IsLive types)

  pub results_live : (arguments results : List ℕ) → AllLive types (arguments ++ results) → AllLive types results
  results_live = all_right (IsLive types)

module _ {A T : Type 0} (own_handles : A → List ℕ) (types : List (TypeView T)) where
  -- the type that a live attribute has or holds is live
  pub held_live : (handle : Option ℕ) (x : AttrView A) → IfSome handle (IsHeldLive T own_handles x) →
      IsAttrLive own_handles types x → IfSome handle (IsLive types)
  held_live None x held live = tt
  held_live (Some h) x held live = held types live

  abbrev IsEntryLive : List ℕ × AttrView A → Type 0
  IsEntryLive e = IsAttrLive own_handles types e.1

  -- the attributes of a dictionary are live one by one exactly where all of them are
  pub listed_live : (es : List (List ℕ × AttrView A)) → AreEntriesLive own_handles types (entries_of es) →
      HandlesLive own_handles types es
  listed_live [] h = All-nil IsEntryLive
  listed_live (e ∷ es) h = All-cons IsEntryLive e es h.0 (listed_live es h.1)

  pub live_listed : (es : List (List ℕ × AttrView A)) → HandlesLive own_handles types es →
      AreEntriesLive own_handles types (entries_of es)
  live_listed [] h = tt
  live_listed (e ∷ es) h = (All-head IsEntryLive e es h, live_listed es (All-tail IsEntryLive e es h))

  -- the first entry of live ones is live, and so are those behind it
  pub first_live : (es fs : List (List ℕ × AttrView A)) (e : List ℕ × AttrView A) → es ≡ e ∷ fs →
      AreEntriesLive own_handles types (entries_of es) →
      IsAttrLive own_handles types e.1 × AreEntriesLive own_handles types (entries_of fs)
  first_live es fs e is h = subst (λ l. AreEntriesLive own_handles types (entries_of l)) is h

  -- a live attribute that is put among live ones leaves live ones
  pub put_live : (es : List (List ℕ × AttrView A)) (k : List ℕ) (x : AttrView A) → IsAttrLive own_handles types x →
      HandlesLive own_handles types es → HandlesLive own_handles types (dict_put es k x)
  put_live [] k x h all = All-cons IsEntryLive (k, x) [] h (All-nil IsEntryLive)
  put_live (e ∷ es) k x h all = at (slice_cmp nat_cmp k e.0) (put_live es k x h (All-tail IsEntryLive e es all))
    where
      at : (o : Ordering) → HandlesLive own_handles types (dict_put es k x) →
          HandlesLive own_handles types (match_ordering o ((k, x) ∷ e ∷ es) ((e.0, x) ∷ es) (e ∷ dict_put es k x))
      at Less rest = All-cons IsEntryLive (k, x) (e ∷ es) h all
      at Equal rest = All-cons IsEntryLive (e.0, x) es h (All-tail IsEntryLive e es all)
      at Greater rest = All-cons IsEntryLive e (dict_put es k x) (All-head IsEntryLive e es all) rest

  -- the attributes in a list are live one by one exactly where all of them are
  pub items_listed : (xs : List (AttrView A)) → AreItemsLive own_handles types (items_of xs) →
      All (IsAttrLive own_handles types) xs
  items_listed [] h = All-nil (IsAttrLive own_handles types)
  items_listed (x ∷ xs) h = All-cons (IsAttrLive own_handles types) x xs h.0 (items_listed xs h.1)

  pub listed_items : (xs : List (AttrView A)) → All (IsAttrLive own_handles types) xs →
      AreItemsLive own_handles types (items_of xs)
  listed_items [] h = tt
  listed_items (x ∷ xs) h =
      (All-head (IsAttrLive own_handles types) x xs h, listed_items xs (All-tail (IsAttrLive own_handles types) x xs h))

  -- what stands at a place of a list, as it is seen, is live where all items are
  pub item_live : {X : Type 0} (see : X → AttrView A) (xs : List X) (i : ℕ) (d : X) → i < length xs →
      AreItemsLive own_handles types (items_of (map see xs)) → IsAttrLive own_handles types (see (get_or xs i d))
  item_live see [] i d within h = absurd (omega (arith, within))
  item_live see (x ∷ xs) zero d within h = h.0
  item_live see (x ∷ xs) (suc i) d within h = item_live see xs i d (omega (arith, within)) h.1
