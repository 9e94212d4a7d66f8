-- Names without their suffixes, and arguments that are read one after the other.
use Rattle.std.proofs.Common.{◌≡◌, ℕ, suc, ◌-◌, ◌≤◌, ◌<◌, ◌+◌, Bool, true, false, cond, ◌&&◌, ◌||◌, List, [], ◌∷◌, ◌++◌}
use Rattle.std.proofs.Common.{length, take, drop, Option, Some, None, option_map, Ok, refl, sym, ap, subst, ◌∙◌, arith}
use Rattle.std.proofs.Common.{append_assoc, append-nil, length-append}
use Rattle.std.proofs.lemmas.List.{map-append}
use Rattle.std.proofs.lemmas.Option.{same_Some, none-some}
use Rattle.plir_data.specs.Identifier.{is_identifier, all_in_identifier, is_letter, is_digit}
use Rattle.plir_data.specs.Types.{TypeView}
use Rattle.plir_attr_text.specs.AttrGrammar.{SpellsIdentifier}
use Rattle.plir_attr_text.specs.AttrReading.{name_at}
use Rattle.plir_attr_text.specs.laws.Fronts.{GoesOn}
use Rattle.plir_attr_text.specs.laws.LeavesFound.{found-shorter, name_found}
use Rattle.plir_attr_text.specs.Lists.{separator_at, items_at}
use Rattle.plir_attr_text.specs.Names.{Grows, Names, NamesAll, AreNamed}
use Rattle.plir_read.specs.Heads.{argument_types, argument_names, result_names}
use Rattle.plir_read.specs.OpReading.{argument_at, names_at}
use Rattle.plir_read.specs.OpTerms.{Argument}
use Rattle.plir_attr_text.specs.TypesWritten.{IsWrittenIn}
use Rattle.plir_read.specs.HeldTypes.{IsHeldByArgument}
use Rattle.plir_read.specs.Suffixes.{is_joined_suffix, before_suffix, given_name}
use Rattle.plir_attr_text.specs.laws.Ends.{IsEnd}
use Rattle.plir_read.proofs.OpSteps.{from_start}
use Rattle.plir_read.specs.declared.names.Suffix.{Suffix}
use Rattle.plir_read.specs.declared.names.Suffix.TheVariants as kinds

-- no suffix begins before the rest
pub record IsSought (kind : Suffix) (word rest : List ℕ) : Type 0 where
  pub front : List ℕ
  pub whole : word ≡ front ++ rest
  pub same : before_suffix kind word ≡ option_map (λ (w : List ℕ). front ++ w) (before_suffix kind rest)

nothing_before : (o : Option (List ℕ)) → o ≡ option_map (λ (w : List ℕ). [] ++ w) o
nothing_before None = refl
nothing_before (Some w) = refl

pub IsSought-begins : (kind : Suffix) (word : List ℕ) → IsSought kind word word
IsSought-begins kind word = record { front = []; whole = refl; same = nothing_before (before_suffix kind word) }

one_more_before : (front : List ℕ) (b : ℕ) (o : Option (List ℕ)) →
    option_map (λ (w : List ℕ). front ++ w) (option_map (λ (w : List ℕ). b ∷ w) o) ≡ option_map
    (λ (w : List ℕ). (front ++ b ∷ []) ++ w) o
one_more_before front b None = refl
one_more_before front b (Some w) = ap (λ (z : List ℕ). Some z) (sym (append_assoc front (b ∷ []) w))

take_all : (xs : List ℕ) → take (length xs) xs ≡ xs
take_all [] = refl
take_all (x ∷ xs) = ap (λ (z : List ℕ). x ∷ z) (take_all xs)

pub IsSought-on : (kind : Suffix) (word rest : List ℕ) → IsSought kind word rest → 1 ≤ length rest →
    is_joined_suffix kind rest ≡ false → IsSought kind word (take (length rest - 1) (drop 1 rest))
IsSought-on kind word [] s some none = absurd (omega (arith, some))
IsSought-on kind word (b ∷ tail) s some none =
    let less : suc (length tail) - 1 ≡ length tail = omega arith in
    let all : take (suc (length tail) - 1) tail ≡ tail = ap (λ k. take k tail) less ∙ take_all tail in
    subst (IsSought kind word) (sym all) (record {
      front = s.front ++ b ∷ [];
      whole = s.whole ∙ sym (append_assoc s.front (b ∷ []) tail);
      same =
          s.same
          ∙ ap (λ z. option_map (λ (w : List ℕ). s.front ++ w)
          (cond z (Some []) (option_map (λ (w : List ℕ). b ∷ w) (before_suffix kind tail)))) none
          ∙ one_more_before s.front b (before_suffix kind tail);
    })

take_front : (front rest : List ℕ) → take (length front) (front ++ rest) ≡ front
take_front [] rest = refl
take_front (b ∷ bs) rest = ap (λ (z : List ℕ). b ∷ z) (take_front bs rest)

pub IsSought-found : (kind : Suffix) (word rest : List ℕ) → IsSought kind word rest →
    is_joined_suffix kind rest ≡ true → before_suffix kind word ≡ Some (take (length word - length rest) word)
IsSought-found kind word [] s there = absurd cc
IsSought-found kind word (b ∷ tail) s there =
    let size : length word ≡ length s.front + suc (length tail) = ap length s.whole ∙
    length-append s.front (b ∷ tail) in
    let less : length word - suc (length tail) ≡ length s.front = omega (arith, size) in
    let front : take (length word - suc (length tail)) word ≡ s.front = ap (λ k. take k word) less ∙
    ap (take (length s.front)) s.whole ∙ take_front s.front (b ∷ tail) in
    s.same
    ∙ ap (λ z. option_map (λ (w : List ℕ). s.front ++ w)
    (cond z (Some []) (option_map (λ (w : List ℕ). b ∷ w) (before_suffix kind tail)))) there
    ∙ ap (λ (z : List ℕ). Some z) (append-nil s.front ∙ sym front)

-- ---- what stands before a suffix is an identifier

all_and : (a b : Bool) → (a && b) ≡ true → (a ≡ true) × (b ≡ true)
all_and true b e = (refl, e)
all_and false b e = absurd cc

all_front : (front rest : List ℕ) → all_in_identifier (front ++ rest) ≡ true → all_in_identifier front ≡ true
all_front [] rest e = refl
all_front (b ∷ bs) rest e = let p = all_and (is_letter b || is_digit b) (all_in_identifier (bs ++ rest)) e in let q =
    all_front bs rest p.1 in rw (p.0, q) refl

stands_inside : (kind : Suffix) (b : ℕ) (bs front : List ℕ) →
    ((w : List ℕ) → before_suffix kind bs ≡ Some w → (rest : List ℕ) × (bs ≡ w ++ rest)) → (o : Option (List ℕ)) →
    before_suffix kind bs ≡ o → option_map (λ (w : List ℕ). b ∷ w) o ≡ Some front → (rest : List ℕ) ×
    (b ∷ bs ≡ front ++ rest)
stands_inside kind b bs front rec None f g = absurd (none-some front g)
stands_inside kind b bs front rec (Some w) f g =
    let r = rec w f in
    (r.0, ap (λ (z : List ℕ). b ∷ z) r.1 ∙ ap (λ (z : List ℕ). z ++ r.0) (same_Some (b ∷ w) front g))

stands_at : (kind : Suffix) (b : ℕ) (bs front : List ℕ) →
    ((w : List ℕ) → before_suffix kind bs ≡ Some w → (rest : List ℕ) × (bs ≡ w ++ rest)) → (z : Bool) →
    cond z (Some []) (option_map (λ (w : List ℕ). b ∷ w) (before_suffix kind bs)) ≡ Some front → (rest : List ℕ) ×
    (b ∷ bs ≡ front ++ rest)
stands_at kind b bs front rec true g = (b ∷ bs, ap (λ (z : List ℕ). z ++ b ∷ bs) (same_Some [] front g))
stands_at kind b bs front rec false g = stands_inside kind b bs front rec (before_suffix kind bs) refl g

stands_before : (kind : Suffix) (word front : List ℕ) → before_suffix kind word ≡ Some front → (rest : List ℕ) ×
    (word ≡ front ++ rest)
stands_before kind [] front e = absurd (none-some front e)
stands_before kind (b ∷ bs) front e =
    stands_at kind b bs front (λ w f. stands_before kind bs w f) (is_joined_suffix kind (b ∷ bs)) e

pub front_identifier : (kind : Suffix) (word front : List ℕ) → before_suffix kind word ≡ Some front → 1 ≤ length front →
    is_identifier word ≡ true → is_identifier front ≡ true
front_identifier kind word [] e some i = absurd (omega (arith, some))
front_identifier kind word (b ∷ bs) e some i =
    let r = stands_before kind word (b ∷ bs) e in
    let whole : is_identifier (b ∷ (bs ++ r.0)) ≡ true = subst (λ (w : List ℕ). is_identifier w ≡ true) r.1 i in
    let p = all_and (is_letter b) (all_in_identifier (bs ++ r.0)) whole in
    let q = all_front bs r.0 p.1 in
    rw (p.0, q) refl

-- ---- arguments that are read one after the other

-- the arguments read so far are held, and types have come
pub record Holds {S T : Type 0} (types : S → List (TypeView T)) (same : S → S → Type 0) (n : ℕ) (bytes : List ℕ)
    (first now : S) (handles : List ℕ) (names : List (Option (List ℕ))) (rest : List ℕ) : Type 0 where
  pub front : List Argument
  pub typed : NamesAll (types now) handles (argument_types front)
  pub named : names ≡ argument_names front
  pub grown : Grows (types first) (types now)
  pub written : AreNamed (IsWrittenIn bytes) (types first) (types now)
  pub held : AreNamed (λ t. IsHeldByArgument t front) (types first) (types now)
  pub behind : IsEnd bytes rest
  pub kept : same first now
  pub going : GoesOn (separator_at 41) (argument_at n) front rest (items_at 40 41 (argument_at n) bytes)

pub typed_push : {T : Type 0} (types : List (TypeView T)) (hs : List ℕ) (front : List Argument) (h : ℕ) (a : Argument) →
    NamesAll types hs (argument_types front) → Names types h a.1 →
    NamesAll types (hs ++ h ∷ []) (argument_types (front ++ a ∷ []))
typed_push types hs [] h a n m = (h, [], m, refl, ap (λ (l : List ℕ). l ++ h ∷ []) n)
typed_push types hs (x ∷ front) h a n m =
    (n.0, n.1 ++ h ∷ [], n.2, typed_push types n.1 front h a n.3 m, ap (λ (l : List ℕ). l ++ h ∷ []) n.4)

pub named_push : (front : List Argument) (a : Argument) → argument_names (front ++ a ∷ []) ≡ argument_names front ++
    given_name kinds.Argument a.0 ∷ []
named_push [] a = refl
named_push (x ∷ front) a = ap (λ (l : List (Option (List ℕ))). given_name kinds.Argument x.0 ∷ l) (named_push front a)

-- ---- names of results that are read one after the other

-- the names read so far are given
pub record AreGiven (bytes : List ℕ) (names : List (Option (List ℕ))) (rest : List ℕ) : Type 0 where
  pub front : List (List ℕ)
  pub named : names ≡ result_names front
  pub going : GoesOn (separator_at 61) name_at front rest (names_at bytes)

pub names_begin : (bytes : List ℕ) (names : List (Option (List ℕ))) → names ≡ [] → AreGiven bytes names bytes
unfolding names_at
names_begin bytes names e =
    record { front = []; named = e; going = from_start (separator_at 61) name_at bytes (names_at bytes) refl }

pub result_push : (front : List (List ℕ)) (w : List ℕ) (names more : List (Option (List ℕ))) (given : Option (List ℕ)) →
    more ≡ names ++ given ∷ [] → names ≡ result_names front → given ≡ given_name kinds.OpResult w →
    more ≡ result_names (front ++ w ∷ [])
result_push front w names more given e f g =
    e ∙ ap (λ (l : List (Option (List ℕ))). l ++ given ∷ []) f ∙
    ap (λ (x : Option (List ℕ)). result_names front ++ x ∷ []) g ∙
    sym (map-append (given_name kinds.OpResult) front (w ∷ []))

pub name_at-shorter : (bytes : List ℕ) (x : List ℕ × List ℕ) → name_at bytes ≡ Ok x → length x.1 < length bytes
name_at-shorter bytes x e =
    found-shorter SpellsIdentifier name_at name_found (λ w ts h. rw (h.1) (omega arith)) bytes x e
