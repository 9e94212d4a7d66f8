-- Different values of one context have different names, and different blocks different labels, whatever names are given
-- them: a name ends in numbers that tell which slot it is, under which version, and at which place.
use Rattle.std.proofs.Common.{◌≡◌, ℕ, ◌+◌, ◌<◌, ◌^◌, true, false, cond, List, [], ◌∷◌, ◌++◌, codes, decimal}
use Rattle.std.proofs.Common.{is_some, inl, inr, refl, sym, ap, ◌∙◌, arith, append_assoc, length, ◌==◌}
use Rattle.std.proofs.lemmas.Bool.{and_parts, and_right, cases_lt, eqb-true}
use Rattle.std.proofs.lemmas.Fmt.{decimal_injective}
use Rattle.std.proofs.lemmas.List.{append_cancel_right, get_or_past}
use Rattle.plir_store.specs.Table.{Table, Cell, IsTable, content_at, is_live_at, no_cell, version_at}
use Rattle.plir_data.specs.Identifier.{is_digit}
use Rattle.plir_core.specs.ContextView.{ContextView, IsLive, entity_node, label_of}
use Rattle.plir_core.specs.Nodes.{index_of}
use Rattle.plir_core.specs.Stored.{IsStored}
use Rattle.plir_core.specs.Texts.{pointer_text}
use Rattle.plir_core.specs.declared.ptr.Ptr.{Ptr}
use Rattle.plir_core.specs.declared.ptr.BasicBlock.{BasicBlock as BlockKind}
use Rattle.plir_core.specs.declared.ptr.IRNode.TheVariants.{BasicBlock}
use Rattle.plir_core.specs.declared.value.DefiningEntity.{DefiningEntity}
use Rattle.plir_core.specs.declared.value.DefiningEntity.TheVariants.{Op, Block}
use Rattle.plir_core.specs.declared.value.Value.{Value}
use Rattle.plir_attr_text.specs.Bytes.{all_pass, begins}
use Rattle.plir_walk.specs.GivenNames.{name_at, names_at}
use Rattle.plir_builtin.specs.ResultNames.{given_first}
use Rattle.plir_print.specs.ValueNames.{block_name, name_from, value_name}
use Rattle.plir_roundtrip.proofs.Suffixed.{decimal_digits}

-- ---- the digits at the end of a text

abbrev last_digits : List ℕ → List ℕ
last_digits [] = []
last_digits (b ∷ bs) = cond (all_pass is_digit (b ∷ bs)) (b ∷ bs) (last_digits bs)

last_of_digits : (ds : List ℕ) → all_pass is_digit ds ≡ true → last_digits ds ≡ ds
last_of_digits [] h = refl
last_of_digits (d ∷ ds) h = rw h refl

stopped : (xs : List ℕ) (a : ℕ) (ds : List ℕ) → is_digit a ≡ false → all_pass is_digit (xs ++ a ∷ ds) ≡ false
stopped [] a ds n = rw n refl
stopped (x ∷ xs) a ds n = and_right (is_digit x) (all_pass is_digit (xs ++ a ∷ ds)) (stopped xs a ds n)

last_behind : (xs : List ℕ) (a : ℕ) (ds : List ℕ) → is_digit a ≡ false → all_pass is_digit ds ≡ true
    → last_digits (xs ++ a ∷ ds) ≡ ds
last_behind [] a ds n h = rw (stopped [] a ds n) (last_of_digits ds h)
last_behind (x ∷ xs) a ds n h = rw (stopped (x ∷ xs) a ds n) (last_behind xs a ds n h)

-- the last byte, and 0 of no bytes
abbrev last_byte : List ℕ → ℕ
last_byte [] = 0
last_byte (x ∷ []) = x
last_byte (x ∷ y ∷ ys) = last_byte (y ∷ ys)

last_is : (xs : List ℕ) (a : ℕ) → last_byte (xs ++ a ∷ []) ≡ a
last_is [] a = refl
last_is (x ∷ []) a = refl
last_is (x ∷ y ∷ ys) a = last_is (y ∷ ys) a

-- texts that end in digits behind something else
module _ (xs ys : List ℕ) (a b : ℕ) (ds es : List ℕ) (n : is_digit a ≡ false) (m : is_digit b ≡ false)
    (h : all_pass is_digit ds ≡ true) (g : all_pass is_digit es ≡ true)
    (same : (xs ++ a ∷ []) ++ ds ≡ (ys ++ b ∷ []) ++ es) where
  digits_same : ds ≡ es
  digits_same =
      sym (last_behind xs a ds n h) ∙ ap last_digits (sym (append_assoc xs (a ∷ []) ds) ∙ same
      ∙ append_assoc ys (b ∷ []) es) ∙ last_behind ys b es m g

  fronts_same : xs ++ a ∷ [] ≡ ys ++ b ∷ []
  fronts_same =
      append_cancel_right (xs ++ a ∷ []) (ys ++ b ∷ []) es
      (ap (λ z. (xs ++ a ∷ []) ++ z) (sym digits_same) ∙ same)

-- ---- decimals

decimal_all : (n : ℕ) → all_pass is_digit (decimal n) ≡ true
decimal_all n = (and_parts (begins is_digit (decimal n)) (all_pass is_digit (decimal n)) (decimal_digits n)).1

-- texts that end in numbers behind something else
module _ (xs ys : List ℕ) (a b : ℕ) (i j : ℕ) (n : is_digit a ≡ false) (m : is_digit b ≡ false) (k : i < 2 ^ 64)
    (l : j < 2 ^ 64) (same : (xs ++ a ∷ []) ++ decimal i ≡ (ys ++ b ∷ []) ++ decimal j) where
  numbers_same : i ≡ j
  numbers_same =
      decimal_injective i j k l
      (digits_same xs ys a b (decimal i) (decimal j) n m (decimal_all i) (decimal_all j) same)

  before_same : xs ++ a ∷ [] ≡ ys ++ b ∷ []
  before_same = fronts_same xs ys a b (decimal i) (decimal j) n m (decimal_all i) (decimal_all j) same

-- ---- pointers

module _ {C X : Type 0} (t : Table C) (w : IsTable t) where
  slot_within : (p : Ptr X) → is_live_at t p.slot p.version ≡ true → p.slot < length t.slots
  slot_within p live = elim (cases_lt p.slot (length t.slots)) [
    | inl h ↦ h
    | inr h ↦
        let nothing : is_some (content_at t p.slot) ≡ false =
        ap (λ (z : Cell C). is_some z.content) (get_or_past t.slots p.slot no_cell h) in
        let something : is_some (content_at t p.slot) ≡ true =
        (and_parts (is_some (content_at t p.slot)) (version_at t p.slot == p.version) live).0 in
        absurd (let e : ⊥ = cc in e)
  ]

  -- the version of a live pointer is that of its slot, so it is small
  version_small : (p : Ptr X) → is_live_at t p.slot p.version ≡ true → p.version < 2 ^ 64
  version_small p live =
      let few = w.bounded p.slot (slot_within p live) in
      let is : version_at t p.slot ≡ p.version =
      eqb-true (version_at t p.slot) p.version
      (and_parts (is_some (content_at t p.slot)) (version_at t p.slot == p.version) live).1 in
      omega (arith, few, is)

  index_is : (p : Ptr X) → is_live_at t p.slot p.version ≡ true → index_of p ≡ p.slot + 1
  index_is p live = let lt = slot_within p live in let few = w.num_slots in omega (arith, lt, few)

  index_small : (p : Ptr X) → is_live_at t p.slot p.version ≡ true → index_of p < 2 ^ 64
  index_small p live =
      let is = index_is p live in let lt = slot_within p live in let few = w.num_slots in omega (arith, is, lt, few)

  -- texts that end in live pointers, behind a word that ends in no digit
  module _ (p q : Ptr X) (word : List ℕ) (a : ℕ) (n : is_digit a ≡ false)
      (mine : is_live_at t p.slot p.version ≡ true) (yours : is_live_at t q.slot q.version ≡ true) where
    grouped : (given : List ℕ) (r : Ptr X) → given ++ pointer_text (word ++ a ∷ []) r
        ≡ ((given ++ ((word ++ a ∷ []) ++ decimal (index_of r))) ++ 118 ∷ []) ++ decimal r.version
    grouped given r =
        sym (append_assoc given (((word ++ a ∷ []) ++ decimal (index_of r)) ++ 118 ∷ []) (decimal r.version))
        ∙ ap (λ z. z ++ decimal r.version)
        (sym (append_assoc given ((word ++ a ∷ []) ++ decimal (index_of r)) (118 ∷ [])))

    regrouped : (given : List ℕ) (r : Ptr X) → given ++ ((word ++ a ∷ []) ++ decimal (index_of r))
        ≡ ((given ++ word) ++ a ∷ []) ++ decimal (index_of r)
    regrouped given r =
        sym (append_assoc given (word ++ a ∷ []) (decimal (index_of r)))
        ∙ ap (λ z. z ++ decimal (index_of r)) (sym (append_assoc given word (a ∷ [])))

    pointers_same : (xs ys : List ℕ) → xs ++ pointer_text (word ++ a ∷ []) p ≡ ys ++ pointer_text (word ++ a ∷ []) q
        → p ≡ q
    pointers_same xs ys same =
        let front = xs ++ ((word ++ a ∷ []) ++ decimal (index_of p)) in
        let back = ys ++ ((word ++ a ∷ []) ++ decimal (index_of q)) in
        let whole : (front ++ 118 ∷ []) ++ decimal p.version ≡ (back ++ 118 ∷ []) ++ decimal q.version =
        sym (grouped xs p) ∙ same ∙ grouped ys q in
        let versions : p.version ≡ q.version =
        numbers_same front back 118 118 p.version q.version refl refl (version_small p mine) (version_small q yours)
        whole in
        let fronts : front ++ 118 ∷ [] ≡ back ++ 118 ∷ [] =
        before_same front back 118 118 p.version q.version refl refl (version_small p mine) (version_small q yours)
        whole in
        let inner : ((xs ++ word) ++ a ∷ []) ++ decimal (index_of p) ≡ ((ys ++ word) ++ a ∷ []) ++ decimal (index_of q) =
        sym (regrouped xs p) ∙ append_cancel_right front back (118 ∷ []) fronts ∙ regrouped ys q in
        let indices : index_of p ≡ index_of q =
        numbers_same (xs ++ word) (ys ++ word) a a (index_of p) (index_of q) n n (index_small p mine)
        (index_small q yours) inner in
        let first = index_is p mine in
        let second = index_is q yours in
        let slots : p.slot ≡ q.slot = omega (arith, indices, first, second) in
        λ i. record { slot = slots i; version = versions i; kind = record {} }

-- ---- values and blocks

module _ {K A T : Type 0} (s : ContextView K A T) (w : IsStored s.nodes) where
  pub blocks_apart : (b c : Ptr BlockKind) → IsLive s (BasicBlock b) → IsLive s (BasicBlock c)
      → block_name s b ≡ block_name s c → b ≡ c
  blocks_apart b c mine yours same =
      pointers_same s.nodes.blocks w.block_slots b c (codes "bloc") 107 refl mine yours (given_first (label_of s b))
      (given_first (label_of s c)) same

  -- what stands before the index of a value
  abbrev front_of_name : DefiningEntity → ℕ → List ℕ
  front_of_name (Op p) i = given_first (name_at (names_at s (Op p)) i) ++ pointer_text (codes "op") p
  front_of_name (Block b) i = given_first (name_at (names_at s (Block b)) i) ++ pointer_text (codes "block") b

  -- the mark before it, without its last letter, and that letter
  abbrev mark_of : DefiningEntity → List ℕ
  mark_of (Op p) = codes "_re"
  mark_of (Block b) = codes "_ar"

  abbrev letter_of : DefiningEntity → ℕ
  letter_of (Op p) = 115
  letter_of (Block b) = 103

  no_digit : (e : DefiningEntity) → is_digit (letter_of e) ≡ false
  no_digit (Op p) = refl
  no_digit (Block b) = refl

  name_is : (e : DefiningEntity) (i : ℕ)
      → name_from s e i ≡ ((front_of_name e i ++ mark_of e) ++ letter_of e ∷ []) ++ decimal i
  name_is (Op p) i = ap (λ z. z ++ decimal i) (sym (append_assoc (front_of_name (Op p) i) (codes "_re") (115 ∷ [])))
  name_is (Block b) i =
      ap (λ z. z ++ decimal i) (sym (append_assoc (front_of_name (Block b) i) (codes "_ar") (103 ∷ [])))

  fronts_apart : (e f : DefiningEntity) (i j : ℕ) → IsLive s (entity_node e) → IsLive s (entity_node f)
      → (front_of_name e i ++ mark_of e) ++ letter_of e ∷ [] ≡ (front_of_name f j ++ mark_of f) ++ letter_of f ∷ []
      → e ≡ f
  fronts_apart (Op p) (Op q) i j mine yours same =
      let ends : front_of_name (Op p) i ++ codes "_re" ≡ front_of_name (Op q) j ++ codes "_re" =
      append_cancel_right (front_of_name (Op p) i ++ codes "_re") (front_of_name (Op q) j ++ codes "_re") (115 ∷ [])
      same in
      ap Op (pointers_same s.nodes.ops w.op_slots p q (codes "o") 112 refl mine yours
      (given_first (name_at (names_at s (Op p)) i)) (given_first (name_at (names_at s (Op q)) j))
      (append_cancel_right (front_of_name (Op p) i) (front_of_name (Op q) j) (codes "_re") ends))
  fronts_apart (Block b) (Block c) i j mine yours same =
      let ends : front_of_name (Block b) i ++ codes "_ar" ≡ front_of_name (Block c) j ++ codes "_ar" =
      append_cancel_right (front_of_name (Block b) i ++ codes "_ar") (front_of_name (Block c) j ++ codes "_ar")
      (103 ∷ []) same in
      ap Block (pointers_same s.nodes.blocks w.block_slots b c (codes "bloc") 107 refl mine yours
      (given_first (name_at (names_at s (Block b)) i)) (given_first (name_at (names_at s (Block c)) j))
      (append_cancel_right (front_of_name (Block b) i) (front_of_name (Block c) j) (codes "_ar") ends))
  fronts_apart (Op p) (Block b) i j mine yours same =
      let ends : 115 ≡ 103 =
      sym (last_is (front_of_name (Op p) i ++ codes "_re") 115) ∙ ap last_byte same
      ∙ last_is (front_of_name (Block b) j ++ codes "_ar") 103 in
      absurd (omega (arith, ends))
  fronts_apart (Block b) (Op p) i j mine yours same =
      let ends : 103 ≡ 115 =
      sym (last_is (front_of_name (Block b) i ++ codes "_ar") 103) ∙ ap last_byte same
      ∙ last_is (front_of_name (Op p) j ++ codes "_re") 115 in
      absurd (omega (arith, ends))

  -- values of live nodes, at places that are counted in 64 bits
  pub values_apart : (v z : Value) → IsLive s (entity_node v.entity) → IsLive s (entity_node z.entity)
      → v.index < 2 ^ 64 → z.index < 2 ^ 64 → value_name s v ≡ value_name s z → v ≡ z
  values_apart v z mine yours few less same =
      let front = front_of_name v.entity v.index ++ mark_of v.entity in
      let back = front_of_name z.entity z.index ++ mark_of z.entity in
      let whole : (front ++ letter_of v.entity ∷ []) ++ decimal v.index
      ≡ (back ++ letter_of z.entity ∷ []) ++ decimal z.index =
      sym (name_is v.entity v.index) ∙ same ∙ name_is z.entity z.index in
      let indices : v.index ≡ z.index =
      numbers_same front back (letter_of v.entity) (letter_of z.entity) v.index z.index (no_digit v.entity)
      (no_digit z.entity) few less whole in
      let fronts =
      before_same front back (letter_of v.entity) (letter_of z.entity) v.index z.index (no_digit v.entity)
      (no_digit z.entity) few less whole in
      let entities : v.entity ≡ z.entity = fronts_apart v.entity z.entity v.index z.index mine yours fronts in
      λ i. record { entity = entities i; index = indices i }
