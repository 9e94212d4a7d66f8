-- What values become that are given others.
use Rattle.std.proofs.Common.{◌≡◌, ◌+◌, ◌<◌, ◌≤◌, ℕ, arith, Bool, true, false, true≢false, cond, ◌&&◌, nat_lt, ◌⊎◌, inl}
use Rattle.std.proofs.Common.{inr}
use Rattle.std.proofs.Common.{List, length, Some, refl, sym, ap, subst, ◌∙◌}
use Rattle.std.specs.Prelude.{slice_get, slice_index_or}
use Rattle.std.proofs.lemmas.Option.{get_or_from_slice_get, slice_get-get_or}
use Rattle.plir_store.specs.Members.{Has}
use Rattle.plir_store.specs.MemberLaws.{Has-at}
use Rattle.plir_core.specs.declared.value.Value.{Value}
use Rattle.plir_core.specs.declared.value.DefiningEntity.{DefiningEntity}
use Rattle.plir_core.specs.SameValue.{same_entity, same_value, entity-exact, value-exact}
use Rattle.plir_core.specs.Replaced.{replaced}
use Rattle.plir_copies.specs.Copied.{value_at}
use Rattle.plir_inline.specs.Given.{NoneFrom, given, given_first}

pub bool_cases : (b : Bool) → (b ≡ true) ⊎ (b ≡ false)
bool_cases true = inl refl
bool_cases false = inr refl

-- what two values come from is the same or not
entity-told : (d e : DefiningEntity) → (d ≡ e) ⊎ (d ≡ e → ⊥)
entity-told d e = elim (bool_cases (same_entity d e)) [
  | inl h ↦ inl ((entity-exact d e).0 h)
  | inr h ↦ inr (λ is. true≢false (sym ((entity-exact d e).1 is) ∙ h))
]

replaced-hit : (x w v : Value) → v ≡ x → replaced x w v ≡ w
replaced-hit x w v is = ap (λ b. cond b w v) ((value-exact v x).1 is)

replaced-miss : (x w v : Value) → (v ≡ x → ⊥) → replaced x w v ≡ v
replaced-miss x w v off = elim (bool_cases (same_value v x)) [
  | inl h ↦ absurd (off ((value-exact v x).0 h))
  | inr h ↦ ap (λ b. cond b w v) h
]

three_ways : (i j : ℕ) → (i < j) ⊎ (i ≡ j) ⊎ (j < i)
three_ways i j = grind arith

two_ways : (i j : ℕ) → (i < j) ⊎ (j ≤ i)
two_ways i j = grind arith

lt-true : (i j : ℕ) → i < j → nat_lt i j ≡ true
lt-true i j h = grind arith

lt-false : (i j : ℕ) → j ≤ i → nat_lt i j ≡ false
lt-false i j h = grind arith

and_false : (b : Bool) → (b && false) ≡ false
and_false true = refl
and_false false = refl

module _ (e : DefiningEntity) (vs : List Value) where
  -- a value of another owner stays
  pub given-other : (n : ℕ) (v : Value) → (v.entity ≡ e → ⊥) → given_first e vs n v ≡ v
  given-other n v off = elim (bool_cases (same_entity e v.entity)) [
    | inl h ↦ absurd (off (sym ((entity-exact e v.entity).0 h)))
    | inr h ↦ ap (λ b. cond (b && nat_lt v.index n) (slice_index_or vs v.index v) v) h
  ]

  -- so does one past the first n
  pub given-past : (n : ℕ) (v : Value) → n ≤ v.index → given_first e vs n v ≡ v
  given-past n v h =
      ap (λ b. cond b (slice_index_or vs v.index v) v)
      (ap (λ b. same_entity e v.entity && b) (lt-false v.index n h) ∙ and_false (same_entity e v.entity))

  -- and one of the first n becomes what stands at its place
  pub given-hit : (n : ℕ) (v : Value) → v.entity ≡ e → v.index < n → given_first e vs n v ≡ slice_index_or vs v.index v
  given-hit n v is h =
      ap (λ b. cond (b && nat_lt v.index n) (slice_index_or vs v.index v) v) ((entity-exact e v.entity).1 (sym is))
      ∙ ap (λ b. cond b (slice_index_or vs v.index v) v) (lt-true v.index n h)

  pub given-none : (v : Value) → given_first e vs 0 v ≡ v
  given-none v = given-past 0 v (omega arith)

  pub has-at : (i : ℕ) (d : Value) → i < length vs → Has vs (slice_index_or vs i d)
  has-at i d h = Has-at vs i (slice_index_or vs i d) (slice_get-get_or vs i d h)

  module _ (none : NoneFrom e vs) where
    -- one more is given
    pub given-more : (i : ℕ) (w : Value) → i < length vs → slice_get vs i ≡ Some w → (v : Value)
        → replaced (value_at e i) w (given_first e vs i v) ≡ given_first e vs (i + 1) v
    given-more i w within at v = elim (entity-told v.entity e) [
      | inr off ↦
          ap (replaced (value_at e i) w) (given-other i v off)
          ∙ replaced-miss (value_at e i) w v (λ is. off (ap (λ z. z.entity) is)) ∙ sym (given-other (i + 1) v off)
      | inl is ↦ elim (three_ways v.index i) [
        | inl less ↦
            let x = slice_index_or vs v.index v in
            ap (replaced (value_at e i) w) (given-hit i v is less)
            ∙ replaced-miss (value_at e i) w x (λ same.
            none x (has-at v.index v (omega (arith, less, within))) (ap (λ z. z.entity) same))
            ∙ sym (given-hit (i + 1) v is (omega (arith, less)))
        | inr (inl here) ↦
            let same : v ≡ value_at e i = (λ j. record { entity = is j; index = here j }) in
            ap (replaced (value_at e i) w) (given-past i v (omega (arith, here)))
            ∙ replaced-hit (value_at e i) w v same
            ∙ sym (given-hit (i + 1) v is (omega (arith, here))
            ∙ get_or_from_slice_get vs v.index w v (ap (slice_get vs) here ∙ at))
        | inr (inr more) ↦
            ap (replaced (value_at e i) w) (given-past i v (omega (arith, more)))
            ∙ replaced-miss (value_at e i) w v (λ same.
            let at_i : v.index ≡ i = ap (λ z. z.index) same in omega (arith, at_i, more))
            ∙ sym (given-past (i + 1) v (omega (arith, more)))
      ]
    ]

    -- what has been given is none of those in whose place it came
    pub given-gone : (v : Value) → (given e vs v).entity ≡ e → (given e vs v).index < length vs → ⊥
    given-gone v own below = elim (entity-told v.entity e) [
      | inr off ↦ off (ap (λ z. z.entity) (sym (given-other (length vs) v off)) ∙ own)
      | inl is ↦ elim (two_ways v.index (length vs)) [
        | inl less ↦
            none (slice_index_or vs v.index v) (has-at v.index v less)
            (ap (λ z. z.entity) (sym (given-hit (length vs) v is less)) ∙ own)
        | inr past ↦
            let same : (given e vs v).index ≡ v.index = ap (λ z. z.index) (given-past (length vs) v past) in
            omega (arith, same, below, past)
      ]
    ]

  -- a value has stayed, or has become one that is given
  pub given-cases : (v : Value) → (given e vs v ≡ v) ⊎ Has vs (given e vs v)
  given-cases v = elim (entity-told v.entity e) [
    | inr off ↦ inl (given-other (length vs) v off)
    | inl is ↦ elim (two_ways v.index (length vs)) [
      | inl less ↦ inr (subst (Has vs) (sym (given-hit (length vs) v is less)) (has-at v.index v less))
      | inr past ↦ inl (given-past (length vs) v past)
    ]
  ]
