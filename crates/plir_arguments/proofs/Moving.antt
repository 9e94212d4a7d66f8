-- What values become where the arguments of a block come in place of those of another one.
use Rattle.std.proofs.Common.{◌≡◌, ℕ, ◌+◌, ◌<◌, ◌≤◌, ◌⊎◌, inl, inr, arith, Bool, true, false, true≢false, cond}
use Rattle.std.proofs.Common.{◌&&◌, not, nat_lt, refl, sym, ap, ◌∙◌, List, [], ◌∷◌, map, Option, Some, None, option_map}
use Rattle.std.specs.Prelude.{nat_eq}
use Rattle.std.specs.Cmp.{unsigned_Decides}
use Rattle.plir_store.specs.Table.{content_at}
use Rattle.plir_core.specs.declared.ptr.Ptr.{Ptr}
use Rattle.plir_core.specs.declared.ptr.BasicBlock.{BasicBlock as BlockKind}
use Rattle.plir_core.specs.declared.value.Value.{Value}
use Rattle.plir_core.specs.declared.value.DefiningEntity.{DefiningEntity}
use Rattle.plir_core.specs.declared.value.DefiningEntity.TheVariants.{Block}
use Rattle.plir_core.specs.Contents.{OpView}
use Rattle.plir_core.specs.ContextView.{ContextView, op_at}
use Rattle.plir_core.specs.Replaced.{op_replaced, replaced}
use Rattle.plir_core.specs.Rewired.{IsRewired}
use Rattle.plir_core.specs.SameValue.{same_entity, same_value, entity-exact, value-exact}
use Rattle.plir_copies.specs.Copied.{is_among_first, value_at}
use Rattle.plir_inline.specs.Given.{IsGiven, with_operands_by}
use Rattle.plir_arguments.specs.Dropped.{moved, moved_down}
use Rattle.plir_arguments.proofs.Changed.{keeps-both, keeps-same}
use Rattle.plir_arguments.proofs.Members.{bool_cases}

-- what two values come from is the same or not
pub entity-told : (d e : DefiningEntity) → (d ≡ e) ⊎ (d ≡ e → ⊥)
entity-told d e = elim (bool_cases (same_entity d e)) [
  | inl h ↦ inl ((entity-exact d e).0 h)
  | inr h ↦ inr (λ is. true≢false (sym ((entity-exact d e).1 is) ∙ h))
]

replaced-hit : (x w v : Value) → v ≡ x → replaced x w v ≡ w
replaced-hit x w v is = ap (λ b. cond b w v) ((value-exact v x).1 is)

replaced-miss : (x w v : Value) → (v ≡ x → ⊥) → replaced x w v ≡ v
replaced-miss x w v off = elim (bool_cases (same_value v x)) [
  | inl h ↦ absurd (off ((value-exact v x).0 h))
  | inr h ↦ ap (λ b. cond b w v) h
]

three_ways : (i j : ℕ) → (i < j) ⊎ (i ≡ j) ⊎ (j < i)
three_ways i j = grind arith

lt-true : (i j : ℕ) → i < j → nat_lt i j ≡ true
lt-true i j h = grind arith

lt-false : (i j : ℕ) → j ≤ i → nat_lt i j ≡ false
lt-false i j h = grind arith

eq-true : (i j : ℕ) → i ≡ j → nat_eq i j ≡ true
eq-true i j h = (unsigned_Decides i j).1 h

eq-false : (i j : ℕ) → (i ≡ j → ⊥) → nat_eq i j ≡ false
eq-false i j h = elim (bool_cases (nat_eq i j)) [
  | inl e ↦ absurd (h ((unsigned_Decides i j).0 e))
  | inr e ↦ e
]

and-false : (x : Bool) → (x && false) ≡ false
and-false true = refl
and-false false = refl

module _ (b c : Ptr BlockKind) (gone : ℕ) where
  -- a value of another owner stays
  pub moved-other : (n : ℕ) (v : Value) → (v.entity ≡ Block b → ⊥) → moved b c gone n v ≡ v
  moved-other n v off = elim (bool_cases (same_entity (Block b) v.entity)) [
    | inl h ↦ absurd (off (sym ((entity-exact (Block b) v.entity).0 h)))
    | inr h ↦ ap (λ z. cond ((z && nat_lt v.index n) && not (nat_eq v.index gone))
        (value_at (Block c) (moved_down gone v.index)) v) h
  ]

  -- so does one past the first n
  pub moved-past : (n : ℕ) (v : Value) → n ≤ v.index → moved b c gone n v ≡ v
  moved-past n v h =
      ap (λ z. cond ((same_entity (Block b) v.entity && z) && not (nat_eq v.index gone))
      (value_at (Block c) (moved_down gone v.index)) v) (lt-false v.index n h)
      ∙ ap (λ z. cond (z && not (nat_eq v.index gone)) (value_at (Block c) (moved_down gone v.index)) v)
      (and-false (same_entity (Block b) v.entity))

  -- and the one that is to go
  pub moved-gone : (n : ℕ) (v : Value) → v.index ≡ gone → moved b c gone n v ≡ v
  moved-gone n v h =
      ap (λ z. cond (is_among_first (Block b) n v && not z) (value_at (Block c) (moved_down gone v.index)) v)
      (eq-true v.index gone h)
      ∙ ap (λ z. cond z (value_at (Block c) (moved_down gone v.index)) v) (and-false (is_among_first (Block b) n v))

  -- any other argument moves
  pub moved-hit : (n : ℕ) (v : Value) → v.entity ≡ Block b → v.index < n → (v.index ≡ gone → ⊥)
      → moved b c gone n v ≡ value_at (Block c) (moved_down gone v.index)
  moved-hit n v is less off =
      let w = value_at (Block c) (moved_down gone v.index) in
      ap (λ z. cond ((z && nat_lt v.index n) && not (nat_eq v.index gone)) w v) ((entity-exact (Block b) v.entity).1 (sym is))
      ∙ ap (λ z. cond (z && not (nat_eq v.index gone)) w v) (lt-true v.index n less)
      ∙ ap (λ z. cond (not z) w v) (eq-false v.index gone off)

  pub moved-none : (v : Value) → moved b c gone 0 v ≡ v
  moved-none v = moved-past 0 v (omega arith)

  -- where the next one is to go, nothing moves
  pub moved-pass : (i : ℕ) → i ≡ gone → (v : Value) → moved b c gone i v ≡ moved b c gone (i + 1) v
  moved-pass i at v = elim (entity-told v.entity (Block b)) [
    | inr off ↦ moved-other i v off ∙ sym (moved-other (i + 1) v off)
    | inl is ↦ elim (three_ways v.index i) [
      | inl less ↦
          let off : v.index ≡ gone → ⊥ = λ e. (let no : ⊥ = omega (arith, less, at, e) in no) in
          moved-hit i v is less off ∙ sym (moved-hit (i + 1) v is (omega (arith, less)) off)
      | inr (inl here) ↦
          let g : v.index ≡ gone = here ∙ at in
          moved-gone i v g ∙ sym (moved-gone (i + 1) v g)
      | inr (inr more) ↦
          moved-past i v (omega (arith, more)) ∙ sym (moved-past (i + 1) v (omega (arith, more)))
    ]
  ]

  other-block : (b ≡ c → ⊥) → Block c ≡ Block b → ⊥
  other-block apart e = apart (let q : b ≡ c = cc in q)

  -- what has moved stays where it is as the next one moves
  moved-on : (b ≡ c → ⊥) → (i : ℕ) (v : Value) → v.entity ≡ Block b → v.index < i → (v.index ≡ gone → ⊥)
      → replaced (value_at (Block b) i) (value_at (Block c) (moved_down gone i)) (moved b c gone i v)
      ≡ moved b c gone (i + 1) v
  moved-on apart i v is less off =
      let x = value_at (Block b) i in
      let w = value_at (Block c) (moved_down gone i) in
      ap (replaced x w) (moved-hit i v is less off)
      ∙ replaced-miss x w (value_at (Block c) (moved_down gone v.index)) (λ same. other-block apart (ap (λ z. z.entity) same))
      ∙ sym (moved-hit (i + 1) v is (omega (arith, less)) off)

  -- one more moves
  pub moved-more : (apart : b ≡ c → ⊥) (i : ℕ) → (i ≡ gone → ⊥) → (v : Value)
      → replaced (value_at (Block b) i) (value_at (Block c) (moved_down gone i)) (moved b c gone i v)
      ≡ moved b c gone (i + 1) v
  moved-more apart i stays v =
      let x = value_at (Block b) i in
      let w = value_at (Block c) (moved_down gone i) in
      elim (entity-told v.entity (Block b)) [
        | inl is ↦ elim (three_ways v.index i) [
          | inl less ↦ elim (three_ways v.index gone) [
            | inl low ↦ moved-on apart i v is less (λ e. (let no : ⊥ = omega (arith, e, low) in no))
            | inr (inl g) ↦
                ap (replaced x w) (moved-gone i v g)
                ∙ replaced-miss x w v (λ same. (let e : v.index ≡ i = ap (λ z. z.index) same in
                let no : ⊥ = omega (arith, e, less) in no))
                ∙ sym (moved-gone (i + 1) v g)
            | inr (inr high) ↦ moved-on apart i v is less (λ e. (let no : ⊥ = omega (arith, e, high) in no))
          ]
          | inr (inl here) ↦
              let same : v ≡ x = (λ j. record { entity = is j; index = here j }) in
              let off : v.index ≡ gone → ⊥ = λ e. stays (sym here ∙ e) in
              ap (replaced x w) (moved-past i v (omega (arith, here))) ∙ replaced-hit x w v same
              ∙ ap (λ k. value_at (Block c) (moved_down gone k)) (sym here)
              ∙ sym (moved-hit (i + 1) v is (omega (arith, here)) off)
          | inr (inr more) ↦
              ap (replaced x w) (moved-past i v (omega (arith, more)))
              ∙ replaced-miss x w v (λ same. (let e : v.index ≡ i = ap (λ z. z.index) same in
              let no : ⊥ = omega (arith, e, more) in no))
              ∙ sym (moved-past (i + 1) v (omega (arith, more)))
        ]
        | inr off ↦
            ap (replaced x w) (moved-other i v off) ∙ replaced-miss x w v (λ is. off (ap (λ z. z.entity) is))
            ∙ sym (moved-other (i + 1) v off)
      ]

module _ {X Y Z : Type 0} where
  map-as : (f : X → Y) (g : Y → Z) (h : X → Z) → ((x : X) → g (f x) ≡ h x) → (xs : List X)
      → map g (map f xs) ≡ map h xs
  map-as f g h e [] = refl
  map-as f g h e (x ∷ xs) = λ i. e x i ∷ map-as f g h e xs i

map-same : {X : Type 0} (f g : X → X) (xs : List X) → ((x : X) → f x ≡ g x) → map f xs ≡ map g xs
map-same f g [] e = refl
map-same f g (x ∷ xs) e = λ i. e x i ∷ map-same f g xs e i

map-id : {X : Type 0} (f : X → X) (xs : List X) → ((x : X) → f x ≡ x) → map f xs ≡ xs
map-id f [] e = refl
map-id f (x ∷ xs) e = λ i. e x i ∷ map-id f xs e i

module _ {K A : Type 0} where
  by-both : (f g h : Value → Value) → ((x : Value) → g (f x) ≡ h x) → (o : Option (OpView K A))
      → option_map (with_operands_by g) (option_map (with_operands_by f) o) ≡ option_map (with_operands_by h) o
  by-both f g h e None = refl
  by-both f g h e (Some o) =
      ap (λ vs. let r : OpView K A = record o { operands = vs } in Some r) (map-as f g h e o.operands)

  by-alike : (f g : Value → Value) → ((x : Value) → f x ≡ g x) → (o : Option (OpView K A))
      → option_map (with_operands_by f) o ≡ option_map (with_operands_by g) o
  by-alike f g e None = refl
  by-alike f g e (Some o) =
      ap (λ vs. let r : OpView K A = record o { operands = vs } in Some r) (map-same f g o.operands e)

  by-none : (f : Value → Value) → ((x : Value) → f x ≡ x) → (o : Option (OpView K A))
      → option_map (with_operands_by f) o ≡ o
  by-none f e None = refl
  by-none f e (Some o) = ap (λ vs. let r : OpView K A = record o { operands = vs } in Some r) (map-id f o.operands e)

module _ {K A T : Type 0} where
  pub given-same : (s : ContextView K A T) (f : Value → Value) → ((x : Value) → f x ≡ x) → IsGiven s s f
  given-same s f e = record {
    keeps = keeps-same s;
    ops = λ p. sym (by-none f e (op_at s p));
    blocks = λ b. refl;
  }

  pub given-alike : (s t : ContextView K A T) (f g : Value → Value) → ((x : Value) → f x ≡ g x) → IsGiven s t f
      → IsGiven s t g
  given-alike s t f g e a = record {
    keeps = a.keeps;
    ops = λ p. a.ops p ∙ by-alike f g e (op_at s p);
    blocks = a.blocks;
  }

  pub given-next : (s t u : ContextView K A T) (f h : Value → Value) (v w : Value) → IsGiven s t f → IsRewired t u v w
      → ((x : Value) → replaced v w (f x) ≡ h x) → IsGiven s u h
  given-next s t u f h v w a r e = record {
    keeps = keeps-both s t u a.keeps r.keeps;
    ops = λ p.
        r.ops p ∙ ap (option_map (op_replaced v w)) (a.ops p) ∙ by-both f (replaced v w) h e (op_at s p);
    blocks = λ b. ap (λ z. content_at z b.slot) r.blocks ∙ a.blocks b;
  }
