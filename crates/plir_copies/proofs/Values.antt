-- What stands in place of the values of an operation or a block, one after another.
use Rattle.std.proofs.Common.{◌≡◌, ◌+◌, ℕ, arith, Bool, true, false, cond, ◌&&◌, nat_lt, nat_eq, Some, None}
use Rattle.std.proofs.Common.{refl, sym, ap, ◌∙◌}
use Rattle.std.specs.Option.{option_or}
use Rattle.plir_core.specs.declared.ptr.Ptr.{Ptr}
use Rattle.plir_core.specs.declared.ptr.BasicBlock.{BasicBlock as BlockKind}
use Rattle.plir_core.specs.declared.value.Value.{Value}
use Rattle.plir_core.specs.declared.value.DefiningEntity.{DefiningEntity}
use Rattle.plir_core.specs.SameValue.{same_entity, same_ptr}
use Rattle.plir_copies.specs.Images.{Images, no_images, over, with_block, with_value}
use Rattle.plir_copies.specs.Copied.{value_at, with_values_of}

nat_lt_zero : (i : ℕ) → nat_lt i 0 ≡ false
nat_lt_zero i = grind arith

nat_lt_self : (i : ℕ) → nat_lt i (i + 1) ≡ true
nat_lt_self i = grind arith

nat_lt_more : (i j : ℕ) → nat_eq i j ≡ false → nat_lt j (i + 1) ≡ nat_lt j i
nat_lt_more i j e = grind arith

module _ (m : Images) (e f : DefiningEntity) where
  and_false : (b : Bool) → (b && false) ≡ false
  and_false true = refl
  and_false false = refl

  -- of none nothing has changed
  pub values-none : with_values_of m e f 0 ≡ m
  values-none = λ i. record m { value = λ v. at v i }
    where
      at : (v : Value) → cond (same_entity e v.entity && nat_lt v.index 0) (Some (value_at f v.index)) (m.value v)
          ≡ m.value v
      at v = ap (λ b. cond b (Some (value_at f v.index)) (m.value v))
          (ap (λ b. same_entity e v.entity && b) (nat_lt_zero v.index) ∙ and_false (same_entity e v.entity))

  -- and one more
  pub values-more : (i : ℕ) → with_value (with_values_of m e f i) (value_at e i) (value_at f i)
      ≡ with_values_of m e f (i + 1)
  values-more i = λ j. record m { value = λ v. at v (same_entity e v.entity) (nat_eq i v.index) refl j }
    where
      at : (v : Value) (b c : Bool) → nat_eq i v.index ≡ c → cond (b && c) (Some (value_at f i))
          (cond (b && nat_lt v.index i) (Some (value_at f v.index)) (m.value v))
          ≡ cond (b && nat_lt v.index (i + 1)) (Some (value_at f v.index)) (m.value v)
      at v false c is = refl
      at v true true is =
          let same : i ≡ v.index = grind arith in
          ap (λ k. Some (value_at f k)) same
          ∙ ap (λ b. cond b (Some (value_at f v.index)) (m.value v)) (sym (ap (λ k. nat_lt v.index (k + 1)) same
          ∙ nat_lt_self v.index))
      at v true false is =
          ap (λ b. cond b (Some (value_at f v.index)) (m.value v)) (sym (nat_lt_more i v.index is))

  -- put in place of nothing first, and then over the rest
  pub values-over : (n : ℕ) → over (with_values_of no_images e f n) m ≡ with_values_of m e f n
  values-over n = λ j. record m { value = λ v. at v (same_entity e v.entity && nat_lt v.index n) j }
    where
      at : (v : Value) (b : Bool) → option_or (cond b (Some (value_at f v.index)) None) (m.value v)
          ≡ cond b (Some (value_at f v.index)) (m.value v)
      at v true = refl
      at v false = refl

  -- and a block with its arguments
  pub block-over : (b c : Ptr BlockKind) (n : ℕ) → over (with_block (with_values_of no_images e f n) b c) m
      ≡ with_block (with_values_of m e f n) b c
  block-over b c n = λ j. record {
    value = λ v. (values-over n j).value v;
    block = λ x. at x (same_ptr b x) j;
    call = m.call;
  }
    where
      at : (x : Ptr BlockKind) (t : Bool) → option_or (cond t (Some c) None) (m.block x) ≡ cond t (Some c) (m.block x)
      at x true = refl
      at x false = refl
