-- What is seen of the uses of a value in some slots, where the others are passed over.
use Rattle.std.proofs.Common.{◌≡◌, ℕ, zero, suc, ◌+◌, ◌<◌, ◌≤◌, Bool, true, false, cond, List, [], ◌∷◌, length}
use Rattle.std.proofs.Common.{Option, Some, None, inl, inr, refl, sym, ap, subst, arith}
use Rattle.std.proofs.lemmas.Bool.{cases_eq}
use Rattle.std.proofs.lemmas.List.Sums.{sum_by-cons}
use Rattle.plir_store.specs.Table.{content_at}
use Rattle.plir_core.specs.declared.value.Value.{Value}
use Rattle.plir_core.specs.Contents.{OpView}
use Rattle.plir_core.specs.Stored.{Seat, seat_of}
use Rattle.plir_core.specs.ContextView.{ContextView, entity_node, operands_in}
use Rattle.plir_core.specs.SameValue.{same_value, value-exact}
use Rattle.plir_core.specs.Uses.{total, is_seated, values_from, uses_held, uses_of}
use Rattle.plir_core.specs.ValueUses.{times_in, uses_in_slot, num_uses_of}
use Rattle.plir_core.specs.Noted.{owner_uses_in, AreSeen}
use Rattle.plir_core.proofs.NotUsed.{seated_value}
use Rattle.plir_core.proofs.Rewiring.{time}

pub total-next : (f : ℕ → ℕ) (n : ℕ) → total f (n + 1) ≡ total f n + f n
total-next f n = let e : n + 1 ≡ suc n = omega arith in ap (total f) e

-- what holds of each number and itself, and of the next one where it holds of one, holds of all from a number on
pub up_from : (P : ℕ → ℕ → Type 0) → ((a b : ℕ) → a ≡ b → P a b) → ((a b : ℕ) → P a b → P a (suc b)) → (a b : ℕ) → a ≤ b
    → P a b
up_from P same more a zero h = same a zero (omega arith)
up_from P same more a (suc b) h = elim (cases_eq a (suc b)) [
  | inl e ↦ same a (suc b) e
  | inr ne ↦ more a b (up_from P same more a b (omega arith))
]

-- From a to b the sum of f has grown, and that of g by no more.
record Grows (f g : ℕ → ℕ) (a b : ℕ) : Type 0 where
  more : ℕ
  more_own : ℕ
  fewer : more_own ≤ more
  all : total f b ≡ total f a + more
  own : total g b ≡ total g a + more_own

module _ (f g : ℕ → ℕ) (least : (k : ℕ) → g k ≤ f k) where
  stays : (a b : ℕ) → a ≡ b → Grows f g a b
  stays a b e =
      let t = ap (total f) e in
      let u = ap (total g) e in
      record { more = 0; more_own = 0; fewer = omega arith; all = omega (arith, t); own = omega (arith, u) }

  grows : (a b : ℕ) → a ≤ b → Grows f g a b
  grows = up_from (Grows f g) stays (λ (a b : ℕ) (r : Grows f g a b). let z = least b in record {
    more = r.more + f b;
    more_own = r.more_own + g b;
    fewer = let x = r.fewer in omega (arith, x, z);
    all = let x = r.all in omega (arith, x);
    own = let x = r.own in omega (arith, x);
  })

-- a value is among others no more often than what it comes from
module _ (v : Value) where
  abbrev seat : Seat
  seat = seat_of (entity_node v.entity)

  one_fewer : (x : Value) (b : Bool) → same_value x v ≡ b → cond {A = ℕ} (same_value x v) 1 0 ≤ cond {A = ℕ}
      (is_seated seat (entity_node x.entity)) 1 0
  one_fewer x true e =
      let is : x ≡ v = (value-exact x v).0 e in
      let there : is_seated seat (entity_node x.entity) ≡ true = subst (λ z. is_seated seat (entity_node z.entity) ≡ true)
      (sym is) (seated_value v.entity) in
      let l = ap (λ (c : Bool). cond {A = ℕ} c 1 0) e in
      let r = ap (λ (c : Bool). cond {A = ℕ} c 1 0) there in
      omega (arith, l, r)
  one_fewer x false e = let l = ap (λ (c : Bool). cond {A = ℕ} c 1 0) e in omega (arith, l)

  values_fewer : (xs : List Value) → times_in v xs ≤ values_from seat xs
  values_fewer [] = omega arith
  values_fewer (x ∷ xs) =
      let l = sum_by-cons (time v) x xs in
      let r = sum_by-cons (λ z. cond {A = ℕ} (is_seated seat (entity_node z.entity)) 1 0) x xs in
      let h = one_fewer x (same_value x v) refl in
      let t = values_fewer xs in
      omega (arith, l, r, h, t)

  pub held_fewer : {K A : Type 0} (o : Option (OpView K A)) → times_in v (operands_in o) ≤ uses_held seat o
  held_fewer None = omega arith
  held_fewer (Some u) = let t = values_fewer u.operands in omega (arith, t)

module _ {K A T : Type 0} (s : ContextView K A T) (v : Value) where
  -- nothing is seen before the first slot
  pub AreSeen-none : AreSeen s v 0 0 0
  AreSeen-none =
      record { passed = 0; passed_own = 0; fewer = omega arith; owner_sum = refl; own_sum = refl; within = omega arith }

  -- one slot more is looked at, and those before it are passed over
  pub AreSeen-more : (end owner own : ℕ) → AreSeen s v end owner own → (slot : ℕ) → end ≤ slot → slot < length
      s.nodes.ops.slots → AreSeen s v (slot + 1) (owner + owner_uses_in s v slot) (own + uses_in_slot s v slot)
  AreSeen-more end owner own seen slot behind below =
      let r = grows (owner_uses_in s v) (uses_in_slot s v) (λ k. held_fewer v (content_at s.nodes.ops k)) end slot behind in
      let a = seen.owner_sum in
      let b = seen.own_sum in
      let x = r.all in
      let y = r.own in
      let p = total-next (owner_uses_in s v) slot in
      let q = total-next (uses_in_slot s v) slot in
      record {
        passed = seen.passed + r.more;
        passed_own = seen.passed_own + r.more_own;
        fewer = let m = seen.fewer in let n = r.fewer in omega (arith, m, n);
        owner_sum = omega (arith, a, x, p);
        own_sum = omega (arith, b, y, q);
        within = omega (arith, below);
      }

  -- nothing of the owner was passed over, if that is used as often as was seen
  pub AreSeen-all : (end owner own : ℕ) → AreSeen s v end owner own → owner ≡ uses_of s.nodes.ops
      (seat_of (entity_node v.entity)) → own ≡ num_uses_of s v
  AreSeen-all end owner own seen all =
      let r = grows (owner_uses_in s v) (uses_in_slot s v) (λ k. held_fewer v (content_at s.nodes.ops k)) end
      (length s.nodes.ops.slots) seen.within in
      let a = seen.owner_sum in
      let b = seen.own_sum in
      let x = r.all in
      let y = r.own in
      let m = seen.fewer in
      let n = r.fewer in
      omega (arith, all, a, b, x, y, m, n)
