-- Look-ups by the tests that are derived, beside those by the words of contracts.
use Rattle.std.proofs.Common.{◌≡◌, ℕ, Bool, true, false, ◌&&◌, nat_eq, cond, Some, refl, sym, ap}
use Rattle.std.proofs.Common.{subst, ◌∙◌}
use Rattle.std.specs.Bool.{Decides}
use Rattle.std.specs.Cmp.{IsEquivalence}
use Rattle.std.specs.HashMap.{HashMap, get, get_by}
use Rattle.plir_core.specs.declared.ptr.Ptr.{Ptr}
use Rattle.plir_core.specs.declared.value.Value.{Value}
use Rattle.plir_core.specs.declared.value.DefiningEntity.{DefiningEntity}
use Rattle.plir_core.specs.declared.value.DefiningEntity.TheVariants.{Op, Block}
use Rattle.plir_core.specs.contracts.value.ValuePartialEq.TheImpl.{ghosts}
use Rattle.plir_core.specs.SameValue.{same_ptr, same_value, ptr-exact, value-exact}

and_true : (b : Bool) → (b && true) ≡ b
and_true true = refl
and_true false = refl

-- equality of pointers, as it is derived
abbrev pub ptr_eq : {X : Type 0} → Ptr X → Ptr X → Bool
ptr_eq p q = nat_eq p.slot q.slot && (nat_eq p.version q.version && true)

ptr-eq : {X : Type 0} (p q : Ptr X) → ptr_eq p q ≡ same_ptr p q
ptr-eq p q = ap (λ b. nat_eq p.slot q.slot && b) (and_true (nat_eq p.version q.version))

value-eq : (v w : Value) → ghosts.eq v w ≡ same_value v w
value-eq v w = go v.entity w.entity v.index w.index
  where
    go : (d e : DefiningEntity) (i j : ℕ) → ghosts.eq (record { entity = d; index = i }) (record { entity = e; index = j })
        ≡ same_value (record { entity = d; index = i }) (record { entity = e; index = j })
    go (Op p) (Op q) i j = ap (λ b. b && nat_eq i j) (ptr-eq p q)
    go (Block p) (Block q) i j = ap (λ b. b && nat_eq i j) (ptr-eq p q)
    go (Op p) (Block q) i j = refl
    go (Block p) (Op q) i j = refl

-- tests that agree find the same
module _ {K X S : Type 0} (eq same : K → K → Bool) (agree : (k q : K) → eq k q ≡ same k q) where
  pub found : (m : HashMap K X S) (q : K) → get eq m q ≡ get same m q
  found m q = ap (λ t. get_by t m) (λ i x. agree q x i)

  -- what was put in
  pub found-put : (m n : HashMap K X S) (k : K) (x : X)
      → ((q : K) → get eq n q ≡ cond (eq k q) (Some x) (get eq m q))
      → (q : K) → get same n q ≡ cond (same k q) (Some x) (get same m q)
  found-put m n k x h q = sym (found n q) ∙ h q ∙ (λ i. cond (agree k q i) (Some x) (found m q i))

  -- what has stayed
  pub found-same : (m n : HashMap K X S) → ((q : K) → get eq n q ≡ get eq m q) → (q : K) → get same n q ≡ get same m q
  found-same m n h q = sym (found n q) ∙ h q ∙ found m q

pub value_found : {X S : Type 0} (m : HashMap Value X S) (q : Value) → get ghosts.eq m q ≡ get same_value m q
value_found m q = found ghosts.eq same_value value-eq m q

pub value_put : {X S : Type 0} (m n : HashMap Value X S) (k : Value) (x : X)
    → ((q : Value) → get ghosts.eq n q ≡ cond (ghosts.eq k q) (Some x) (get ghosts.eq m q))
    → (q : Value) → get same_value n q ≡ cond (same_value k q) (Some x) (get same_value m q)
value_put m n k x h = found-put ghosts.eq same_value value-eq m n k x h

pub value_same : {X S : Type 0} (m n : HashMap Value X S) → ((q : Value) → get ghosts.eq n q ≡ get ghosts.eq m q)
    → (q : Value) → get same_value n q ≡ get same_value m q
value_same m n h = found-same ghosts.eq same_value value-eq m n h

pub ptr_found : {K X S : Type 0} (m : HashMap (Ptr K) X S) (q : Ptr K) → get ptr_eq m q ≡ get same_ptr m q
ptr_found m q = found ptr_eq same_ptr ptr-eq m q

pub ptr_put : {K X S : Type 0} (m n : HashMap (Ptr K) X S) (k : Ptr K) (x : X)
    → ((q : Ptr K) → get ptr_eq n q ≡ cond (ptr_eq k q) (Some x) (get ptr_eq m q))
    → (q : Ptr K) → get same_ptr n q ≡ cond (same_ptr k q) (Some x) (get same_ptr m q)
ptr_put m n k x h = found-put ptr_eq same_ptr ptr-eq m n k x h

pub ptr_same : {K X S : Type 0} (m n : HashMap (Ptr K) X S) → ((q : Ptr K) → get ptr_eq n q ≡ get ptr_eq m q)
    → (q : Ptr K) → get same_ptr n q ≡ get same_ptr m q
ptr_same m n h = found-same ptr_eq same_ptr ptr-eq m n h

-- a test that decides equality is an equivalence
module _ {K : Type 0} (E : K → K → Bool) (exact : (x y : K) → Decides (E x y) (x ≡ y)) where
  turned : (x y : K) (a b : Bool) → E x y ≡ a → E y x ≡ b → a ≡ b
  turned x y true true p q = refl
  turned x y false false p q = refl
  turned x y true false p q = sym ((exact y x).1 (sym ((exact x y).0 p))) ∙ q
  turned x y false true p q = sym p ∙ (exact x y).1 (sym ((exact y x).0 q))

  exact-alike : IsEquivalence E
  exact-alike = record {
    refl = λ x. (exact x x).1 refl;
    symm = λ x y. turned x y (E x y) (E y x) refl refl;
    congr = λ x y z e. subst (λ w. E x z ≡ E w z) ((exact x y).0 e) refl;
  }

pub value_alike : IsEquivalence ghosts.eq
value_alike = exact-alike ghosts.eq (λ v w. (
  λ h. (value-exact v w).0 (sym (value-eq v w) ∙ h),
  λ e. value-eq v w
      ∙ (value-exact v w).1 e,
))

pub ptr_alike : {X : Type 0} → IsEquivalence (ptr_eq {X = X})
ptr_alike = exact-alike ptr_eq (λ p q. (
  λ h. (ptr-exact p q).0 (sym (ptr-eq p q) ∙ h),
  λ e. ptr-eq p q
      ∙ (ptr-exact p q).1 e,
))
