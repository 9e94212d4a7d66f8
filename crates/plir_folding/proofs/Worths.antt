-- What values are worth, as one sees who looks deeper, or after a change.
use Rattle.std.proofs.Common.{◌≡◌, ℕ, zero, suc, ◌+◌, List, [], ◌∷◌, Option, Some, None, inl, inr}
use Rattle.std.proofs.Common.{refl, sym, ap, subst, ◌∙◌, arith}
use Rattle.std.proofs.lemmas.Bool.Decides.{eqb_tells}
use Rattle.std.proofs.lemmas.Option.{none-some, same_Some}
use Rattle.plir_data.specs.AttrView.{AttrView}
use Rattle.plir_data.specs.declared.op_set.OpKind.{OpKind}
use Rattle.plir_data.specs.declared.op_set.OpKind.TheVariants.{Module, Func, Constant, ForwardRef, Own}
use Rattle.plir_core.specs.declared.ptr.Ptr.{Ptr}
use Rattle.plir_core.specs.declared.ptr.Operation.{Operation as OperationKind}
use Rattle.plir_core.specs.declared.value.Value.{Value}
use Rattle.plir_core.specs.declared.value.DefiningEntity.{DefiningEntity}
use Rattle.plir_core.specs.declared.value.DefiningEntity.TheVariants.{Op, Block}
use Rattle.plir_core.specs.Contents.{OpView}
use Rattle.plir_core.specs.ContextView.{ContextView}
use Rattle.plir_folding.specs.Worth.{Integer, maker_in, of_both, of_type, first_of, constant_by, constant_in}
use Rattle.plir_folding.specs.Worth.{folded_by, folded_in, made_by, constant_of, folded, worth}

-- a value that is the first result of an operation comes from it
pub maker-entity : (e : DefiningEntity) (i : ℕ) (p : Ptr OperationKind) → maker_in e i ≡ Some p → (e ≡ Op p) × (i ≡ 0)
maker-entity (Op q) zero p e = (ap Op (same_Some q p e), refl)
maker-entity (Op q) (suc i) p e = absurd (none-some p e)
maker-entity (Block b) i p e = absurd (none-some p e)

-- an integer of the one type of a list
pub of-type-is : (ts : List ℕ) (x : Option Integer) (n : Integer) → of_type ts x ≡ Some n → ts ≡ n.type ∷ []
of-type-is ts None n e = absurd (none-some n e)
of-type-is [] (Some m) n e = absurd (none-some n e)
of-type-is (t ∷ []) (Some m) n e = elim (eqb_tells m.type t) [
  | inl h ↦ (
      let yes = h.0 in
      let k : Some m ≡ Some n = rw yes at e in
      ap (λ z. z ∷ []) (sym h.1 ∙ ap (λ z. z.type) (same_Some m n k)))
  | inr h ↦ (
      let no = h.0 in
      let k : ◌≡◌ {A = Option Integer} None (Some n) = rw no at e in
      absurd (none-some n k))
]
of-type-is (t ∷ u ∷ ts) (Some m) n e = absurd (none-some n e)

-- it is that integer
pub of-type-known : (ts : List ℕ) (x : Option Integer) (n : Integer) → of_type ts x ≡ Some n → x ≡ Some n
of-type-known ts None n e = absurd (none-some n e)
of-type-known [] (Some m) n e = absurd (none-some n e)
of-type-known (t ∷ []) (Some m) n e = elim (eqb_tells m.type t) [
  | inl h ↦ (let yes = h.0 in let k : Some m ≡ Some n = rw yes at e in k)
  | inr h ↦ (
      let no = h.0 in
      let k : ◌≡◌ {A = Option Integer} None (Some n) = rw no at e in
      absurd (none-some n k))
]
of-type-known (t ∷ u ∷ ts) (Some m) n e = absurd (none-some n e)

pub first-is : (x y : Option Integer) (n : Integer) → x ≡ Some n → first_of x y ≡ Some n
first-is x y n e = ap (λ z. first_of z y) e

pub first-none : (x y : Option Integer) (n : Integer) → x ≡ None → y ≡ Some n → first_of x y ≡ Some n
first-none x y n e f = ap (λ z. first_of z y) e ∙ f

-- the first of two integers that is there is the one
pub first-same : (x y : Option Integer) (m n : Integer) → x ≡ Some m → first_of x y ≡ Some n → m ≡ n
first-same x y m n e f = same_Some m n (sym (ap (λ z. first_of z y) e) ∙ f)

pub first-more : (x y z : Option Integer) (n : Integer) → (y ≡ Some n → z ≡ Some n) → first_of x y ≡ Some n
    → first_of x z ≡ Some n
first-more None y z n more e = more e
first-more (Some x) y z n more e = e

module _ {K : Type 0} (fold : K → Integer → Integer → Option Integer) where
  -- an operation of an own kind on two known integers
  pub record IsFoldOf (known : Value → Option Integer) (k : OpKind K) (vs : List Value) (ts : List ℕ)
      (n : Integer) : Type 0 where
    pub own : K
    pub kind : k ≡ Own own
    pub left : Value
    pub right : Value
    pub operands : vs ≡ left ∷ right ∷ []
    pub one : Integer
    pub other : Integer
    pub one_known : known left ≡ Some one
    pub other_known : known right ≡ Some other
    pub made : of_type ts (fold own one other) ≡ Some n

  both-apart : (f : Integer → Integer → Option Integer) (x y : Option Integer) (ts : List ℕ) (n : Integer)
      → of_type ts (of_both f x y) ≡ Some n
      → (a : Integer) × ((b : Integer) × ((x ≡ Some a) × ((y ≡ Some b) × (of_type ts (f a b) ≡ Some n))))
  both-apart f None y ts n e = absurd (none-some n e)
  both-apart f (Some x) None ts n e = absurd (none-some n e)
  both-apart f (Some x) (Some y) ts n e = (x, (y, (refl, (refl, e))))

  pub fold-apart : (known : Value → Option Integer) (k : OpKind K) (vs : List Value) (ts : List ℕ) (n : Integer)
      → folded_by fold known k vs ts ≡ Some n → IsFoldOf known k vs ts n
  fold-apart known Module vs ts n e = absurd (none-some n e)
  fold-apart known Func vs ts n e = absurd (none-some n e)
  fold-apart known Constant vs ts n e = absurd (none-some n e)
  fold-apart known ForwardRef vs ts n e = absurd (none-some n e)
  fold-apart known (Own k) [] ts n e = absurd (none-some n e)
  fold-apart known (Own k) (x ∷ []) ts n e = absurd (none-some n e)
  fold-apart known (Own k) (x ∷ y ∷ z ∷ vs) ts n e = absurd (none-some n e)
  fold-apart known (Own k) (x ∷ y ∷ []) ts n e =
      let r = both-apart (fold k) (known x) (known y) ts n e in
      record {
        own = k;
        kind = refl;
        left = x;
        right = y;
        operands = refl;
        one = r.0;
        other = r.1.0;
        one_known = r.1.1.0;
        other_known = r.1.1.1.0;
        made = r.1.1.1.1;
      }

  pub fold-joined : (known : Value → Option Integer) (k : OpKind K) (vs : List Value) (ts : List ℕ) (n : Integer)
      → IsFoldOf known k vs ts n → folded_by fold known k vs ts ≡ Some n
  fold-joined known k vs ts n r =
      ap (λ z. folded_by fold known z vs ts) r.kind ∙ ap (λ z. folded_by fold known (Own r.own) z ts) r.operands
      ∙ ap (λ z. of_type ts (of_both (fold r.own) z (known r.right))) r.one_known
      ∙ ap (λ z. of_type ts (of_both (fold r.own) (Some r.one) z)) r.other_known ∙ r.made

  -- who knows more folds the same
  pub fold-more : (known more : Value → Option Integer) (k : OpKind K) (vs : List Value) (ts : List ℕ) (n : Integer)
      → ((v : Value) (m : Integer) → known v ≡ Some m → more v ≡ Some m)
      → folded_by fold known k vs ts ≡ Some n → folded_by fold more k vs ts ≡ Some n
  fold-more known more k vs ts n all e =
      let r = fold-apart known k vs ts n e in
      fold-joined more k vs ts n (record {
        own = r.own;
        kind = r.kind;
        left = r.left;
        right = r.right;
        operands = r.operands;
        one = r.one;
        other = r.other;
        one_known = all r.left r.one r.one_known;
        other_known = all r.right r.other r.other_known;
        made = r.made;
      })

  pub fold-in-more : {A : Type 0} (known more : Value → Option Integer) (o : Option (OpView K A)) (n : Integer)
      → ((v : Value) (m : Integer) → known v ≡ Some m → more v ≡ Some m)
      → folded_in fold known o ≡ Some n → folded_in fold more o ≡ Some n
  fold-in-more known more None n all e = e
  fold-in-more known more (Some o) n all e = fold-more known more o.kind o.operands o.result_types n all e

  -- an operation of an own kind is no constant
  pub own-no-constant : {A : Type 0} (k : OpKind K) (own : K) (es : List (List ℕ × AttrView A)) → k ≡ Own own
      → constant_by k es ≡ None
  own-no-constant k own es e = ap (λ z. constant_by z es) e

module _ {K A T : Type 0} (fold : K → Integer → Integer → Option Integer) where
  -- who looks deeper sees the same
  deeper-one : (s : ContextView K A T) (d : ℕ) (v : Value) (n : Integer) → worth fold d s v ≡ Some n
      → worth fold (suc d) s v ≡ Some n
  deeper-one s zero v n e = absurd (none-some n e)
  deeper-one s (suc d) v n e =
      first-more (constant_of s v) (folded_in fold (worth fold d s) (made_by s v))
      (folded_in fold (worth fold (suc d) s) (made_by s v)) n
      (λ h. fold-in-more fold (worth fold d s) (worth fold (suc d) s) (made_by s v) n (λ w m g. deeper-one s d w m g) h)
      e

  pub deeper : (s : ContextView K A T) (k d e : ℕ) (v : Value) (n : Integer) → e ≡ k + d → worth fold d s v ≡ Some n
      → worth fold e s v ≡ Some n
  deeper s zero d e v n q h = (let r : d ≡ e = omega (arith, q) in subst (λ z. worth fold z s v ≡ Some n) r h)
  deeper s (suc k) d e v n q h =
      (let r : suc (k + d) ≡ e = omega (arith, q) in
      subst (λ z. worth fold z s v ≡ Some n) r (deeper-one s (k + d) v n (deeper s k d (k + d) v n refl h)))

  -- a constant is worth its integer and no other
  pub constant-worth : (s : ContextView K A T) (d : ℕ) (v : Value) (m n : Integer) → constant_of s v ≡ Some m
      → worth fold d s v ≡ Some n → m ≡ n
  constant-worth s zero v m n e f = absurd (none-some n f)
  constant-worth s (suc d) v m n e f =
      first-same (constant_of s v) (folded_in fold (worth fold d s) (made_by s v)) m n e f

  -- what a value folds to it is worth
  pub folded-worth : (s : ContextView K A T) (v : Value) (n : Integer) → folded fold s v ≡ Some n
      → worth fold 2 s v ≡ Some n
  folded-worth s v n e = go (made_by s v) e
    where
      go : (o : Option (OpView K A)) → folded_in fold (constant_of s) o ≡ Some n
          → first_of (constant_in o) (folded_in fold (worth fold 1 s) o) ≡ Some n
      go None e = absurd (none-some n e)
      go (Some o) e =
          let r = fold-apart fold (constant_of s) o.kind o.operands o.result_types n e in
          first-none (constant_by o.kind o.attributes)
          (folded_by fold (worth fold 1 s) o.kind o.operands o.result_types) n
          (own-no-constant fold o.kind r.own o.attributes r.kind)
          (fold-more fold (constant_of s) (worth fold 1 s) o.kind o.operands o.result_types n
          (λ w m h. first-is (constant_of s w) (folded_in fold (worth fold 0 s) (made_by s w)) m h) e)

  -- it is the first result of an operation with one result, of the type of what it folds to
  pub folded-typed : (s : ContextView K A T) (v : Value) (n : Integer) → folded fold s v ≡ Some n
      → (o : OpView K A) × ((made_by s v ≡ Some o) × (o.result_types ≡ n.type ∷ []))
  folded-typed s v n e = go (made_by s v) refl e
    where
      go : (o : Option (OpView K A)) → made_by s v ≡ o → folded_in fold (constant_of s) o ≡ Some n
          → (o : OpView K A) × ((made_by s v ≡ Some o) × (o.result_types ≡ n.type ∷ []))
      go None q e = absurd (none-some n e)
      go (Some o) q e =
          let r = fold-apart fold (constant_of s) o.kind o.operands o.result_types n e in
          (o, (q, of-type-is o.result_types (fold r.own r.one r.other) n r.made))

  -- a value that folds is no constant
  pub folded-unknown : (s : ContextView K A T) (v : Value) (n : Integer) → folded fold s v ≡ Some n
      → constant_of s v ≡ None
  folded-unknown s v n e = go (made_by s v) e
    where
      go : (o : Option (OpView K A)) → folded_in fold (constant_of s) o ≡ Some n → constant_in o ≡ None
      go None e = absurd (none-some n e)
      go (Some o) e =
          (let r = fold-apart fold (constant_of s) o.kind o.operands o.result_types n e in
          own-no-constant fold o.kind r.own o.attributes r.kind)
