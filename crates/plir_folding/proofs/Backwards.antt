-- What a value is worth after operands were folded it was worth before.
use Rattle.std.proofs.Common.{◌≡◌, ℕ, zero, suc, ◌+◌, List, [], ◌∷◌, Option, Some, None, inl, inr}
use Rattle.std.proofs.Common.{refl, sym, ap, subst, ◌∙◌, slice_get, arith}
use Rattle.std.proofs.lemmas.Option.{none-some, same_Some}
use Rattle.std.proofs.lemmas.List.Elements.{All-head, All-tail}
use Rattle.std.specs.Prelude.{All}
use Rattle.std.specs.Cmp.{first_so}
use Rattle.plir_store.specs.Members.{Has}
use Rattle.plir_data.specs.declared.location.Location.{Location}
use Rattle.plir_core.specs.declared.ptr.Ptr.{Ptr}
use Rattle.plir_core.specs.declared.ptr.Operation.{Operation as OperationKind}
use Rattle.plir_core.specs.declared.ptr.IRNode.TheVariants.{Operation}
use Rattle.plir_core.specs.declared.value.Value.{Value}
use Rattle.plir_core.specs.declared.value.DefiningEntity.{DefiningEntity}
use Rattle.plir_core.specs.declared.value.DefiningEntity.TheVariants.{Op, Block}
use Rattle.plir_core.specs.Contents.{OpView}
use Rattle.plir_core.specs.ContextView.{ContextView, IsLive, op_at, operands_in, operands_of, results_in, entity_node}
use Rattle.plir_core.specs.ContextView.{IsValueLive, types_from, type_of_value, arguments_in, location_in}
use Rattle.plir_core.specs.WellFormed.{IsWellFormed}
use Rattle.plir_core.specs.ButOperands.{but_operands}
use Rattle.plir_folding.specs.Worth.{Integer, maker_of, first_of, of_type, constant_in, folded_by, folded_in, held_at}
use Rattle.plir_folding.specs.Worth.{constant_of, worth, Evaluates}
use Rattle.plir_folding.specs.Folded.{ArePaired, constant_view, result_of, written_at, IsSameOrReplaced, IsFolded}
use Rattle.plir_folding.proofs.Worths.{maker-entity, first-none, first-is, fold-apart, fold-joined, deeper}
use Rattle.plir_folding.proofs.Worths.{constant-worth}

-- what holds of all elements of a list holds of each
all-has : {X : Type 0} (P : X → Type 0) (xs : List X) → All P xs → (x : X) → Has xs x → P x
all-has P [] all x h = absurd h
all-has P (y ∷ ys) all x (inl e) = subst P e (All-head P y ys all)
all-has P (y ∷ ys) all x (inr h) = all-has P ys (All-tail P y ys all) x h

-- what is paired with two values is two values
pub paired-two : (R : Value → Value → Type 0) (vs : List Value) (x y : Value) → ArePaired R vs (x ∷ y ∷ [])
    → (a : Value) × ((b : Value) × ((vs ≡ a ∷ b ∷ []) × (R a x × R b y)))
paired-two R [] x y h = absurd h
paired-two R (a ∷ []) x y h = absurd h.1
paired-two R (a ∷ b ∷ []) x y h = (a, (b, (refl, (h.0, h.1.0))))
paired-two R (a ∷ b ∷ c ∷ vs) x y h = absurd h.1.1

module _ {K A : Type 0} where
  -- an operation that is there but for its operands is there
  pub but-some : (o : Option (OpView K A)) (v : OpView K A) → but_operands (Some v) ≡ but_operands o
      → (w : OpView K A) × ((o ≡ Some w) × (record v { operands = [] } ≡ record w { operands = [] }))
  but-some None v e = absurd (none-some (record v { operands = [] }) (sym e))
  but-some (Some w) v e = (w, (refl, same_Some (record v { operands = [] }) (record w { operands = [] }) e))

  pub but-results : (o o' : Option (OpView K A)) → but_operands o ≡ but_operands o' → results_in o ≡ results_in o'
  but-results o o' e = sym (same o) ∙ ap results_in e ∙ same o'
    where
      same : (o : Option (OpView K A)) → results_in (but_operands o) ≡ results_in o
      same None = refl
      same (Some v) = refl

  pub but-constant : (o o' : Option (OpView K A)) → but_operands o ≡ but_operands o' → constant_in o ≡ constant_in o'
  but-constant o o' e = sym (same o) ∙ ap constant_in e ∙ same o'
    where
      same : (o : Option (OpView K A)) → constant_in (but_operands o) ≡ constant_in o
      same None = refl
      same (Some v) = refl

  pub but-location : (o o' : Option (OpView K A)) → but_operands o ≡ but_operands o' → location_in o ≡ location_in o'
  but-location o o' e = sym (same o) ∙ ap location_in e ∙ same o'
    where
      same : (o : Option (OpView K A)) → location_in (but_operands o) ≡ location_in o
      same None = refl
      same (Some v) = refl

module _ {K A T : Type 0} where
  -- a constant that was made is one of its integer
  pub view-constant : (t : ContextView K A T) (c : Ptr OperationKind) (n : Integer) (loc : Location)
      → op_at t c ≡ Some (constant_view n loc) → constant_of t (result_of c) ≡ Some n
  view-constant t c n loc e = ap constant_in e

  -- what an operand comes from is live
  pub operand-live : (own : A → List ℕ) (s : ContextView K A T) → IsWellFormed own s
      → (p : Ptr OperationKind) (v : Value) → Has (operands_of s p) v → IsLive s (entity_node v.entity)
  operand-live own s w p v h = go (op_at s p) refl h
    where
      go : (o : Option (OpView K A)) → op_at s p ≡ o → Has (operands_in o) v → IsLive s (entity_node v.entity)
      go None q h = absurd h
      go (Some o) q h = first_so _ _ (all-has (IsValueLive s) o.operands (w.holds.ops p.slot o q).operands v h)

module _ {K A T : Type 0} (fold : K → Integer → Integer → Option Integer) (own : A → List ℕ) (s t : ContextView K A T)
    (w : IsWellFormed own s) (f : IsFolded fold s t) where
  -- the type of a value that is there has stayed
  pub type-kept : (v : Value) → IsLive s (entity_node v.entity) → type_of_value t v ≡ type_of_value s v
  type-kept v l = ap (λ z. slice_get z v.index) (go v.entity l)
    where
      go : (e : DefiningEntity) → IsLive s (entity_node e) → types_from t e ≡ types_from s e
      go (Op p) l = but-results (op_at t p) (op_at s p) (f.ops p l)
      go (Block b) l = ap arguments_in (f.blocks b l)

  -- a value that is there is a constant of what it was one of
  pub constant-stays : (v : Value) → IsLive s (entity_node v.entity) → constant_of s v ≡ constant_of t v
  constant-stays v l = go (maker_of v) refl
    where
      go : (m : Option (Ptr OperationKind)) → maker_of v ≡ m
          → constant_in (held_at s (maker_of v)) ≡ constant_in (held_at t (maker_of v))
      go None q = rw q refl
      go (Some p) q =
          (let there = subst (λ z. IsLive s (entity_node z)) (maker-entity v.entity v.index p q).0 l in
          rw q (but-constant (op_at s p) (op_at t p) (sym (f.ops p there))))

  -- and so is the place at which it was written
  pub written-stays : (v : Value) → IsLive s (entity_node v.entity) → written_at t v ≡ written_at s v
  written-stays v l = go (maker_of v) refl
    where
      go : (m : Option (Ptr OperationKind)) → maker_of v ≡ m
          → location_in (held_at t (maker_of v)) ≡ location_in (held_at s (maker_of v))
      go None q = rw q refl
      go (Some p) q =
          (let there = subst (λ z. IsLive s (entity_node z)) (maker-entity v.entity v.index p q).0 l in
          rw q (but-location (op_at t p) (op_at s p) (f.ops p there)))

  pub back : (d : ℕ) (v : Value) (n : Integer) → IsLive s (entity_node v.entity) → worth fold d t v ≡ Some n
      → Evaluates fold s v n
  back zero v n live e = absurd (none-some n e)
  back (suc d) v n live e = by-maker (maker_of v) refl (λ x m l h. back d x m l h)
    where
      by-maker : (m : Option (Ptr OperationKind)) → maker_of v ≡ m
          → ((x : Value) (m : Integer) → IsLive s (entity_node x.entity) → worth fold d t x ≡ Some m
          → Evaluates fold s x m) → Evaluates fold s v n
      by-maker None q rest =
          absurd (none-some n
          (sym (ap (λ z. first_of (constant_in (held_at t z)) (folded_in fold (worth fold d t) (held_at t z))) q) ∙ e))
      by-maker (Some p) q rest = by-held (op_at s p) (op_at t p) refl refl
        where
          there : IsLive s (Operation p)
          there = subst (λ z. IsLive s (entity_node z)) (maker-entity v.entity v.index p q).0 live

          now : first_of (constant_in (op_at t p)) (folded_in fold (worth fold d t) (op_at t p)) ≡ Some n
          now =
              sym (ap (λ z. first_of (constant_in (held_at t z)) (folded_in fold (worth fold d t) (held_at t z))) q) ∙ e

          -- what the operation is worth its first result is
          here : (k : ℕ) → first_of (constant_in (op_at s p)) (folded_in fold (worth fold k s) (op_at s p)) ≡ Some n
              → worth fold (suc k) s v ≡ Some n
          here k h =
              ap (λ z. first_of (constant_in (held_at s z)) (folded_in fold (worth fold k s) (held_at s z))) q ∙ h

          operand : (x y : Value) (m : Integer) → Has (operands_of s p) x → IsSameOrReplaced fold s t x y
              → worth fold d t y ≡ Some m → Evaluates fold s x m
          operand x y m h (inl i) g = rest x m (operand-live own s w p x h) (subst (λ z. worth fold d t z ≡ Some m) i g)
          operand x y m h (inr r) g =
              let is = ap (constant_of t) r.result ∙ view-constant t r.constant r.integer r.made.location r.made.holds in
              subst (Evaluates fold s x) (constant-worth fold t d y r.integer m is g) r.worth

          by-held : (old new : Option (OpView K A)) → op_at s p ≡ old → op_at t p ≡ new → Evaluates fold s v n
          by-held old None i j =
              absurd (none-some n
              (sym (ap (λ z. first_of (constant_in z) (folded_in fold (worth fold d t) z)) j) ∙ now))
          by-held old (Some o) i j = by-constant (constant_in (op_at s p)) refl
            where
              was : (u : OpView K A) ×
                  ((op_at s p ≡ Some u) × (record o { operands = [] } ≡ record u { operands = [] }))
              was = but-some (op_at s p) o (sym (ap but_operands j) ∙ f.ops p there)

              same-constant : constant_in (op_at t p) ≡ constant_in (op_at s p)
              same-constant = but-constant (op_at t p) (op_at s p) (f.ops p there)

              by-constant : (c : Option Integer) → constant_in (op_at s p) ≡ c → Evaluates fold s v n
              by-constant (Some m) g =
                  let is : m ≡ n =
                  same_Some m n (sym
                  (ap (λ z. first_of z (folded_in fold (worth fold d t) (op_at t p))) (same-constant ∙ g)) ∙ now) in
                  (1, here 0 (first-is (constant_in (op_at s p)) _ n (g ∙ ap Some is)))
              by-constant None g =
                  let folds : folded_by fold (worth fold d t) o.kind o.operands o.result_types ≡ Some n =
                  sym (ap (folded_in fold (worth fold d t)) j)
                  ∙ sym (ap (λ z. first_of z (folded_in fold (worth fold d t) (op_at t p))) (same-constant ∙ g))
                  ∙ now in
                  let r = fold-apart fold (worth fold d t) o.kind o.operands o.result_types n folds in
                  let paired : ArePaired (IsSameOrReplaced fold s t) (operands_of s p) (r.left ∷ r.right ∷ []) =
                  subst (ArePaired (IsSameOrReplaced fold s t) (operands_of s p)) (ap operands_in j ∙ r.operands)
                  (f.operands p there) in
                  let two = paired-two (IsSameOrReplaced fold s t) (operands_of s p) r.left r.right paired in
                  let one =
                  operand two.0 r.left r.one (subst (λ z. Has z two.0) (sym two.1.1.0) (inl refl)) two.1.1.1.0
                  r.one_known in
                  let other =
                  operand two.1.0 r.right r.other (subst (λ z. Has z two.1.0) (sym two.1.1.0) (inr (inl refl)))
                  two.1.1.1.1 r.other_known in
                  let held = was.1.0 in
                  let like = was.1.1 in
                  let depth = one.0 + other.0 in
                  let joined =
                  fold-joined fold (worth fold depth s) was.0.kind was.0.operands was.0.result_types n (record {
                    own = r.own;
                    kind = sym (ap (λ z. z.kind) like) ∙ r.kind;
                    left = two.0;
                    right = two.1.0;
                    operands = sym (ap operands_in held) ∙ two.1.1.0;
                    one = r.one;
                    other = r.other;
                    one_known = deeper fold s other.0 one.0 depth two.0 r.one (omega arith) one.1;
                    other_known = deeper fold s one.0 other.0 depth two.1.0 r.other refl other.1;
                    made =
                        subst (λ z. of_type z (fold r.own r.one r.other) ≡ Some n) (ap (λ z. z.result_types) like)
                        r.made;
                  }) in (
                    suc depth,
                    here depth (first-none (constant_in (op_at s p)) _ n g
                        (ap (folded_in fold (worth fold depth s)) held ∙ joined)),
                  )
