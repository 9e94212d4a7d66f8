-- What values lead to, as one sees who looks deeper, and after operands have become what they stand for.
use Rattle.std.proofs.Common.{◌≡◌, ℕ, zero, suc, ◌+◌, Bool, true, false, cond, List, [], ◌∷◌, length, Option, Some}
use Rattle.std.proofs.Common.{None, inl, inr, refl, sym, ap, subst, ◌∙◌, arith, slice_get}
use Rattle.std.specs.Prelude.{Contains, ◌==◌}
use Rattle.std.proofs.lemmas.Bool.Decides.{eqb_tells}
use Rattle.std.proofs.lemmas.Option.{none-some, same_Some}
use Rattle.plir_store.specs.FilterLaws.{not-both}
use Rattle.plir_data.specs.declared.op_set.OpKind.{OpKind}
use Rattle.plir_data.specs.declared.op_set.OpKind.TheVariants.{Module, Func, Constant, ForwardRef, Own}
use Rattle.plir_core.specs.declared.ptr.Ptr.{Ptr}
use Rattle.plir_core.specs.declared.ptr.Operation.{Operation as OperationKind}
use Rattle.plir_core.specs.declared.ptr.IRNode.TheVariants.{Operation}
use Rattle.plir_core.specs.declared.value.Value.{Value}
use Rattle.plir_core.specs.declared.value.DefiningEntity.{DefiningEntity}
use Rattle.plir_core.specs.declared.value.DefiningEntity.TheVariants.{Op, Block}
use Rattle.plir_core.specs.Contents.{OpView}
use Rattle.plir_core.specs.ContextView.{ContextView, op_at, operands_in, operands_of, results_in, types_from}
use Rattle.plir_core.specs.ContextView.{type_of_value, arguments_in, IsLive}
use Rattle.plir_core.specs.ValueUses.{HasUses}
use Rattle.plir_core.specs.ButOperands.{but_operands}
use Rattle.plir_store.specs.Table.{content_at}
use Rattle.plir_folding.specs.declared.identity_set.Side.{Side}
use Rattle.plir_folding.specs.declared.identity_set.Side.TheVariants.{Left, Right}
use Rattle.plir_folding.specs.Worth.{Integer, maker_of, held_at, made_by, constant_in, constant_of}
use Rattle.plir_folding.specs.Folded.{ArePaired, result_of}
use Rattle.plir_folding.specs.Identities.{operand_at, other_at, is_met, is_of_type, kept_of, typed_so, stands_by}
use Rattle.plir_folding.specs.Identities.{stands_in, stands_for}
use Rattle.plir_folding.specs.PassedOn.{IsHandedOn, Leads, IsSameAs, IsPassedOn}
use Rattle.plir_folding.proofs.Worths.{maker-entity}
use Rattle.plir_folding.proofs.Backwards.{but-some, but-results, but-constant, paired-two}

met-apart : (f : Integer → Bool) (o : Option Integer) → is_met f o ≡ true
    → (n : Integer) × ((o ≡ Some n) × (f n ≡ true))
met-apart f None e = absurd (let z : ⊥ = cc e in z)
met-apart f (Some n) e = (n, (refl, e))

type-apart : (ts : List ℕ) (u : Option ℕ) → is_of_type ts u ≡ true → (length ts ≡ 1) × (u ≡ slice_get ts 0)
type-apart [] u e = absurd (let z : ⊥ = cc e in z)
type-apart (t ∷ []) None e = absurd (let z : ⊥ = cc e in z)
type-apart (t ∷ r ∷ ts) u e = absurd (let z : ⊥ = cc e in z)
type-apart (t ∷ []) (Some u) e = elim (eqb_tells u t) [
  | inl h ↦ (refl, ap Some h.1)
  | inr h ↦ absurd (not-both (u == t) e h.0)
]

contains-other : (side : Side) (x y : Value) → Contains (x ∷ y ∷ []) (other_at side x y)
contains-other Left x y = (1, omega arith, refl)
contains-other Right x y = (0, omega arith, refl)

-- where operands alone have changed, values are constants of what they were, and of the types that they were of
module _ {K A T : Type 0} (s t : ContextView K A T)
    (ops : (p : Ptr OperationKind) → but_operands (op_at t p) ≡ but_operands (op_at s p)) where
  pub constants-kept : (v : Value) → constant_of t v ≡ constant_of s v
  constants-kept v = go (maker_of v)
    where
      go : (m : Option (Ptr OperationKind)) → constant_in (held_at t m) ≡ constant_in (held_at s m)
      go None = refl
      go (Some p) = but-constant (op_at t p) (op_at s p) (ops p)

  pub types-kept : t.nodes.blocks ≡ s.nodes.blocks → (v : Value) → type_of_value t v ≡ type_of_value s v
  types-kept blocks v = ap (λ z. slice_get z v.index) (go v.entity)
    where
      go : (e : DefiningEntity) → types_from t e ≡ types_from s e
      go (Op p) = but-results (op_at t p) (op_at s p) (ops p)
      go (Block b) = ap (λ z. arguments_in (content_at z b.slot)) blocks

module _ {K : Type 0} (holds : K → Side → Integer → Bool) where
  -- which side it is at which a constant meets the identity
  record KeptAt (known : Value → Option Integer) (k : K) (vs : List Value) (w : Value) : Type 0 where
    pub left : Value
    pub right : Value
    pub operands : vs ≡ left ∷ right ∷ []
    pub side : Side
    pub integer : Integer
    pub known_at : known (operand_at side left right) ≡ Some integer
    pub identity : holds k side integer ≡ true
    pub kept : other_at side left right ≡ w

  kept-apart : (known : Value → Option Integer) (k : K) (vs : List Value) (w : Value)
      → kept_of (holds k) known vs ≡ Some w → KeptAt known k vs w
  kept-apart known k [] w e = absurd (none-some w e)
  kept-apart known k (x ∷ []) w e = absurd (none-some w e)
  kept-apart known k (x ∷ y ∷ z ∷ vs) w e = absurd (none-some w e)
  kept-apart known k (x ∷ y ∷ []) w e =
      right (is_met (holds k Right) (known y)) (is_met (holds k Left) (known x)) refl refl e
    where
      right : (b c : Bool) → is_met (holds k Right) (known y) ≡ b → is_met (holds k Left) (known x) ≡ c
          → cond b (Some x) (cond c (Some y) None) ≡ Some w → KeptAt known k (x ∷ y ∷ []) w
      right true c is at e =
          let m = met-apart (holds k Right) (known y) is in
          record {
            left = x;
            right = y;
            operands = refl;
            side = Right;
            integer = m.0;
            known_at = m.1.0;
            identity = m.1.1;
            kept = same_Some x w e;
          }
      right false true is at e =
          let m = met-apart (holds k Left) (known x) at in
          record {
            left = x;
            right = y;
            operands = refl;
            side = Left;
            integer = m.0;
            known_at = m.1.0;
            identity = m.1.1;
            kept = same_Some y w e;
          }
      right false false is at e = absurd (none-some w e)

module _ {K A T : Type 0} (holds : K → Side → Integer → Bool) where
  -- what is handed on by one relation is by a wider one
  handed-wider : (P Q : Value → Value → Type 0) → ((a b : Value) → P a b → Q a b) → (s : ContextView K A T)
      → (v w : Value) → IsHandedOn holds P s v w → IsHandedOn holds Q s v w
  handed-wider P Q wider s v w h = record {
    op = h.op;
    made = h.made;
    own = h.own;
    kind = h.kind;
    left = h.left;
    right = h.right;
    operands = h.operands;
    alone = h.alone;
    side = h.side;
    constant = h.constant;
    integer = h.integer;
    known = h.known;
    identity = h.identity;
    at_side = wider (operand_at h.side h.left h.right) h.constant h.at_side;
    rest = wider (other_at h.side h.left h.right) w h.rest;
  }

  -- who looks deeper sees the same
  leads-one : (s : ContextView K A T) (d : ℕ) (v w : Value) → Leads holds d s v w → Leads holds (suc d) s v w
  leads-one s zero v w h = inl h
  leads-one s (suc d) v w (inl e) = inl e
  leads-one s (suc d) v w (inr h) =
      inr (handed-wider (Leads holds d s) (Leads holds (suc d) s) (λ a b k. leads-one s d a b k) s v w h)

  leads-deeper : (s : ContextView K A T) (k d e : ℕ) (v w : Value) → e ≡ k + d → Leads holds d s v w
      → Leads holds e s v w
  leads-deeper s zero d e v w q h = (let r : d ≡ e = omega (arith, q) in subst (λ z. Leads holds z s v w) r h)
  leads-deeper s (suc k) d e v w q h =
      (let r : suc (k + d) ≡ e = omega (arith, q) in
      subst (λ z. Leads holds z s v w) r (leads-one s (k + d) v w (leads-deeper s k d (k + d) v w refl h)))

  -- what leads to a value leads to what that leads to
  pub leads-then : (s : ContextView K A T) (d e : ℕ) (u v w : Value) → Leads holds d s u v → Leads holds e s v w
      → (f : ℕ) × Leads holds f s u w
  leads-then s zero e u v w h k = (e, subst (λ z. Leads holds e s z w) h k)
  leads-then s (suc d) e u v w (inl h) k = (e, subst (λ z. Leads holds e s z w) h k)
  leads-then s (suc d) e u v w (inr h) k =
      let rest = leads-then s d e (other_at h.side h.left h.right) v w h.rest k in
      let depth = d + rest.0 in (
        suc depth,
        inr (record {
          op = h.op;
          made = h.made;
          own = h.own;
          kind = h.kind;
          left = h.left;
          right = h.right;
          operands = h.operands;
          alone = h.alone;
          side = h.side;
          constant = h.constant;
          integer = h.integer;
          known = h.known;
          identity = h.identity;
          at_side =
              leads-deeper s rest.0 d depth (operand_at h.side h.left h.right) h.constant (omega arith) h.at_side;
          rest = leads-deeper s d rest.0 depth (other_at h.side h.left h.right) w refl rest.1;
        }),
      )

  pub same-self : (s : ContextView K A T) (v : Value) → IsSameAs holds s v v
  same-self s v = record { depth = 0; leads = refl; typed = refl }

  -- ---- what a value stands for

  pub typed-apart : (s : ContextView K A T) (ts : List ℕ) (o : Option Value) (w : Value) → typed_so holds s ts o ≡ Some w
      → (o ≡ Some w) × (is_of_type ts (type_of_value s w) ≡ true)
  typed-apart s ts None w e = absurd (none-some w e)
  typed-apart s ts (Some v) w e = go (is_of_type ts (type_of_value s v)) refl e
    where
      go : (b : Bool) → is_of_type ts (type_of_value s v) ≡ b → cond b (Some v) None ≡ Some w
          → (Some v ≡ Some w) × (is_of_type ts (type_of_value s w) ≡ true)
      go true is e = (e, subst (λ z. is_of_type ts (type_of_value s z) ≡ true) (same_Some v w e) is)
      go false is e = absurd (none-some w e)

  -- an operation of an own kind hands an operand on
  record StandsBy (s : ContextView K A T) (k : OpKind K) (vs : List Value) (ts : List ℕ) (w : Value) : Type 0 where
    pub own : K
    pub kind : k ≡ Own own
    pub kept : KeptAt holds (constant_of s) own vs w
    pub alone : length ts ≡ 1
    pub typed : type_of_value s w ≡ slice_get ts 0

  stands-apart : (s : ContextView K A T) (k : OpKind K) (vs : List Value) (ts : List ℕ) (w : Value)
      → stands_by holds s k vs ts ≡ Some w → StandsBy s k vs ts w
  stands-apart s Module vs ts w e = absurd (none-some w e)
  stands-apart s Func vs ts w e = absurd (none-some w e)
  stands-apart s Constant vs ts w e = absurd (none-some w e)
  stands-apart s ForwardRef vs ts w e = absurd (none-some w e)
  stands-apart s (Own k) vs ts w e =
      let r = typed-apart s ts (kept_of (holds k) (constant_of s) vs) w e in
      let t = type-apart ts (type_of_value s w) r.1 in
      record {
        own = k;
        kind = refl;
        kept = kept-apart holds (constant_of s) k vs w r.0;
        alone = t.0;
        typed = t.1;
      }

  -- an operation hands on what it stands for
  pub record StandsIn (s : ContextView K A T) (o : Option (OpView K A)) (w : Value) : Type 0 where
    pub op : OpView K A
    pub held : o ≡ Some op
    pub alone : length op.result_types ≡ 1

  pub stands-held : (s : ContextView K A T) (o : Option (OpView K A)) (w : Value) → stands_in holds s o ≡ Some w
      → StandsIn s o w
  stands-held s None w e = absurd (none-some w e)
  stands-held s (Some o) w e = record {
    op = o;
    held = refl;
    alone = (stands-apart s o.kind o.operands o.result_types w e).alone;
  }

  -- a value is what it stands for
  pub stands-same : (s : ContextView K A T) (v w : Value) → stands_for holds s v ≡ Some w → IsSameAs holds s v w
  stands-same s v w e = go (maker_of v) refl (made_by s v) refl e
    where
      go : (m : Option (Ptr OperationKind)) → maker_of v ≡ m → (o : Option (OpView K A)) → made_by s v ≡ o
          → stands_in holds s o ≡ Some w → IsSameAs holds s v w
      go m q None h e = absurd (none-some w e)
      go None q (Some o) h e = absurd (none-some o (sym (ap (held_at s) q) ∙ h))
      go (Some p) q (Some o) h e =
          let r = stands-apart s o.kind o.operands o.result_types w e in
          let at = maker-entity v.entity v.index p q in
          let held : op_at s p ≡ Some o = sym (ap (held_at s) q) ∙ h in
          record {
            depth = 1;
            leads =
                inr (record {
                  op = o;
                  made = h;
                  own = r.own;
                  kind = r.kind;
                  left = r.kept.left;
                  right = r.kept.right;
                  operands = r.kept.operands;
                  alone = r.alone;
                  side = r.kept.side;
                  constant = operand_at r.kept.side r.kept.left r.kept.right;
                  integer = r.kept.integer;
                  known = r.kept.known_at;
                  identity = r.kept.identity;
                  at_side = refl;
                  rest = sym r.kept.kept;
                });
            typed =
                r.typed ∙ ap (λ z. slice_get (results_in z) 0) (sym held)
                ∙ ap (slice_get (results_in (op_at s p))) (sym at.1)
                ∙ ap (λ z. slice_get (types_from s z) v.index) (sym at.0);
          }

  -- what the result of an operation stands for is used by that operation
  pub stands-used : (s : ContextView K A T) (p : Ptr OperationKind) (w : Value) → IsLive s (Operation p)
      → stands_for holds s (result_of p) ≡ Some w → HasUses s w
  stands-used s p w live e = go (op_at s p) refl e
    where
      go : (o : Option (OpView K A)) → op_at s p ≡ o → stands_in holds s o ≡ Some w → HasUses s w
      go None h e = absurd (none-some w e)
      go (Some o) h e =
          let r = stands-apart s o.kind o.operands o.result_types w e in
          let two = sym (ap operands_in h ∙ r.kept.operands) in (
            p,
            (
              live,
              subst (λ z. Contains z w) two
                  (subst (Contains (r.kept.left ∷ r.kept.right ∷ [])) r.kept.kept
                  (contains-other r.kept.side r.kept.left r.kept.right)),
            ),
          )

  -- ---- what values lead to afterwards they led to before

  module _ (s t : ContextView K A T) (f : IsPassedOn holds s t) where
    pub type-stays : (v : Value) → type_of_value t v ≡ type_of_value s v
    type-stays v = types-kept s t f.ops f.blocks v

    constant-before : (v : Value) → constant_of t v ≡ constant_of s v
    constant-before v = constants-kept s t f.ops v

    at-sides : (R : Value → Value → Type 0) (side : Side) (a b x y : Value) → R a x → R b y
        → R (operand_at side a b) (operand_at side x y) × R (other_at side a b) (other_at side x y)
    at-sides R Left a b x y h k = (h, k)
    at-sides R Right a b x y h k = (k, h)

    pub leads-before : (d : ℕ) (v w : Value) → Leads holds d t v w → (e : ℕ) × Leads holds e s v w
    leads-before zero v w h = (0, h)
    leads-before (suc d) v w (inl h) = (0, h)
    leads-before (suc d) v w (inr h) =
        go (maker_of v) refl (leads-before d (operand_at h.side h.left h.right) h.constant h.at_side)
        (leads-before d (other_at h.side h.left h.right) w h.rest)
      where
        go : (m : Option (Ptr OperationKind)) → maker_of v ≡ m
            → (e : ℕ) × Leads holds e s (operand_at h.side h.left h.right) h.constant
            → (e : ℕ) × Leads holds e s (other_at h.side h.left h.right) w → (e : ℕ) × Leads holds e s v w
        go None q constant rest = absurd (none-some h.op (sym (ap (held_at t) q) ∙ h.made))
        go (Some p) q constant rest =
            let held : op_at t p ≡ Some h.op = sym (ap (held_at t) q) ∙ h.made in
            let was = but-some (op_at s p) h.op (sym (ap but_operands held) ∙ f.ops p) in
            let like = was.1.1 in
            let two =
            paired-two (IsSameAs holds s) (operands_of s p) h.left h.right
            (subst (ArePaired (IsSameAs holds s) (operands_of s p)) (ap operands_in held ∙ h.operands)
            (f.operands p)) in
            let sides =
            at-sides (IsSameAs holds s) h.side two.0 two.1.0 h.left h.right two.1.1.1.0 two.1.1.1.1 in
            let one =
            leads-then s sides.0.depth constant.0 (operand_at h.side two.0 two.1.0)
            (operand_at h.side h.left h.right) h.constant sides.0.leads constant.1 in
            let other =
            leads-then s sides.1.depth rest.0 (other_at h.side two.0 two.1.0) (other_at h.side h.left h.right) w
            sides.1.leads rest.1 in
            let depth = one.0 + other.0 in (
              suc depth,
              inr (record {
                op = was.0;
                made = ap (held_at s) q ∙ was.1.0;
                own = h.own;
                kind = sym (ap (λ z. z.kind) like) ∙ h.kind;
                left = two.0;
                right = two.1.0;
                operands = sym (ap operands_in was.1.0) ∙ two.1.1.0;
                alone = ap (λ z. length z.result_types) (sym like) ∙ h.alone;
                side = h.side;
                constant = h.constant;
                integer = h.integer;
                known = sym (constant-before h.constant) ∙ h.known;
                identity = h.identity;
                at_side =
                    leads-deeper s other.0 one.0 depth (operand_at h.side two.0 two.1.0) h.constant (omega arith)
                    one.1;
                rest = leads-deeper s one.0 other.0 depth (other_at h.side two.0 two.1.0) w refl other.1;
              }),
            )

    -- values that are the same one after another are the same
    pub same-then : (u v w : Value) → IsSameAs holds s u v → IsSameAs holds t v w → IsSameAs holds s u w
    same-then u v w h k =
        let b = leads-before k.depth v w k.leads in
        let r = leads-then s h.depth b.0 u v w h.leads b.1 in
        record {
          depth = r.0;
          leads = r.1;
          typed = sym (type-stays w) ∙ k.typed ∙ type-stays v ∙ h.typed;
        }
