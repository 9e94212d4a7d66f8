-- Operands are folded one after another.
use Rattle.std.proofs.Common.{◌≡◌, ℕ, zero, suc, Bool, true, false, cond, List, [], ◌∷◌, ◌++◌, Option, Some, None}
use Rattle.std.proofs.Common.{inl, inr, refl, sym, ap, subst, ◌∙◌, slice_get}
use Rattle.std.specs.List.{filter}
use Rattle.std.proofs.lemmas.Option.{none-some, same_Some}
use Rattle.std.proofs.lemmas.Bool.{false_from_ne_true, cases_Bool}
use Rattle.plir_store.specs.Members.{Has}
use Rattle.plir_store.specs.FilterLaws.{not-both, filter-all, filter-twice}
use Rattle.plir_core.specs.declared.ptr.Ptr.{Ptr}
use Rattle.plir_core.specs.declared.ptr.Operation.{Operation as OperationKind}
use Rattle.plir_core.specs.declared.ptr.BasicBlock.{BasicBlock as BasicBlockKind}
use Rattle.plir_core.specs.declared.ptr.IRNode.{IRNode}
use Rattle.plir_core.specs.declared.ptr.IRNode.TheVariants.{Operation, BasicBlock}
use Rattle.plir_core.specs.declared.value.Value.{Value}
use Rattle.plir_core.specs.declared.value.DefiningEntity.TheVariants.{Op}
use Rattle.plir_core.specs.Contents.{OpView}
use Rattle.plir_core.specs.Changes.{SameLive}
use Rattle.plir_core.specs.Forest.{look, IsForest}
use Rattle.plir_core.specs.WellFormed.{IsWellFormed}
use Rattle.plir_core.specs.ContextView.{ContextView, IsLive, is_live, children, op_at, operands_in, operands_of}
use Rattle.plir_core.specs.ContextView.{entity_node, type_of_value, given_out}
use Rattle.plir_core.specs.ButOperands.{but_operands}
use Rattle.plir_folding.specs.Worth.{Integer, constant_of, worth}
use Rattle.plir_folding.specs.Folded.{ArePaired, constant_view, result_of, written_at, IsNewConstantOf, IsForUser}
use Rattle.plir_folding.specs.Folded.{IsSameOrReplaced, IsFolded, IsFlagged}
use Rattle.plir_folding.proofs.Backwards.{view-constant, operand-live, type-kept, written-stays, but-location}
use Rattle.plir_folding.proofs.Backwards.{constant-stays, back}

-- a list is paired with itself
pub paired-self : (R : Value → Value → Type 0) → ((v : Value) → R v v) → (vs : List Value) → ArePaired R vs vs
paired-self R same [] = tt
paired-self R same (v ∷ vs) = (same v, paired-self R same vs)

-- pairs of pairs
pub paired-then : (R Q P : Value → Value → Type 0) (us vs ws : List Value)
    → ((u v w : Value) → Has us u → R u v → Q v w → P u w) → ArePaired R us vs → ArePaired Q vs ws → ArePaired P us ws
paired-then R Q P [] [] [] on h k = tt
paired-then R Q P [] [] (w ∷ ws) on h k = absurd k
paired-then R Q P [] (v ∷ vs) ws on h k = absurd h
paired-then R Q P (u ∷ us) [] ws on h k = absurd h
paired-then R Q P (u ∷ us) (v ∷ vs) [] on h k = absurd k
paired-then R Q P (u ∷ us) (v ∷ vs) (w ∷ ws) on h k =
    (on u v w (inl refl) h.0 k.0, paired-then R Q P us vs ws (λ a b c i. on a b c (inr i)) h.1 k.1)

paired-none : (R : Value → Value → Type 0) (vs ws : List Value) → vs ≡ [] → ArePaired R vs ws → ws ≡ []
paired-none R [] [] e h = refl
paired-none R [] (w ∷ ws) e h = absurd h
paired-none R (v ∷ vs) ws e h = absurd (let z : ⊥ = cc e in z)

-- what stands at an index of a list is paired with what stands there in the other
paired-at : (R : Value → Value → Type 0) (vs ws : List Value) (i : ℕ) (v : Value) → ArePaired R vs ws
    → slice_get vs i ≡ Some v → (w : Value) × (slice_get ws i ≡ Some w) × R v w
paired-at R [] ws i v h e = absurd (none-some v e)
paired-at R (x ∷ vs) [] i v h e = absurd h
paired-at R (x ∷ vs) (w ∷ ws) zero v h e = (w, refl, subst (λ z. R z w) (same_Some x v e) h.0)
paired-at R (x ∷ vs) (w ∷ ws) (suc i) v h e = paired-at R vs ws i v h.1 e

-- and the other way round
paired-back : (R : Value → Value → Type 0) (vs ws : List Value) (i : ℕ) (w : Value) → ArePaired R vs ws
    → slice_get ws i ≡ Some w → (v : Value) × (slice_get vs i ≡ Some v) × R v w
paired-back R [] [] i w h e = absurd (none-some w e)
paired-back R [] (x ∷ ws) i w h e = absurd h
paired-back R (v ∷ vs) [] i w h e = absurd h
paired-back R (v ∷ vs) (x ∷ ws) zero w h e = (v, refl, subst (λ z. R v z) (same_Some x w e) h.0)
paired-back R (v ∷ vs) (x ∷ ws) (suc i) w h e = paired-back R vs ws i w h.1 e

head-is : {X : Type 0} {x y : X} {xs ys : List X} → x ∷ xs ≡ y ∷ ys → x ≡ y
head-is e = cc e

tail-is : {X : Type 0} {x y : X} {xs ys : List X} → x ∷ xs ≡ y ∷ ys → xs ≡ ys
tail-is e = cc e

-- A list is cut at an element: what a test lets through of what stands before it, and behind it, is this.
record CutAt {X : Type 0} (p : X → Bool) (xs front : List X) (x : X) (back : List X) : Type 0 where
  pub before : List X
  pub behind : List X
  pub whole : xs ≡ before ++ x ∷ behind
  pub left : filter p before ≡ front
  pub right : filter p behind ≡ back

-- what a test lets through is found where it was
filter-cut : {X : Type 0} (p : X → Bool) (xs front : List X) (x : X) (back : List X) → filter p xs ≡ front ++ x ∷ back
    → CutAt p xs front x back
filter-cut p [] [] x back e = absurd (let z : ⊥ = cc e in z)
filter-cut p [] (a ∷ front) x back e = absurd (let z : ⊥ = cc e in z)
filter-cut {X} p (w ∷ xs) front x back e = by (p w) refl front (λ f k. filter-cut p xs f x back k) e
  where
    by : (b : Bool) → p w ≡ b → (front : List X)
        → ((f : List X) → filter p xs ≡ f ++ x ∷ back → CutAt p xs f x back)
        → cond b (w ∷ filter p xs) (filter p xs) ≡ front ++ x ∷ back → CutAt p (w ∷ xs) front x back
    by true l [] rest k = record {
      before = [];
      behind = xs;
      whole = ap (λ z. z ∷ xs) (head-is k);
      left = refl;
      right = tail-is k;
    }
    by true l (a ∷ f) rest k =
        (let r = rest f (tail-is k) in
        record {
          before = w ∷ r.before;
          behind = r.behind;
          whole = ap (λ z. w ∷ z) r.whole;
          left = rw l (ap (λ z. w ∷ z) r.left ∙ ap (λ z. z ∷ f) (head-is k));
          right = r.right;
        })
    by false l front rest k =
        (let r = rest front k in
        record {
          before = w ∷ r.before;
          behind = r.behind;
          whole = ap (λ z. w ∷ z) r.whole;
          left = rw l r.left;
          right = r.right;
        })

-- what a test lets through is among what is left
Has-kept : {X : Type 0} (p : X → Bool) (xs : List X) (y : X) → Has xs y → p y ≡ true → Has (filter p xs) y
Has-kept p [] y h e = absurd h
Has-kept {X} p (x ∷ xs) y h e = by (p x) refl (λ k. Has-kept p xs y k e) h
  where
    by : (b : Bool) → p x ≡ b → (Has xs y → Has (filter p xs) y) → Has (x ∷ xs) y
        → Has (cond b (x ∷ filter p xs) (filter p xs)) y
    by true d rest (inl g) = inl g
    by true d rest (inr g) = inr (rest g)
    by false d rest (inl g) = absurd (not-both (p y) e (ap p (sym g) ∙ d))
    by false d rest (inr g) = rest g

same-op : {p q : Ptr OperationKind} → Operation p ≡ Operation q → p ≡ q
same-op e = cc e

same-result : {p q : Ptr OperationKind} → result_of p ≡ result_of q → p ≡ q
same-result {p} {q} e = let k : Op p ≡ Op q = ap (λ v. v.entity) e in cc k

module _ {K A : Type 0} where
  -- an operation is told by what it holds but for its operands, and these
  whole-again : (o : Option (OpView K A)) (v : OpView K A) → but_operands o ≡ but_operands (Some v)
      → operands_in o ≡ v.operands → o ≡ Some v
  whole-again None v e q = absurd (none-some (record v { operands = [] }) e)
  whole-again (Some w) v e q =
      let same = same_Some (record w { operands = [] }) (record v { operands = [] }) e in
      ap Some (ap {A = List Value} {B = OpView K A} (λ z. record w { operands = z }) q
      ∙ ap {A = OpView K A} {B = OpView K A} (λ z. record z { operands = v.operands }) same)

module _ {K A T : Type 0} (fold : K → Integer → Integer → Option Integer) where
  pub folded-none : (s : ContextView K A T) → IsForest (look s) → IsFolded fold s s
  folded-none s w = record {
    live = λ n l. l;
    new = λ n l e. absurd (not-both (is_live s n) l e);
    for_user = λ p l e. absurd (not-both (is_live s (Operation p)) l e);
    children = λ n l. filter-all (is_live s) (children s n) (λ x h. w.child_live n x h);
    parents = λ n l. refl;
    ops = λ p l. refl;
    operands = λ p l. paired-self (IsSameOrReplaced fold s s) (λ v. inl refl) (operands_of s p);
    blocks = λ b l. refl;
    types = refl;
    limit = refl;
    given = λ n g. g;
  }

  -- a make that was refused
  pub folded-refused : (s t : ContextView K A T) → IsForest (look s) → SameLive s t
      → ((n : IRNode) → given_out s n ≡ true → given_out t n ≡ true) → IsFolded fold s t
  folded-refused s t w same given = record {
    live = λ n l. same.nodes.live n ∙ l;
    new = λ n l e. absurd (not-both (is_live s n) (sym (same.nodes.live n) ∙ l) e);
    for_user =
        λ p l e. absurd (not-both (is_live s (Operation p)) (sym (same.nodes.live (Operation p)) ∙ l) e);
    children =
        λ n l. ap (filter (is_live s)) (same.nodes.children n)
        ∙ filter-all (is_live s) (children s n) (λ x h. w.child_live n x h);
    parents = λ n l. same.nodes.parents n;
    ops = λ p l. ap but_operands (same.nodes.ops p l);
    operands =
        λ p l. subst (ArePaired (IsSameOrReplaced fold s t) (operands_of s p))
        (ap operands_in (sym (same.nodes.ops p l)))
        (paired-self (IsSameOrReplaced fold s t) (λ v. inl refl) (operands_of s p));
    blocks = λ b l. same.nodes.blocks b l;
    types = same.types;
    limit = same.nodes.limit;
    given = given;
  }

  -- a constant stays that is new
  pub constant-kept : (s t u : ContextView K A T) → IsFolded fold t u → (p : Ptr OperationKind) (n : Integer)
      → IsNewConstantOf s t p n → IsNewConstantOf s u p n
  constant-kept s t u g p n c = record {
    live = g.live (Operation p) c.live;
    new = c.new;
    fresh = c.fresh;
    location = c.location;
    holds = whole-again (op_at u p) (constant_view n c.location) (g.ops p c.live ∙ ap but_operands c.holds)
        (paired-none (IsSameOrReplaced fold t u) (operands_of t p) (operands_of u p) (ap operands_in c.holds)
        (g.operands p c.live));
  }

  -- a constant that is new since was not there before
  pub constant-later : (s t u : ContextView K A T) → IsFolded fold s t → (p : Ptr OperationKind) (n : Integer)
      → IsNewConstantOf t u p n → IsNewConstantOf s u p n
  constant-later s t u f p n c = record {
    live = c.live;
    new =
        false_from_ne_true (is_live s (Operation p))
        (λ l. not-both (is_live t (Operation p)) (f.live (Operation p) l) c.new);
    fresh =
        false_from_ne_true (given_out s (Operation p))
        (λ l. not-both (given_out t (Operation p)) (f.given (Operation p) l) c.fresh);
    location = c.location;
    holds = c.holds;
  }

  -- what is not there afterwards was not there before
  was-absent : (s t : ContextView K A T) → IsFolded fold s t → (n : IRNode) → is_live t n ≡ false → is_live s n ≡ false
  was-absent s t f n e = false_from_ne_true (is_live s n) (λ l. not-both (is_live t n) (f.live n l) e)

  -- a constant has no operand
  no-operand : (s t : ContextView K A T) (p : Ptr OperationKind) (n : Integer) (i : ℕ) (v : Value)
      → IsNewConstantOf s t p n → slice_get (operands_of t p) i ≡ Some v → ⊥
  no-operand s t p n i v c e = none-some v (sym (ap (λ z. slice_get (operands_in z) i) c.holds) ∙ e)

  -- a block, or an operation that has an operand, was there
  block-old : (s t : ContextView K A T) → IsFolded fold s t → (b : Ptr BasicBlockKind) → IsLive t (BasicBlock b)
      → IsLive s (BasicBlock b)
  block-old s t f b l = elim (cases_Bool (is_live s (BasicBlock b))) [
    | inl k ↦ k
    | inr k ↦ (let r = f.new (BasicBlock b) l k in absurd (let z : ⊥ = cc r.1.1.0 in z))
  ]

  module _ (own : A → List ℕ) (s t u : ContextView K A T) (w : IsWellFormed own s) (w' : IsWellFormed own t)
      (f : IsFolded fold s t) (g : IsFolded fold t u) where
    -- what was no constant afterwards was none before
    unknown-before : (x y : Value) → IsLive s (entity_node x.entity) → y ≡ x → constant_of t y ≡ None
        → constant_of s x ≡ None
    unknown-before x y l e k = constant-stays fold own s t w f x l ∙ ap (constant_of t) (sym e) ∙ k

    replaced-then : (p : Ptr OperationKind) (x y z : Value) → Has (operands_of s p) x → IsSameOrReplaced fold s t x y
        → IsSameOrReplaced fold t u y z → IsSameOrReplaced fold s u x z
    replaced-then p x y z h (inl e) (inl d) = inl (d ∙ e)
    replaced-then p x y z h (inl e) (inr i) =
        let there = operand-live own s w p x h in
        inr (record {
          unknown = unknown-before x y there e i.unknown;
          constant = i.constant;
          integer = i.integer;
          result = i.result;
          made = constant-later s t u f i.constant i.integer i.made;
          worth =
              back fold own s t w f i.worth.0 x i.integer there
              (subst (λ v. worth fold i.worth.0 t v ≡ Some i.integer) e i.worth.1);
          typed = i.typed ∙ ap (type_of_value t) e ∙ type-kept fold own s t w f x there;
          written = i.written ∙ ap (written_at t) e ∙ written-stays fold own s t w f x there;
        })
    replaced-then p x y z h (inr i) (inl d) =
        let there = subst (λ v. IsLive t (entity_node v.entity)) (sym i.result) i.made.live in
        inr (record {
          unknown = i.unknown;
          constant = i.constant;
          integer = i.integer;
          result = d ∙ i.result;
          made = constant-kept s t u g i.constant i.integer i.made;
          worth = i.worth;
          typed = ap (type_of_value u) d ∙ type-kept fold own t u w' g y there ∙ i.typed;
          written =
              but-location (op_at u i.constant) (op_at t i.constant) (g.ops i.constant i.made.live) ∙ i.written;
        })
    replaced-then p x y z h (inr i) (inr j) =
        absurd (none-some i.integer
        (sym j.unknown ∙ ap (constant_of t) i.result ∙ view-constant t i.constant i.integer i.made.location i.made.holds))

    -- what stands at an index of paired lists is paired
    same-constant : (p q : Ptr OperationKind) (i : ℕ) (n : Integer) → IsLive t (Operation q) → IsNewConstantOf s t p n
        → slice_get (operands_of t q) i ≡ Some (result_of p) → slice_get (operands_of u q) i ≡ Some (result_of p)
    same-constant p q i n l c e =
        (let r = paired-at (IsSameOrReplaced fold t u) (operands_of t q) (operands_of u q) i (result_of p)
        (g.operands q l) e in
        elim r.2 [
          | inl same ↦ r.1 ∙ ap Some same
          | inr k ↦ absurd (none-some n (sym k.unknown ∙ view-constant t p n c.location c.holds))
        ])

    -- what uses a constant that was there used it before
    used-before : (p q : Ptr OperationKind) (i : ℕ) (n : Integer) → IsNewConstantOf s t p n → IsLive u (Operation q)
        → slice_get (operands_of u q) i ≡ Some (result_of p)
        → IsLive t (Operation q) × (slice_get (operands_of t q) i ≡ Some (result_of p))
    used-before p q i n c l e = elim (cases_Bool (is_live t (Operation q))) [
      | inl k ↦ (let r = paired-back (IsSameOrReplaced fold t u) (operands_of t q) (operands_of u q) i (result_of p)
          (g.operands q k) e in
          elim r.2 [
            | inl same ↦ (k, r.1 ∙ ap Some (sym same))
            | inr j ↦ absurd (not-both (is_live t (Operation p)) c.live
                (subst (λ z. is_live t (Operation z) ≡ false) (sym (same-result j.result)) j.made.new))
          ])
      | inr k ↦ (let r = g.new (Operation q) l k in
          absurd (no-operand t u r.0 r.1.0 i (result_of p) r.1.1.1
          (subst (λ z. slice_get (operands_of u z) i ≡ Some (result_of p)) (same-op r.1.1.0) e)))
    ]

    -- a constant stays before its user
    user-kept : (p : Ptr OperationKind) (n : Integer) → IsNewConstantOf s t p n → IsForUser s t p → IsForUser s u p
    user-kept p n c r =
        (let k = g.children (BasicBlock r.block) (f.live (BasicBlock r.block) r.over) ∙ r.stands in
        let x = filter-cut (is_live t) (children u (BasicBlock r.block)) r.front (Operation p)
        (r.between ++ Operation r.user ∷ r.back) k in
        let y = filter-cut (is_live t) x.behind r.between (Operation r.user) r.back x.right in
        record {
          user = r.user;
          index = r.index;
          block = r.block;
          front = x.before;
          between = y.before;
          back = y.behind;
          old = r.old;
          over = r.over;
          used = same-constant p r.user r.index n (f.live (Operation r.user) r.old) c r.used;
          alone = λ q i l e. (let k = used-before p q i n c l e in r.alone q i k.0 k.1);
          stands = x.whole ∙ ap (λ z. x.before ++ Operation p ∷ z) y.whole;
          among = λ m h. elim (cases_Bool (is_live t m)) [
            | inl l ↦ r.among m (subst (λ z. Has z m) y.left (Has-kept (is_live t) y.before m h l))
            | inr e ↦ was-absent s t f m e
          ];
        })

    -- a constant that is new since stands before its user
    user-later : (p : Ptr OperationKind) → IsForUser t u p → IsForUser s u p
    user-later p r = record {
      user = r.user;
      index = r.index;
      block = r.block;
      front = r.front;
      between = r.between;
      back = r.back;
      old =
          elim (cases_Bool (is_live s (Operation r.user))) [
            | inl l ↦ l
            | inr e ↦ (let k = f.new (Operation r.user) r.old e in
                let q = same-op k.1.1.0 in
                absurd (no-operand s u k.0 k.1.0 r.index (result_of p) (constant-kept s t u g k.0 k.1.0 k.1.1.1)
                (subst (λ z. slice_get (operands_of u z) r.index ≡ Some (result_of p)) q r.used)))
          ];
      over = block-old s t f r.block r.over;
      used = r.used;
      alone = r.alone;
      stands = r.stands;
      among = λ m h. was-absent s t f m (r.among m h);
    }

    pub folded-then : IsFolded fold s u
    folded-then = record {
      live = λ n l. g.live n (f.live n l);
      new = λ n l e. elim (cases_Bool (is_live t n)) [
        | inl k ↦ (let r = f.new n k e in (r.0, (r.1.0, (r.1.1.0, constant-kept s t u g r.0 r.1.0 r.1.1.1))))
        | inr k ↦ (let r = g.new n l k in (r.0, (r.1.0, (r.1.1.0, constant-later s t u f r.0 r.1.0 r.1.1.1))))
      ];
      for_user = λ p l e. elim (cases_Bool (is_live t (Operation p))) [
        | inl k ↦ (let r = f.new (Operation p) k e in
            let q = same-op r.1.1.0 in
            user-kept p r.1.0 (subst (λ z. IsNewConstantOf s t z r.1.0) (sym q) r.1.1.1) (f.for_user p k e))
        | inr k ↦ user-later p (g.for_user p l k)
      ];
      children =
          λ n l. sym (filter-twice (is_live t) (is_live s) (λ x k. f.live x k) (children u n))
          ∙ ap (filter (is_live s)) (g.children n (f.live n l)) ∙ f.children n l;
      parents = λ n l. g.parents n (f.live n l) ∙ f.parents n l;
      ops = λ p l. g.ops p (f.live (Operation p) l) ∙ f.ops p l;
      operands =
          λ p l. paired-then (IsSameOrReplaced fold s t) (IsSameOrReplaced fold t u) (IsSameOrReplaced fold s u)
          (operands_of s p) (operands_of t p) (operands_of u p)
          (λ x y z h. replaced-then p x y z h) (f.operands p l) (g.operands p (f.live (Operation p) l));
      blocks = λ b l. g.blocks b (f.live (BasicBlock b) l) ∙ f.blocks b l;
      types = g.types ∙ f.types;
      limit = g.limit ∙ f.limit;
      given = λ n h. g.given n (f.given n h);
    }

    -- the flag tells of two changes
    pub tells-then : (x y z : Bool) → IsFlagged s x y t → IsFlagged t y z u → IsFlagged s x z u
    tells-then x y z h k = record {
      clear = λ e. (let b = k.clear e in let a = h.clear b.0 in (a.0, b.1 ∙ a.1));
      set = λ e. elim (k.set e) [
        | inl b ↦ elim (h.set b) [
          | inl a ↦ inl a
          | inr a ↦ inr (a.0, (a.1.0, constant-kept s t u g a.0 a.1.0 a.1.1))
        ]
        | inr b ↦ inr (b.0, (b.1.0, constant-later s t u f b.0 b.1.0 b.1.1))
      ];
    }

  pub tells-none : (s : ContextView K A T) (x : Bool) → IsFlagged s x x s
  tells-none s x = record { clear = λ e. (e, refl); set = λ e. inl e }
