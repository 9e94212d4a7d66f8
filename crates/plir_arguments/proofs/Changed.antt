-- Operations that come to hold something else, one after another.
use Rattle.std.proofs.Common.{◌≡◌, ℕ, suc, ◌+◌, ◌<◌, arith, inl, inr, refl, sym, ap, subst, ◌∙◌, Bool, true, List, [], length, take}
use Rattle.std.proofs.Common.{Option, Some, None, option_map}
use Rattle.std.specs.Prelude.{slice_get, slice_range, option_and_then}
use Rattle.std.proofs.lemmas.Option.{slice_get_within}
use Rattle.plir_store.specs.Members.{Has}
use Rattle.plir_store.specs.MemberLaws.{Has-at}
use Rattle.plir_core.specs.declared.ptr.Ptr.{Ptr}
use Rattle.plir_core.specs.declared.ptr.Operation.{Operation as OperationKind}
use Rattle.plir_core.specs.declared.ptr.BasicBlock.{BasicBlock as BlockKind}
use Rattle.plir_core.specs.declared.ptr.IRNode.TheVariants.{Operation}
use Rattle.plir_core.specs.declared.uses.Use.{Use}
use Rattle.plir_core.specs.declared.value.Value.{Value}
use Rattle.plir_core.specs.Contents.{OpView}
use Rattle.plir_core.specs.ContextView.{ContextView, IsLive, arg_types_of, block_at, op_at, operands_in, successors_in}
use Rattle.plir_core.specs.ContextView.{successors_of}
use Rattle.plir_core.specs.Held.{IsOpEdited, KeepsNodes}
use Rattle.plir_flow.specs.Branches.{Range as Places}
use Rattle.plir_flow_sets.specs.Branches.{forwarded_to, operands_told}
use Rattle.plir_flow_sets.specs.Told.{told_of}
use Rattle.plir_arguments.specs.Dropped.{CanForwardLess}
use Rattle.plir_arguments.specs.Removed.{ForwardsLess, IsOpChanged, is_told, test_held}
use Rattle.plir_arguments.specs.Turned.{AreTurned, AreUses, GoesTo, IsTurned}
use Rattle.plir_arguments.proofs.Members.{before-has, distinct-before, next-cases, next-left, next-right}

module _ {K A : Type 0} where
  successor-held : (x : Option (OpView K A)) (k : ℕ) → k < length (successors_in x) → (o : OpView K A) × (x ≡ Some o)
  successor-held None k h = absurd (let no : ⊥ = omega (arith, h) in no)
  successor-held (Some o) k h = (o, refl)

module _ {K A T : Type 0} where
  pub keeps-same : (s : ContextView K A T) → KeepsNodes s s
  keeps-same s = record {
    live = λ n. refl;
    given = λ n. refl;
    children = λ n. refl;
    parents = λ n. refl;
    types = refl;
    limit = refl;
  }

  pub keeps-both : (s t u : ContextView K A T) → KeepsNodes s t → KeepsNodes t u → KeepsNodes s u
  keeps-both s t u a b = record {
    live = λ n. b.live n ∙ a.live n;
    given = λ n. b.given n ∙ a.given n;
    children = λ n. b.children n ∙ a.children n;
    parents = λ n. b.parents n ∙ a.parents n;
    types = b.types ∙ a.types;
    limit = b.limit ∙ a.limit;
  }

  -- what has changed is edited
  pub changed-edited : (s t u : ContextView K A T) (p : Ptr OperationKind) (R S : OpView K A → OpView K A → Type 0)
      (f : OpView K A → OpView K A) → IsOpChanged s t p R → IsOpEdited t u p f → ((o r : OpView K A) → R o r → S o (f r))
      → IsOpChanged s u p S
  changed-edited s t u p R S f a e step = record {
    keeps = keeps-both s t u a.keeps e.keeps;
    held = λ o is. (let r = a.held o is in (f r.0, e.held ∙ ap (option_map f) r.1, step o r.0 r.2));
    ops = λ q l off. e.ops q (a.keeps.live (Operation q) ∙ l) off ∙ a.ops q l off;
    blocks = λ b. e.blocks b ∙ a.blocks b;
  }

  -- an operation that forwards less has the successors that it had
  pub successors-same : (s t : ContextView K A T) (p : Ptr OperationKind) (keys : List (List ℕ))
      (forwards : ℕ → OpView K A → Option Places) (i n : ℕ) → IsOpChanged s t p (ForwardsLess keys forwards i n)
      → (k : ℕ) → k < length (successors_of s p) → successors_of t p ≡ successors_of s p
  successors-same s t p keys forwards i n a k h =
      let o = successor-held (op_at s p) k h in
      let r = a.held o.0 o.1 in
      ap successors_in r.1 ∙ r.2.successors ∙ sym (ap successors_in o.1)

  module _ (forwards : ℕ → OpView K A → Option Places) (s t : ContextView K A T) (p : Ptr OperationKind)
      (same : op_at t p ≡ op_at s p) where
    -- what is told of an operation is told by what it holds
    pub test-same : (f : OpView K A → Bool) → is_told f t p ≡ is_told f s p
    test-same f = ap (test_held f) same

    pub goes-same : (k : ℕ) (b : Ptr BlockKind) → GoesTo s p k b → GoesTo t p k b
    goes-same k b g = ap (λ x. slice_get (successors_in x) k) same ∙ g

    abbrev values-held : Option (OpView K A) → Option Places → List Value
    values-held x None = []
    values-held x (Some r) = slice_range (operands_in x) r.0 r.1

    told-held : (z : ContextView K A T) (r : Option Places) → operands_told z p r ≡ values-held (op_at z p) r
    told-held z None = refl
    told-held z (Some r) = refl

    pub forwarded-same : (k : ℕ) → forwarded_to forwards t p k ≡ forwarded_to forwards s p k
    forwarded-same k =
        told-held t (told_of (forwards k) t p)
        ∙ ap (λ x. values-held x (option_and_then (forwards k) x)) same
        ∙ sym (told-held s (told_of (forwards k) s p))

module _ {K A T : Type 0} (keys : List (List ℕ)) (forwards : ℕ → OpView K A → Option Places) (s : ContextView K A T)
    (b c : Ptr BlockKind) (i : ℕ) where
  -- From s to t the operations of some uses are turned, and nothing else has changed.
  pub record AreTurnedAt (t : ContextView K A T) (us : List (Use (Ptr BlockKind))) : Type 0 where
    pub keeps : KeepsNodes s t
    pub done : (u : Use (Ptr BlockKind)) → Has us u → (o : OpView K A) → op_at s u.op ≡ Some o →
        (o' : OpView K A) × (op_at t u.op ≡ Some o') × IsTurned keys forwards c i u.index o o'
    pub rest : (p : Ptr OperationKind) → IsLive s (Operation p) → ((u : Use (Ptr BlockKind)) → Has us u → u.op ≡ p → ⊥) →
        op_at t p ≡ op_at s p
    pub blocks : (x : Ptr BlockKind) → block_at t x ≡ block_at s x

  pub none-turned : AreTurnedAt s []
  none-turned = record {
    keeps = keeps-same s;
    done = λ u h. absurd h;
    rest = λ p l off. refl;
    blocks = λ x. refl;
  }

  module _ (us : List (Use (Ptr BlockKind))) (uses : AreUses s b us)
      (once : (p : Ptr OperationKind) (j k : ℕ) → IsLive s (Operation p) → GoesTo s p j b → GoesTo s p k b → j ≡ k)
      (n : ℕ) (u : Use (Ptr BlockKind)) (at : slice_get us n ≡ Some u) where
    here : Has us u
    here = Has-at us n u at

    -- no use before this one is of the same operation
    pub not-before : (v : Use (Ptr BlockKind)) → Has (take n us) v → v.op ≡ u.op → ⊥
    not-before v h e =
        let a = uses.each v (before-has n us v h) in
        let z = uses.each u here in
        let index : v.index ≡ u.index =
        once u.op v.index u.index z.0 (subst (λ p. GoesTo s p v.index b) e a.1) z.1 in
        let same : v ≡ u = (λ j. record { op = e j; index = index j; kind = record {} }) in
        distinct-before us n u at uses.apart (subst (Has (take n us)) same h)

    pub next-live : (t : ContextView K A T) → AreTurnedAt t (take n us) → IsLive t (Operation u.op)
    next-live t h = h.keeps.live (Operation u.op) ∙ (uses.each u here).0

    pub next-same : (t : ContextView K A T) → AreTurnedAt t (take n us) → op_at t u.op ≡ op_at s u.op
    next-same t h = h.rest u.op (uses.each u here).0 not-before

    pub next-below : (t : ContextView K A T) → AreTurnedAt t (take n us) → u.index < length (successors_of t u.op)
    next-below t h =
        slice_get_within (successors_of t u.op) u.index b
        (goes-same forwards s t u.op (next-same t h) u.index b (uses.each u here).1)

    module _ (removes : ℕ → OpView K A → Bool)
        (can : (p : Ptr OperationKind) (k : ℕ) → IsLive s (Operation p) → GoesTo s p k b →
        CanForwardLess removes forwards s b p k) where
      next-can : CanForwardLess removes forwards s b u.op u.index
      next-can = can u.op u.index (uses.each u here).0 (uses.each u here).1

      pub next-told : (t : ContextView K A T) → AreTurnedAt t (take n us) → is_told (removes u.index) t u.op ≡ true
      next-told t h = test-same forwards s t u.op (next-same t h) (removes u.index) ∙ next-can.told

      pub next-within : (t : ContextView K A T) → AreTurnedAt t (take n us) → i < length (arg_types_of s b)
          → i < length (forwarded_to forwards t u.op u.index)
      next-within t h below =
          subst (λ k. i < k)
          (sym (ap length (forwarded-same forwards s t u.op (next-same t h) u.index) ∙ next-can.as_many)) below

    pub one-more : (t w : ContextView K A T) → AreTurnedAt t (take n us)
        → IsOpChanged t w u.op (IsTurned keys forwards c i u.index) → AreTurnedAt w (take (n + 1) us)
    one-more t w h e = subst (λ k. AreTurnedAt w (take k us)) next (record {
      keeps = keeps-both s t w h.keeps e.keeps;
      done = λ v has o is. elim (next-cases us n u v at has) [
        | inl before ↦
            let r = h.done v before o is in
            let l = h.keeps.live (Operation v.op) ∙ (uses.each v (before-has n us v before)).0 in
            (r.0, e.ops v.op l (not-before v before) ∙ r.1, r.2)
        | inr same ↦
            let is_u : op_at s u.op ≡ Some o = ap (λ (z : Use (Ptr BlockKind)). op_at s z.op) same ∙ is in
            let r = e.held o (next-same t h ∙ is_u) in (
              r.0,
              ap (λ (z : Use (Ptr BlockKind)). op_at w z.op) (sym same) ∙ r.1,
              subst (λ (z : Use (Ptr BlockKind)). IsTurned keys forwards c i z.index o r.0) same r.2,
            )
      ];
      rest = λ p l off.
          e.ops p (h.keeps.live (Operation p) ∙ l) (λ is. off u (next-right us n u at) (sym is))
          ∙ h.rest p l (λ v has. off v (next-left us n u v at has));
      blocks = λ x. e.blocks x ∙ h.blocks x;
    })
      where
        next : suc n ≡ n + 1
        next = omega arith

  pub all-turned : (t : ContextView K A T) (us : List (Use (Ptr BlockKind))) → AreUses s b us → AreTurnedAt t us
      → AreTurned keys forwards s t b c i
  all-turned t us uses h = record {
    keeps = h.keeps;
    branches = λ p k o l goes is. h.done (record { op = p; index = k; kind = record {} }) (uses.all p k l goes) o is;
    ops = λ p l never. h.rest p l (λ u has e.
        never u.index (subst (λ q. GoesTo s q u.index b) e (uses.each u has).1));
    blocks = h.blocks;
  }

  -- an operation that can forward one value less branches to the block once
  pub can-once : (removes : ℕ → OpView K A → Bool)
      → ((p : Ptr OperationKind) (k : ℕ) → IsLive s (Operation p) → GoesTo s p k b → CanForwardLess removes forwards s b p k)
      → (p : Ptr OperationKind) (j k : ℕ) → IsLive s (Operation p) → GoesTo s p j b → GoesTo s p k b → j ≡ k
  can-once removes can p j k l a g = (can p k l g).once j a
