-- The uses of a block are listed, each once.
use Rattle.std.proofs.Common.{◌≡◌, ℕ, zero, suc, ◌+◌, ◌<◌, ◌≤◌, arith, Bool, true, false, ◌⊎◌, inl, inr}
use Rattle.std.proofs.Common.{refl, sym, ap, subst, ◌∙◌, List, [], ◌∷◌, length, Option, Some, None, is_some}
use Rattle.std.specs.Prelude.{slice_get, ◌&&◌, ◌==◌}
use Rattle.std.specs.Cmp.{second_so, unsigned_Decides}
use Rattle.std.proofs.lemmas.List.{get_or_past}
use Rattle.std.proofs.lemmas.Option.{none-some, same_Some}
use Rattle.plir_store.specs.Members.{Has, Distinct}
use Rattle.plir_store.specs.MemberLaws.{Has-append_cases, Has-append_left, Has-append_right, Distinct-append}
use Rattle.plir_store.specs.Table.{Cell, Table, content_at, no_cell, version_at}
use Rattle.plir_core.specs.declared.ptr.Ptr.{Ptr}
use Rattle.plir_core.specs.declared.ptr.Operation.{Operation as OperationKind}
use Rattle.plir_core.specs.declared.ptr.BasicBlock.{BasicBlock as BlockKind}
use Rattle.plir_core.specs.declared.ptr.IRNode.TheVariants.{Operation}
use Rattle.plir_core.specs.declared.uses.Use.{Use}
use Rattle.plir_core.specs.Contents.{OpView}
use Rattle.plir_core.specs.ContextView.{ContextView, IsLive, op_at, successors_in, successors_of}
use Rattle.plir_core.specs.ListedUses.{block_uses, block_uses_in, joined, use_if, uses_from}
use Rattle.plir_core.specs.Nodes.{ptr_at}
use Rattle.plir_core.specs.SameValue.{same_ptr, ptr-exact}
use Rattle.plir_arguments.specs.Turned.{AreUses, GoesTo}

-- what is read past the last use: none is
abbrev pub no_use : Use (Ptr BlockKind)
no_use = record { op = record { slot = 0; version = 0; kind = record {} }; index = 0; kind = record {} }

module _ {U : Type 0} where
  if-has : (b : Bool) (p : Ptr OperationKind) (i : ℕ) (u : Use U) → Has (use_if b p i) u
      → (b ≡ true) × ((u.op ≡ p) × (u.index ≡ i))
  if-has true p i u (inl e) = (refl, (sym (ap (λ z. z.op) e), sym (ap (λ z. z.index) e)))
  if-has true p i u (inr h) = absurd h
  if-has false p i u h = absurd h

module _ {X U : Type 0} where
  -- a use that is listed is one of the operation p, at a place where the test holds
  pub record IsAt (is : X → Bool) (p : Ptr OperationKind) (i : ℕ) (xs : List X) (u : Use U) : Type 0 where
    pub place : ℕ
    pub what : X
    pub at : slice_get xs place ≡ Some what
    pub holds : is what ≡ true
    pub op : u.op ≡ p
    pub index : u.index ≡ i + place

  pub from-has : (is : X → Bool) (p : Ptr OperationKind) (i : ℕ) (xs : List X) (u : Use U) → Has (uses_from is p i xs) u
      → IsAt is p i xs u
  from-has is p i [] u h = absurd h
  from-has is p i (x ∷ xs) u h = elim (Has-append_cases (use_if (is x) p i) (uses_from is p (i + 1) xs) u h) [
    | inl a ↦
        let r = if-has (is x) p i u a in
        let index : u.index ≡ i + zero = omega (arith, r.1.1) in
        record { place = zero; what = x; at = refl; holds = r.0; op = r.1.0; index = index }
    | inr b ↦
        let r = from-has is p (i + 1) xs u b in
        let index : u.index ≡ i + suc r.place = omega (arith, r.index) in
        record { place = suc r.place; what = r.what; at = r.at; holds = r.holds; op = r.op; index = index }
  ]

pub if-distinct : (U : Type 0) (b : Bool) (p : Ptr OperationKind) (i : ℕ) → Distinct (let us : List (Use U) = use_if b p i in us)
if-distinct U true p i = (λ h. h, tt)
if-distinct U false p i = tt

module _ {X : Type 0} (U : Type 0) where
  pub has-from : (is : X → Bool) (p : Ptr OperationKind) (i : ℕ) (xs : List X) (j n : ℕ) (x : X)
      → slice_get xs j ≡ Some x → is x ≡ true → n ≡ i + j
      → Has (uses_from is p i xs) (let u : Use U = record { op = p; index = n; kind = record {} } in u)
  has-from is p i [] j n x e t h = absurd (none-some x e)
  has-from is p i (y ∷ ys) zero n x e t h =
      let same : i ≡ n = omega (arith, h) in
      let yes : is y ≡ true = ap is (same_Some y x e) ∙ t in
      Has-append_left (use_if (is y) p i) (uses_from is p (i + 1) ys) _
      (subst (λ b. Has (use_if b p i) (let u : Use U = record { op = p; index = n; kind = record {} } in u)) (sym yes)
      (inl (ap (λ (m : ℕ). let u : Use U = record { op = p; index = m; kind = record {} } in u) same)))
  has-from is p i (y ∷ ys) (suc j) n x e t h =
      let later : n ≡ (i + 1) + j = omega (arith, h) in
      Has-append_right (use_if (is y) p i) (uses_from is p (i + 1) ys) _ (has-from is p (i + 1) ys j n x e t later)

  pub from-distinct : (is : X → Bool) (p : Ptr OperationKind) (i : ℕ) (xs : List X)
      → Distinct (let us : List (Use U) = uses_from is p i xs in us)
  from-distinct is p i [] = tt
  from-distinct is p i (x ∷ xs) =
      Distinct-append (use_if (is x) p i) (uses_from is p (i + 1) xs) (if-distinct U (is x) p i) (from-distinct is p (i + 1) xs)
      (λ (u : Use U) a b.
      let here : u.index ≡ i = (if-has (is x) p i u a).1.1 in
      let there = from-has is p (i + 1) xs u b in
      let e : u.index ≡ (i + 1) + there.place = there.index in
      let no : ⊥ = omega (arith, here, e) in no)

module _ {X : Type 0} (f : ℕ → List X) where
  pub joined-has : (n : ℕ) (x : X) → Has (joined f n) x → (m : ℕ) × ((m < n) × Has (f m) x)
  joined-has zero x h = absurd h
  joined-has (suc n) x h = elim (Has-append_cases (joined f n) (f n) x h) [
    | inl a ↦
        let r = joined-has n x a in
        let less : r.0 < n = r.1.0 in
        (r.0, (omega (arith, less), r.1.1))
    | inr b ↦ (n, (omega arith, b))
  ]

  pub has-joined : (n m : ℕ) (x : X) → m < n → Has (f m) x → Has (joined f n) x
  has-joined zero m x less h = absurd (let no : ⊥ = omega (arith, less) in no)
  has-joined (suc n) m x less h = elim (same-or-less m n less) [
    | inl same ↦ Has-append_right (joined f n) (f n) x (subst (λ k. Has (f k) x) same h)
    | inr below ↦ Has-append_left (joined f n) (f n) x (has-joined n m x below h)
  ]
    where
      same-or-less : (m n : ℕ) → m < suc n → (m ≡ n) ⊎ (m < n)
      same-or-less m n h = grind arith

  pub joined-distinct : (g : X → ℕ) → ((m : ℕ) → Distinct (f m)) → ((m : ℕ) (x : X) → Has (f m) x → g x ≡ m) → (n : ℕ)
      → Distinct (joined f n)
  joined-distinct g each at zero = tt
  joined-distinct g each at (suc n) =
      Distinct-append (joined f n) (f n) (joined-distinct g each at n) (each n) (λ x a b.
      let r = joined-has n x a in
      let less : r.0 < n = r.1.0 in
      let first : g x ≡ r.0 = at r.0 x r.1.1 in
      let second : g x ≡ n = at n x b in
      let no : ⊥ = omega (arith, less, first, second) in no)

equal-true : (n : ℕ) → (n == n) ≡ true
equal-true n = (unsigned_Decides n n).1 refl

equal-same : (m n : ℕ) → (m == n) ≡ true → m ≡ n
equal-same m n h = (unsigned_Decides m n).0 h

-- what stands in a slot of a table stands within it
within : {C : Type 0} (t : Table C) (i : ℕ) (x : C) → content_at t i ≡ Some x → i < length t.slots
within {C} t i x e = elim (either i (length t.slots)) [
  | inl less ↦ less
  | inr past ↦
      absurd (none-some x (sym (ap (λ (z : Cell C). z.content) (get_or_past t.slots i no_cell past)) ∙ e))
]
  where
    either : (i n : ℕ) → (i < n) ⊎ (n ≤ i)
    either i n = grind arith

module _ {K A : Type 0} where
  -- what has a successor is there
  pub successor-there : (x : Option (OpView K A)) (j : ℕ) (b : Ptr BlockKind) → slice_get (successors_in x) j ≡ Some b
      → (o : OpView K A) × (x ≡ Some o)
  successor-there None j b e = absurd (none-some b e)
  successor-there (Some o) j b e = (o, refl)

from-zero : (k : ℕ) → k ≡ 0 + k
from-zero k = omega arith

module _ {K A T : Type 0} (s : ContextView K A T) (b : Ptr BlockKind) where
  each : (u : Use (Ptr BlockKind)) → Has (block_uses s b) u → IsLive s (Operation u.op) × GoesTo s u.op u.index b
  each u h =
      let r = joined-has (block_uses_in s b) (length s.nodes.ops.slots) u h in
      let m = r.0 in
      let p : Ptr OperationKind = ptr_at s.nodes.ops m in
      let a = from-has (λ x. same_ptr x b) p 0 (successors_in (content_at s.nodes.ops m)) u r.1.1 in
      let same : a.what ≡ b = (ptr-exact a.what b).0 a.holds in
      let index : a.place ≡ u.index = omega (arith, a.index) in
      let there = successor-there (content_at s.nodes.ops m) a.place a.what a.at in
      let full : is_some (content_at s.nodes.ops m) ≡ true = ap is_some there.1 in
      let live : IsLive s (Operation p) =
      ap (λ z. z && (version_at s.nodes.ops m == version_at s.nodes.ops m)) full ∙ equal-true (version_at s.nodes.ops m) in
      let goes : GoesTo s p u.index b = ap (slice_get (successors_of s p)) (sym index) ∙ a.at ∙ ap Some same in (
        subst (λ q. IsLive s (Operation q)) (sym a.op) live,
        subst (λ q. GoesTo s q u.index b) (sym a.op) goes,
      )

  all : (p : Ptr OperationKind) (k : ℕ) → IsLive s (Operation p) → GoesTo s p k b
      → Has (block_uses s b) (record { op = p; index = k; kind = record {} })
  all p k live goes =
      let k_is = from-zero k in
      let there = successor-there (op_at s p) k b goes in
      let below : p.slot < length s.nodes.ops.slots = within s.nodes.ops p.slot there.0 there.1 in
      let version : version_at s.nodes.ops p.slot ≡ p.version =
      equal-same (version_at s.nodes.ops p.slot) p.version (second_so _ _ live) in
      let q : Ptr OperationKind = ptr_at s.nodes.ops p.slot in
      let same : q ≡ p = (λ i. record { slot = p.slot; version = version i; kind = record {} }) in
      has-joined (block_uses_in s b) (length s.nodes.ops.slots) p.slot _ below
      (subst (λ z. Has (block_uses_in s b p.slot) (let u : Use (Ptr BlockKind) = record { op = z; index = k; kind = record {} } in u)) same
      (has-from (Ptr BlockKind) (λ x. same_ptr x b) q 0 (successors_of s p) k k b goes ((ptr-exact b b).1 refl) k_is))

  -- the uses that are listed of a block are its uses
  pub are-uses : AreUses s b (block_uses s b)
  are-uses = record {
    apart = joined-distinct (block_uses_in s b) (λ u. u.op.slot)
        (λ m. from-distinct (Ptr BlockKind) (λ x. same_ptr x b) (ptr_at s.nodes.ops m) 0 (successors_in (content_at s.nodes.ops m)))
        (λ m u h.
        let a = from-has (λ x. same_ptr x b) (ptr_at s.nodes.ops m) 0 (successors_in (content_at s.nodes.ops m)) u h in
        ap (λ (z : Ptr OperationKind). z.slot) a.op)
        (length s.nodes.ops.slots);
    each = each;
    all = all;
  }
