-- Uses of results become uses of others, one merge after another.
use Rattle.std.proofs.Common.{◌≡◌, ℕ, zero, suc, ◌+◌, ◌<◌, ◌≤◌, Bool, true, false, cond, List, [], ◌∷◌, map, length}
use Rattle.std.proofs.Common.{drop, get_or, Option, Some, None, option_map, ◌⊎◌, inl, inr, refl, sym, ap, subst, ◌∙◌, arith}
use Rattle.std.proofs.Common.{add-one, drop-cons}
use Rattle.std.specs.Prelude.{◌≢◌, Contains}
use Rattle.std.proofs.lemmas.List.{drop_all, map-id}
use Rattle.plir_store.specs.Members.{Has}
use Rattle.plir_core.specs.declared.ptr.Ptr.{Ptr}
use Rattle.plir_core.specs.declared.ptr.Operation.{Operation as OperationKind}
use Rattle.plir_core.specs.declared.ptr.IRNode.{IRNode}
use Rattle.plir_core.specs.declared.ptr.IRNode.TheVariants.{Operation, BasicBlock}
use Rattle.plir_core.specs.declared.value.Value.{Value}
use Rattle.plir_core.specs.Contents.{OpView}
use Rattle.plir_core.specs.Held.{KeepsNodes}
use Rattle.plir_core.specs.ButOperands.{but_operands}
use Rattle.plir_core.specs.ContextView.{ContextView, IsValueLive, children, is_value_live, op_at}
use Rattle.plir_core.specs.ContextView.{operands_in, operands_of}
use Rattle.plir_core.specs.Forest.{look, IsForest}
use Rattle.plir_core.specs.Replaced.{replaced, op_replaced}
use Rattle.plir_core.specs.Rewired.{IsRewired}
use Rattle.plir_core.specs.SameValue.{same_value, value-exact}
use Rattle.plir_core.specs.ValueUses.{HasUses}
use Rattle.plir_core.specs.WellFormed.{IsWellFormed}
use Rattle.plir_walk.specs.Lawful.{Lawful}
use Rattle.plir_walk.specs.LawfulChanges.{LawfulChanges}
use Rattle.plir_folding.specs.declared.merging.Merge.{Merge}
use Rattle.plir_folding.specs.Folded.{ArePaired}
use Rattle.plir_folding.specs.Merged.{IsMerged, IsMergedInto, IsOfFirst, IsOfFirstBelow}
use Rattle.plir_folding.specs.Merging.{AreMergesBelow}
use Rattle.plir_folding.proofs.Firsts.{first-has, first-itself, one-into-below, constant-apart}
use Rattle.plir_folding.proofs.PassingOn.{keeps-self, keeps-then}

-- what an operation holds, with f of each operand
abbrev pub op_by : {K A : Type 0} → (Value → Value) → OpView K A → OpView K A
op_by f o = record o { operands = map f o.operands }

-- what becomes of a value by merges, one after another
abbrev pub merged_by : List Merge → Value → Value
merged_by [] x = x
merged_by (m ∷ ms) x = merged_by ms (replaced m.from m.into x)

-- no result whose uses go has uses come to it
abbrev AreApart : List Merge → Type 0
AreApart ms = (m k : Merge) → Has ms m → Has ms k → m.from ≡ k.into → ⊥

-- a value that is merged into none stays
untouched : (ms : List Merge) (x : Value) → ((m : Merge) → Has ms m → m.from ≡ x → ⊥) → merged_by ms x ≡ x
untouched [] x n = refl
untouched (m ∷ ms) x n = go (same_value x m.from) refl (untouched ms x (λ k h. n k (inr h)))
  where
    go : (b : Bool) → same_value x m.from ≡ b → merged_by ms x ≡ x → merged_by ms (cond b m.into x) ≡ x
    go true e rest = absurd (n m (inl refl) (sym ((value-exact x m.from).0 e)))
    go false e rest = rest

-- a value is merged as listed, or stays
abbrev IsMergedSo : List Merge → Value → Value → Type 0
IsMergedSo ms x y = ((m : Merge) × (Has ms m × ((m.from ≡ x) × (y ≡ m.into)))) ⊎
    (((m : Merge) → Has ms m → m.from ≡ x → ⊥) × (y ≡ x))

merged-cases : (ms : List Merge) (x : Value) → AreApart ms → IsMergedSo ms x (merged_by ms x)
merged-cases [] x apart = inr (λ m h. absurd h, refl)
merged-cases (m ∷ ms) x apart =
    go (same_value x m.from) refl (merged-cases ms x (λ a b h k. apart a b (inr h) (inr k)))
  where
    go : (b : Bool) → same_value x m.from ≡ b → IsMergedSo ms x (merged_by ms x)
        → IsMergedSo (m ∷ ms) x (merged_by ms (cond b m.into x))
    go true e rest = inl (
      m,
      (
        inl refl,
        (
          sym ((value-exact x m.from).0 e),
          untouched ms m.into (λ k h. apart k m (inr h) (inl refl)),
        ),
      ),
    )
    go false e (inl r) = inl (r.0, (inr r.1.0, r.1.1))
    go false e (inr r) = inr (
      λ k h f. (elim h [
        | inl same ↦
            (let z : ⊥ = cc ((value-exact x m.from).1 (sym f ∙ ap (λ (y : Merge). y.from) (sym same)), e) in z)
        | inr i ↦ r.0 k i f
      ]),
      r.1,
    )

has-there : (ms : List Merge) (i : ℕ) (d : Merge) → i < length ms → Has ms (get_or ms i d)
has-there [] i d h = absurd (omega (arith, h))
has-there (m ∷ ms) zero d h = inl refl
has-there (m ∷ ms) (suc i) d h = inr (has-there ms i d (omega (arith, h)))

map-then : (f g : Value → Value) (xs : List Value) → map f (map g xs) ≡ map (λ x. f (g x)) xs
map-then f g [] = refl
map-then f g (x ∷ xs) = ap (λ z. f (g x) ∷ z) (map-then f g xs)

-- what stays where all stays
kept-there : (f : Value → Value) (xs : List Value) (v : Value) → map f xs ≡ xs → Contains xs v → f v ≡ v
kept-there f [] v e c = absurd (let h = c.1 in omega (arith, h))
kept-there f (x ∷ xs) v e (zero, below, is) = (let h : f x ≡ x = cc e in subst (λ z. f z ≡ z) is h)
kept-there f (x ∷ xs) v e (suc i, below, is) =
    kept-there f xs v (let h : map f xs ≡ xs = cc e in h) (i, omega (arith, below), is)

paired-in : (R : Value → Value → Type 0) (f : Value → Value) (vs : List Value)
    → ((v : Value) → Contains vs v → R v (f v)) → ArePaired R vs (map f vs)
paired-in R f [] each = tt
paired-in R f (v ∷ vs) each = (
  each v (zero, omega arith, refl),
  paired-in R f vs (λ x c. each x (suc c.0, (let h = c.1 in omega (arith, h)), c.2)),
)

module _ {K A : Type 0} where
  by-then : (f : Value → Value) (v w : Value) (o : Option (OpView K A))
      → option_map (op_by f) (option_map (op_replaced v w) o) ≡ option_map (op_by (λ x. f (replaced v w x))) o
  by-then f v w None = refl
  by-then f v w (Some o) = ap (λ z. Some (record o { operands = z })) (map-then f (replaced v w) o.operands)

  but-by : (f : Value → Value) (o : Option (OpView K A)) → but_operands (option_map (op_by f) o) ≡ but_operands o
  but-by f None = refl
  but-by f (Some o) = refl

  operands-by : (f : Value → Value) (o : Option (OpView K A)) → operands_in (option_map (op_by f) o) ≡ map f (operands_in o)
  operands-by f None = refl
  operands-by f (Some o) = refl

module _ {K A T : Type 0} (own : A → List ℕ) where
  -- From s to t the first i merges have been made: with the others every operation holds what it holds with all.
  pub record AreMergedTo (s : ContextView K A T) (n : IRNode) (ms : List Merge) (i : ℕ) (t : ContextView K A T) : Type 0
    where
      pub keeps : KeepsNodes s t
      pub ops : (p : Ptr OperationKind) → option_map (op_by (merged_by (drop i ms))) (op_at t p)
          ≡ option_map (op_by (merged_by ms)) (op_at s p)
      pub blocks : t.nodes.blocks ≡ s.nodes.blocks
      pub regions : t.nodes.regions ≡ s.nodes.regions
      pub free : t.nodes.ops.free ≡ s.nodes.ops.free
      pub values : (x : Value) → is_value_live t x ≡ is_value_live s x
      pub lawful : Lawful (look s) n (look t)
      pub whole : IsWellFormed own t

  module _ (laws : LawfulChanges K A T own) (s : ContextView K A T) (n : IRNode) (ms : List Merge)
      (w : IsWellFormed own s) where
    pub merges-start : AreMergedTo s n ms 0 s
    merges-start = record {
      keeps = keeps-self s;
      ops = λ p. refl;
      blocks = refl;
      regions = refl;
      free = refl;
      values = λ x. refl;
      lawful = laws.none s n;
      whole = w;
    }

    pub merges-step : (t u : ContextView K A T) (i : ℕ) (d : Merge) → i < length ms → AreMergedTo s n ms i t
        → IsRewired t u (get_or ms i d).from (get_or ms i d).into → IsWellFormed own u → AreMergedTo s n ms (i + 1) u
    merges-step t u i d below h r k = record {
      keeps = keeps-then s t u h.keeps r.keeps;
      ops = λ p.
          ap (option_map (op_by (merged_by (drop (i + 1) ms)))) (r.ops p)
          ∙ by-then (merged_by (drop (i + 1) ms)) (get_or ms i d).from (get_or ms i d).into (op_at t p)
          ∙ ap (λ l. option_map (op_by (merged_by l)) (op_at t p)) (sym cut) ∙ h.ops p;
      blocks = r.blocks ∙ h.blocks;
      regions = r.regions ∙ h.regions;
      free = r.free ∙ h.free;
      values = λ x. r.values x ∙ h.values x;
      lawful = laws.both s t u n (laws.forest s w) h.lawful (laws.rewired t u n (get_or ms i d).from (get_or ms i d).into r);
      whole = k;
    }
      where
        cut : drop i ms ≡ get_or ms i d ∷ drop (i + 1) ms
        cut = drop-cons ms i d below ∙ ap (λ j. get_or ms i d ∷ drop j ms) (sym (add-one i))

module _ {K A T : Type 0} (s : ContextView K A T) (forest : IsForest (look s)) (r : IRNode) (ms : List Merge)
    (l : AreMergesBelow s r ms) where
  -- no first constant's result is merged into another one
  apart : AreApart ms
  apart m k h i e =
      let a = l.only m h in
      let b = l.only k i in
      let f = first-itself s (children s (BasicBlock b.0)) k.from k.into b.1.1.of in
      let g : IsOfFirstBelow s r m.from k.into =
      subst (λ v. IsOfFirstBelow s r v k.into) (sym e) (b.0, (b.1.0, f)) in
      a.1.1.other (e ∙ sym (one-into-below s forest r m.from m.into k.into (a.0, (a.1.0, a.1.1.of)) g))

  -- a merge's new value is live
  pub into-live : (i : ℕ) (d : Merge) → i < length ms → IsValueLive s (get_or ms i d).into
  into-live i d below =
      let c = l.only (get_or ms i d) (has-there ms i d below) in
      let f = c.1.1.of in
      let live =
      forest.child_live (BasicBlock c.0) (Operation f.first)
      (first-has s (children s (BasicBlock c.0)) f.integer f.first f.begins) in
      let count = ap length (constant-apart (op_at s f.first) f.integer f.begins.worth).1 in
      subst (IsValueLive s) (sym f.result) (rw (live, count) refl)

  becomes : (x : Value) → HasUses s x → IsMergedInto s r x (merged_by ms x)
  becomes x used = elim (merged-cases ms x apart) [
    | inl k ↦ (let c = l.only k.0 k.1.0 in inl (
      c.0,
      (
        c.1.0,
        subst (λ y. IsOfFirst s (children s (BasicBlock c.0)) x y) (sym k.1.1.1)
            (subst (λ v. IsOfFirst s (children s (BasicBlock c.0)) v k.0.into) k.1.1.0 c.1.1.of),
      ),
    ))
    | inr n ↦ inr (n.1, λ w f. go w f n.0 (same_value w x) refl)
  ]
    where
      go : (w : Value) → IsOfFirstBelow s r x w → ((m : Merge) → Has ms m → m.from ≡ x → ⊥)
          → (b : Bool) → same_value w x ≡ b → w ≡ x
      go w f n true e = (value-exact w x).0 e
      go w f n false e =
          let m : Merge = record { from = x; into = w } in
          absurd (n m (l.all f.0 f.1.0 m (record {
            of = f.1.1;
            other = λ q. (let z : ⊥ = cc ((value-exact w x).1 (sym q), e) in z);
            used = used;
          })) refl)

  module _ (own : A → List ℕ) (t : ContextView K A T) (i : ℕ) (h : AreMergedTo own s r ms i t) (all : length ms ≤ i) where
    ended : (p : Ptr OperationKind) → option_map (op_by (merged_by [])) (op_at t p)
        ≡ option_map (op_by (merged_by ms)) (op_at s p)
    ended p = subst (λ l. option_map (op_by (merged_by l)) (op_at t p) ≡ option_map (op_by (merged_by ms)) (op_at s p))
        (drop_all i ms all) (h.ops p)

    operands : (p : Ptr OperationKind) → operands_of t p ≡ map (merged_by ms) (operands_of s p)
    operands p =
        sym (map-id (operands_of t p)) ∙ sym (operands-by (merged_by []) (op_at t p)) ∙ ap operands_in (ended p)
        ∙ operands-by (merged_by ms) (op_at s p)

    pub merges-end : IsMerged s r t
    merges-end = record {
      keeps = h.keeps;
      ops = λ p.
          sym (but-by (merged_by []) (op_at t p)) ∙ ap but_operands (ended p) ∙ but-by (merged_by ms) (op_at s p);
      operands = λ p live.
          subst (ArePaired (IsMergedInto s r) (operands_of s p)) (sym (operands p))
          (paired-in (IsMergedInto s r) (merged_by ms) (operands_of s p) (λ v c. becomes v (p, (live, c))));
      blocks = h.blocks;
      regions = h.regions;
      free = h.free;
    }

    -- what is used is merged into something else, where anything is listed
    pub merges-tell : ms ≢ [] → t ≢ s
    merges-tell some same = go ms refl
      where
        go : (ks : List Merge) → ms ≡ ks → ⊥
        go [] e = some e
        go (m ∷ ks) e =
            let has : Has ms m = subst (λ z. Has z m) (sym e) (inl refl) in
            let used = (l.only m has).1.1.used in
            let stays =
            kept-there (merged_by ms) (operands_of s used.0) m.from
            (sym (operands used.0) ∙ ap (λ z. operands_of z used.0) same) used.1.1 in
            elim (merged-cases ms m.from apart) [
              | inl k ↦ apart m k.0 has k.1.0 (sym stays ∙ k.1.1.1)
              | inr n ↦ n.0 m has refl
            ]

  -- where nothing is listed, nothing is to be done
  pub merges-none : (own : A → List ℕ) → LawfulChanges K A T own → IsWellFormed own s → length ms ≡ 0 → IsMerged s r s
  merges-none own laws w none =
      merges-end own s 0 (merges-start own laws s r ms w) (omega (arith, none))
