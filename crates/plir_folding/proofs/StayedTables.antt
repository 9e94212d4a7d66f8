-- Folding leaves symbol tables as they were: what is new are constants, which are no symbols.
use Rattle.std.proofs.Common.{◌≡◌, Bool, true, false, cond, List, [], ◌∷◌, map, Option, Some, None, inl, inr}
use Rattle.std.proofs.Common.{refl, sym, ap, subst, ◌∙◌}
use Rattle.std.specs.Prelude.{IsSome, option_and_then}
use Rattle.std.specs.List.{filter}
use Rattle.std.proofs.lemmas.Option.{none-some, same_Some}
use Rattle.std.proofs.lemmas.Bool.{cases_Bool}
use Rattle.plir_store.specs.Lists.{children_at}
use Rattle.plir_store.specs.Members.{Has}
use Rattle.plir_store.specs.MemberLaws.{Has-map}
use Rattle.plir_store.specs.FilterLaws.{not-both, filter-all}
use Rattle.plir_core.specs.declared.ptr.Ptr.{Ptr}
use Rattle.plir_core.specs.declared.ptr.Operation.{Operation as OperationKind}
use Rattle.plir_core.specs.declared.ptr.Region.{Region as RegionKind}
use Rattle.plir_core.specs.declared.ptr.IRNode.{IRNode}
use Rattle.plir_core.specs.declared.ptr.IRNode.TheVariants.{Operation, Region, BasicBlock}
use Rattle.plir_core.specs.Contents.{OpView}
use Rattle.plir_core.specs.Nodes.{region_node, block_node, ptr_at}
use Rattle.plir_core.specs.Forest.{look, IsForest}
use Rattle.plir_core.specs.ContextView.{ContextView, IsLive, is_live, given_out, children, op_at, kind_in}
use Rattle.plir_core.specs.ButOperands.{but_operands}
use Rattle.plir_builtin.specs.Agree.{AreGivenOut}
use Rattle.plir_builtin.specs.Lasting.{StaysTable, StayTables}
use Rattle.plir_builtin.specs.Symbols.{is_symbol_kind, is_table_kind, name_held, only, body}
use Rattle.plir_builtin.specs.Symbols.{symbols_among, symbols_in}
use Rattle.plir_builtin.specs.Table.{Tables}
use Rattle.plir_folding.specs.Worth.{Integer}
use Rattle.plir_folding.specs.Folded.{IsFolded}
use Rattle.plir_folding.proofs.Walking.{no-op-image}

-- what an operation is as a symbol does not go by its operands
module _ {K A : Type 0} where
  but-kind : (o o' : Option (OpView K A)) → but_operands o ≡ but_operands o' → kind_in o ≡ kind_in o'
  but-kind o o' e = sym (same o) ∙ ap kind_in e ∙ same o'
    where
      same : (o : Option (OpView K A)) → kind_in (but_operands o) ≡ kind_in o
      same None = refl
      same (Some v) = refl

  but-name : (o o' : Option (OpView K A)) → but_operands o ≡ but_operands o' → name_held o ≡ name_held o'
  but-name o o' e = sym (same o) ∙ ap name_held e ∙ same o'
    where
      same : (o : Option (OpView K A)) → name_held (but_operands o) ≡ name_held o
      same None = refl
      same (Some v) = refl

-- the one element of a list is among its elements
only-Has : {X : Type 0} (xs : List X) (x : X) → only xs ≡ Some x → Has xs x
only-Has [] x e = absurd (none-some x e)
only-Has (y ∷ []) x e = inl (same_Some y x e)
only-Has (y ∷ z ∷ xs) x e = absurd (none-some x e)

-- below an operation stand regions, and below a region no operation
module _ {K A T : Type 0} where
  region-under-op : (s : ContextView K A T) (p : Ptr OperationKind) (x : IRNode) → Has (children s (Operation p)) x
      → (r : Ptr RegionKind) × (x ≡ Region r)
  region-under-op s p x h = go (is_live s (Operation p)) h
    where
      go : (b : Bool) → Has (cond b (map (region_node s.nodes) (children_at s.nodes.regions_in_op p.slot)) []) x
          → (r : Ptr RegionKind) × (x ≡ Region r)
      go true h =
          (let r = Has-map (region_node s.nodes) (children_at s.nodes.regions_in_op p.slot) x h in
          (ptr_at s.nodes.regions r.0, sym r.1.1))
      go false h = absurd h

  no-op-under-region : (s : ContextView K A T) (r : Ptr RegionKind) (p : Ptr OperationKind)
      → Has (children s (Region r)) (Operation p) → ⊥
  no-op-under-region s r p h =
      no-op-image (is_live s (Region r)) (children_at s.nodes.blocks_in_region r.slot) (block_node s.nodes)
      (λ i q e. cc e) p h

module _ {K A T : Type 0} (fold : K → Integer → Integer → Option Integer) (own own_table : K → Bool)
    (s t : ContextView K A T) (w : IsForest (look s)) (w' : IsForest (look t)) (f : IsFolded fold s t) where
  -- an operation that was given out and is live was live
  was-live : (p : Ptr OperationKind) → given_out s (Operation p) ≡ true → IsLive t (Operation p)
      → IsLive s (Operation p)
  was-live p given l = elim (cases_Bool (is_live s (Operation p))) [
    | inl k ↦ k
    | inr e ↦ (let r = f.new (Operation p) l e in
        let q : Operation p ≡ Operation r.0 = r.1.1.0 in
        absurd (not-both (given_out s (Operation p)) given (ap (given_out s) q ∙ r.1.1.1.fresh)))
  ]

  -- where no operation stands right below a node, the same stands there
  same-below : (n : IRNode) → IsLive s n → ((p : Ptr OperationKind) → Has (children t n) (Operation p) → ⊥)
      → children t n ≡ children s n
  same-below n l none =
      sym (filter-all (is_live s) (children t n) (λ x h. old x h)) ∙ f.children n l
    where
      old : (x : IRNode) → Has (children t n) x → is_live s x ≡ true
      old x h = elim (cases_Bool (is_live s x)) [
        | inl k ↦ k
        | inr e ↦ (let r = f.new x (w'.child_live n x h) e in
            absurd (none r.0 (subst (Has (children t n)) r.1.1.0 h)))
      ]

  same-regions : (p : Ptr OperationKind) → IsLive s (Operation p) → children t (Operation p) ≡ children s (Operation p)
  same-regions p l = same-below (Operation p) l (λ q h. (let r = region-under-op t p (Operation q) h in let z : ⊥ = cc r.1 in z))

  -- what stands in the one region of an operation
  same-body : (p : Ptr OperationKind) → IsLive s (Operation p) → body t p ≡ body s p
  same-body p l = go (only (children s (Operation p))) refl
    where
      in-region : (r : IRNode) → Has (children s (Operation p)) r → children t r ≡ children s r
      in-region r h =
          (let q = region-under-op s p r h in
          let l = subst (IsLive s) q.1 (w.child_live (Operation p) r h) in
          subst (λ z. children t z ≡ children s z) (sym q.1)
          (same-below (Region q.0) l (λ o k. no-op-under-region t q.0 o k)))

      go : (o : Option IRNode) → only (children s (Operation p)) ≡ o → body t p ≡ body s p
      go None e =
          ap (λ z. option_and_then (λ r. only (children t r)) (only z)) (same-regions p l)
          ∙ ap (option_and_then (λ r. only (children t r))) e ∙ sym (ap (option_and_then (λ r. only (children s r))) e)
      go (Some r) e =
          ap (λ z. option_and_then (λ r. only (children t r)) (only z)) (same-regions p l)
          ∙ ap (option_and_then (λ r. only (children t r))) e
          ∙ ap only (in-region r (only-Has (children s (Operation p)) r e))
          ∙ sym (ap (option_and_then (λ r. only (children s r))) e)

  -- symbols among what has come are those among what was there
  same-symbols : (xs : List IRNode) → ((x : IRNode) → Has xs x → IsLive t x)
      → symbols_among own (op_at t) xs ≡ symbols_among own (op_at s) (filter (is_live s) xs)
  same-symbols [] h = refl
  same-symbols (Operation p ∷ xs) h = elim (cases_Bool (is_live s (Operation p))) [
    | inl k ↦ (let b = f.ops p k in
        rw k (ap (λ z. cond (is_symbol_kind own z) ((p, name_held (op_at t p)) ∷ symbols_among own (op_at t) xs)
        (symbols_among own (op_at t) xs)) (but-kind (op_at t p) (op_at s p) b)
        ∙ ap (λ z. cond (is_symbol_kind own (kind_in (op_at s p))) ((p, z) ∷ symbols_among own (op_at t) xs)
        (symbols_among own (op_at t) xs)) (but-name (op_at t p) (op_at s p) b)
        ∙ ap (λ z. cond (is_symbol_kind own (kind_in (op_at s p))) ((p, name_held (op_at s p)) ∷ z) z)
        (same-symbols xs (λ x g. h x (inr g)))))
    | inr e ↦ (let r = f.new (Operation p) (h (Operation p) (inl refl)) e in
        let q : p ≡ r.0 = cc r.1.1.0 in
        let holds = ap (op_at t) q ∙ r.1.1.1.holds in
        rw e (ap (λ z. cond (is_symbol_kind own (kind_in z)) ((p, name_held (op_at t p)) ∷ symbols_among own (op_at t) xs)
        (symbols_among own (op_at t) xs)) holds ∙ same-symbols xs (λ x g. h x (inr g))))
  ]
  same-symbols (Region p ∷ xs) h = elim (cases_Bool (is_live s (Region p))) [
    | inl k ↦ rw k (same-symbols xs (λ x g. h x (inr g)))
    | inr e ↦ rw e (same-symbols xs (λ x g. h x (inr g)))
  ]
  same-symbols (BasicBlock p ∷ xs) h = elim (cases_Bool (is_live s (BasicBlock p))) [
    | inl k ↦ rw k (same-symbols xs (λ x g. h x (inr g)))
    | inr e ↦ rw e (same-symbols xs (λ x g. h x (inr g)))
  ]

  stays : (p : Ptr OperationKind) → IsLive s (Operation p) → StaysTable own own_table s t p
  stays p l =
      let b = same-body p l in
      record {
        kind = λ e. ap (is_table_kind own_table) (but-kind (op_at t p) (op_at s p) (f.ops p l)) ∙ e;
        body = λ h. subst IsSome (sym b) h;
        symbols = ap (symbols_in own t) b ∙ in-block (body s p) refl;
      }
    where
      in-block : (o : Option IRNode) → body s p ≡ o → symbols_in own t o ≡ symbols_in own s o
      in-block None e = refl
      in-block (Some n) e =
          (let live = body-live n e in
          same-symbols (children t n) (λ x h. w'.child_live n x h)
          ∙ ap (symbols_among own (op_at s)) (f.children n live))
        where
          body-live : (n : IRNode) → body s p ≡ Some n → IsLive s n
          body-live n e = go (only (children s (Operation p))) e
            where
              go : (o : Option IRNode) → option_and_then (λ r. only (children s r)) o ≡ Some n → IsLive s n
              go None e = absurd (none-some n e)
              go (Some r) e = w.child_live r n (only-Has (children s r) n e)

  pub stay-tables : (c : Tables) → AreGivenOut s c → StayTables own own_table s t c
  stay-tables c given p tab has live = elim live [
    | inl l ↦ (let k = was-live tab.op (given p tab has).1 l in (inl k, λ k. stays tab.op k))
    | inr l ↦ (inr (was-live p (given p tab has).0 l), λ k. stays tab.op k)
  ]
