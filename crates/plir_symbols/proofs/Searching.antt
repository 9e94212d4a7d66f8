-- The search for the reached symbols of a table, and that it finds them.
use Rattle.std.proofs.Common.{◌≡◌, ◌↔◌, ◌<◌, ◌≤◌, ℕ, zero, suc, arith, Bool, true, false, IsTrue, cond, List}
use Rattle.std.proofs.Common.{[], ◌∷◌, ◌++◌, length, map, take, Option, Some, None, ◌⊎◌, inl, inr, refl, sym, ap, subst, ◌∙◌}
use Rattle.std.specs.Prelude.{option_and_then, slice_get}
use Rattle.std.proofs.lemmas.List.{length-map, take_all}
use Rattle.std.proofs.lemmas.Option.{none-some, same_Some}
use Rattle.plir_store.specs.Members.{Has}
use Rattle.plir_store.specs.MemberLaws.{Distinct-map, Has-append_cases, Has-append_left, Has-at, Has-map}
use Rattle.plir_core.specs.declared.ptr.Ptr.{Ptr}
use Rattle.plir_core.specs.declared.ptr.Operation.{Operation as OperationKind}
use Rattle.plir_core.specs.declared.ptr.BasicBlock.{BasicBlock as BasicBlockKind}
use Rattle.plir_core.specs.declared.ptr.IRNode.{IRNode}
use Rattle.plir_core.specs.declared.ptr.IRNode.TheVariants.{Operation, Region, BasicBlock}
use Rattle.plir_core.specs.Contents.{OpView}
use Rattle.plir_core.specs.ContextView.{ContextView, IsLive, children, kind_in, num_live, op_at}
use Rattle.plir_core.specs.Standing.{IsStanding}
use Rattle.plir_walk.specs.NodeLaws.{same-op}
use Rattle.plir_builtin.specs.Agree.{Agrees}
use Rattle.plir_builtin.specs.Nearest.{IsNearest}
use Rattle.plir_builtin.specs.Symbols.{body, children_in, find_named, is_named, is_symbol_kind, name_held}
use Rattle.plir_builtin.specs.Symbols.{scan, symbols_among}
use Rattle.plir_builtin.specs.Table.{Table}
use Rattle.plir_symbols.specs.declared.reached.Reached.{Reached}
use Rattle.plir_symbols.specs.DeadSymbols.{IsInBody, IsReached, IsReachedFrom, IsReachedIn, IsRoot, IsUse, IsUsedUnder}
use Rattle.plir_symbols.specs.DeadSymbols.{MayGo}
use Rattle.plir_store.specs.FilterLaws.{not-both}
use Rattle.plir_symbols.specs.Reaching.{IsGrown, IsKept, IsTold, IsToldUnder, IsWhole, Tells, is_among, ops_of}
use Rattle.plir_symbols.proofs.Edges.{take-next}
use Rattle.plir_symbols.proofs.Grown.{among-has, grown-both, has-among}
use Rattle.plir_symbols.proofs.Upward.{home-live, nearest-open, one-home, open-nearest}

take-left : {X : Type 0} (xs ys : List X) (k : ℕ) → k ≤ length xs → take k (xs ++ ys) ≡ take k xs
take-left xs ys zero less = refl
take-left [] ys (suc k) less = absurd (let z : ⊥ = omega (arith, less) in z)
take-left (x ∷ xs) ys (suc k) less = ap (λ z. x ∷ z) (take-left xs ys k (omega (arith, less)))

-- what is found among nodes is one of them
found-in : {K A : Type 0} (own : K → Bool) (holds : Ptr OperationKind → Option (OpView K A)) (x : List ℕ)
    (ns : List IRNode) (q : Ptr OperationKind) → find_named x (symbols_among own holds ns) ≡ Some q →
    Has ns (Operation q)
found-in own holds x [] q e = absurd (none-some q e)
found-in own holds x (Operation p ∷ ns) q e = at (λ g. found-in own holds x ns q g) (is_symbol_kind own (kind_in (holds p))) e
  where
    named : (find_named x (symbols_among own holds ns) ≡ Some q → Has ns (Operation q)) → (b : Bool) →
        cond b (Some p) (find_named x (symbols_among own holds ns)) ≡ Some q → Has (Operation p ∷ ns) (Operation q)
    named rest true g = inl (ap Operation (same_Some p q g))
    named rest false g = inr (rest g)

    at : (find_named x (symbols_among own holds ns) ≡ Some q → Has ns (Operation q)) → (b : Bool) →
        find_named x (cond b ((p, name_held (holds p)) ∷ symbols_among own holds ns) (symbols_among own holds ns))
        ≡ Some q → Has (Operation p ∷ ns) (Operation q)
    at rest false f = inr (rest f)
    at rest true f = named rest (is_named x (name_held (holds p))) f
found-in own holds x (Region p ∷ ns) q e = inr (found-in own holds x ns q e)
found-in own holds x (BasicBlock p ∷ ns) q e = inr (found-in own holds x ns q e)

module _ {K A T : Type 0} (own own_table : K → Bool) (is_private : OpView K A → Bool)
    (names : OpView K A → List (List ℕ)) (s : ContextView K A T) (c : Table) (b : Ptr BasicBlockKind) where
  -- what the search begins with, and what it goes on to
  abbrev pub first : Ptr OperationKind → Type 0
  first q = IsTold own_table names s c c.op q ⊎ IsKept own is_private s b q

  abbrev pub goes_on : Ptr OperationKind → Ptr OperationKind → Type 0
  goes_on p q = IsToldUnder own_table names s c p q

  -- The search has looked below the first i of those that are reached.
  pub record IsSearching (r : Reached) (i : ℕ) : Type 0 where
    pub whole : IsWhole r
    pub only : (q : Ptr OperationKind) → Has (ops_of r) q → IsReachedFrom first goes_on q
    pub live : (q : Ptr OperationKind) → Has (ops_of r) q → IsLive s (Operation q)
    pub begun : (q : Ptr OperationKind) → first q → Has (ops_of r) q
    pub closed : (p : Ptr OperationKind) → Has (take i (ops_of r)) p → (q : Ptr OperationKind) → goes_on p q →
        Has (ops_of r) q
    pub within : i ≤ length (ops_of r)

  pub searching-start : IsStanding s → (r m t : Reached) → ops_of r ≡ [] → IsWhole r →
      IsGrown (IsTold own_table names s c c.op) r m → IsGrown (IsKept own is_private s b) m t → IsSearching t 0
  searching-start w r m t none whole h k =
      (let all : IsGrown first r t = grown-both r m t (λ q is. is) (λ q is. inl is) (λ q is. inr is) h k in
      let more : ops_of t ≡ all.more = all.behind ∙ ap (λ z. z ++ all.more) none in
      record {
        whole = all.whole whole;
        only = λ q has. (0, all.only q (subst (λ z. Has z q) more has));
        live = λ q has. elim (all.only q (subst (λ z. Has z q) more has)) [
          | inl told ↦ told.0
          | inr kept ↦ w.forest.child_live (BasicBlock b) (Operation q) kept.0
        ];
        begun = all.all whole;
        closed = λ p has. absurd has;
        within = omega arith;
      })

  module _ (r : Reached) (i : ℕ) (h : IsSearching r i) where
    -- no more are reached than are live
    pub searching-fits : IsStanding s → length (ops_of r) ≤ num_live s
    searching-fits w =
        (let d = Distinct-map Operation (λ p q e. same-op p q e) (ops_of r) h.whole.once in
        let k = w.measured.counted (map Operation (ops_of r)) d
        (λ n has. (let f = Has-map Operation (ops_of r) n has in
        subst (IsLive s) f.1.1 (h.live f.0 f.1.0))) in
        let l = length-map (ops_of r) Operation in
        omega (arith, k, l))

    pub searching-next : (t : Reached) (p : Ptr OperationKind) → slice_get (ops_of r) i ≡ Some p → i < length (ops_of r)
        → IsGrown (goes_on p) r t → IsSearching t (suc i)
    searching-next t p at below k =
        (let has_p = Has-at (ops_of r) i p at in
        let seen : take (suc i) (ops_of t) ≡ take i (ops_of r) ++ p ∷ [] =
        ap (take (suc i)) k.behind ∙ take-left (ops_of r) k.more (suc i) (omega (arith, below))
        ∙ take-next (ops_of r) i p at in
        let kept : (q : Ptr OperationKind) → Has (ops_of r) q → Has (ops_of t) q =
        λ q has. subst (λ z. Has z q) (sym k.behind) (Has-append_left (ops_of r) k.more q has) in
        record {
          whole = k.whole h.whole;
          only = λ q has. elim (Has-append_cases (ops_of r) k.more q (subst (λ z. Has z q) k.behind has)) [
            | inl old ↦ h.only q old
            | inr new ↦ (let f = h.only p has_p in (suc f.0, (p, f.1, k.only q new)))
          ];
          live = λ q has. elim (Has-append_cases (ops_of r) k.more q (subst (λ z. Has z q) k.behind has)) [
            | inl old ↦ h.live q old
            | inr new ↦ (k.only q new).2.0
          ];
          begun = λ q is. kept q (h.begun q is);
          closed = λ v has q on.
              elim (Has-append_cases (take i (ops_of r)) (p ∷ []) v (subst (λ z. Has z v) seen has)) [
                | inl old ↦ kept q (h.closed v old q on)
                | inr new ↦ elim new [
                  | inl same ↦ k.all h.whole q (subst (λ z. goes_on z q) (sym same) on)
                  | inr none ↦ absurd none
                ]
              ];
          within = (let l = k.behind in let m = grows (ops_of r) k.more in
              let n = ap length l in omega (arith, below, m, n));
        })
      where
        grows : (xs ys : List (Ptr OperationKind)) → length xs ≤ length (xs ++ ys)
        grows [] ys = omega arith
        grows (x ∷ xs) ys = (let g = grows xs ys in omega (arith, g))

    -- where it has looked below all, exactly what is reached from the first is reached
    pub searching-end : length (ops_of r) ≤ i → (q : Ptr OperationKind) → IsTrue (is_among (ops_of r) q) ↔
        IsReachedFrom first goes_on q
    searching-end past q = (
      λ among. h.only q (among-has (ops_of r) q among),
      λ is. has-among (ops_of r) q
          (all is.0 q is.1),
    )
      where
        all : (k : ℕ) (v : Ptr OperationKind) → IsReachedIn first goes_on k v → Has (ops_of r) v
        all zero v is = h.begun v is
        all (suc k) v is =
            h.closed is.0 (subst (λ z. Has z is.0) (sym (take_all i (ops_of r) past)) (all k is.0 is.1)) v is.2

    pub searching-kept : (p : Ptr OperationKind) → Has (children s (BasicBlock b)) (Operation p) →
        Tells (MayGo own is_private s p) → is_among (ops_of r) p ≡ false → MayGo own is_private s p
    searching-kept p has (inl may) off = may
    searching-kept p has (inr never) off =
        absurd (not-both (is_among (ops_of r) p) (has-among (ops_of r) p (h.begun p (inr (has, never)))) off)

  -- the table agrees
  module _ (w : IsStanding s) (at_body : body s c.op ≡ Some (BasicBlock b)) (a : Agrees own own_table s c) where
    abbrev near : Ptr OperationKind → Type 0
    near u = IsNearest own_table s u (Some c.op)

    near-own : near c.op
    near-own = (0, refl, a.good.table, λ j u less e. absurd (let z : ⊥ = omega (arith, less) in z))

    abbrev uses : Ptr OperationKind → Ptr OperationKind → Type 0
    uses u q = IsUse own is_private own_table names s u q

    scan-in : (t : Ptr OperationKind) (x : List ℕ) (q : Ptr OperationKind) → scan own s t x ≡ Some q → IsInBody s t q
    scan-in t x q e = found-in own (op_at s) x (children_in s (body s t)) q e

    told-use : (u q : Ptr OperationKind) → near u → IsTold own_table names s c u q → uses u q × IsInBody s c.op q
    told-use u q n told =
        (let x = told.1 in
        let found = sym (a.names x.0) ∙ x.2 in
        ((x.0, x.1, (Some c.op, n, a.good, sym found)), scan-in c.op x.0 q found))

    use-told : (u q : Ptr OperationKind) → IsInBody s c.op q → uses u q → near u × IsTold own_table names s c u q
    use-told u q here usage = at usage.2.0 usage.2.1 usage.2.3
      where
        at : (o : Option (Ptr OperationKind)) → IsNearest own_table s u o →
            Some q ≡ option_and_then (λ p. scan own s p usage.0) o → near u × IsTold own_table names s c u q
        at None n e = absurd (none-some q (sym e))
        at (Some t) n e =
            (let same = one-home s w t c.op q (scan-in t usage.0 q (sym e)) here in (
              subst (λ z. IsNearest own_table s u (Some z)) same n,
              (home-live s w c.op q here, (usage.0, usage.1, a.names usage.0 ∙ ap (λ z. scan own s z usage.0) (sym same) ∙ sym e)),
            ))

    first-root : (q : Ptr OperationKind) → first q → IsRoot own is_private own_table names s c.op q
    first-root q (inl told) = (let k = told-use c.op q near-own told in (k.1, inr k.0))
    first-root q (inr kept) =
        (subst (λ z. Has (children_in s z) (Operation q)) (sym at_body) kept.0, inl kept.1)

    root-first : (q : Ptr OperationKind) → IsRoot own is_private own_table names s c.op q → first q
    root-first q root = elim root.1 [
      | inl never ↦ inr (subst (λ z. Has (children_in s z) (Operation q)) at_body root.0, never)
      | inr usage ↦ inl (use-told c.op q root.0 usage).1
    ]

    on-used : (p q : Ptr OperationKind) → IsInBody s c.op p → goes_on p q →
        IsUsedUnder own is_private own_table names s c.op p q
    on-used p q here on =
        (let u = on.0 in
        let n = open-nearest s own_table w c.op p here u a.good.table on.1.0 on.1.1 in
        let k = told-use u q n on.2 in
        (k.1, (u, on.1.0, k.0)))

    used-on : (p q : Ptr OperationKind) → IsInBody s c.op p → IsUsedUnder own is_private own_table names s c.op p q →
        goes_on p q
    used-on p q here used =
        (let u = used.1 in
        let k = use-told u.0 q used.0 u.2 in
        (u.0, (u.1, nearest-open s own_table w c.op p here u.0 k.0), k.1))

    abbrev spec_in : ℕ → Ptr OperationKind → Type 0
    spec_in k q =
        IsReachedIn (IsRoot own is_private own_table names s c.op) (IsUsedUnder own is_private own_table names s c.op) k q

    to-spec : (k : ℕ) (q : Ptr OperationKind) → IsReachedIn first goes_on k q → spec_in k q × IsInBody s c.op q
    to-spec zero q is = (let r = first-root q is in (r, r.0))
    to-spec (suc k) q is =
        (let f = to-spec k is.0 is.1 in let u = on-used is.0 q f.1 is.2 in ((is.0, f.0, u), u.0))

    in-body : (k : ℕ) (q : Ptr OperationKind) → spec_in k q → IsInBody s c.op q
    in-body zero q is = is.0
    in-body (suc k) q is = is.2.0

    from-spec : (k : ℕ) (q : Ptr OperationKind) → spec_in k q → IsReachedIn first goes_on k q
    from-spec zero q is = root-first q is
    from-spec (suc k) q is =
        (is.0, from-spec k is.0 is.1, used-on is.0 q (in-body k is.0 is.1) is.2)

    pub reached-is : (q : Ptr OperationKind) → IsReachedFrom first goes_on q ↔
        IsReached own is_private own_table names s c.op q
    reached-is q = (λ is. (is.0, (to-spec is.0 q is.1).0), λ is. (is.0, from-spec is.0 q is.1))
