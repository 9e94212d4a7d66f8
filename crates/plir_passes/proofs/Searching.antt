-- The search for what is reached, and that it finds it.
use Rattle.std.proofs.Common.{◌≡◌, ◌↔◌, ◌<◌, ◌≤◌, ◌+◌, ℕ, zero, suc, arith, IsTrue, [], ◌∷◌, ◌++◌, length, map}
use Rattle.std.proofs.Common.{take, Some, inl, inr, sym, ap, subst, ◌∙◌}
use Rattle.std.specs.Prelude.{slice_get}
use Rattle.std.proofs.lemmas.List.{length-append, length-map, take_all, take-append-le}
use Rattle.plir_store.specs.Members.{Has}
use Rattle.plir_store.specs.MemberLaws.{Distinct-map, Has-append_cases, Has-append_left, Has-at, Has-map}
use Rattle.plir_core.specs.declared.ptr.Ptr.{Ptr}
use Rattle.plir_core.specs.declared.ptr.Operation.{Operation as OperationKind}
use Rattle.plir_core.specs.declared.ptr.IRNode.TheVariants.{Operation}
use Rattle.plir_core.specs.ContextView.{ContextView, IsLive, num_live}
use Rattle.plir_core.specs.Standing.{IsStanding}
use Rattle.plir_walk.specs.NodeLaws.{same-op}
use Rattle.plir_passes.specs.declared.marks.Marks.{Marks}
use Rattle.plir_passes.specs.Marked.{IsGrown, IsWhole, is_among, ops_of}
use Rattle.plir_passes.specs.Reached.{IsReachedFrom, IsReachedIn}
use Rattle.plir_passes.proofs.Marking.{among-has, grown-first, has-among, take-one}

-- no more are marked than are live, if each is
pub marked-fits : {K A T : Type 0} (s : ContextView K A T) → IsStanding s → (m : Marks) → IsWhole m →
    ((q : Ptr OperationKind) → Has (ops_of m) q → IsLive s (Operation q)) → length (ops_of m) ≤ num_live s
marked-fits s w m whole live =
    (let d = Distinct-map Operation (λ p q e. same-op p q e) (ops_of m) whole.once in
    let k = w.measured.counted (map Operation (ops_of m)) d
    (λ n has. (let f = Has-map Operation (ops_of m) n has in subst (IsLive s) f.1.1 (live f.0 f.1.0))) in
    let l = length-map (ops_of m) Operation in
    omega (arith, k, l))

module _ (first : Ptr OperationKind → Type 0) (needs : Ptr OperationKind → Ptr OperationKind → Type 0) where
  -- The search has looked at the first i of those that are marked.
  pub record IsSearching (m : Marks) (i : ℕ) : Type 0 where
    pub whole : IsWhole m
    pub only : (q : Ptr OperationKind) → Has (ops_of m) q → IsReachedFrom first needs q
    pub begun : (q : Ptr OperationKind) → first q → Has (ops_of m) q
    pub closed : (p : Ptr OperationKind) → Has (take i (ops_of m)) p → (q : Ptr OperationKind) → needs p q →
        Has (ops_of m) q
    pub within : i ≤ length (ops_of m)

  pub searching-start : (r t : Marks) → ops_of r ≡ [] → IsWhole r → IsGrown first r t → IsSearching t 0
  searching-start r t none whole h =
      (let f = grown-first r t none whole h in
      record {
        whole = h.whole whole;
        only = λ q has. (0, (f q).0 has);
        begun = λ q is. (f q).1 is;
        closed = λ p has. absurd has;
        within = omega arith;
      })

  module _ (m : Marks) (i : ℕ) (h : IsSearching m i) where
    pub searching-next : (t : Marks) (p : Ptr OperationKind) → slice_get (ops_of m) i ≡ Some p → i < length (ops_of m)
        → IsGrown (needs p) m t → IsSearching t (i + 1)
    searching-next t p at below k =
        (let has_p = Has-at (ops_of m) i p at in
        let le : i + 1 ≤ length (ops_of m) = omega (arith, below) in
        let seen : take (i + 1) (ops_of t) ≡ take i (ops_of m) ++ p ∷ [] =
        ap (take (i + 1)) k.behind ∙ take-append-le (i + 1) (ops_of m) k.more le ∙ take-one (ops_of m) i p at in
        let kept : (q : Ptr OperationKind) → Has (ops_of m) q → Has (ops_of t) q =
        λ q has. subst (λ z. Has z q) (sym k.behind) (Has-append_left (ops_of m) k.more q has) in
        record {
          whole = k.whole h.whole;
          only = λ q has. elim (Has-append_cases (ops_of m) k.more q (subst (λ z. Has z q) k.behind has)) [
            | inl old ↦ h.only q old
            | inr new ↦ (let f = h.only p has_p in (suc f.0, (p, f.1, k.only q new)))
          ];
          begun = λ q is. kept q (h.begun q is);
          closed = λ v has q on.
              elim (Has-append_cases (take i (ops_of m)) (p ∷ []) v (subst (λ z. Has z v) seen has)) [
                | inl old ↦ kept q (h.closed v old q on)
                | inr new ↦ elim new [
                  | inl same ↦ k.all h.whole q (subst (λ z. needs z q) (sym same) on)
                  | inr none ↦ absurd none
                ]
              ];
          within = (let l = ap length k.behind in let n = length-append (ops_of m) k.more in
              omega (arith, below, l, n));
        })

    -- where it has looked at all, exactly what is reached is marked
    pub searching-end : length (ops_of m) ≤ i → (q : Ptr OperationKind) → IsTrue (is_among (ops_of m) q) ↔
        IsReachedFrom first needs q
    searching-end past q = (
      λ among. h.only q (among-has (ops_of m) q among),
      λ is. has-among (ops_of m) q (all is.0 q is.1),
    )
      where
        all : (k : ℕ) (v : Ptr OperationKind) → IsReachedIn first needs k v → Has (ops_of m) v
        all zero v is = h.begun v is
        all (suc k) v is =
            h.closed is.0 (subst (λ z. Has z is.0) (sym (take_all i (ops_of m) past)) (all k is.0 is.1)) v is.2
