-- Edges that are added, one after another, and what is read of them.
use Rattle.std.proofs.Common.{◌≡◌, ◌<◌, ◌≤◌, ℕ, zero, suc, Bool, List, [], ◌∷◌, ◌++◌, length, map, take, get_or, Option}
use Rattle.std.proofs.Common.{Some, None, IfSome, arith, inl, inr, refl, sym, ap, subst, ◌∙◌}
use Rattle.std.specs.Prelude.{slice_get}
use Rattle.std.specs.FinMap.{get}
use Rattle.std.proofs.lemmas.Grind.{flat_map-append}
use Rattle.std.proofs.lemmas.List.{append_assoc, append-nil, map-append, take_all}
use Rattle.std.proofs.lemmas.Option.{none-some, same_Some}
use Rattle.std.proofs.Math.Seq.{take-suc}
use Rattle.plir_core.specs.declared.ptr.Ptr.{Ptr}
use Rattle.plir_core.specs.declared.ptr.Operation.{Operation as OperationKind}
use Rattle.plir_core.specs.Contents.{OpView}
use Rattle.plir_core.specs.declared.ptr.IRNode.TheVariants.{Operation}
use Rattle.plir_core.specs.ContextView.{ContextView, IsLive, op_at}
use Rattle.plir_core.specs.Forest.{look, IsForest}
use Rattle.plir_store.specs.Members.{Has}
use Rattle.plir_walk.specs.TreeLaws.{under-live}
use Rattle.plir_builtin.specs.declared.symbol_table_err.SymbolTableErr.{SymbolTableErr}
use Rattle.plir_builtin.specs.Nearest.{IsNearest, IsNearestRefusal}
use Rattle.plir_builtin.specs.Refusals.{Refusal, IsTableRefusal, reported}
use Rattle.plir_builtin.specs.Table.{Tables}
use Rattle.plir_symbols.specs.declared.call_edges.CallEdge.{CallEdge}
use Rattle.plir_symbols.specs.SymbolNames.{names_in}
use Rattle.plir_symbols.specs.CallGraph.{AreEdges, AreUsers, IsEdge, IsUser, IsGraphRefusal, IsUserRefusal, uses_by}
use Rattle.plir_symbols.specs.CallGraph.{uses_of}
use Rattle.plir_symbols.specs.Calling.{AreEdgesPut}

-- a list up to behind the place of an element
pub take-next : {X : Type 0} (xs : List X) (i : ℕ) (x : X) → slice_get xs i ≡ Some x →
    take (suc i) xs ≡ take i xs ++ x ∷ []
take-next [] i x e = absurd (none-some x e)
take-next (y ∷ ys) zero x e = ap (λ z. z ∷ []) (same_Some y x e)
take-next (y ∷ ys) (suc i) x e = ap (λ z. y ∷ z) (take-next ys i x e)

pub has-get : {X : Type 0} (xs : List X) (i : ℕ) (d : X) → i < length xs → Has xs (get_or xs i d)
has-get [] i d l = absurd (omega (arith, l))
has-get (x ∷ xs) zero d l = inl refl
has-get (x ∷ xs) (suc i) d l = inr (has-get xs i d (omega (arith, l)))

-- the users are live
module _ {K A T : Type 0} (names : OpView K A → List (List ℕ)) (s : ContextView K A T) (root : Ptr OperationKind)
    (ps : List (Ptr OperationKind)) (users : AreUsers names s root ps) (i : ℕ) (d : Ptr OperationKind)
    (below : i < length ps) where
  pub is-user : IsUser names s root (get_or ps i d)
  is-user = users.only_users (get_or ps i d) (has-get ps i d below)

  pub user-live : IsForest (look s) → IsLive s (Operation root) → IsLive s (Operation (get_or ps i d))
  user-live forest live = under-live (look s) forest (Operation root) (Operation (get_or ps i d)) live is-user.below

module _ {K A T : Type 0} (own own_table : K → Bool) (s : ContextView K A T) where
  -- one edge more, for one use more
  pub edges-more : (us : List (Ptr OperationKind × List ℕ)) (es : List CallEdge) (u : Ptr OperationKind × List ℕ)
      (e : CallEdge) → AreEdges own own_table s us es → IsEdge own own_table s u e
      → AreEdges own own_table s (us ++ u ∷ []) (es ++ e ∷ [])
  edges-more [] [] u e h k = (k, tt)
  edges-more [] (d ∷ es) u e h k = absurd h
  edges-more (v ∷ us) [] u e h k = absurd h
  edges-more (v ∷ us) (d ∷ es) u e h k = (h.0, edges-more us es u e h.1 k)

  module _ (names : OpView K A → List (List ℕ)) where
    -- those of the first uses of an operation were added
    abbrev pub ArePutUpTo : ℕ → Ptr OperationKind → List CallEdge → List CallEdge → Type 0
    ArePutUpTo i p es es' = (us : List (Ptr OperationKind × List ℕ)) → AreEdges own own_table s us es →
        AreEdges own own_table s (us ++ map (λ x. (p, x)) (take i (names_in names (op_at s p)))) es'

    pub put-none : (p : Ptr OperationKind) (es : List CallEdge) → ArePutUpTo 0 p es es
    put-none p es us h = subst (λ z. AreEdges own own_table s z es) (sym (append-nil us)) h

    pub put-next : (i : ℕ) (p : Ptr OperationKind) (x : List ℕ) (es es' : List CallEdge) (e : CallEdge) →
        slice_get (names_in names (op_at s p)) i ≡ Some x → ArePutUpTo i p es es' → IsEdge own own_table s (p, x) e
        → ArePutUpTo (suc i) p es (es' ++ e ∷ [])
    put-next i p x es es' e at h k us a =
        let xs = names_in names (op_at s p) in
        let pair : List ℕ → Ptr OperationKind × List ℕ = λ y. (p, y) in
        let more = edges-more (us ++ map pair (take i xs)) es' (p, x) e (h us a) k in
        subst (λ z. AreEdges own own_table s z (es' ++ e ∷ [])) (
        append_assoc us (map pair (take i xs)) ((p, x) ∷ [])
        ∙ ap (λ z. us ++ z) (sym (map-append pair (take i xs) (x ∷ [])) ∙ ap (map pair) (sym (take-next xs i x at)))
        ) more

    pub put-all : (i : ℕ) (p : Ptr OperationKind) (es es' : List CallEdge) → length (names_in names (op_at s p)) ≤ i →
        ArePutUpTo i p es es' → AreEdgesPut own own_table names s p es es'
    put-all i p es es' past h us a =
        subst (λ z. AreEdges own own_table s (us ++ map (λ x. (p, x)) z) es')
        (take_all i (names_in names (op_at s p)) past) (h us a)

    -- those of one user more
    pub users-next : (ps : List (Ptr OperationKind)) (i : ℕ) (p : Ptr OperationKind) (es es' : List CallEdge) →
        i < length ps → AreEdges own own_table s (uses_of names s (take i ps)) es
        → AreEdgesPut own own_table names s (get_or ps i p) es es'
        → AreEdges own own_table s (uses_of names s (take (suc i) ps)) es'
    users-next ps i p es es' below a h =
        let q = get_or ps i p in
        subst (λ z. AreEdges own own_table s z es') (
        ap (λ z. uses_of names s (take i ps) ++ z) (sym (append-nil (uses_by names s q)))
        ∙ sym (flat_map-append (uses_by names s) (take i ps) (q ∷ []))
        ∙ ap (uses_of names s) (sym (take-suc ps i p below))
        ) (h (uses_of names s (take i ps)) a)

  -- a refusal of the nearest table, of which none is cached, and was none before
  pub nearest-refused : (c : Tables) (p : Ptr OperationKind) (err : SymbolTableErr) →
      IsNearestRefusal own own_table s c p err → IsUserRefusal own own_table s c p err
  nearest-refused c p err h = at (reported err) h.3
    where
      at : (o : Option Refusal) → IfSome o (IsTableRefusal own own_table s h.0) →
          IfSome o (λ r. (t : Ptr OperationKind) × IsNearest own_table s p (Some t) × (get c t ≡ None) ×
          IsTableRefusal own own_table s t r)
      at None k = tt
      at (Some r) k = (h.0, h.1, h.2, k)

  pub refused-before : (c d : Tables) (p : Ptr OperationKind) (err : SymbolTableErr) →
      ((t : Ptr OperationKind) → get d t ≡ None → get c t ≡ None) → IsUserRefusal own own_table s d p err →
      IsUserRefusal own own_table s c p err
  refused-before c d p err f h = at (reported err) h
    where
      at : (o : Option Refusal) → IfSome o (λ r. (t : Ptr OperationKind) × IsNearest own_table s p (Some t) ×
          (get d t ≡ None) × IsTableRefusal own own_table s t r)
          → IfSome o (λ r. (t : Ptr OperationKind) × IsNearest own_table s p (Some t) × (get c t ≡ None) ×
          IsTableRefusal own own_table s t r)
      at None k = tt
      at (Some r) k = (k.0, k.1, f k.0 k.2, k.3)

  pub graph-refused : (names : OpView K A → List (List ℕ)) (root : Ptr OperationKind) (c : Tables)
      (p : Ptr OperationKind) (err : SymbolTableErr) → IsUser names s root p → IsUserRefusal own own_table s c p err →
      IsGraphRefusal own own_table names s root c err
  graph-refused names root c p err user h = at (reported err) h
    where
      at : (o : Option Refusal) → IfSome o (λ r. (t : Ptr OperationKind) × IsNearest own_table s p (Some t) ×
          (get c t ≡ None) × IsTableRefusal own own_table s t r)
          → IfSome o (λ r. (q : Ptr OperationKind) × IsUser names s root q × ((t : Ptr OperationKind) ×
          IsNearest own_table s q (Some t) × (get c t ≡ None) × IsTableRefusal own own_table s t r))
      at None k = tt
      at (Some r) k = (p, user, k)
