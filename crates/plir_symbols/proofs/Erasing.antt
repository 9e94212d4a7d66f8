-- Symbols that are erased one after another, and tables that are kept meanwhile.
use Rattle.std.proofs.Common.{◌≡◌, ℕ, Bool, true, false, cond, List, [], ◌∷◌, ◌++◌, refl, sym, ap, subst, ◌∙◌}
use Rattle.std.specs.FinMap as map
use Rattle.plir_core.specs.declared.ptr.Ptr.{Ptr}
use Rattle.plir_core.specs.declared.ptr.Operation.{Operation as OperationKind}
use Rattle.plir_core.specs.declared.ptr.IRNode.{IRNode}
use Rattle.plir_core.specs.declared.ptr.IRNode.TheVariants.{Operation, Region, BasicBlock}
use Rattle.plir_core.specs.Contents.{OpView}
use Rattle.plir_core.specs.ContextView.{ContextView}
use Rattle.plir_core.specs.Unused.{without_tree}
use Rattle.plir_walk.specs.Thinned.{IsThinned}
use Rattle.plir_builtin.specs.Table.{Table}
use Rattle.plir_builtin.specs.Agree.{AllAgree, AreGivenOut}
use Rattle.plir_symbols.specs.DeadSymbols.{MayGo}
use Rattle.plir_symbols.specs.SweptSymbols.{AreErased, AreSwept, AreSweeps, IsSweep, ops_that, without_each}
use Rattle.plir_symbols.specs.Sweeping.{IsTableKept}

-- ---- those for which a test holds

pub that-append : (test : Ptr OperationKind → Bool) (ns ms : List IRNode) →
    ops_that test (ns ++ ms) ≡ ops_that test ns ++ ops_that test ms
that-append test [] ms = refl
that-append test (Operation p ∷ ns) ms = at (test p) (that-append test ns ms)
  where
    at : (b : Bool) → ops_that test (ns ++ ms) ≡ ops_that test ns ++ ops_that test ms →
        cond b (p ∷ ops_that test (ns ++ ms)) (ops_that test (ns ++ ms)) ≡
        cond b (p ∷ ops_that test ns) (ops_that test ns) ++ ops_that test ms
    at true e = ap (λ z. p ∷ z) e
    at false e = e
that-append test (Region p ∷ ns) ms = that-append test ns ms
that-append test (BasicBlock p ∷ ns) ms = that-append test ns ms

module _ {K A T : Type 0} where
  -- one more is erased behind the others, or none is
  each-append : (s : ContextView K A T) (ps qs : List (Ptr OperationKind)) →
      without_each s (ps ++ qs) ≡ without_each (without_each s ps) qs
  each-append s [] qs = refl
  each-append s (p ∷ ps) qs = each-append (without_tree s (Operation p)) ps qs

  module _ (s m t : ContextView K A T) (test : Ptr OperationKind → Bool) (ns : List IRNode) (p : Ptr OperationKind)
      (before : m ≡ without_each s (ops_that test ns)) where
    next : (qs : List (Ptr OperationKind)) → ops_that test (Operation p ∷ []) ≡ qs → t ≡ without_each m qs →
        t ≡ without_each s (ops_that test (ns ++ Operation p ∷ []))
    next qs is e =
        e ∙ ap (λ z. without_each z qs) before ∙ sym (each-append s (ops_that test ns) qs)
        ∙ ap (λ z. without_each s (ops_that test ns ++ z)) (sym is)
        ∙ ap (without_each s) (sym (that-append test ns (Operation p ∷ [])))

    pub next-erased : test p ≡ true → t ≡ without_tree m (Operation p) →
        t ≡ without_each s (ops_that test (ns ++ Operation p ∷ []))
    next-erased is e = next (p ∷ []) (ap (λ b. cond b (p ∷ []) []) is) e

    pub next-kept : test p ≡ false → t ≡ m → t ≡ without_each s (ops_that test (ns ++ Operation p ∷ []))
    next-kept is e = next [] (ap (λ b. cond b (p ∷ []) []) is) e

module _ {K A T : Type 0} (own : K → Bool) (private : OpView K A → Bool) where
  erased-one : (s m t : ContextView K A T) (ps : List (Ptr OperationKind)) (p : Ptr OperationKind)
      → AreErased own private s ps m → MayGo own private m p → t ≡ without_tree m (Operation p)
      → AreErased own private s (ps ++ p ∷ []) t
  erased-one s m t [] p h d e =
      (subst (λ z. MayGo own private z p) h d, e ∙ ap (λ z. without_tree z (Operation p)) h)
  erased-one s m t (q ∷ qs) p h d e = (h.0, erased-one (without_tree s (Operation q)) m t qs p h.1 d e)

  erased-both : (s m t : ContextView K A T) (ps qs : List (Ptr OperationKind))
      → AreErased own private s ps m → AreErased own private m qs t → AreErased own private s (ps ++ qs) t
  erased-both s m t [] qs h k = subst (λ z. AreErased own private z qs t) h k
  erased-both s m t (p ∷ ps) qs h k = (h.0, erased-both (without_tree s (Operation p)) m t ps qs h.1 k)

  pub swept-none : (s : ContextView K A T) → IsThinned s s → AreSwept own private s s
  swept-none s i = record { gone = []; erased = refl; thinned = i }

  pub swept-one : (s m t : ContextView K A T) (p : Ptr OperationKind) (h : AreSwept own private s m)
      → MayGo own private m p → t ≡ without_tree m (Operation p) → IsThinned s t → AreSwept own private s t
  swept-one s m t p h d e i =
      record { gone = h.gone ++ p ∷ []; erased = erased-one s m t h.gone p h.erased d e; thinned = i }

  pub swept-both : (s m t : ContextView K A T) (h : AreSwept own private s m) (k : AreSwept own private m t)
      → IsThinned s t → AreSwept own private s t
  swept-both s m t h k i =
      record { gone = h.gone ++ k.gone; erased = erased-both s m t h.gone k.gone h.erased k.erased; thinned = i }

  pub sweeps-more : (own_table : K → Bool) (names : OpView K A → List (List ℕ)) (table : Ptr OperationKind)
      (s m t : ContextView K A T) (ms : List (ContextView K A T)) → AreSweeps own private own_table names table s ms m
      → IsSweep own private own_table names table m t
      → AreSweeps own private own_table names table s (ms ++ t ∷ []) t
  sweeps-more own_table names table s m t [] h k =
      (subst (λ z. IsSweep own private own_table names table z t) h k, refl)
  sweeps-more own_table names table s m t (n ∷ ns) h k = (h.0, sweeps-more own_table names table n m t ns h.1 k)

module _ {K A T : Type 0} (own own_table : K → Bool) where
  pub kept-none : (s : ContextView K A T) (c : Table) → IsTableKept own own_table s c s c
  kept-none s c = record { op = refl; agrees = λ a. a; all_agree = λ cs a. a; given = λ cs a. a }

  pub kept-both : (s m t : ContextView K A T) (c d e : Table) → IsTableKept own own_table s c m d
      → IsTableKept own own_table m d t e → IsTableKept own own_table s c t e
  kept-both s m t c d e h k = record {
    op = k.op ∙ h.op;
    agrees = λ a. k.agrees (h.agrees a);
    all_agree =
        λ cs a. subst (λ q. AllAgree own own_table t (map.insert cs q e)) h.op
        (k.all_agree cs (subst (λ q. AllAgree own own_table m (map.insert cs q d)) (sym h.op) (h.all_agree cs a)));
    given =
        λ cs a. subst (λ q. AreGivenOut t (map.insert cs q e)) h.op
        (k.given cs (subst (λ q. AreGivenOut m (map.insert cs q d)) (sym h.op) (h.given cs a)));
  }
