-- Operations at which arrows end, as they are collected.
use Rattle.std.proofs.Common.{◌≡◌, ℕ, suc, ◌+◌, ◌<◌, ◌≤◌, Bool, true, false, cond, List, [], ◌∷◌, ◌++◌, length, take}
use Rattle.std.proofs.Common.{get_or, arith, refl, sym, ap, ◌∙◌, ◌||◌, ◌&&◌, Some}
use Rattle.std.specs.Prelude.{nat_eq}
use Rattle.std.specs.List.{list_any}
use Rattle.std.proofs.lemmas.List.{take_all}
use Rattle.std.proofs.Math.Seq.{take-suc}
use Rattle.plir_core.specs.declared.ptr.Ptr.{Ptr}
use Rattle.plir_core.specs.declared.ptr.Operation.{Operation as OperationKind}
use Rattle.plir_core.specs.SameValue.{same_ptr}
use Rattle.plir_symbols.specs.declared.call_edges.CallEdge.{CallEdge}
use Rattle.plir_symbols.specs.CallGraph.{is_found}
use Rattle.plir_symbols.specs.Reaching.{ptr_eq}
use Rattle.plir_pictures.specs.DrawnCalls.{is_end}

and-true : (b : Bool) → (b && true) ≡ b
and-true true = refl
and-true false = refl

or-true : (b : Bool) → (b || true) ≡ true
or-true true = refl
or-true false = refl

or-false : (b : Bool) → (b || false) ≡ b
or-false true = refl
or-false false = refl

-- one more is put
pub one-more : (p q : Ptr OperationKind) (b : Bool) → cond (ptr_eq p q) true b ≡ (b || is_found q (Some p))
one-more p q b =
    ap (λ z. cond (nat_eq p.slot q.slot && z) true b) (and-true (nat_eq p.version q.version)) ∙ by (same_ptr p q) b
  where
    by : (a b : Bool) → cond a true b ≡ (b || a)
    by true b = sym (or-true b)
    by false b = sym (or-false b)

-- none is
pub no-more : (b : Bool) → b ≡ (b || false)
no-more b = sym (or-false b)

any-behind : {X : Type 0} (test : X → Bool) (xs : List X) (x : X) →
    list_any test (xs ++ x ∷ []) ≡ (list_any test xs || test x)
any-behind test [] x = or-false (test x)
any-behind test (y ∷ ys) x = by (test y) (list_any test (ys ++ x ∷ [])) (list_any test ys) (any-behind test ys x)
  where
    by : (a b c : Bool) → b ≡ (c || test x) → (a || b) ≡ ((a || c) || test x)
    by true b c e = refl
    by false b c e = e

-- the arrows up to the next place
pub ends-next : (es : List CallEdge) (i : ℕ) (e : CallEdge) (p : Ptr OperationKind) (was is : Bool) → i < length es →
    was ≡ is_end (take i es) p → is ≡ (was || is_found p (get_or es i e).symbol) → is ≡ is_end (take (i + 1) es) p
ends-next es i e p was is below before now =
    let next : i + 1 ≡ suc i = omega arith in
    now
    ∙ ap (λ b. b || is_found p (get_or es i e).symbol) before
    ∙ sym (ap (λ k. is_end (take k es) p) next ∙ ap (λ xs. is_end xs p) (take-suc es i e below)
    ∙ any-behind (λ x. is_found p x.symbol) (take i es) (get_or es i e))

pub ends-all : (es : List CallEdge) (i : ℕ) (p : Ptr OperationKind) (is : Bool) → length es ≤ i →
    is ≡ is_end (take i es) p → is ≡ is_end es p
ends-all es i p is past h = h ∙ ap (λ xs. is_end xs p) (take_all i es past)
