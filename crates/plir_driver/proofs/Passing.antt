-- Passes that are still to come, behind those that have been.
use Rattle.std.proofs.Common.{◌≡◌, ℕ, suc, ◌+◌, ◌<◌, ◌≤◌, List, [], ◌∷◌, ◌++◌, length, drop, take, get_or}
use Rattle.std.proofs.Common.{arith, sym, subst, refl, ap, ◌∙◌}
use Rattle.std.proofs.lemmas.List.{take-append-drop, take_all}
use Rattle.std.proofs.Math.Seq.{take-suc, drop-cons}
use Rattle.plir_core.specs.declared.ptr.Ptr.{Ptr}
use Rattle.plir_core.specs.declared.ptr.Operation.{Operation as OperationKind}
use Rattle.plir_core.specs.ContextView.{ContextView}
use Rattle.plir_driver.specs.Passed.{ArePassed}
use Rattle.plir_driver.specs.PassRules.{RunRule}

module _ {P K A T : Type 0} (has_passed : RunRule P K A T) (root : Ptr OperationKind)
    (stands : ContextView K A T → Type 0) where
  abbrev Passed : List P → ContextView K A T → ContextView K A T → Type 0
  Passed = ArePassed has_passed root stands

  -- one more pass, behind others
  pub passed-on : (front : List P) (d : P) (s t u : ContextView K A T) → Passed front s t → has_passed d root t u →
      stands u → Passed (front ++ d ∷ []) s u
  passed-on [] d s t u run last good = (u, subst (λ z. has_passed d root z u) run last, good, refl)
  passed-on (x ∷ xs) d s t u run last good = (run.0, run.1, run.2, passed-on xs d run.0 t u run.3 last good)

  -- those up to a place of a list, and the one there
  pub passed-to : (all : List P) (i : ℕ) (d : P) (s t u : ContextView K A T) → i < length all →
      Passed (take i all) s t → has_passed (get_or all i d) root t u → stands u → Passed (take (i + 1) all) s u
  passed-to all i d s t u below run last good =
      let next : i + 1 ≡ suc i = omega arith in
      subst (λ z. Passed z s u) (sym (ap (λ k. take k all) next ∙ take-suc all i d below))
      (passed-on (take i all) (get_or all i d) s t u run last good)

  pub passed-all : (all : List P) (i : ℕ) (s t : ContextView K A T) → length all ≤ i → Passed (take i all) s t →
      Passed all s t
  passed-all all i s t past run = subst (λ z. Passed z s t) (take_all i all past) run

-- a list is what stands before a place, what stands there, and the rest
pub parted : {X : Type 0} (xs : List X) (i : ℕ) (d : X) → i < length xs →
    xs ≡ take i xs ++ get_or xs i d ∷ drop (i + 1) xs
parted xs i d below =
    let next : i + 1 ≡ suc i = omega arith in
    sym (take-append-drop i xs)
    ∙ ap (λ z. take i xs ++ z) (drop-cons xs i d below ∙ ap (λ k. get_or xs i d ∷ drop k xs) (sym next))
