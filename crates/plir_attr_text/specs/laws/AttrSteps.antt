-- What the parts of an attribute, as they are read, make of the whole.
use Rattle.std.proofs.Common.{◌≡◌, ℕ, zero, suc, ◌-◌, ◌<◌, List, Result, Ok, Err, refl, sym, ap, subst, ◌∙◌, arith}
use Rattle.plir_data.specs.{AttrView.AttrView, Types.TypeView}
use Rattle.plir_attr_text.specs.declared.fault.Stop.TheVariants.{OutOfMemory, Crowded, At}
use Rattle.plir_attr_text.specs.AttrReading.{attr_kind, attr_head, attr_body, attr_at}
use Rattle.plir_attr_text.specs.laws.StepLaws.{done, bind_ok, ok_is, Fails-bind, Fails-from}
use Rattle.plir_attr_text.specs.{declared.fault.Fault.Fault, declared.fault.Stop.Stop}
use Rattle.plir_attr_text.specs.{declared.attr_words.AttrKind.AttrKind, Steps.◌>>=◌, Steps.read_as, Terms.AttrTerm}
use Rattle.plir_attr_text.specs.{Meaning.IsMeant, TypeReading.word_at, Levels.level_at, laws.TypeSteps.level-word}
use Rattle.plir_attr_text.specs.{laws.TypeSteps.level-deep, Reading.Fails, Reading.Gives, Reading.Reads}

pub attr_at-body : (n : ℕ) (bytes rest : List ℕ) (k : AttrKind) → 0 < n → attr_head bytes ≡ Ok (k, rest) →
    attr_at n bytes ≡ attr_body (n - 1) (attr_at (n - 1)) k rest
unfolding attr_at
attr_at-body zero bytes rest k lt e = absurd (omega arith)
attr_at-body (suc n) bytes rest k lt e = let m : suc n - 1 ≡ n = omega arith in rw (e, m) refl

-- what a step failed by, the steps on it fail by
err_is : {W V : Type 0} (f : Fault) (read : Result W Fault) (view : W → V) → (read >>= λ w. done (view w)) ≡ Err f →
    read ≡ Err f
err_is f (Ok w) view e = absurd cc
err_is f (Err g) view e = let h : g ≡ f = cc in ap (λ d. Err d) h

-- a value that is given, as the one that it is meant by
pub Gives-meant : {W X V Z : Type 0} (see : X → V) (means : X → Z → Type 0) (view : W → V) (term : W → Z) →
    ((x : X) (w : W) → see x ≡ view w → means x (term w)) →
    (r : Result X Stop) (read : Result W Fault) (total : Result Z Fault) → total ≡ (read >>= λ w. Ok (term w)) →
    Gives see r (read >>= λ w. Ok (view w)) → Reads means r total
Gives-meant see means view term h (Ok x) read total e p =
    let a = bind_ok read (λ w. Ok (view w)) (see x) p in
    (term a.0, e ∙ ap (λ q. q >>= λ w. done (term w)) a.1, h x a.0 (sym (ok_is (view a.0) (see x) a.2)))
Gives-meant see means view term h (Err OutOfMemory) read total e p = tt
Gives-meant see means view term h (Err Crowded) read total e p = p
Gives-meant see means view term h (Err (At f left)) read total e p =
    (e ∙ ap (λ q. q >>= λ w. done (term w)) (err_is f read view p.0), p.1)

-- where no level begins, the fault of that is one of the attribute
pub attr_at-level-fails : (e : Stop) (n : ℕ) (bytes : List ℕ) → Fails e (level_at n bytes) → Fails e (attr_at n bytes)
unfolding attr_at attr_head
attr_at-level-fails e zero bytes h = level-deep _ e bytes h
attr_at-level-fails e (suc n) bytes h = Fails-bind e (attr_head bytes) (λ k. attr_body n (attr_at n) k.0 k.1)
    (Fails-bind e (word_at bytes) (λ w. attr_kind w.0 >>= λ k. Ok (k, w.1)) (level-word e (suc n) bytes (omega arith)
    h))

-- a fault of the id is one of the attribute
pub attr_at-head-fails : (e : Stop) (n : ℕ) (bytes : List ℕ) → 0 < n → Fails e (attr_head bytes) →
    Fails e (attr_at n bytes)
unfolding attr_at
attr_at-head-fails e zero bytes lt h = absurd (omega (arith, lt))
attr_at-head-fails e (suc n) bytes lt h = Fails-bind e (attr_head bytes) (λ k. attr_body n (attr_at n) k.0 k.1) h

-- the same reading under another name
pub Reads-from : {X Y : Type 0} (means : X → Y → Type 0) (r : Result X Stop) (read total : Result Y Fault) →
    total ≡ read → Reads means r read → Reads means r total
Reads-from means (Ok x) read total e p = (p.0, e ∙ p.1, p.2)
Reads-from means (Err stop) read total e p = Fails-from stop _ _ (sym e) p

-- an attribute that holds no other, and what stands behind it, seen as its term is meant in any table
pub leaf_read : {W A T : Type 0} {R : Type 0} (table : List (TypeView T)) (see : R → AttrView A) (rest : R →
    List ℕ) (view : W → AttrView A) (term : W → AttrTerm) → ((w : W) → IsMeant table (term w) (view w)) →
    (r : Result R Stop) (read : Result (W × List ℕ) Fault) (total : Result (AttrTerm × List ℕ) Fault) →
    total ≡ read_as term read → Gives (λ x. (see x, rest x)) r (read_as view read) →
    Reads (λ x y. IsMeant table y.0 (see x) × (rest x ≡ y.1)) r total
leaf_read table see rest view term meant r read total e p =
    Gives-meant (λ x. (see x, rest x)) (λ x y. IsMeant table y.0 (see x) × (rest x ≡ y.1)) (λ w. (view w.0, w.1))
    (λ w. (term w.0, w.1))
    (λ x w same. (
      subst (λ v. IsMeant table (term w.0) v) (sym (ap (λ (q : AttrView _ × List ℕ). q.0) same))
          (meant w.0),
      ap (λ (q : AttrView _ × List ℕ). q.1) same,
    )) r read total e p
