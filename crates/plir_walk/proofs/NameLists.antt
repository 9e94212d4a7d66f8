-- Lists of names: where padding and the two ways of placing a name meet, and when no name is set.
use Rattle.std.proofs.Common.{◌≡◌, ℕ, zero, suc, ◌+◌, ◌-◌, ◌<◌, ◌≤◌, Bool, true, false, ◌&&◌, List, [], ◌∷◌, ◌++◌}
use Rattle.std.proofs.Common.{length, take, drop, replicate, slice_set, Option, Some, None, is_none, ◌⊎◌, inl, inr}
use Rattle.std.proofs.Common.{refl, sym, ap, ◌∙◌, arith}
use Rattle.std.specs.Prelude.{insert, remove}
use Rattle.std.specs.List.{list_all}
use Rattle.std.proofs.lemmas.List.{append-nil, append_assoc, length-append, length-replicate, take_all, drop_all}
use Rattle.std.proofs.lemmas.List.{replicate_more}
use Rattle.std.proofs.lemmas.List.Folds.{list_all-append}
use Rattle.std.proofs.Math.Seq.{set-append_seam}
use Rattle.plir_walk.specs.declared.name_list.Placing.{Placing}
use Rattle.plir_walk.specs.declared.name_list.Placing.TheVariants.{Replacing, Shifting}
use Rattle.plir_walk.specs.GivenNames.{Names, all_unset, padded}
use Rattle.plir_walk.specs.Placing.{placed_name}

-- one more unset name at the end
pub pad-more : (ns qs rs : Names) → qs ≡ ns ++ replicate (length qs - length ns) None → length ns ≤ length qs → rs ≡ qs
    ++ None ∷ [] → (rs ≡ ns ++ replicate (length rs - length ns) None) × (length rs ≡ length qs + 1)
pad-more ns qs rs e le r =
    let n : length rs ≡ length qs + 1 = ap length r ∙ length-append qs (None ∷ []) in
    let k : length rs - length ns ≡ (length qs - length ns) + 1 = omega arith in
    let more = ap (λ z. ns ++ z) (replicate_more (length qs - length ns) None) in (
      r ∙ ap (λ z. z ++ None ∷ []) e ∙ append_assoc ns (replicate (length qs - length ns) None) (None ∷ []) ∙ more ∙ ap
          (λ z. ns ++ replicate z None) (sym k),
      n,
    )

length-padded : (ns : Names) (n : ℕ) → length (padded ns n) ≡ length ns + (n - length ns)
length-padded ns n = length-append ns (replicate (n - length ns) None) ∙ ap
    (λ z. length ns + z) (length-replicate (n - length ns) None)

padded-within : (ns : Names) (n : ℕ) → n ≤ length ns → padded ns n ≡ ns
padded-within ns n le = let z : n - length ns ≡ 0 = omega arith in ap (λ k. ns ++ replicate k None) z ∙ append-nil ns

padded-next : (ns : Names) (n : ℕ) → length ns ≤ n → padded ns (n + 1) ≡ padded ns n ++ None ∷ []
padded-next ns n le =
    let k : (n + 1) - length ns ≡ (n - length ns) + 1 = omega arith in
    ap (λ z. ns ++ replicate z None) k ∙ ap (λ z. ns ++ z) (sym (replicate_more (n - length ns) None)) ∙ sym
    (append_assoc ns (replicate (n - length ns) None) (None ∷ []))

-- the name takes the place of one that is there
pub placed-there : (p : Placing) (ns qs : Names) (i : ℕ) (x : Option (List ℕ)) → p ≡ Replacing → qs ≡ padded ns i → i <
    length qs → slice_set qs i x ≡ placed_name p ns i x
placed-there p ns qs i x is e within =
    let n : length qs ≡ length ns + (i - length ns) = ap length e ∙ length-padded ns i in
    let here : i < length ns = omega arith in
    ap (λ z. slice_set z i x) (e ∙ padded-within ns i (omega arith) ∙ sym (padded-within ns (i + 1) (omega arith))) ∙ ap
    (λ z. placed_name z ns i x) (sym is)

-- the name comes in
pub placed-in : (p : Placing) (ns qs : Names) (i : ℕ) (x : Option (List ℕ)) → qs ≡ padded ns i → (p ≡ Shifting) ⊎
    (length qs ≤ i) → insert qs i x ≡ placed_name p ns i x
placed-in Shifting ns qs i x e h = ap (λ z. insert z i x) e
placed-in Replacing ns qs i x e (inl is) = absurd (let z : ⊥ = cc (is) in z)
placed-in Replacing ns qs i x e (inr past) =
    let n : length qs ≡ length ns + (i - length ns) = ap length e ∙ length-padded ns i in
    let whole : length qs ≡ i = omega arith in
    let at_end = ap (λ z. z ++ x ∷ drop i qs) (take_all i qs past) ∙ ap (λ z. qs ++ x ∷ z) (drop_all i qs past) in
    at_end ∙ sym (set-append_seam qs None [] x) ∙ ap (λ z. slice_set (qs ++ None ∷ []) z x) whole ∙ ap
    (λ z. slice_set (z ++ None ∷ []) i x) e ∙ ap (λ z. slice_set z i x) (sym (padded-next ns i (omega arith)))

-- ---- no name is set

abbrev unset : Names → Bool
unset ns = list_all is_none ns

and-false : (b : Bool) → (b && false) ≡ false
and-false true = refl
and-false false = refl

both-true : (a b : Bool) → a ≡ true → b ≡ true → (a && b) ≡ true
both-true true b p q = q
both-true false b p q = p

unset-replicate : (n : ℕ) → unset (replicate n None) ≡ true
unset-replicate zero = refl
unset-replicate (suc n) = unset-replicate n

unset-padded : (n : ℕ) → unset (padded [] n) ≡ true
unset-padded n = unset-replicate (n - 0)

unset-set : (ns : Names) (i : ℕ) → unset ns ≡ true → unset (slice_set ns i None) ≡ true
unset-set [] i e = e
unset-set (None ∷ ns) zero e = e
unset-set (Some v ∷ ns) zero e = absurd (let z : ⊥ = cc (e) in z)
unset-set (None ∷ ns) (suc i) e = unset-set ns i e
unset-set (Some v ∷ ns) (suc i) e = absurd (let z : ⊥ = cc (e) in z)

unset-take : (ns : Names) (i : ℕ) → unset ns ≡ true → unset (take i ns) ≡ true
unset-take [] zero e = refl
unset-take [] (suc i) e = refl
unset-take (n ∷ ns) zero e = refl
unset-take (None ∷ ns) (suc i) e = unset-take ns i e
unset-take (Some v ∷ ns) (suc i) e = absurd (let z : ⊥ = cc (e) in z)

unset-drop : (ns : Names) (i : ℕ) → unset ns ≡ true → unset (drop i ns) ≡ true
unset-drop [] zero e = refl
unset-drop [] (suc i) e = refl
unset-drop (n ∷ ns) zero e = e
unset-drop (None ∷ ns) (suc i) e = unset-drop ns i e
unset-drop (Some v ∷ ns) (suc i) e = absurd (let z : ⊥ = cc (e) in z)

-- an unset name placed where there is none leaves none set
pub unset-first : (p : Placing) (i : ℕ) → all_unset (placed_name p [] i None) ≡ true
unset-first Replacing i = unset-set (padded [] (i + 1)) i (unset-padded (i + 1))
unset-first Shifting i =
    let e : unset (padded [] i) ≡ true = unset-padded i in
    list_all-append is_none (take i (padded [] i)) (None ∷ drop i (padded [] i)) ∙ both-true _ _
    (unset-take (padded [] i) i e) (unset-drop (padded [] i) i e)

set-given : (ns : Names) (i : ℕ) (v : List ℕ) → i < length ns → unset (slice_set ns i (Some v)) ≡ false
set-given [] i v h = absurd (omega arith)
set-given (n ∷ ns) zero v h = refl
set-given (n ∷ ns) (suc i) v h = ap (λ b. is_none n && b) (set-given ns i v (omega arith)) ∙ and-false (is_none n)

-- a name that is placed is set
pub given-set : (p : Placing) (ns : Names) (i : ℕ) (v : List ℕ) → all_unset (placed_name p ns i (Some v)) ≡ false
given-set Replacing ns i v = let n = length-padded ns (i + 1) in set-given (padded ns (i + 1)) i v (omega arith)
given-set Shifting ns i v = list_all-append is_none (take i (padded ns i)) (Some v ∷ drop i (padded ns i)) ∙ and-false
    (unset (take i (padded ns i)))

-- past the end nothing is taken out
pub remove-past : (ns : Names) (i : ℕ) → length ns ≤ i → remove ns i ≡ ns
remove-past ns i past = ap (λ z. z ++ drop (suc i) ns) (take_all i ns past) ∙ ap (λ z. ns ++ z)
    (drop_all (suc i) ns (omega arith)) ∙ append-nil ns
