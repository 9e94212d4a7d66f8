-- Words and what they are read as, as far as a loop has come.
use Rattle.std.proofs.Common.{◌≡◌, ℕ, suc, ◌+◌, ◌<◌, List, [], ◌∷◌, ◌++◌, length, drop, take, get_or, map, Bor}
use Rattle.std.proofs.Common.{arith, sym, subst, ap, ◌∙◌}
use Rattle.std.proofs.lemmas.List.{map-append, take-append-drop}
use Rattle.std.proofs.Math.Seq.{take-suc, drop-cons}
use Rattle.std.specs.List.{AllZip}

-- a list is what stands before a place, what stands there, and the rest
pub parted : {X : Type 0} (xs : List X) (i : ℕ) (d : X) → i < length xs →
    xs ≡ take i xs ++ get_or xs i d ∷ drop (i + 1) xs
parted xs i d below =
    let next : i + 1 ≡ suc i = omega arith in
    sym (take-append-drop i xs)
    ∙ ap (λ z. take i xs ++ z) (drop-cons xs i d below ∙ ap (λ k. get_or xs i d ∷ drop k xs) (sym next))

-- one more of each, behind the others
pub zip-push : {A B : Type 0} (R : A → B → Type 0) (xs : List A) (ys : List B) (x : A) (y : B) → AllZip R xs ys → R x y →
    AllZip R (xs ++ x ∷ []) (ys ++ y ∷ [])
zip-push R [] [] x y h r = (r, tt)
zip-push R [] (b ∷ ys) x y h r = absurd h
zip-push R (a ∷ xs) [] x y h r = absurd h
zip-push R (a ∷ xs) (b ∷ ys) x y h r = (h.0, zip-push R xs ys x y h.1 r)

-- one further in both
pub zip-on : {A B : Type 0} (R : A → B → Type 0) (xs : List A) (i : ℕ) (d : A) (ys more : List B) (y : B) →
    more ≡ ys ++ y ∷ [] → i < length xs → AllZip R (take i xs) ys → R (get_or xs i d) y → AllZip R (take (i + 1) xs) more
zip-on R xs i d ys more y put below so_far here =
    let next : i + 1 ≡ suc i = omega arith in
    subst (λ z. AllZip R (take (i + 1) xs) z) (sym put)
    (subst (λ z. AllZip R z (ys ++ y ∷ [])) (sym (ap (λ k. take k xs) next ∙ take-suc xs i d below))
    (zip-push R (take i xs) ys (get_or xs i d) y so_far here))

module _ (ws : List (Bor (List ℕ))) (i : ℕ) (d : Bor (List ℕ)) where
  -- the words in front of a place, the one there, and the rest
  pub words-parted : i < length ws →
      map (λ w. w.now) ws ≡ map (λ w. w.now) (take i ws) ++ (get_or ws i d).now ∷ map (λ w. w.now) (drop (i + 1) ws)
  words-parted below =
      ap (map (λ w. w.now)) (parted ws i d below)
      ∙ map-append (λ w. w.now) (take i ws) (get_or ws i d ∷ drop (i + 1) ws)

  -- a word further
  pub zip-next : {B : Type 0} (R : List ℕ → B → Type 0) (ys more : List B) (y : B) → more ≡ ys ++ y ∷ [] →
      i < length ws → AllZip R (map (λ w. w.now) (take i ws)) ys → R (get_or ws i d).now y →
      AllZip R (map (λ w. w.now) (take (i + 1) ws)) more
  zip-next R ys more y put below so_far here =
      let next : i + 1 ≡ suc i = omega arith in
      let e = ap (map (λ w. w.now)) (ap (λ k. take k ws) next ∙ take-suc ws i d below)
      ∙ map-append (λ w. w.now) (take i ws) (get_or ws i d ∷ []) in
      subst (λ z. AllZip R (map (λ w. w.now) (take (i + 1) ws)) z) (sym put)
      (subst (λ z. AllZip R z (ys ++ y ∷ [])) (sym e)
      (zip-push R (map (λ w. w.now) (take i ws)) ys (get_or ws i d).now y so_far here))
