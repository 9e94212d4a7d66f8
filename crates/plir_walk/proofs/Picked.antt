-- What is picked of the elements of a list.
use Rattle.std.proofs.Common.{◌≡◌, suc, List, [], ◌∷◌, length, Option, Some, None, inl, inr, refl, sym, ap, subst, ◌∙◌}
use Rattle.plir_store.specs.Members.{Has, Distinct}

abbrev add : {X : Type 0} → Option X → List X → List X
add None xs = xs
add (Some x) xs = x ∷ xs

-- what f gives for the elements, in order, of those for which it gives anything
unfoldable pub picked : {N X : Type 0} → (N → Option X) → List N → List X
picked f [] = []
picked f (n ∷ ns) = add (f n) (picked f ns)

module _ {N X : Type 0} (f : N → Option X) where
  pub Has-picked : (ns : List N) (n : N) (x : X) → Has ns n → f n ≡ Some x → Has (picked f ns) x
  unfolding picked
  Has-picked [] n x h e = absurd h
  Has-picked (m ∷ ns) n x (inl q) e = subst (λ o. Has (add o (picked f ns)) x) (sym (ap f q ∙ e)) (inl refl)
  Has-picked (m ∷ ns) n x (inr h) e = later (f m) (Has-picked ns n x h e)
    where
      later : (o : Option X) → Has (picked f ns) x → Has (add o (picked f ns)) x
      later None i = i
      later (Some y) i = inr i

  pub picked-Has : (ns : List N) (x : X) → Has (picked f ns) x → (n : N) × Has ns n × (f n ≡ Some x)
  unfolding picked
  picked-Has [] x h = absurd h
  picked-Has (m ∷ ns) x h = go (f m) refl h (picked-Has ns x)
    where
      later : (n : N) × Has ns n × (f n ≡ Some x) → (n : N) × Has (m ∷ ns) n × (f n ≡ Some x)
      later z = (z.0, inr z.1, z.2)

      go : (o : Option X) → f m ≡ o → Has (add o (picked f ns)) x → (Has (picked f ns) x → (n : N) × Has ns n ×
          (f n ≡ Some x)) → (n : N) × Has (m ∷ ns) n × (f n ≡ Some x)
      go None e i rest = later (rest i)
      go (Some y) e (inl q) rest = (m, inl refl, e ∙ ap (λ z. Some z) q)
      go (Some y) e (inr i) rest = later (rest i)

  -- where no two elements give the same
  pub Distinct-picked : (ns : List N) → ((a b : N) (x : X) → Has ns a → Has ns b → f a ≡ Some x → f b ≡ Some x → a ≡ b)
      → Distinct ns → Distinct (picked f ns)
  unfolding picked
  Distinct-picked [] apart d = tt
  Distinct-picked (m ∷ ns) apart d = go (f m) refl (Distinct-picked ns (λ a b x h i. apart a b x (inr h) (inr i)) d.1)
    where
      go : (o : Option X) → f m ≡ o → Distinct (picked f ns) → Distinct (add o (picked f ns))
      go None e rest = rest
      go (Some y) e rest = (
        λ h. (let z = picked-Has ns y h in d.0 (subst (Has ns)
            (sym (apart m z.0 y (inl refl) (inr z.1) e z.2)) z.1)),
        rest,
      )

pub length-picked : {N X : Type 0} (f : N → X) (ns : List N) → length (picked (λ n. Some (f n)) ns) ≡ length ns
unfolding picked
length-picked f [] = refl
length-picked f (n ∷ ns) = ap suc (length-picked f ns)
