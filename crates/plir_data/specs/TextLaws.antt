-- Laws of pieces that are put one behind another, for the proofs of the crates above. No contract cites this module.
use Rattle.std.proofs.Common.{◌≡◌, ℕ, Bool, false, List, [], ◌∷◌, ◌++◌, sym, ap, ◌∙◌, append_assoc, append-nil}
use Rattle.plir_data.specs.TextParts.{before, parted_from}

-- a piece was put, and then the rest
pub on : (old x rest mid new : List ℕ) → mid ≡ old ++ x → new ≡ mid ++ rest → new ≡ old ++ (x ++ rest)
on old x rest mid new p q = q ∙ ap (λ z. z ++ rest) p ∙ append_assoc old x rest

-- three pieces were put
pub three : {o1 o2 o3 : List ℕ} (old a b c : List ℕ) → o1 ≡ old ++ a → o2 ≡ o1 ++ b → o3 ≡ o2 ++ c → o3 ≡ old ++
    (a ++ (b ++ c))
three {o1} {o2} {o3} old a b c p q r = on old a (b ++ c) o1 o3 p (on o1 b c o2 o3 q r)

-- five pieces were put
pub five : {o1 o2 o3 o4 o5 : List ℕ} (old a b c d e : List ℕ) → o1 ≡ old ++ a → o2 ≡ o1 ++ b → o3 ≡ o2 ++ c → o4 ≡ o3 ++
    d → o5 ≡ o4 ++ e → o5 ≡ old ++ (a ++ (b ++ (c ++ (d ++ e))))
five {o1} {o2} {o3} {o4} {o5} old a b c d e p q r s t =
    on old a (b ++ (c ++ (d ++ e))) o1 o5 p (on o1 b (c ++ (d ++ e)) o2 o5 q (three o2 c d e r s t))

-- a piece was put, and what is left is still to be put
pub onward : (old x rest left total new : List ℕ) → new ≡ old ++ x → left ≡ x ++ rest → old ++ left ≡ total
    → new ++ rest ≡ total
onward old x rest left total new e f g =
    ap (λ z. z ++ rest) e ∙ append_assoc old x rest ∙ ap (λ z. old ++ z) (sym f) ∙ g

-- nothing is left
pub done : (old left total : List ℕ) → left ≡ [] → old ++ left ≡ total → old ≡ total
done old left total e g = sym (append-nil old) ∙ ap (λ z. old ++ z) (sym e) ∙ g

module _ {X : Type 0} (between : List ℕ) (write : X → List ℕ) where
  -- the next thing of several was put
  pub turn : (is_first : Bool) (old mid new total : List ℕ) (x : X) (left rest : List X)
      → mid ≡ old ++ before is_first between → new ≡ mid ++ write x → left ≡ x ∷ rest
      → old ++ parted_from is_first between write left ≡ total → new ++ parted_from false between write rest ≡ total
  turn is_first old mid new total x left rest p q e g =
      onward old (before is_first between ++ write x) (parted_from false between write rest)
      (parted_from is_first between write left) total new (on old (before is_first between) (write x) mid new p q)
      (ap (parted_from is_first between write) e
      ∙ sym (append_assoc (before is_first between) (write x) (parted_from false between write rest))) g

  -- all are put
  pub ended : (is_first : Bool) (old total : List ℕ) (left : List X) → left ≡ []
      → old ++ parted_from is_first between write left ≡ total → old ≡ total
  ended is_first old total left e g =
      done old (parted_from is_first between write left) total (ap (parted_from is_first between write) e) g
