-- Lists of values that grow by one.
use Rattle.std.proofs.Common.{◌≡◌, ℕ, zero, suc, ◌+◌, ◌<◌, ◌≤◌, List, [], ◌∷◌, ◌++◌, length, Some, sym, ap, ◌∙◌, arith}
use Rattle.std.specs.Prelude.{All, slice_get, slice_index_or, slice_range}
use Rattle.std.proofs.lemmas.Option.{slice_get_within, get_or_from_slice_get}
use Rattle.std.proofs.lemmas.List.Edits.{between_more}

pub all-push : {X : Type 0} (P : X → Type 0) (xs : List X) (x : X) → All P xs → P x → (k : ℕ) (d : X)
    → k < length (xs ++ x ∷ []) → P (slice_index_or (xs ++ x ∷ []) k d)
all-push P [] x a p zero d h = p
all-push P [] x a p (suc k) d h = absurd (omega arith)
all-push P (y ∷ ys) x a p zero d h = a 0 d (omega arith)
all-push P (y ∷ ys) x a p (suc k) d h = all-push P ys x (λ j e g. a (suc j) e (omega arith)) p k d (omega arith)

-- one more value of a range
pub range-more : {X : Type 0} (xs ys : List X) (start place : ℕ) (x : X) → start ≤ place → slice_get xs place ≡ Some x
    → ys ≡ slice_range xs start place
    → ys ++ x ∷ [] ≡ slice_range xs start (place + 1)
range-more xs ys start place x from at e =
    ap (λ l. l ++ x ∷ []) e
    ∙ ap (λ y. slice_range xs start place ++ y ∷ []) (sym (get_or_from_slice_get xs place x x at))
    ∙ sym (between_more xs start place x from (slice_get_within xs place x at))
