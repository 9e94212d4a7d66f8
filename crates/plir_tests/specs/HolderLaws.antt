-- Laws of the types that hold types: what their queries hand out and their texts write out is held. No contract cites
-- this module.
use Rattle.std.proofs.Common.{◌≡◌, ℕ, List, [], ◌∷◌, ◌++◌, Some, refl, sym, ap, subst, ◌∙◌, arith, codes}
use Rattle.std.specs.Prelude.{Contains}
use Rattle.std.proofs.lemmas.List.Elements.{Contains-append_left, Contains-append_right}
use Rattle.std.proofs.lemmas.Option.{none-some, same_Some}
use Rattle.plir_data.specs.OwnParts.{Part, chars, held, held_in}
use Rattle.plir_tests.specs.declared.holder_set.HolderType.{HolderType}
use Rattle.plir_tests.specs.declared.holder_set.HolderType.TheVariants.{Tensor, Routine}
use Rattle.plir_tests.specs.Holders.{body_of, handles_of, signature_of, spaced_types}

-- the type of a filled tensor is held
pub dense_held : (type h : ℕ) → Some type ≡ Some h → Contains (type ∷ []) h
dense_held type h e = (0, omega arith, same_Some type h e)

pub arguments_held : (t : HolderType) (p : List ℕ × List ℕ) (h : ℕ) → signature_of t ≡ Some p → Contains p.0 h →
    Contains (handles_of t) h
arguments_held (Tensor t) p h e m = absurd (none-some p e)
arguments_held (Routine r) p h e m =
    Contains-append_left r.0 r.1 h (subst (λ q. Contains q.0 h) (sym (same_Some _ _ e)) m)

pub results_held : (t : HolderType) (p : List ℕ × List ℕ) (h : ℕ) → signature_of t ≡ Some p → Contains p.1 h →
    Contains (handles_of t) h
results_held (Tensor t) p h e m = absurd (none-some p e)
results_held (Routine r) p h e m =
    Contains-append_right r.0 r.1 h (subst (λ q. Contains q.1 h) (sym (same_Some _ _ e)) m)

-- the handles in parts, one list of them behind another
held_append : (ps qs : List Part) → held_in (ps ++ qs) ≡ held_in ps ++ held_in qs
held_append [] qs = refl
held_append (chars s ∷ ps) qs = held_append ps qs
held_append (held h ∷ ps) qs = ap (λ hs. h ∷ hs) (held_append ps qs)

spaced_held : (hs : List ℕ) → held_in (spaced_types hs) ≡ hs
spaced_held [] = refl
spaced_held (h ∷ hs) = ap (λ l. h ∷ l) (spaced_held hs)

pub body_held : (t : HolderType) (h : ℕ) → Contains (held_in (body_of t)) h → Contains (handles_of t) h
body_held (Tensor t) h m = m
body_held (Routine r) h m =
    subst (λ hs. Contains hs h) (held_append (spaced_types r.0) (chars (codes " to") ∷ spaced_types r.1) ∙
    ap (λ hs. hs ++ held_in (spaced_types r.1)) (spaced_held r.0) ∙ ap (λ hs. r.0 ++ hs) (spaced_held r.1)) m
