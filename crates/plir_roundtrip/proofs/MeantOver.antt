-- What a name means in one of two trees it means in the other, where at the same places they bear the same names.
use Rattle.std.proofs.Common.{◌≡◌, Bool, true, false, List, [], ◌∷◌, Option, Some, None, refl, sym, ap, subst}
use Rattle.std.specs.Prelude.{if◌then◌else◌}
use Rattle.plir_names.specs.Meanings.{bearers, meaning, meaning_by}
use Rattle.plir_names.specs.declared.names.Meaning.TheVariants.{Only}
use Rattle.plir_core.specs.ContextView.{ContextView, children}
use Rattle.plir_core.specs.declared.ptr.Ptr.{Ptr}
use Rattle.plir_core.specs.declared.ptr.IRNode.{IRNode}
use Rattle.plir_walk.specs.Tree.{HasOnePlaceEach}
use Rattle.plir_read_ir.specs.Mentions.{WordIn, same_word}
use Rattle.plir_roundtrip.specs.SameIrTree.{Pairwise}
use Rattle.plir_roundtrip.proofs.Related.{BearAlike, SameScope, only_one, word_kept}

-- two answers to one question
same_answer : (a b : Bool) → (a ≡ true → b ≡ true) → (b ≡ true → a ≡ true) → a ≡ b
same_answer true true f g = refl
same_answer true false f g = sym (f refl)
same_answer false true f g = g refl
same_answer false false f g = refl

module _ {K A T : Type 0} (s t : ContextView K A T) (x y : IRNode) {X V : Type 0} (node : Ptr X → IRNode)
    (R : V → V → Type 0) (once : HasOnePlaceEach (children s) x) (again : HasOnePlaceEach (children t) y)
    (apart : (p q : Ptr X) → node p ≡ node q → p ≡ q) where
  turned : (a b : Option (Ptr X)) → SameScope s t x y node a b → SameScope t s y x node b a
  turned None None h = tt
  turned None (Some q) h = absurd h
  turned (Some p) None h = absurd h
  turned (Some p) (Some q) h = (h.0, h.2, h.1)

  -- one of two bears a word in s exactly where the other does in t
  both_bear : (a b c d : WordIn X) → SameScope s t x y node a.0 b.0 → a.1 ≡ b.1 → SameScope s t x y node c.0 d.0
      → c.1 ≡ d.1 → same_word a c ≡ same_word b d
  both_bear a b c d h e k f =
      same_answer (same_word a c) (same_word b d) (word_kept s t x y node R once apart a b c d h e k f)
      (word_kept t s y x node R again apart b a d c (turned a.0 b.0 h) (sym e) (turned c.0 d.0 k) (sym f))

  bearers_alike : (ms ns : List (WordIn X × V)) → Pairwise (BearAlike s t x y node R) ms ns → (w u : WordIn X)
      → SameScope s t x y node w.0 u.0 → w.1 ≡ u.1
      → Pairwise R (bearers same_word ms w) (bearers same_word ns u)
  bearers_alike [] [] h w u sc e = tt
  bearers_alike [] (n ∷ ns) h w u sc e = absurd h
  bearers_alike (m ∷ ms) [] h w u sc e = absurd h
  bearers_alike (m ∷ ms) (n ∷ ns) h w u sc e =
      subst (λ b. Pairwise R (if same_word m.0 w then m.1 ∷ bearers same_word ms w else bearers same_word ms w)
      (if b then n.1 ∷ bearers same_word ns u else bearers same_word ns u))
      (both_bear m.0 n.0 w u h.0.scope h.0.word sc e)
      (at (same_word m.0 w) (bearers same_word ms w) (bearers same_word ns u) (bearers_alike ms ns h.1 w u sc e))
    where
      at : (b : Bool) (vs zs : List V) → Pairwise R vs zs
          → Pairwise R (if b then m.1 ∷ vs else vs) (if b then n.1 ∷ zs else zs)
      at true vs zs k = (h.0.bearer, k)
      at false vs zs k = k

  one_alike : (v : V) (zs : List V) → Pairwise R (v ∷ []) zs → (z : V) × (zs ≡ z ∷ []) × R v z
  one_alike v [] h = absurd h
  one_alike v (z ∷ []) h = (z, refl, h.0)
  one_alike v (z ∷ y ∷ zs) h = absurd h.1

  -- what a name means in s, something at the same place is meant by in t
  pub meant_over : (ms ns : List (WordIn X × V)) → Pairwise (BearAlike s t x y node R) ms ns → (w u : WordIn X)
      → SameScope s t x y node w.0 u.0 → w.1 ≡ u.1 → (v : V) → meaning same_word ms w ≡ Only v
      → (z : V) × (meaning same_word ns u ≡ Only z) × R v z
  meant_over ms ns h w u sc e v mine =
      let one = only_one s t x y node R once apart (bearers same_word ms w) v mine in
      let other =
      one_alike v (bearers same_word ns u) (subst (λ l. Pairwise R l (bearers same_word ns u)) one
      (bearers_alike ms ns h w u sc e)) in
      (other.0, ap meaning_by other.1, other.2)
