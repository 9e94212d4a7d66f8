-- Types that are new are named by those that are written in a text.
use Rattle.std.proofs.Common.{◌≡◌, ℕ, List, length, inl, inr, sym, subst, arith}
use Rattle.std.proofs.lemmas.Bool.{cases_lt}
use Rattle.plir_data.specs.Types.{TypeView}
use Rattle.plir_attr_text.specs.declared.attr_words.AttrKind.TheVariants as kinds
use Rattle.plir_attr_text.specs.laws.Ends.{IsEnd, end_on}
use Rattle.plir_attr_text.specs.laws.Growth.{Names-grown}
use Rattle.plir_attr_text.specs.laws.WrittenFound.{written_on, type_written, attr_written, entries_written}
use Rattle.plir_attr_text.specs.Names.{Grows, AreNamed}
use Rattle.plir_attr_text.specs.Terms.{TypeTerm}
use Rattle.plir_attr_text.specs.TypesIn.{IsInType, IsInAttr, IsBehindId}
use Rattle.plir_attr_text.specs.TypesWritten.{IsWrittenIn}

-- ---- tables

module _ {T : Type 0} where
  pub named_itself : (bytes : List ℕ) (xs : List (TypeView T)) → AreNamed (IsWrittenIn bytes) xs xs
  named_itself bytes xs h ge lt = absurd (omega (arith, ge, lt))

  -- where nothing more changes
  pub named_still : (bytes : List ℕ) (xs ys zs : List (TypeView T)) → zs ≡ ys → AreNamed (IsWrittenIn bytes) xs ys →
      AreNamed (IsWrittenIn bytes) xs zs
  named_still bytes xs ys zs e p = subst (λ (l : List (TypeView T)). AreNamed (IsWrittenIn bytes) xs l) (sym e) p

  pub named_on : (bytes : List ℕ) (xs ys zs : List (TypeView T)) → Grows ys zs → AreNamed (IsWrittenIn bytes) xs ys →
      AreNamed (IsWrittenIn bytes) ys zs → AreNamed (IsWrittenIn bytes) xs zs
  named_on bytes xs ys zs g p q h ge lt =
      elim (cases_lt h (length ys))
      [ inl less ↦ let n = p h ge less in (n.0, n.1, Names-grown ys zs h n.0 g n.2) | inr more ↦ q h more lt ]

  named_as : (part whole : TypeTerm → Type 0) → ((t : TypeTerm) → part t → whole t) → (xs ys : List (TypeView T)) →
      AreNamed part xs ys → AreNamed whole xs ys
  named_as part whole as_whole xs ys p h ge lt = let n = p h ge lt in (n.0, as_whole n.0 n.1, n.2)

  -- by what is written at an end of the text
  pub behind_named : (bytes rest : List ℕ) (xs ys : List (TypeView T)) → IsEnd bytes rest →
      AreNamed (IsWrittenIn rest) xs ys → AreNamed (IsWrittenIn bytes) xs ys
  behind_named bytes rest xs ys e p = named_as (IsWrittenIn rest) (IsWrittenIn bytes) (written_on bytes rest e) xs ys p

  pub type_named : (n : ℕ) (bytes rest : List ℕ) (xs ys : List (TypeView T)) → IsEnd bytes rest →
      AreNamed (IsInType n rest) xs ys → AreNamed (IsWrittenIn bytes) xs ys
  type_named n bytes rest xs ys e p =
      named_as (IsInType n rest) (IsWrittenIn bytes) (λ t w. written_on bytes rest e t (type_written n rest t w)) xs ys
      p

  pub attr_named : (n : ℕ) (bytes rest : List ℕ) (xs ys : List (TypeView T)) → IsEnd bytes rest →
      AreNamed (IsInAttr n rest) xs ys → AreNamed (IsWrittenIn bytes) xs ys
  attr_named n bytes rest xs ys e p =
      named_as (IsInAttr n rest) (IsWrittenIn bytes) (λ t w. written_on bytes rest e t (attr_written n rest t w)) xs ys
      p

  pub entries_named : (n : ℕ) (bytes : List ℕ) (xs ys : List (TypeView T)) →
      AreNamed (IsBehindId n kinds.Dict bytes) xs ys → AreNamed (IsWrittenIn bytes) xs ys
  entries_named n bytes xs ys p =
      named_as (IsBehindId n kinds.Dict bytes) (IsWrittenIn bytes) (entries_written n bytes) xs ys p

  -- what is made inside, from m to u, by what stands at an end of the text
  pub inside_named : (bytes rest : List ℕ) (first s m u : List (TypeView T)) → IsEnd bytes rest →
      AreNamed (IsWrittenIn bytes) first s → m ≡ s → Grows m u → AreNamed (IsWrittenIn rest) m u →
      AreNamed (IsWrittenIn bytes) first u
  inside_named bytes rest first s m u e p same g q =
      named_on bytes first m u g (named_still bytes first s m same p) (behind_named bytes rest m u e q)

  -- the types that have come so far are named by those that are written in the text, of which an end is left
  pub record AreNamedSoFar (bytes : List ℕ) (first now : List (TypeView T)) (rest : List ℕ) : Type 0 where
    pub named : AreNamed (IsWrittenIn bytes) first now
    pub behind : IsEnd bytes rest

  pub so_far_on : (bytes : List ℕ) (first s t : List (TypeView T)) (rest : List ℕ) → AreNamedSoFar bytes first s rest →
      Grows s t → AreNamed (IsWrittenIn rest) s t → AreNamed (IsWrittenIn bytes) first t
  so_far_on bytes first s t rest f g q = named_on bytes first s t g f.named (behind_named bytes rest s t f.behind q)

  pub so_far_next : (bytes : List ℕ) (first s t u : List (TypeView T)) (rest behind : List ℕ) →
      AreNamedSoFar bytes first s rest → Grows s t → AreNamed (IsWrittenIn rest) s t → u ≡ t → IsEnd rest behind →
      AreNamedSoFar bytes first u behind
  so_far_next bytes first s t u rest behind f g q same e = record {
    named = named_still bytes first t u same (so_far_on bytes first s t rest f g q);
    behind = end_on bytes rest behind f.behind e;
  }
