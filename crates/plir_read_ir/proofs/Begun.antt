-- Names of results that are read one after the other, and what stands behind them.
use Rattle.std.proofs.Common.{◌≡◌, ℕ, ◌++◌, List, [], ◌∷◌, Option, Ok, refl, sym, ap, ◌∙◌}
use Rattle.std.proofs.lemmas.List.{map-append}
use Rattle.plir_attr_text.specs.AttrReading.{name_at}
use Rattle.plir_attr_text.specs.Lists.{separator_at}
use Rattle.plir_attr_text.specs.laws.Fronts.{GoesOn}
use Rattle.plir_read.specs.Heads.{result_names}
use Rattle.plir_read.specs.Suffixes.{given_name}
use Rattle.plir_read.specs.declared.names.Suffix.TheVariants as Suffix
use Rattle.plir_read_own.specs.OwnReading.{names_at, names_before}
use Rattle.plir_read_ir.specs.IrReading.{ir_kind_at, ir_opening_at}
use Rattle.plir_read_ir.specs.Spelling.{word_of, words}
use Rattle.plir_read_ir.specs.declared.openings.IrKind.{IrKind}
use Rattle.plir_read_ir.specs.declared.spelled.Spelled.{Spelled}
use Rattle.plir_read_ir.proofs.Words.{words_push}

-- the names read so far are held, and their given names beside them
pub record NamesSoFar (bytes : List ℕ) (spelled : List Spelled) (given : List (Option (List ℕ))) (rest : List ℕ) :
    Type 0 where
  pub given_are : given ≡ result_names (words spelled)
  pub going : GoesOn (separator_at 61) name_at (words spelled) rest (names_at bytes)

pub given_push : (spelled : List Spelled) (s : Spelled) (given more : List (Option (List ℕ))) (g : Option (List ℕ)) →
    more ≡ given ++ g ∷ [] → given ≡ result_names (words spelled) → g ≡ given_name Suffix.OpResult (word_of s) →
    more ≡ result_names (words (spelled ++ s ∷ []))
given_push spelled s given more g e f h =
    e ∙ ap (λ (l : List (Option (List ℕ))). l ++ g ∷ []) f ∙
    ap (λ (x : Option (List ℕ)). result_names (words spelled) ++ x ∷ []) h ∙
    sym (map-append (given_name Suffix.OpResult) (words spelled) (word_of s ∷ [])) ∙
    sym (ap result_names (words_push spelled s))

pub opening_is : {K : Type 0} (find : List ℕ → Option K) (bytes rest end : List ℕ) (ws : List (List ℕ))
    (k : IrKind K) → names_before bytes ≡ Ok (ws, rest) → ir_kind_at find rest ≡ Ok (k, end) →
    ir_opening_at find bytes ≡ Ok ((ws, k), end)
unfolding ir_opening_at
opening_is find bytes rest end ws k p q = rw (p, q) refl
