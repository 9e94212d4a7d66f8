-- Behind the parts of a header an end of the text is left.
use Rattle.std.proofs.Common.{◌≡◌, ℕ, List, Ok, Option}
use Rattle.plir_attr_text.specs.Lists.{sign_at, items_at}
use Rattle.plir_attr_text.specs.Terms.{TypeTerm, EntryTerms}
use Rattle.plir_attr_text.specs.TypeGrammar.{enclosed, TypeWithin}
use Rattle.plir_attr_text.specs.TypeReading.{arrow_at, type_at}
use Rattle.plir_attr_text.specs.laws.Ends.{IsEnd, arrow_end, begins_end, end_on, found_end, sign_end}
use Rattle.plir_attr_text.specs.laws.ListsFound.{items_found}
use Rattle.plir_attr_text.specs.laws.TypesFound.{type_found}
use Rattle.plir_read_own.specs.OwnTerms.{Uses}
use Rattle.plir_read_own.specs.OwnGrammar.{SpellsUses}
use Rattle.plir_read_own.specs.OwnReading.{entries_at, opening_at, uses_at}
use Rattle.plir_read_own.specs.laws.Dictionaries.{EntriesWithin, entries_found}
use Rattle.plir_read_own.specs.laws.Found.{uses_found}
use Rattle.plir_read_own.specs.laws.Starts.{SpellsOpening, opening_found}

types_end : (n : ℕ) (bytes : List ℕ) (ts : List TypeTerm) (rest : List ℕ) →
    items_at 40 41 (type_at n) bytes ≡ Ok (ts, rest) → IsEnd bytes rest
types_end n bytes ts rest e =
    let f = items_found (TypeWithin n) 41 (type_at n) (type_found n) 40 bytes (ts, rest) e in
    begins_end (enclosed 40 f.tokens 41) bytes rest f.begins

-- behind the arrow of a signature
pub results_end : (n : ℕ) (bytes start first behind : List ℕ) (ts : List TypeTerm) → sign_at 60 bytes ≡ Ok start →
    items_at 40 41 (type_at n) start ≡ Ok (ts, first) → arrow_at first ≡ Ok behind → IsEnd bytes behind
results_end n bytes start first behind ts p q r =
    end_on bytes start behind (sign_end 60 bytes start p)
    (end_on start first behind (types_end n start ts first q) (arrow_end first behind r))

-- behind the colon before a signature
pub signature_end : (n : ℕ) (bytes rest colon : List ℕ) (es : EntryTerms) → entries_at n bytes ≡ Ok (es, rest) →
    sign_at 58 rest ≡ Ok colon → IsEnd bytes colon
signature_end n bytes rest colon es p q =
    end_on bytes rest colon (found_end (EntriesWithin n) (entries_at n) (entries_found n) bytes es rest p)
    (sign_end 58 rest colon q)

-- behind what is used
pub uses_end : {K : Type 0} (find : List ℕ → Option K) (bytes rest behind : List ℕ) (o : List (List ℕ) × K) (u : Uses) →
    opening_at find bytes ≡ Ok (o, rest) → uses_at rest ≡ Ok (u, behind) → IsEnd bytes behind
uses_end find bytes rest behind o u p q =
    end_on bytes rest behind (found_end (SpellsOpening find) (opening_at find) (opening_found find) bytes o rest p)
    (found_end SpellsUses uses_at uses_found rest u behind q)
