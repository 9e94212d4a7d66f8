-- Types that are read one after the other, and types that come into a table while a text is read.
use Rattle.std.proofs.Common.{◌≡◌, ℕ, suc, Bool, List, length, Ok, ap, ◌∙◌, sym}
use Rattle.plir_data.specs.Types.{TypeView}
use Rattle.plir_attr_text.specs.declared.attr_words.AttrKind.TheVariants as kinds
use Rattle.plir_attr_text.specs.Lists.{separator_at, items_at}
use Rattle.plir_attr_text.specs.Names.{Adds, NamesAll}
use Rattle.plir_attr_text.specs.Terms.{TypeTerm, TypeTerms, no_types, type_before}
use Rattle.plir_attr_text.specs.Tokens.{sign}
use Rattle.plir_attr_text.specs.TypeGrammar.{TypeWithin}
use Rattle.plir_attr_text.specs.TypeReading.{type_at}
use Rattle.plir_attr_text.specs.TypesIn.{IsInType, IsBehindId}
use Rattle.plir_attr_text.specs.TypesWritten.{IsWrittenIn}
use Rattle.plir_attr_text.specs.laws.Begun.{separator, separator_found}
use Rattle.plir_attr_text.specs.laws.Ends.{IsEnd, found_end, takes_end}
use Rattle.plir_attr_text.specs.laws.Fronts.{GoesOn}
use Rattle.plir_attr_text.specs.laws.Growth.{Adds-as, NamesFront}
use Rattle.plir_attr_text.specs.laws.TypesFound.{type_found}
use Rattle.plir_attr_text.specs.laws.WrittenFound.{written_on, type_written, entries_written}
use Rattle.plir_read_own.specs.OwnTerms.{num_types}

-- the types read so far are named, the next one begins at the rest, and types that are written in the text have come
pub record Holds {S T : Type 0} (types : S → List (TypeView T)) (same : S → S → Type 0) (n : ℕ) (bytes : List ℕ)
    (first now : S) (handles : List ℕ) (rest : List ℕ) : Type 0 where
  pub front : List TypeTerm
  pub named : NamesFront (types now) handles front
  pub kept : Adds types same (IsWrittenIn bytes) first now
  pub behind : IsEnd bytes rest
  pub going : GoesOn (separator_at 41) (type_at n) front rest (items_at 40 41 (type_at n) bytes)

module _ {S T : Type 0} {types : S → List (TypeView T)} {same : S → S → Type 0} where
  -- what is written at an end of a text is written in it
  pub type_kept : (n : ℕ) (bytes rest : List ℕ) (a b : S) → IsEnd bytes rest → Adds types same (IsInType n rest) a b →
      Adds types same (IsWrittenIn bytes) a b
  type_kept n bytes rest a b e p =
      Adds-as (λ t w. written_on bytes rest e t (type_written n rest t w)) a b p

  pub end_kept : (bytes rest : List ℕ) (a b : S) → IsEnd bytes rest → Adds types same (IsWrittenIn rest) a b →
      Adds types same (IsWrittenIn bytes) a b
  end_kept bytes rest a b e p = Adds-as (λ t w. written_on bytes rest e t w) a b p

  pub entries_kept : (n : ℕ) (bytes : List ℕ) (a b : S) → Adds types same (IsBehindId n kinds.Dict bytes) a b →
      Adds types same (IsWrittenIn bytes) a b
  entries_kept n bytes a b p = Adds-as (λ t w. entries_written n bytes t w) a b p

pub type_end : (n : ℕ) (bytes : List ℕ) (t : TypeTerm) (rest : List ℕ) → type_at n bytes ≡ Ok (t, rest) →
    IsEnd bytes rest
type_end n bytes t rest e = found_end (TypeWithin n) (type_at n) (type_found n) bytes t rest e

pub separator_end : (close : ℕ) (bytes : List ℕ) (more : Bool) (rest : List ℕ) →
    separator_at close bytes ≡ Ok (more, rest) → IsEnd bytes rest
separator_end close bytes more rest e =
    takes_end bytes (sign (separator close more)) rest (separator_found close bytes (more, rest) e)

-- as many handles as types
pub as_many : {T : Type 0} (types : List (TypeView T)) (hs : List ℕ) (ts : TypeTerms) → NamesAll types hs ts →
    num_types ts ≡ length hs
as_many types hs no_types n = ap length (sym n)
as_many types hs (type_before t ts) n = ap (λ k. suc k) (as_many types n.1 ts n.3) ∙ ap length (sym n.4)
