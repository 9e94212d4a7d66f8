-- Arguments that are read one after the other, and heads of blocks by their parts.
use Rattle.std.proofs.Common.{◌≡◌, ℕ, ◌++◌, List, [], ◌∷◌, Option, Ok, refl, ap}
use Rattle.std.proofs.lemmas.List.{map-append}
use Rattle.plir_data.specs.Types.{TypeView}
use Rattle.plir_attr_text.specs.AttrReading.{name_at}
use Rattle.plir_attr_text.specs.Lists.{separator_at, sign_at, items_at}
use Rattle.plir_attr_text.specs.Names.{Adds, Names, NamesAll}
use Rattle.plir_attr_text.specs.Terms.{TypeTerm}
use Rattle.plir_attr_text.specs.TypeReading.{type_at}
use Rattle.plir_attr_text.specs.TypesWritten.{IsWrittenIn}
use Rattle.plir_attr_text.specs.laws.Ends.{IsEnd}
use Rattle.plir_attr_text.specs.laws.Fronts.{GoesOn}
use Rattle.plir_attr_text.specs.laws.StepLaws.{bind_ok}
use Rattle.plir_read.specs.Heads.{argument_types, argument_names}
use Rattle.plir_read.specs.OpReading.{argument_at, block_head_at}
use Rattle.plir_read.specs.OpTerms.{Argument}
use Rattle.plir_read.specs.Suffixes.{given_name}
use Rattle.plir_read.specs.declared.names.Suffix.TheVariants as Suffix
use Rattle.plir_read_own.specs.OwnReading.{label_at}
use Rattle.plir_read_ir.specs.IrMeaning.{argument_words}

-- the arguments read so far are held, and types have come
pub record ArgumentsSoFar {S T : Type 0} (types : S → List (TypeView T)) (same : S → S → Type 0) (n : ℕ)
    (bytes : List ℕ) (first now : S) (handles : List ℕ) (names : List (Option (List ℕ))) (spelled : List (List ℕ))
    (rest : List ℕ) : Type 0 where
  pub front : List Argument
  pub typed : NamesAll (types now) handles (argument_types front)
  pub named : names ≡ argument_names front
  pub words_are : spelled ≡ argument_words front
  pub kept : Adds types same (IsWrittenIn bytes) first now
  pub behind : IsEnd bytes rest
  pub going : GoesOn (separator_at 41) (argument_at n) front rest (items_at 40 41 (argument_at n) bytes)

pub typed_push : {T : Type 0} (types : List (TypeView T)) (hs : List ℕ) (front : List Argument) (h : ℕ) (a : Argument) →
    NamesAll types hs (argument_types front) → Names types h a.1 →
    NamesAll types (hs ++ h ∷ []) (argument_types (front ++ a ∷ []))
typed_push types hs [] h a n m = (h, [], m, refl, ap (λ (l : List ℕ). l ++ h ∷ []) n)
typed_push types hs (x ∷ front) h a n m =
    (n.0, n.1 ++ h ∷ [], n.2, typed_push types n.1 front h a n.3 m, ap (λ (l : List ℕ). l ++ h ∷ []) n.4)

pub named_push : (front : List Argument) (a : Argument) → argument_names (front ++ a ∷ []) ≡ argument_names front ++
    given_name Suffix.Argument a.0 ∷ []
named_push front a = map-append (λ (x : Argument). given_name Suffix.Argument x.0) front (a ∷ [])

pub spelled_push : (front : List Argument) (a : Argument) → argument_words (front ++ a ∷ []) ≡ argument_words front ++
    a.0 ∷ []
spelled_push front a = map-append (λ (x : Argument). x.0) front (a ∷ [])

pub argument_is : (n : ℕ) (bytes w rest colon end : List ℕ) (t : TypeTerm) → name_at bytes ≡ Ok (w, rest) →
    sign_at 58 rest ≡ Ok colon → type_at n colon ≡ Ok (t, end) → argument_at n bytes ≡ Ok ((w, t), end)
unfolding argument_at
argument_is n bytes w rest colon end t p q r = rw (p, q, r) refl

-- a label is a sign and a name
pub label_parts : (bytes w rest : List ℕ) → label_at bytes ≡ Ok (w, rest) →
    (start : List ℕ) × (sign_at 94 bytes ≡ Ok start) × (name_at start ≡ Ok (w, rest))
unfolding label_at
label_parts bytes w rest e = bind_ok (sign_at 94 bytes) (λ start. name_at start) (w, rest) e

pub block_head_is : (n : ℕ) (bytes w rest behind end : List ℕ) (as_ : List Argument) → label_at bytes ≡ Ok (w, rest) →
    items_at 40 41 (argument_at n) rest ≡ Ok (as_, behind) → sign_at 58 behind ≡ Ok end →
    block_head_at n bytes ≡ Ok ((w, as_), end)
unfolding block_head_at
block_head_is n bytes w rest behind end as_ p r s =
    let l = label_parts bytes w rest p in
    rw (l.1, l.2, r, s) refl
