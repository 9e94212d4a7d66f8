-- What is held of a header that is written.
use Rattle.std.specs.Prelude.{◌≡◌, ℕ, List, Option}
use Rattle.plir_data.specs.AttrView.{AttrView}
use Rattle.plir_data.specs.Types.{TypeView}
use Rattle.plir_attr_text.specs.Meaning.{IsDictMeant}
use Rattle.plir_attr_text.specs.Names.{NamesAll}
use Rattle.plir_attr_text.specs.Terms.{EntryTerms}
use Rattle.plir_attr_text.specs.TypeGrammar.{IsText}
use Rattle.plir_read_own.specs.OwnTerms.{Uses, Signature, Header}
use Rattle.plir_read_own.specs.OwnGrammar.{HeaderWithin}
use Rattle.plir_read_own.specs.declared.uses.OwnUses.{OwnUses}
use Rattle.plir_read_own.specs.declared.signatures.OwnSignature.{OwnSignature}

-- the names that are held are those that are written
abbrev pub uses_of : OwnUses → Uses
uses_of u = record { operands = u.operands.items; successors = u.successors.items }

-- the handles name the types that are written
pub record AreTypes {T : Type 0} (types : List (TypeView T)) (held : OwnSignature) (t : Signature) : Type 0 where
  pub operand_types : NamesAll types held.operand_types.items t.operand_types
  pub result_types : NamesAll types held.result_types.items t.result_types

-- the attributes and the types that are held are those that are written
pub record AreTyped {A T : Type 0} (types : List (TypeView T)) (attributes : List (List ℕ × AttrView A))
    (signature : OwnSignature) (t : EntryTerms × Signature) : Type 0 where
  pub attributes_are : IsDictMeant types t.0 attributes
  pub types_are : AreTypes types signature t.1

-- the header that is held, by its parts, is the one that is written
pub record IsHeader {K A T : Type 0} (types : List (TypeView T)) (names : List (List ℕ)) (kind : K) (uses : OwnUses)
    (attributes : List (List ℕ × AttrView A)) (signature : OwnSignature) (h : Header K) : Type 0 where
  pub names_are : h.names ≡ names
  pub kind_is : h.kind ≡ kind
  pub uses_are : h.uses ≡ uses_of uses
  pub typed : AreTyped types attributes signature (h.entries, h.signature)

-- The whole text stands for the header that is held, with at most n levels in it.
abbrev pub StandsForHeader : {K A T : Type 0} → (find : List ℕ → Option K) → (n : ℕ) → (text : List ℕ)
    → (types : List (TypeView T)) → (names : List (List ℕ)) → (kind : K) → (uses : OwnUses)
    → (attributes : List (List ℕ × AttrView A)) → (signature : OwnSignature) → Type 0
StandsForHeader {K} find n text types names kind uses attributes signature = (h : Header K) ×
    IsText (HeaderWithin find n) text h × IsHeader types names kind uses attributes signature h
