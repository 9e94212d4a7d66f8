-- What is held of the parts of texts.
use Rattle.std.specs.Prelude.{◌≡◌, ℕ, map, List}
use Rattle.plir_data.specs.Types.{TypeView}
use Rattle.plir_attr_text.specs.Names.{Names}
use Rattle.plir_attr_text.specs.Terms.{EntryTerms}
use Rattle.plir_read.specs.Heads.{AreArguments, IsBlockHead, result_names}
use Rattle.plir_read.specs.OpTerms.{Argument, BlockHead}
use Rattle.plir_read.specs.Suffixes.{given_name}
use Rattle.plir_read.specs.declared.names.Suffix.TheVariants as Suffix
use Rattle.plir_read_own.specs.OwnMeaning.{AreTyped}
use Rattle.plir_read_own.specs.OwnTerms.{Uses, Signature}
use Rattle.plir_data.specs.AttrView.{AttrView}
use Rattle.plir_read_own.specs.declared.signatures.OwnSignature.{OwnSignature}
use Rattle.plir_read_ir.specs.Spelling.{word_of, words, uses_of}
use Rattle.plir_read_ir.specs.declared.heads.SpelledArgument.{SpelledArgument}
use Rattle.plir_read_ir.specs.declared.heads.SpelledArguments.{SpelledArguments}
use Rattle.plir_read_ir.specs.declared.heads.SpelledHead.{SpelledHead}
use Rattle.plir_read_ir.specs.declared.openings.IrKind.{IrKind}
use Rattle.plir_read_ir.specs.declared.openings.IrOpening.{IrOpening}
use Rattle.plir_read_ir.specs.declared.openings.ResultNames.{ResultNames}
use Rattle.plir_read_ir.specs.declared.uses.SpelledUses.{SpelledUses}

-- the names that are held are those that are written, and their given names beside them
pub record AreResultNames (held : ResultNames) (ws : List (List ℕ)) : Type 0 where
  pub spelled : words held.spelled.items ≡ ws
  pub given : held.given.items ≡ result_names ws

-- what an operation begins with, as it is held: names of results, and what the id names
pub record IsIrOpening {K : Type 0} (held : IrOpening K) (written : List (List ℕ) × IrKind K) : Type 0 where
  pub names : AreResultNames held.names written.0
  pub kind : held.kind ≡ written.1

-- what stands behind the id of an own operation, as it is held
pub record AreParts {A T : Type 0} (types : List (TypeView T)) (uses : SpelledUses)
    (attributes : List (List ℕ × AttrView A)) (signature : OwnSignature)
    (written : Uses × (EntryTerms × Signature)) : Type 0 where
  pub uses_are : uses_of uses ≡ written.0
  pub typed : AreTyped types attributes signature written.1

-- the names of arguments as they are written
abbrev pub argument_words : List Argument → List (List ℕ)
argument_words as_ = map (λ (a : Argument). a.0) as_

-- the argument that is held is the one that is written
pub record IsSpelledArgument {T : Type 0} (types : List (TypeView T)) (held : SpelledArgument) (a : Argument) :
    Type 0 where
  pub word : word_of held.word ≡ a.0
  pub given : held.given ≡ given_name Suffix.Argument a.0
  pub typed : Names types held.ty a.1

-- the arguments that are held are those that are written, with their names beside them
pub record AreSpelledArguments {T : Type 0} (types : List (TypeView T)) (held : SpelledArguments)
    (as_ : List Argument) : Type 0 where
  pub arguments : AreArguments types held.arguments as_
  pub spelled : words held.words.items ≡ argument_words as_

-- the head of a block that is held is the one that is written, with its label and its names beside it
pub record IsSpelledHead {T : Type 0} (types : List (TypeView T)) (held : SpelledHead) (b : BlockHead) : Type 0 where
  pub head : IsBlockHead types held.head b
  pub label : word_of held.label ≡ b.0
  pub spelled : words held.words.items ≡ argument_words b.1
