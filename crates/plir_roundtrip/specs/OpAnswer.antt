-- What the reader of operations answers, and that it reads back what was printed.
use Rattle.std.specs.Prelude.{◌≡◌, ◌⊎◌, ℕ, true, List, Result, IfOk, IfErr, MatchResult}
use Rattle.plir_data.specs.Identifier.{is_identifier}
use Rattle.plir_data.specs.Types.{IsTypeTable}
use Rattle.plir_data.specs.declared.op_set.OpSet as op_set
use Rattle.plir_core.specs.declared.ptr.Ptr.{Ptr}
use Rattle.plir_core.specs.declared.ptr.Operation.{Operation as OperationKind}
use Rattle.plir_core.specs.declared.ptr.IRNode.TheVariants.{Operation}
use Rattle.plir_core.specs.Made.{IsMade}
use Rattle.plir_core.specs.ContextView.{ContextView}
use Rattle.plir_core.specs.WellFormed.{IsWellFormed}
use Rattle.plir_attr_text.specs.Faults.{IsOfText}
use Rattle.plir_attr_text.specs.Names.{Grows}
use Rattle.plir_attr_text.specs.TypeGrammar.{IsText}
use Rattle.plir_attr_text.specs.declared.fault.Fault.TheVariants.{Memory, TooManyNodes}
use Rattle.plir_attr_text.specs.declared.fault.ReadErr.{ReadErr}
use Rattle.plir_builtin.specs.BuiltinOps.{IsNewModule}
use Rattle.plir_print.specs.OpText.{op_text}
use Rattle.plir_read.specs.Keeping.{KeepsOlder}
use Rattle.plir_read.specs.OpGrammar.{OpWithin}
use Rattle.plir_read.specs.OpTerms.{OpTerm}
use Rattle.plir_read.specs.OpsStanding.{StandsForOp}
use Rattle.plir_roundtrip.specs.Readable.{IsReadable}
use Rattle.plir_roundtrip.specs.SameTree.{IsSameTree}
use Rattle.plir_roundtrip.specs.Written.{op_term_of}

module _ {K A T : Type 0} where
  -- The answer to a text, read into the context `old`, which leaves the context `new`: an operation that the text
  -- stands for, made anew; or memory or room was wanting, or the text stands for no operation. What was there
  -- is as it was.
  pub record IsOpRead (old : ContextView K A T) (text : List ℕ) (answer : Result (Ptr OperationKind) ReadErr)
      (new : ContextView K A T) : Type 0 where
    pub found : IfOk answer (λ p. StandsForOp 200 new text (Operation p))
    pub made : IfOk answer (λ p. IsMade old.nodes new.nodes (Operation p))
    pub refused : IfErr answer (λ e. IsOfText e.fault → (w : OpTerm) → IsText (OpWithin 200) text w → ⊥)
    pub kept : KeepsOlder old new

  -- the answer is the root of the same tree as p in s, or memory or room for a node was wanting
  abbrev pub IsSameOrRefused : (s : ContextView K A T) → Ptr OperationKind → (new : ContextView K A T) →
      Result (Ptr OperationKind) ReadErr → Type 0
  IsSameOrRefused s p new answer =
      MatchResult answer (λ q. IsSameTree s new (Operation p) (Operation q))
      (λ e. (e.fault ≡ Memory) ⊎ (e.fault ≡ TooManyNodes))

-- Where the text is that of an operation p that can be read back, printed from the context `printed`, and this is the
-- answer to it, read into a context `old` whose types have grown from those, the answer is the root of the same tree,
-- or memory or room was wanting. `new` is the context that the reader left.
abbrev pub IsReadBack : {D K A T E : Type 0} → (o : op_set.Ghosts D K A T E) → (text : List ℕ) →
    Result (Ptr OperationKind) ReadErr → Type 0
IsReadBack o text answer =
    (printed old new : ContextView _ _ _) (p : Ptr OperationKind) → IsWellFormed o.attr_handles printed →
    IsTypeTable o.type_handles new.types → IsReadable o printed p
    → text ≡ op_text o printed p → Grows printed.types old.types → IsOpRead old text answer new →
    IsSameOrRefused printed p new answer

-- the text of each operation that can be read back stands for it, as it is written
abbrev pub TextsStand : {D K A T E : Type 0} → op_set.Ghosts D K A T E → Type 0
TextsStand o =
    (s : ContextView _ _ _) (p : Ptr OperationKind) → IsWellFormed o.attr_handles s → IsReadable o s p →
    IsText (OpWithin 200) (op_text o s p) (op_term_of o s p)

-- each new module whose name is an identifier can be read back
abbrev pub NewModulesReadable : {D K A T E : Type 0} → op_set.Ghosts D K A T E → Type 0
NewModulesReadable o =
    (s : ContextView _ _ _) (p : Ptr OperationKind) (name : List ℕ) → IsWellFormed o.attr_handles s
    → is_identifier name ≡ true →
    IsNewModule s p name → IsReadable o s p
