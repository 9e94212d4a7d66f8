-- Errors of calls, as they are told.
use Rattle.std.proofs.Common.{◌≡◌, ℕ, Bool, true, List, refl}
use Rattle.std.specs.Str.{IsUtf8}
use Rattle.plir_data.specs.declared.location.VerifyErr.{VerifyErr}
use Rattle.plir_data.specs.declared.location.VerifyErr.TheVariants as of_verifiers
use Rattle.plir_data.specs.declared.op_set.OpSet as op_set
use Rattle.plir_core.specs.declared.ptr.Ptr.{Ptr}
use Rattle.plir_core.specs.declared.ptr.Operation.{Operation as OperationKind}
use Rattle.plir_core.specs.ContextView.{ContextView}
use Rattle.plir_core.specs.Contents.{OpView}
use Rattle.plir_attr_text.specs.declared.fault.Fault.{Fault}
use Rattle.plir_attr_text.specs.declared.fault.Fault.TheVariants as faults
use Rattle.plir_attr_text.specs.Faults.{IsOfText}
use Rattle.plir_attr_text.specs.TypeGrammar.{IsText}
use Rattle.plir_builtin.specs.declared.symbol_table_err.SymbolTableErr.{SymbolTableErr}
use Rattle.plir_builtin.specs.declared.symbol_table_err.SymbolTableErr.TheVariants as of_tables
use Rattle.plir_builtin.specs.Refusals.{IsTableRefusal, Reports}
use Rattle.plir_builtin.specs.SymbolUses.{UseRefusal, UseRule}
use Rattle.plir_read.specs.OpGrammar.{OpWithin}
use Rattle.plir_read.specs.OpTerms.{OpTerm}
use Rattle.plir_read.specs.Room.{BeginsTooMany, op_count}
use Rattle.plir_verify.specs.declared.tree_err.TreeVerifyErr.{TreeVerifyErr}
use Rattle.plir_verify.specs.RuleRefusals.{IsTreeRefusal}
use Rattle.plir_driver.specs.declared.choices.Form.{Form}
use Rattle.plir_driver.specs.declared.choices.Form.TheVariants.{CallGraph}
use Rattle.plir_driver.specs.declared.pass_err.PassErr.{PassErr}
use Rattle.plir_driver.specs.declared.pass_err.PassErr.TheVariants as of_passes
use Rattle.plir_driver.specs.LibraryPasses.{IsSymbolRefusal}
use Rattle.plir_driver.specs.PassRules.{RunRule, StopRule}
use Rattle.plir_driver.specs.StopOf.{of_fault, of_pass, of_table, of_table_in_pass, of_verifier}
use Rattle.plir_driver.specs.Reading.{IsReaderRefusal, RefusalRule, no_nodes}
use Rattle.plir_driver.specs.Stopped.{IsStoppedAt, IsUnprinted, IsUnread, IsWrong}
use Rattle.plir_read_ir.specs.declared.fault.IrFault.{IrFault}
use Rattle.plir_read_ir.specs.declared.fault.IrFault.TheVariants.{Text, UnknownName, AmbiguousName, TypeMismatch}
use Rattle.plir_symbols.specs.CallGraph.{IsGraphRefusal}
use Rattle.std.specs.FinMap as map

-- what a reader tells of a text is so
pub unread : (E : Type 0) (refuses : RefusalRule) (bytes : List ℕ) (line column : ℕ) (f : IrFault) → IsUtf8 bytes →
    refuses bytes f → IsUnread {E = E} refuses bytes (of_fault line column f)
unread E refuses bytes line column (Text faults.Memory) text why = tt
unread E refuses bytes line column (Text faults.TooManyNodes) text why = why
unread E refuses bytes line column (Text faults.Unexpected) text why = (text, why)
unread E refuses bytes line column (Text faults.BadEscape) text why = (text, why)
unread E refuses bytes line column (Text faults.IntegerOutOfRange) text why = (text, why)
unread E refuses bytes line column (Text faults.IntegerWidthUnsupported) text why = (text, why)
unread E refuses bytes line column (Text faults.TooDeep) text why = (text, why)
unread E refuses bytes line column (Text faults.ForwardRefOpExistenceErr) text why = (text, why)
unread E refuses bytes line column (Text (faults.NResultsVerifyErr m n)) text why = (text, why)
unread E refuses bytes line column UnknownName text why = (text, why)
unread E refuses bytes line column AmbiguousName text why = (text, why)
unread E refuses bytes line column TypeMismatch text why = (text, why)

-- and what that of builtin operations does
pub refused : (K A : Type 0) (bytes : List ℕ) (f : Fault) → (IsOfText f → (w : OpTerm) →
    IsText (OpWithin 200) bytes w → ⊥) → (f ≡ faults.TooManyNodes → BeginsTooMany op_count (OpWithin 200)
    (no_nodes {K = K} {A = A}) bytes) → IsReaderRefusal K A bytes f
refused K A bytes f none many = by f none many
  where
    of-text : (f : Fault) → (f ≡ faults.Memory → ⊥) → (f ≡ faults.TooManyNodes → ⊥) →
        (IsOfText f → (w : OpTerm) → IsText (OpWithin 200) bytes w → ⊥) →
        IsOfText f × ((w : OpTerm) → IsText (OpWithin 200) bytes w → ⊥)
    of-text f a b none = ((a, b), none (a, b))

    by : (f : Fault) → (IsOfText f → (w : OpTerm) → IsText (OpWithin 200) bytes w → ⊥) →
        (f ≡ faults.TooManyNodes → BeginsTooMany op_count (OpWithin 200) (no_nodes {K = K} {A = A}) bytes) →
        IsReaderRefusal K A bytes f
    by faults.Memory none many = tt
    by faults.TooManyNodes none many = many refl
    by faults.Unexpected none many = of-text faults.Unexpected (λ e. cc e) (λ e. cc e) none
    by faults.BadEscape none many = of-text faults.BadEscape (λ e. cc e) (λ e. cc e) none
    by faults.IntegerOutOfRange none many = of-text faults.IntegerOutOfRange (λ e. cc e) (λ e. cc e) none
    by faults.IntegerWidthUnsupported none many = of-text faults.IntegerWidthUnsupported (λ e. cc e) (λ e. cc e) none
    by faults.TooDeep none many = of-text faults.TooDeep (λ e. cc e) (λ e. cc e) none
    by faults.ForwardRefOpExistenceErr none many =
        of-text faults.ForwardRefOpExistenceErr (λ e. cc e) (λ e. cc e) none
    by (faults.NResultsVerifyErr m n) none many = of-text (faults.NResultsVerifyErr m n) (λ e. cc e) (λ e. cc e) none

module _ {D K A T E : Type 0} (o : op_set.Ghosts D K A T E) (uses_hold : UseRule K A T)
    (use_refusal : UseRefusal K A T E) (rule : UseRule K A T) (rule_refusal : UseRefusal K A T E)
    (root : Ptr OperationKind) (s : ContextView K A T) where
  -- what a verifier tells of a tree is so
  pub wrong : (v : VerifyErr (TreeVerifyErr E)) →
      IsTreeRefusal o uses_hold use_refusal rule rule_refusal s root v →
      IsWrong o uses_hold use_refusal rule rule_refusal root s (of_verifier v)
  wrong (of_verifiers.Refused l e) h = h
  wrong of_verifiers.Memory h = tt

  module _ {P : Type 0} (has_passed : RunRule P K A T) (may_stop : StopRule P K A T) (verify : Bool) (pass : P) where
    -- what a pass tells is so
    pub passing : (e : PassErr) → may_stop pass root s e →
        IsStoppedAt o uses_hold use_refusal rule rule_refusal has_passed may_stop root verify pass s (of_pass e)
    passing (of_passes.NoTable e) h = h
    passing (of_passes.Unfit why) h = h
    passing of_passes.TooManyNodes h = h
    passing of_passes.OutOfMemory h = tt

-- what a table tells is so, where a pass tells it
pub tabled : {K A T : Type 0} (own_symbol own_table : K → Bool) (root : Ptr OperationKind) (s : ContextView K A T)
    (e : SymbolTableErr) → Reports (IsTableRefusal own_symbol own_table s root) e →
    IsSymbolRefusal root s own_symbol own_table (of_table_in_pass e)
tabled own_symbol own_table root s of_tables.DoesNotImplementSymbolTableInterface h = h
tabled own_symbol own_table root s of_tables.DoesNotImplementSymbolOpInterface h = h
tabled own_symbol own_table root s (of_tables.SymbolRedefined n) h = h
tabled own_symbol own_table root s (of_tables.SymbolOpAlreadyInAnotherTable n) h = h
tabled own_symbol own_table root s of_tables.InsertionPointNotInSameTable h = h
tabled own_symbol own_table root s of_tables.SymbolOpNotInTableOp h = h
tabled own_symbol own_table root s (of_tables.Regions e) h = h
tabled own_symbol own_table root s (of_tables.Body e) h = h
tabled own_symbol own_table root s (of_tables.Unnamed e) h = h
tabled own_symbol own_table root s of_tables.Memory h = tt

-- what a call graph tells is so
pub graphed : {D K A T E : Type 0} (o : op_set.Ghosts D K A T E) (names : OpView K A → List (List ℕ))
    (root : Ptr OperationKind) (s : ContextView K A T) (form : Form) (e : SymbolTableErr) → form ≡ CallGraph →
    IsGraphRefusal o.is_symbol o.is_symbol_table names s root map.empty e →
    IsUnprinted o names root form s (of_table e)
graphed o names root s form e is h = by e h
  where
    by : (e : SymbolTableErr) → IsGraphRefusal o.is_symbol o.is_symbol_table names s root map.empty e →
        IsUnprinted o names root form s (of_table e)
    by of_tables.DoesNotImplementSymbolTableInterface h = (is, h)
    by of_tables.DoesNotImplementSymbolOpInterface h = (is, h)
    by (of_tables.SymbolRedefined n) h = (is, h)
    by (of_tables.SymbolOpAlreadyInAnotherTable n) h = (is, h)
    by of_tables.InsertionPointNotInSameTable h = (is, h)
    by of_tables.SymbolOpNotInTableOp h = (is, h)
    by (of_tables.Regions e) h = (is, h)
    by (of_tables.Body e) h = (is, h)
    by (of_tables.Unnamed e) h = (is, h)
    by of_tables.Memory h = tt

-- what is told of a tree behind a pass is so
pub verifying : {D K A T E P : Type 0} (o : op_set.Ghosts D K A T E) (uses_hold : UseRule K A T)
    (use_refusal : UseRefusal K A T E) (rule : UseRule K A T) (rule_refusal : UseRefusal K A T E)
    (has_passed : RunRule P K A T) (may_stop : StopRule P K A T) (root : Ptr OperationKind) (verify : Bool) (pass : P)
    (s t : ContextView K A T) (v : VerifyErr (TreeVerifyErr E)) → verify ≡ true → has_passed pass root s t →
    IsTreeRefusal o uses_hold use_refusal rule rule_refusal t root v →
    IsStoppedAt o uses_hold use_refusal rule rule_refusal has_passed may_stop root verify pass s (of_verifier v)
verifying o uses_hold use_refusal rule rule_refusal has_passed may_stop root verify pass s t (of_verifiers.Refused l e)
    asked run refused = (asked, (t, run, refused))
verifying o uses_hold use_refusal rule rule_refusal has_passed may_stop root verify pass s t of_verifiers.Memory
    asked run refused = tt
