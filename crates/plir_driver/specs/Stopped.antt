-- Why nothing is printed for a text.
use Rattle.std.specs.Prelude.{◌≡◌, ℕ, ◌-◌, ◌^◌, ◌⊎◌, Bool, true, List, ◌∷◌, ◌++◌}
use Rattle.std.specs.FinMap as map
use Rattle.std.specs.Str.{IsUtf8}
use Rattle.plir_data.specs.declared.location.VerifyErr.TheVariants as of_verifiers
use Rattle.plir_data.specs.declared.op_set.OpSet as op_set
use Rattle.plir_core.specs.declared.ptr.Ptr.{Ptr}
use Rattle.plir_core.specs.declared.ptr.Operation.{Operation as OperationKind}
use Rattle.plir_core.specs.declared.ptr.IRNode.TheVariants.{Operation}
use Rattle.plir_core.specs.Contents.{BlockView, OpView}
use Rattle.plir_core.specs.ContextView.{ContextView}
use Rattle.plir_builtin.specs.SymbolUses.{UseRefusal, UseRule}
use Rattle.plir_attr_text.specs.declared.fault.Fault.TheVariants as faults
use Rattle.plir_read_ir.specs.declared.fault.IrFault.TheVariants as faults_of_texts
use Rattle.plir_print.specs.HeaderAttrs.{IsPrintable}
use Rattle.plir_symbols.specs.CallGraph.{IsGraphRefusal}
use Rattle.plir_verify.specs.Rules.{AllHaveRules}
use Rattle.plir_verify.specs.RuleRefusals.{IsTreeRefusal}
use Rattle.plir_driver.specs.declared.choices.Form.{Form}
use Rattle.plir_driver.specs.declared.choices.Form.TheVariants.{Text, CallGraph}
use Rattle.plir_driver.specs.declared.pass_err.PassErr.TheVariants as of_passes
use Rattle.plir_driver.specs.declared.stop.Stop.{Stop}
use Rattle.plir_driver.specs.declared.stop.Stop.TheVariants.{NoText, Unread, Refused, NoTable, Unfit, Unprintable}
use Rattle.plir_driver.specs.declared.stop.Stop.TheVariants.{TooManyNodes, OutOfMemory}
use Rattle.plir_driver.specs.Passed.{AreRun}
use Rattle.plir_driver.specs.PassRules.{RunRule, StopRule}
use Rattle.plir_driver.specs.Reading.{ReadRule, RefusalRule}

-- bytes are no text
abbrev pub IsNoText : {E : Type 0} → List ℕ → Stop E → Type 0
IsNoText bytes stop = (stop ≡ NoText) × (IsUtf8 bytes → ⊥)

-- A text is refused, for a fault of it or since room is wanting; or memory is wanting.
module _ {E : Type 0} (refuses : RefusalRule) where
  abbrev pub IsUnread : List ℕ → Stop E → Type 0
  IsUnread bytes (Unread line column fault) = IsUtf8 bytes × refuses bytes fault
  IsUnread bytes TooManyNodes = refuses bytes (faults_of_texts.Text faults.TooManyNodes)
  IsUnread bytes OutOfMemory = Unit {0}
  IsUnread bytes _ = ⊥

module _ {D K A T E : Type 0} (o : op_set.Ghosts D K A T E) (uses_hold : UseRule K A T)
    (use_refusal : UseRefusal K A T E) (rule : UseRule K A T) (rule_refusal : UseRefusal K A T E)
    (root : Ptr OperationKind) where
  -- the first operation at or below root that is not right is reported, or memory is wanting
  abbrev pub IsWrong : ContextView K A T → Stop E → Type 0
  IsWrong s (Refused l e) = IsTreeRefusal o uses_hold use_refusal rule rule_refusal s root (of_verifiers.Refused l e)
  IsWrong s OutOfMemory = Unit {0}
  IsWrong s _ = ⊥

module _ {D K A T E : Type 0} (o : op_set.Ghosts D K A T E) (names : OpView K A → List (List ℕ))
    (root : Ptr OperationKind) where
  -- The text of the operation is asked for, and an operation lacks an attribute that its text tells; or its call graph
  -- is, and a table that it takes is refused; or memory is wanting.
  abbrev pub IsUnprinted : Form → ContextView K A T → Stop E → Type 0
  IsUnprinted form s Unprintable = (form ≡ Text) × (IsPrintable s (Operation root) → ⊥)
  IsUnprinted form s (NoTable e) =
      (form ≡ CallGraph) × IsGraphRefusal o.is_symbol o.is_symbol_table names s root map.empty e
  IsUnprinted form s OutOfMemory = Unit {0}
  IsUnprinted form s _ = ⊥

-- `has_passed` says what one run of each pass leaves, and `may_stop` when it may stop.
module _ {D K A T E P : Type 0} (o : op_set.Ghosts D K A T E) (uses_hold : UseRule K A T)
    (use_refusal : UseRefusal K A T E) (rule : UseRule K A T) (rule_refusal : UseRefusal K A T E)
    (has_passed : RunRule P K A T) (may_stop : StopRule P K A T) (root : Ptr OperationKind) where
  -- A pass over s stops with an error that it may stop with; or it leaves t, which is verified, and something is wrong
  -- there; or memory is wanting.
  abbrev pub IsStoppedAt : (verify : Bool) → P → ContextView K A T → Stop E → Type 0
  IsStoppedAt verify pass s (NoTable e) = may_stop pass root s (of_passes.NoTable e)
  IsStoppedAt verify pass s (Unfit why) = may_stop pass root s (of_passes.Unfit why)
  IsStoppedAt verify pass s TooManyNodes = may_stop pass root s of_passes.TooManyNodes
  IsStoppedAt verify pass s (Refused l e) =
      (verify ≡ true) × ((t : ContextView K A T) × has_passed pass root s t
      × IsWrong o uses_hold use_refusal rule rule_refusal root t (Refused l e))
  IsStoppedAt verify pass s OutOfMemory = Unit {0}
  IsStoppedAt verify pass s _ = ⊥

  -- One of the passes is where it stops: those in front of it were run, from s to `here`.
  pub record IsStoppedIn (verify : Bool) (passes : List P) (s : ContextView K A T) (stop : Stop E) : Type 0 where
    pub front : List P
    pub pass : P
    pub back : List P
    pub here : ContextView K A T
    pub asked : passes ≡ front ++ pass ∷ back
    pub run : AreRun o has_passed root uses_hold rule verify front s here
    pub stops : IsStoppedAt verify pass here stop

module _ {D K A T E P : Type 0} (o : op_set.Ghosts D K A T E) (uses_hold : UseRule K A T)
    (use_refusal : UseRefusal K A T E) (rule : UseRule K A T) (rule_refusal : UseRefusal K A T E)
    (names : OpView K A → List (List ℕ)) (has_passed : RunRule P K A T) (may_stop : StopRule P K A T)
    (root : Ptr OperationKind) where
  -- Behind the reading: something is wrong with what was read; or it is right, and one of the passes is where it
  -- stops, or all of them were run, and what they left is not printed.
  abbrev pub IsStoppedBehind : Bool → List P → Form → ContextView K A T → Stop E → Type 0
  IsStoppedBehind verify passes form s stop =
      IsWrong o uses_hold use_refusal rule rule_refusal root s stop ⊎ (AllHaveRules o uses_hold rule s root ×
      (IsStoppedIn o uses_hold use_refusal rule rule_refusal has_passed may_stop root verify passes s stop
      ⊎ ((t : ContextView K A T) × AreRun o has_passed root uses_hold rule verify passes s t
      × IsUnprinted o names root form t stop)))

-- Why nothing is printed for a text: it is not read; or it stands for an operation, and it stops behind that.
abbrev pub IsStopped : {D K A T E P : Type 0} → (o : op_set.Ghosts D K A T E) → (uses_hold : UseRule K A T) →
    (use_refusal : UseRefusal K A T E) → (rule : UseRule K A T) → (rule_refusal : UseRefusal K A T E) →
    (names : OpView K A → List (List ℕ)) → (stands_for : ReadRule K A T) → (refuses : RefusalRule) →
    (has_passed : RunRule P K A T) → (may_stop : StopRule P K A T) → Bool → List P → Form → List ℕ → Stop E → Type 0
IsStopped {D} {K} {A} {T} {E} {P} o uses_hold use_refusal rule rule_refusal names stands_for refuses has_passed may_stop
    verify passes form bytes stop =
    IsUnread refuses bytes stop
    ⊎ ((root : Ptr OperationKind) × (read : ContextView K A T) × stands_for bytes read root
    × IsStoppedBehind o uses_hold use_refusal rule rule_refusal names has_passed may_stop root verify passes form read
    stop)
