-- What passes leave, one after another.
use Rattle.std.specs.Prelude.{◌≡◌, Bool, true, List, [], ◌∷◌}
use Rattle.plir_data.specs.declared.op_set.OpSet as op_set
use Rattle.plir_core.specs.declared.ptr.Ptr.{Ptr}
use Rattle.plir_core.specs.declared.ptr.Operation.{Operation as OperationKind}
use Rattle.plir_core.specs.ContextView.{ContextView}
use Rattle.plir_builtin.specs.SymbolUses.{UseRule}
use Rattle.plir_verify.specs.Rules.{AllHaveRules}
use Rattle.plir_driver.specs.PassRules.{RunRule}

-- `has_passed` says what one run of each pass leaves.
module _ {P K A T : Type 0} (has_passed : RunRule P K A T) (root : Ptr OperationKind) where
  -- From s to t passes have gone over the operation root, one after another, each once, and behind each `stands`
  -- holds.
  abbrev pub ArePassed : (stands : ContextView K A T → Type 0) → List P → ContextView K A T → ContextView K A T
      → Type 0
  ArePassed stands [] s t = t ≡ s
  ArePassed stands (x ∷ xs) s t =
      (u : ContextView K A T) × has_passed x root s u × stands u × ArePassed stands xs u t

module _ {D K A T E P : Type 0} (o : op_set.Ghosts D K A T E) (has_passed : RunRule P K A T)
    (root : Ptr OperationKind) where
  -- From s to t passes were run over the operation root, one after another, and behind each all at and below root is
  -- right, if that is to be verified.
  abbrev pub AreRun : (uses_hold rule : UseRule K A T) → (verify : Bool) → List P → ContextView K A T
      → ContextView K A T → Type 0
  AreRun uses_hold rule verify = ArePassed has_passed root (λ s. verify ≡ true → AllHaveRules o uses_hold rule s root)
