-- The first refusal of a tree, as it is reported.
use Rattle.std.proofs.Common.{◌≡◌}
use Rattle.plir_data.specs.declared.location.VerifyErr.{VerifyErr}
use Rattle.plir_data.specs.declared.location.VerifyErr.TheVariants.{Refused, Memory}
use Rattle.plir_data.specs.declared.op_set.OpSet as op_set
use Rattle.plir_core.specs.declared.ptr.Ptr.{Ptr}
use Rattle.plir_core.specs.declared.ptr.Operation.{Operation as OperationKind}
use Rattle.plir_core.specs.declared.ptr.IRNode.TheVariants.{Operation}
use Rattle.plir_core.specs.ContextView.{ContextView, children}
use Rattle.plir_walk.specs.declared.config.TheConstants.{WALKCONFIG_PREORDER_FORWARD as pre_forward}
use Rattle.plir_walk.specs.Tree.{IsUnder, NodeBefore}
use Rattle.plir_builtin.specs.SymbolUses.{UseRule, UseRefusal}
use Rattle.plir_verify.specs.declared.tree_err.TreeVerifyErr.{TreeVerifyErr}
use Rattle.plir_verify.specs.Rules.{HasRules}
use Rattle.plir_verify.specs.RuleRefusals.{IsOpRefusal, IsTreeRefusal}

module _ {D K A T E : Type 0} (o : op_set.Ghosts D K A T E) (uses_hold : UseRule K A T)
    (use_refusal : UseRefusal K A T E) (rule : UseRule K A T) (rule_refusal : UseRefusal K A T E)
    (s : ContextView K A T) (root : Ptr OperationKind) where
  pub first-reported : (v : VerifyErr (TreeVerifyErr E)) (p : Ptr OperationKind)
      → IsUnder (children s) (Operation root) (Operation p)
      → IsOpRefusal o uses_hold use_refusal rule rule_refusal s p v
      → ((q : Ptr OperationKind) → IsUnder (children s) (Operation root) (Operation q)
      → NodeBefore pre_forward (children s) (Operation root) (Operation q) (Operation p)
      → HasRules o uses_hold rule s q)
      → IsTreeRefusal o uses_hold use_refusal rule rule_refusal s root v
  first-reported (Refused l e) p under refused before =
      record { op = p; under = under; refused = refused; before = before }
  first-reported Memory p under refused before = tt
