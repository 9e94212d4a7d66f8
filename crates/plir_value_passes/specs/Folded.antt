-- What the pass that folds says of itself.
use Rattle.std.specs.Prelude.{Bool, Option}
use Rattle.plir_core.specs.declared.ptr.Ptr.{Ptr}
use Rattle.plir_core.specs.declared.ptr.Operation.{Operation as OperationKind}
use Rattle.plir_core.specs.declared.ptr.IRNode.TheVariants.{Operation}
use Rattle.plir_core.specs.ContextView.{ContextView}
use Rattle.plir_core.specs.Forest.{look}
use Rattle.plir_core.specs.Room.{IsFullForOp}
use Rattle.plir_walk.specs.Lawful.{Lawful}
use Rattle.plir_folding.specs.Folded.{IsFolded}
use Rattle.plir_folding.specs.Identities.{ArePassed}
use Rattle.plir_folding.specs.Merged.{AreFirstAlone, IsMerged}
use Rattle.plir_folding.specs.PassedOn.{IsPassedOn}
use Rattle.plir_folding.specs.Worth.{AreSettled, Integer}
use Rattle.plir_folding.specs.declared.identity_set.Side.{Side}
use Rattle.plir_driver.specs.declared.pass_err.PassErr.{PassErr}
use Rattle.plir_driver.specs.declared.pass_err.PassErr.TheVariants.{TooManyNodes, OutOfMemory}

module _ {K A T : Type 0} (fold : K → Integer → Integer → Option Integer) (holds : K → Side → Integer → Bool)
    (root : Ptr OperationKind) where
  -- From s to t operands became constants of what they evaluate to, until none below the root folded; then values that
  -- they are said to be, until no result below the root stood for another value; and then, where they were constants of
  -- a block below the root, the first one there of the same integer. Nothing else has changed.
  pub record AreFolded (s t : ContextView K A T) : Type 0 where
    pub between : ContextView K A T
    pub folded : IsFolded fold s between
    pub settled : AreSettled fold between (Operation root)
    pub passed : ContextView K A T
    pub passed_on : IsPassedOn holds between passed
    pub merged : IsMerged passed (Operation root) t
    pub clean : ArePassed holds t (Operation root)
    pub alone : AreFirstAlone t (Operation root)
    pub lawful : Lawful (look s) (Operation root) (look t)

-- A run over s stops: operands became constants of what they evaluate to, and there is no room for one more; or memory
-- is wanting.
abbrev pub IsFoldStop : {K A T : Type 0} → (fold : K → Integer → Integer → Option Integer) → ContextView K A T →
    PassErr → Type 0
IsFoldStop {K} {A} {T} fold s TooManyNodes = (t : ContextView K A T) × IsFolded fold s t × IsFullForOp t.nodes 0
IsFoldStop fold s OutOfMemory = Unit {0}
IsFoldStop fold s _ = ⊥
