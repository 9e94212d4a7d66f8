-- What is printed for a text.
use Rattle.std.specs.Prelude.{◌≡◌, ℕ, Bool, List, ◌++◌, codes}
use Rattle.plir_data.specs.declared.op_set.OpSet as op_set
use Rattle.plir_core.specs.declared.ptr.Ptr.{Ptr}
use Rattle.plir_core.specs.declared.ptr.Operation.{Operation as OperationKind}
use Rattle.plir_core.specs.Contents.{OpView}
use Rattle.plir_core.specs.ContextView.{ContextView}
use Rattle.plir_builtin.specs.SymbolUses.{UseRule}
use Rattle.plir_print.specs.OpText.{op_text}
use Rattle.plir_verify.specs.Rules.{AllHaveRules}
use Rattle.plir_driver.specs.declared.choices.Form.{Form}
use Rattle.plir_driver.specs.declared.choices.Form.TheVariants.{Text, Walk, Locations, View, CallGraph, Trace}
use Rattle.plir_pictures.specs.DrawnCalls.{IsDrawn}
use Rattle.plir_pictures.specs.Graph.{graph}
use Rattle.plir_driver.specs.NodeLines.{IsListed}
use Rattle.plir_driver.specs.OpLocations.{AreLocated}
use Rattle.plir_driver.specs.Traces.{IsTraced, config_for}
use Rattle.plir_driver.specs.Passed.{AreRun}
use Rattle.plir_driver.specs.PassRules.{RunRule}
use Rattle.plir_driver.specs.Reading.{ReadRule}

-- What is printed of an operation: where its text is asked for, that text and a line feed; where its graph is, that;
-- where a list of the nodes, one of the operations with their places, the call graph or the calls of a walk are, a text
-- that lists or draws them.
module _ {D K A T E : Type 0} (o : op_set.Ghosts D K A T E) (names : OpView K A → List (List ℕ))
    (s : ContextView K A T) (root : Ptr OperationKind) where
  abbrev pub IsPrintedAs : Form → List ℕ → Type 0
  IsPrintedAs Text t = t ≡ op_text o s root ++ codes "\n"
  IsPrintedAs Walk t = IsListed o.kind_id s root t
  IsPrintedAs Locations t = AreLocated o.kind_id s root t
  IsPrintedAs (View uses) t = t ≡ graph o s uses root
  IsPrintedAs CallGraph t = IsDrawn o names s root t
  IsPrintedAs (Trace order direction) t = IsTraced o.kind_id s (config_for order direction) root t

-- A text stands for an operation, which with all below it is right; the passes were run over it, one after another,
-- and behind each all there is right again, if that is to be verified; and what is printed is what is asked for of
-- the operation then. `stands_for` says what a text stands for, `has_passed` what one run of each
-- pass leaves.
pub record IsTransformed {D K A T E P : Type 0} (o : op_set.Ghosts D K A T E) (uses_hold rule : UseRule K A T)
    (names : OpView K A → List (List ℕ)) (stands_for : ReadRule K A T) (has_passed : RunRule P K A T) (verify : Bool)
    (passes : List P) (form : Form) (text printed : List ℕ) : Type 0 where
  pub root : Ptr OperationKind
  pub read : ContextView K A T
  pub left : ContextView K A T
  pub stands : stands_for text read root
  pub verified : AllHaveRules o uses_hold rule read root
  pub passed : AreRun o has_passed root uses_hold rule verify passes read left
  pub prints : IsPrintedAs o names left root form printed
