-- How many operations there are.
use Rattle.std.specs.Prelude.{◌≡◌, ℕ, ◌+◌, ◌-◌, ◌^◌, min, List, [], ◌++◌, codes, length}
use Rattle.std.specs.Fmt.{decimal}
use Rattle.plir_core.specs.declared.ptr.Ptr.{Ptr}
use Rattle.plir_core.specs.declared.ptr.Operation.{Operation as OperationKind}
use Rattle.plir_core.specs.declared.ptr.IRNode.{IRNode}
use Rattle.plir_core.specs.declared.ptr.IRNode.TheVariants.{Operation, Region, BasicBlock}
use Rattle.plir_core.specs.ContextView.{ContextView}
use Rattle.plir_places.specs.TreeOps.{AreOps}
use Rattle.plir_driver.specs.declared.pass_end.PassEnd.{PassEnd}
use Rattle.plir_driver.specs.declared.pass_end.PassEnd.TheVariants.{Changed, Unchanged}
use Rattle.plir_driver.specs.PassEnds.{IsEnd}

-- the greatest number that is told
abbrev pub most : ℕ
most = 2 ^ 64 - 1

-- a node is counted, if it is an operation
abbrev pub IsCounted : ℕ → IRNode → ℕ → Type 0
IsCounted n (Operation p) n' = n' ≡ min (n + 1) most
IsCounted n (Region p) n' = n' ≡ n
IsCounted n (BasicBlock p) n' = n' ≡ n

-- so many operations stand at or below root, or the greatest number that is told is
pub record IsCount {K A T : Type 0} (s : ContextView K A T) (root : Ptr OperationKind) (n : ℕ) : Type 0 where
  pub ops : List (Ptr OperationKind)
  pub are_ops : AreOps s root ops
  pub number : n ≡ min (length ops) most

-- what is told behind the numbers: that nothing has changed, where the pass says so
abbrev pub told_end : PassEnd → List ℕ
told_end Changed = []
told_end Unchanged = codes ", nothing changed"

-- the line of a pass of a name: how many operations there were in front of it, how many behind it, and its end
abbrev pub counts_line : (name : List ℕ) → (before after : ℕ) → PassEnd → List ℕ
counts_line name before after end =
    name ++ (codes ": " ++ (decimal before ++ (codes " operations before, " ++ (decimal after
    ++ (codes " after" ++ (told_end end ++ codes "\n"))))))

module _ {K A T : Type 0} (root : Ptr OperationKind) where
  -- behind a text stands the line of a pass of a name that went from s to u, with what it says of its end
  abbrev pub AreCountsPut : (name : List ℕ) → (s u : ContextView K A T) → List ℕ → List ℕ → Type 0
  AreCountsPut name s u t t' =
      (m : ℕ) × (n : ℕ) × (end : PassEnd) × IsCount s root m × IsCount u root n × IsEnd s u end ×
      (t' ≡ t ++ counts_line name m n end)
