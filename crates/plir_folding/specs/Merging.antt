-- Which constants are to be merged, and how far the search for them has come.
use Rattle.std.specs.Prelude.{◌≡◌, ◌≢◌, Bool, true, ◌&&◌, nat_eq, List, [], ◌∷◌, ◌++◌, Option, Some, None, ◌⊎◌}
use Rattle.std.specs.HashMap.{HashMap, get}
use Rattle.std.specs.declared.ops.ControlFlow.{ControlFlow}
use Rattle.std.specs.declared.ops.ControlFlow.TheVariants.{Continue, Break}
use Rattle.plir_walk.specs.declared.interruptible.WalkContinue.{WalkContinue}
use Rattle.plir_walk.specs.declared.interruptible.WalkContinue.TheVariants.{Advance, Skip}
use Rattle.plir_store.specs.Members.{Has}
use Rattle.plir_data.specs.declared.plain_attrs.IntegerAttr.{IntegerAttr}
use Rattle.plir_core.specs.declared.ptr.Ptr.{Ptr}
use Rattle.plir_core.specs.declared.ptr.Operation.{Operation as OperationKind}
use Rattle.plir_core.specs.declared.ptr.BasicBlock.{BasicBlock as BasicBlockKind}
use Rattle.plir_core.specs.declared.ptr.IRNode.{IRNode}
use Rattle.plir_core.specs.declared.ptr.IRNode.TheVariants.{Operation, Region, BasicBlock}
use Rattle.plir_core.specs.declared.value.Value.{Value}
use Rattle.plir_core.specs.ValueUses.{HasUses}
use Rattle.plir_core.specs.Forest.{look, IsBelow}
use Rattle.plir_core.specs.ContextView.{ContextView, children}
use Rattle.plir_folding.specs.declared.merging.Merge.{Merge}
use Rattle.plir_folding.specs.Worth.{Integer, integer_of}
use Rattle.plir_folding.specs.Folded.{result_of}
use Rattle.plir_folding.specs.Merged.{integer_at, IsFirstAmong, IsOfFirst}

-- whether two attributes are the same, as a hash map asks
abbrev pub attr_eq : IntegerAttr → IntegerAttr → Bool
attr_eq a b = nat_eq a.ty b.ty && true && (nat_eq a.value.width b.value.width && nat_eq a.value.bits b.value.bits)

module _ {K A T : Type 0} where
  -- the result of the first constant of an integer among nodes; none, where none of them is one
  abbrev pub IsFirstOrNone : ContextView K A T → List IRNode → Integer → Option Value → Type 0
  IsFirstOrNone s ns n None = (x : IRNode) → Has ns x → integer_at s x ≡ Some n → ⊥
  IsFirstOrNone s ns n (Some v) = (p : Ptr OperationKind) × ((v ≡ result_of p) × IsFirstAmong s ns n p)

  -- a map gives for each integer the result of the first constant of it among nodes
  abbrev pub AreFirsts : {S : Type 0} → ContextView K A T → List IRNode → HashMap IntegerAttr Value S → Type 0
  AreFirsts s ns m = (a : IntegerAttr) → IsFirstOrNone s ns (integer_of a) (get attr_eq m a)

  -- A used result of a constant among nodes is to be merged into another one, that of the first constant among them of
  -- the same integer.
  pub record IsMerge (s : ContextView K A T) (ns : List IRNode) (m : Merge) : Type 0 where
    pub of : IsOfFirst s ns m.from m.into
    pub other : m.from ≢ m.into
    pub used : HasUses s m.from

  -- From ms to ms' exactly what is to be merged among nodes has been listed.
  pub record AreListed (s : ContextView K A T) (ns : List IRNode) (ms ms' : List Merge) : Type 0 where
    pub kept : (m : Merge) → Has ms m → Has ms' m
    pub only : (m : Merge) → Has ms' m → Has ms m ⊎ IsMerge s ns m
    pub all : (m : Merge) → IsMerge s ns m → Has ms' m

  -- From fs and ms to fs' and ms' the next node has been looked at: behind nodes whose first constants fs gives, and of
  -- which all is listed.
  pub record IsNoted {S : Type 0} (s : ContextView K A T) (p : Ptr OperationKind) (fs : HashMap IntegerAttr Value S)
      (ms : List Merge) (fs' : HashMap IntegerAttr Value S) (ms' : List Merge) : Type 0 where
    pub firsts : (ns : List IRNode) → AreFirsts s ns fs → AreFirsts s (ns ++ Operation p ∷ []) fs'
    pub merges : (ns : List IRNode) (ms₀ : List Merge) → (Has ns (Operation p) → ⊥) → AreFirsts s ns fs →
        AreListed s ns ms₀ ms → AreListed s (ns ++ Operation p ∷ []) ms₀ ms'

  -- From ms to ms' what is to be merged in a node has been listed: in a block, that is; elsewhere nothing is.
  abbrev pub AreListedIn : ContextView K A T → IRNode → List Merge → List Merge → Type 0
  AreListedIn s (Operation p) ms ms' = ms' ≡ ms
  AreListedIn s (Region p) ms ms' = ms' ≡ ms
  AreListedIn s (BasicBlock b) ms ms' = AreListed s (children s (BasicBlock b)) ms ms'

  -- what a call at a node does: it lists, and the walk goes on; or it breaks it off
  abbrev pub IsScanned : {B : Type 0} → ContextView K A T → List Merge → IRNode → ControlFlow B WalkContinue →
      List Merge → Type 0
  IsScanned s ms n (Continue Advance) ms' = AreListedIn s n ms ms'
  IsScanned s ms n (Continue Skip) ms' = ⊥
  IsScanned s ms n (Break b) ms' = Unit {0}

  -- Exactly what is to be merged in the blocks below a node.
  pub record AreMergesBelow (s : ContextView K A T) (r : IRNode) (ms : List Merge) : Type 0 where
    pub only : (m : Merge) → Has ms m →
        (b : Ptr BasicBlockKind) × (IsBelow (look s) r (BasicBlock b) × IsMerge s (children s (BasicBlock b)) m)
    pub all : (b : Ptr BasicBlockKind) → IsBelow (look s) r (BasicBlock b) → (m : Merge) →
        IsMerge s (children s (BasicBlock b)) m → Has ms m
