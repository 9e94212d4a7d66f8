-- Which nodes bear names.
use Rattle.std.specs.Prelude.{◌≡◌, ◌||◌, ℕ, Bool, true, false, List, is_some, option_and_then}
use Rattle.std.specs.declared.ops.ControlFlow.{ControlFlow}
use Rattle.std.specs.declared.ops.ControlFlow.TheVariants.{Continue, Break}
use Rattle.plir_data.specs.AttrView.{AttrView}
use Rattle.plir_data.specs.Dictionary.{dict_get}
use Rattle.plir_data.specs.Keys.{names_key}
use Rattle.plir_core.specs.declared.ptr.IRNode.{IRNode}
use Rattle.plir_core.specs.declared.ptr.IRNode.TheVariants.{Operation, Region, BasicBlock}
use Rattle.plir_core.specs.ContextView.{ContextView, attributes_of, block_attributes_of, children, label_of}
use Rattle.plir_walk.specs.declared.interruptible.WalkContinue.{WalkContinue}
use Rattle.plir_walk.specs.declared.interruptible.WalkContinue.TheVariants.{Advance, Skip}
use Rattle.plir_walk.specs.GivenNames.{names_of}
use Rattle.plir_walk.specs.Tree.{IsUnder}

-- whether names stand among attributes, under their key
abbrev pub has_names : {A : Type 0} → List (List ℕ × AttrView A) → Bool
has_names es = is_some (option_and_then names_of (dict_get es names_key))

module _ {K A T : Type 0} (s : ContextView K A T) where
  -- whether a node bears names: an operation those of its results, a block those of its arguments, or a label
  abbrev pub is_named : IRNode → Bool
  is_named (Operation p) = has_names (attributes_of s p)
  is_named (BasicBlock p) = has_names (block_attributes_of s p) || is_some (label_of s p)
  is_named (Region p) = false

  -- some node at or below r does
  pub record HasNamed (r : IRNode) : Type 0 where
    pub node : IRNode
    pub under : IsUnder (children s) r node
    pub named : is_named node ≡ true

  -- no node there does
  abbrev pub IsNamedNowhere : (r : IRNode) → Type 0
  IsNamedNowhere r = (n : IRNode) → IsUnder (children s) r n → is_named n ≡ false

  -- a look at a node breaks a walk off where the node bears names, and else it goes on
  abbrev pub IsLookedAt : IRNode → ControlFlow (Unit {0}) WalkContinue → Type 0
  IsLookedAt n (Continue Advance) = is_named n ≡ false
  IsLookedAt n (Continue Skip) = ⊥
  IsLookedAt n (Break b) = is_named n ≡ true
