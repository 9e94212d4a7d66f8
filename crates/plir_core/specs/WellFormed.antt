-- What holds of every context.
use Rattle.std.specs.Prelude.{◌≡◌, ℕ, List, Some, All}
use Rattle.plir_store.specs.Table.{content_at}
use Rattle.plir_data.specs.AttrLive.{HandlesLive}
use Rattle.plir_data.specs.Types.{AllLive}
use Rattle.plir_core.specs.declared.ptr.IRNode.TheVariants.{BasicBlock}
use Rattle.plir_core.specs.Stored.{IsStored}
use Rattle.plir_core.specs.Contents.{OpView, BlockView}
use Rattle.plir_core.specs.ContextView.{ContextView, IsLive, IsValueLive}

-- What an operation and a block hold is live; `own_handles` gives the type handles of the user's own attributes.
module _ {K A T : Type 0} (own_handles : A → List ℕ) (s : ContextView K A T) where
  pub record OpHoldsLive (v : OpView K A) : Type 0 where
    pub operands : All (IsValueLive s) v.operands
    pub successors : All (λ b. IsLive s (BasicBlock b)) v.successors
    pub result_types : AllLive s.types v.result_types
    pub attributes : HandlesLive own_handles s.types v.attributes

  pub record BlockHoldsLive (v : BlockView A) : Type 0 where
    pub arg_types : AllLive s.types v.arg_types
    pub attributes : HandlesLive own_handles s.types v.attributes

  pub record HoldsLive : Type 0 where
    pub ops : (o : ℕ) (v : OpView K A) → content_at s.nodes.ops o ≡ Some v → OpHoldsLive v
    pub blocks : (b : ℕ) (v : BlockView A) → content_at s.nodes.blocks b ≡ Some v → BlockHoldsLive v

-- The live nodes form a forest, and what they hold is live.
pub record IsWellFormed {K A T : Type 0} (own_handles : A → List ℕ) (s : ContextView K A T) : Type 0 where
  pub stored : IsStored s.nodes
  pub holds : HoldsLive own_handles s
