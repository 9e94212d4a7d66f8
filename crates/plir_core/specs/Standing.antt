-- What every whole context keeps of the nodes that stand in it.
use Rattle.std.specs.Prelude.{◌<◌, ◌≤◌, ◌^◌}
use Rattle.plir_core.specs.Forest.{look, IsForest}
use Rattle.plir_core.specs.Measures.{IsMeasured}
use Rattle.plir_core.specs.ContextView.{ContextView, limit, num_live}

module _ {K A T : Type 0} where
  -- The nodes make a forest, no more are live than may be, and how deep they stand and how many they are is bounded.
  pub record IsStanding (s : ContextView K A T) : Type 0 where
    pub forest : IsForest (look s)
    pub within : num_live s ≤ limit s
    pub limit_fits : limit s < 2 ^ 32
    pub measured : IsMeasured s
