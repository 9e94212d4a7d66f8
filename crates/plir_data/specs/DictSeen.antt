-- A dictionary as contracts see it.
use Rattle.std.specs.Prelude.{ℕ, List, map}
use Rattle.plir_data.specs.AttrView.{AttrView}
use Rattle.plir_data.specs.AttrSeen.{attr_view}
use Rattle.plir_data.specs.declared.attributes.AttrObj.{AttrObj}

abbrev pub pairs_view : {D K A T E : Type 0} → List (List ℕ × AttrObj D K A T E) → List (List ℕ × AttrView A)
pairs_view ps = map (λ p. (p.0, attr_view p.1)) ps
