-- Operations that have got places in a text.
use Rattle.std.specs.Prelude.{◌≡◌, List, [], ◌∷◌}
use Rattle.plir_data.specs.declared.location.Location.{Location}
use Rattle.plir_core.specs.declared.ptr.Ptr.{Ptr}
use Rattle.plir_core.specs.declared.ptr.Operation.{Operation as OperationKind}
use Rattle.plir_core.specs.Changes.{with_op_edit}
use Rattle.plir_core.specs.ContextView.{ContextView}
use Rattle.plir_places.specs.TreeOps.{AreOps}

module _ {K A T : Type 0} where
  -- an operation has got a place in a text
  abbrev pub with_place : ContextView K A T → Ptr OperationKind → Location → ContextView K A T
  with_place s p l = with_op_edit s p (λ o. record o { location = l })

  -- The first of some operations has got the first of some places, the second the second, as far as both go, and
  -- nothing else has changed.
  abbrev pub with_places : ContextView K A T → List (Ptr OperationKind) → List Location → ContextView K A T
  with_places s [] ls = s
  with_places s (p ∷ ps) [] = s
  with_places s (p ∷ ps) (l ∷ ls) = with_places (with_place s p l) ps ls

  -- From s to t the operations at or below the root have got these places, in the order of the tree, as far as both go,
  -- and nothing else has changed.
  pub record ArePlaced (s t : ContextView K A T) (root : Ptr OperationKind) (places : List Location) : Type 0 where
    pub ops : List (Ptr OperationKind)
    pub are_ops : AreOps s root ops
    pub placed : t ≡ with_places s ops places
