-- What is asked of a child that is put at a point, from its parts.
use Rattle.std.proofs.Common.{◌≡◌, ◌∙◌, true, None, IsSome, sym, subst}
use Rattle.plir_core.specs.declared.arena.moving.Point.{Point}
use Rattle.plir_core.specs.declared.arena.moving.Point.TheVariants.{Before, After}
use Rattle.plir_core.specs.declared.ptr.Ptr.{Ptr}
use Rattle.plir_core.specs.declared.ptr.IRNode.{IRNode}
use Rattle.plir_core.specs.Above.{Reaches}
use Rattle.plir_core.specs.Nodes.{Nodes, is_node_live, node_parent}
use Rattle.plir_core.specs.Placed.{IsUnlinked}
use Rattle.plir_core.specs.Points.{CanBePut, IsMarkLinked, named}
use Rattle.plir_core.proofs.Apart.{moved_live, moved_apart, moved_other}

pub can_be_put : {O B P C : Type 0} {s : Nodes O B} {over : Ptr P → IRNode} {under : Ptr C → IRNode} {c : Ptr C}
    {at : Point P C} → is_node_live s (under c) ≡ true → is_node_live s (named s over under at) ≡ true → node_parent s
    (under c) ≡ None → IsMarkLinked s over under at → (Reaches (node_parent s) (named s over under at) (under c) → ⊥) →
    CanBePut s over under c at
can_be_put live named_live unlinked linked not_above = record {
  live = live;
  named_live = named_live;
  unlinked = unlinked;
  linked = linked;
  not_above = not_above;
}

-- A child that was taken out can be put beside a mark that does not stand below it.
module _ {O B P C : Type 0} {s t : Nodes O B} (over : Ptr P → IRNode) (under : Ptr C → IRNode) (c mark : Ptr C)
    (out : IsUnlinked s t (under c)) (live : is_node_live s (under c) ≡ true)
    (mark_live : is_node_live s (under mark) ≡
    true) (linked : IsSome (node_parent s (under mark))) (away : Reaches (node_parent s) (under mark) (under c) → ⊥)
  where
    still_linked : IsSome (node_parent t (under mark))
    still_linked = subst IsSome (sym (moved_other s t (under c) out.moved (under mark) away)) linked

    still_away : Reaches (node_parent t) (under mark) (under c) → ⊥
    still_away = moved_apart s t (under c) out.moved (under mark) (under c) away away

    pub still_before : CanBePut t over under c (Before mark)
    still_before = can_be_put (moved_live s t (under c) out.moved (under c) ∙ live)
        (moved_live s t (under c) out.moved (under mark) ∙ mark_live) out.parent still_linked still_away

    pub still_behind : CanBePut t over under c (After mark)
    still_behind = can_be_put (moved_live s t (under c) out.moved (under c) ∙ live)
        (moved_live s t (under c) out.moved (under mark) ∙ mark_live) out.parent still_linked still_away
