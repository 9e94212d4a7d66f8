-- What a refused make leaves of the slots.
use Rattle.std.specs.Prelude.{◌≡◌, ℕ, ◌≤◌, ◌⊎◌}
use Rattle.plir_store.specs.Table.{next_slot}
use Rattle.plir_core.specs.declared.ptr.IRNode.TheVariants.{Operation}
use Rattle.plir_core.specs.Nodes.{Nodes, ptr_at}
use Rattle.plir_core.specs.Edits.{with_new_op, with_new_regions}
use Rattle.plir_core.specs.Erase.{erased}

module _ {O B : Type 0} where
  -- an operation that holds v and k regions of it were made, and all of it was freed again
  abbrev pub made_and_freed : Nodes O B → O → ℕ → Nodes O B
  made_and_freed s v k = erased (with_new_regions (with_new_op s v) (next_slot s.ops) k)
      (Operation (ptr_at (with_new_op s v).ops (next_slot s.ops)))

  -- nothing was made, or an operation with at most n regions was, and was freed again
  abbrev pub IsUnmade : Nodes O B → Nodes O B → O → ℕ → Type 0
  IsUnmade s t v n = (t ≡ s) ⊎ ((k : ℕ) × ((k ≤ n) × (t ≡ made_and_freed s v k)))
