-- The sibling that a walk enters next, by the lists of children.
use Rattle.std.proofs.Common.{◌≡◌, ℕ, Bool, true, false, cond, Option, Some, None, refl, sym, ap, ◌∙◌}
use Rattle.std.specs.Prelude.{option_map, option_and_then}
use Rattle.std.proofs.lemmas.Option.{same_Some, none-some}
use Rattle.plir_store.specs.Lists.{parent_at}
use Rattle.plir_store.specs.Table.{is_live_at}
use Rattle.plir_core.specs.declared.ptr.IRNode.{IRNode}
use Rattle.plir_core.specs.declared.ptr.IRNode.TheVariants.{Operation, Region, BasicBlock}
use Rattle.plir_core.specs.Nodes.{Nodes, block_node, is_node_live, node_children, node_next, node_parent, node_prev}
use Rattle.plir_core.specs.Nodes.{op_node, region_node}
use Rattle.plir_core.specs.Stored.{IsStored}
use Rattle.plir_walk.specs.declared.config.Direction.{Direction}
use Rattle.plir_walk.specs.declared.config.Direction.TheVariants.{Forward, Reverse}
use Rattle.plir_walk.specs.declared.config.WalkConfig.{WalkConfig}
use Rattle.plir_walk.specs.Config.{direction_of}
use Rattle.plir_walk.specs.Step.{after, direction_above, taken}
use Rattle.plir_walk.proofs.ListLinks.{next-is, prev-is}

module _ {O B : Type 0} (w : WalkConfig) (s : Nodes O B) where
  -- what nodes of one kind stand in is of one kind, and so taken in one direction
  one-kind : (f : ℕ → IRNode) (d : Direction) → ((i : ℕ) → direction_of w (f i) ≡ d) → (b : Bool) (o : Option ℕ)
      (a : IRNode)
      → cond b (option_map f o) None ≡ Some a → direction_of w a ≡ d
  one-kind f d h false o a e = absurd (none-some a e)
  one-kind f d h true None a e = absurd (none-some a e)
  one-kind f d h true (Some i) a e = ap (direction_of w) (sym (same_Some (f i) a e)) ∙ h i

  parent-taken : (n a : IRNode) → node_parent s n ≡ Some a → direction_of w a ≡ direction_above w n
  parent-taken (Operation p) a e =
      one-kind (block_node s) w.ops_in_block.1 (λ i. refl) (is_live_at s.ops p.slot p.version)
      (parent_at s.ops_in_block p.slot) a e
  parent-taken (Region p) a e =
      one-kind (op_node s) w.regions_in_op.1 (λ i. refl) (is_live_at s.regions p.slot p.version)
      (parent_at s.regions_in_op p.slot) a e
  parent-taken (BasicBlock p) a e =
      one-kind (region_node s) w.blocks_in_region.1 (λ i. refl) (is_live_at s.blocks p.slot p.version)
      (parent_at s.blocks_in_region p.slot) a e

  after-taken : (n : IRNode) (d : Direction) (o : Option IRNode) → ((a : IRNode) → o ≡ Some a → direction_of w a ≡ d)
      → option_and_then (λ a. after n (taken d (node_children s a))) o
      ≡ option_and_then (λ a. after n (taken (direction_of w a) (node_children s a))) o
  after-taken n d None h = refl
  after-taken n d (Some a) h = ap (λ v. after n (taken v (node_children s a))) (sym (h a refl))

  module _ (stored : IsStored s) (n : IRNode) (live : is_node_live s n ≡ true) where
    pub next-taken : direction_above w n ≡ Forward
        → node_next s n ≡ option_and_then (λ a. after n (taken (direction_of w a) (node_children s a)))
        (node_parent s n)
    next-taken d = next-is s stored n live ∙ after-taken n Forward (node_parent s n) (λ a q. parent-taken n a q ∙ d)

    pub prev-taken : direction_above w n ≡ Reverse
        → node_prev s n ≡ option_and_then (λ a. after n (taken (direction_of w a) (node_children s a)))
        (node_parent s n)
    prev-taken d = prev-is s stored n live ∙ after-taken n Reverse (node_parent s n) (λ a q. parent-taken n a q ∙ d)
