-- Room for the nodes of a text.
use Rattle.std.proofs.Common.{◌≡◌, ℕ, ◌+◌, List, [], ◌∷◌, ◌++◌, length, refl, sym, ap, subst, ◌∙◌, arith}
use Rattle.plir_store.specs.Table.{num_full}
use Rattle.plir_store.specs.TableLaws.{num_full-with_new}
use Rattle.plir_core.specs.Changes.{with_op}
use Rattle.plir_core.specs.Contents.{OpView}
use Rattle.plir_core.specs.ContextView.{ContextView}
use Rattle.plir_core.specs.Nodes.{num_nodes}
use Rattle.plir_core.specs.Room.{NodeCount, in_all, together, no_node, AreGiven, HaveCome}
use Rattle.plir_core.specs.RoomLaws.{none_together, together_assoc, new_given}
use Rattle.plir_core.specs.Stored.{IsStored}
use Rattle.plir_read.specs.OpTerms.{OpTerm, BlockTerm, ops_of, blocks_of}
use Rattle.plir_read.specs.Room.{one_with_region, op_count, block_count, ops_count, blocks_count}

-- how many nodes there are in several things
module _ {X : Type 0} (count : X → NodeCount) where
  abbrev pub count_all : List X → NodeCount
  count_all [] = no_node
  count_all (x ∷ xs) = together (count x) (count_all xs)

  pub count_append : (xs ys : List X) → count_all (xs ++ ys) ≡ together (count_all xs) (count_all ys)
  count_append [] ys = sym (none_together (count_all ys))
  count_append (x ∷ xs) ys =
      ap (λ c. together (count x) c) (count_append xs ys) ∙
      sym (together_assoc (count x) (count_all xs) (count_all ys))

pub ops_counted : (os : List OpTerm) → ops_count (ops_of os) ≡ count_all op_count os
ops_counted [] = refl
ops_counted (o ∷ os) = ap (λ c. together (op_count o) c) (ops_counted os)

pub blocks_counted : (bs : List BlockTerm) → blocks_count (blocks_of bs) ≡ count_all block_count bs
blocks_counted [] = refl
blocks_counted (b ∷ bs) = ap (λ c. together (block_count b) c) (blocks_counted bs)

-- an operation is made with its region
module _ {K A T : Type 0} (s : ContextView K A T) (w : IsStored s.nodes) where
  op_came : (v : OpView K A) → HaveCome s.nodes (with_op s v 1).nodes one_with_region
  op_came v = record {
    limit = refl;
    live = omega (
      arith,
      num_full-with_new s.nodes.ops v w.op_slots,
      num_full-with_new s.nodes.regions (record {}) w.region_slots,
    );
    ops = new_given s.nodes.ops v;
    regions = new_given s.nodes.regions (record {});
    blocks = omega arith;
  }

  pub op_comes : (t : ContextView K A T) (v : OpView K A) → t ≡ with_op s v 1
      → HaveCome s.nodes t.nodes one_with_region
  op_comes t v e = subst (λ z. HaveCome s.nodes z.nodes one_with_region) (sym e) (op_came v)
