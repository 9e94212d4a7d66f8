-- Nodes that nothing uses.
use Rattle.std.proofs.Common.{◌≡◌, ℕ, ◌<◌, ◌≤◌, Bool, true, false, cond, List, length, get_or, Option, Some, None, refl}
use Rattle.std.proofs.Common.{ap, subst, arith, eq-eqb}
use Rattle.std.specs.Prelude.{count_by}
use Rattle.std.proofs.lemmas.Bool.{eqb-true}
use Rattle.std.proofs.lemmas.List.Sums.{get_or-le-sum_by}
use Rattle.plir_store.specs.Table.{Table, content_at}
use Rattle.plir_core.specs.declared.ptr.IRNode.{IRNode}
use Rattle.plir_core.specs.declared.ptr.IRNode.TheVariants.{Operation, Region, BasicBlock}
use Rattle.plir_core.specs.declared.value.DefiningEntity.{DefiningEntity}
use Rattle.plir_core.specs.declared.value.DefiningEntity.TheVariants.{Op, Block}
use Rattle.plir_core.specs.Contents.{OpView}
use Rattle.plir_core.specs.Stored.{Seat, region, seat_of}
use Rattle.plir_core.specs.ContextView.{ContextView, entity_node, operands_in, successors_in}
use Rattle.plir_core.specs.Uses.{is_seated, values_from, blocks_in, uses_held, uses_of, is_not_used}
use Rattle.plir_core.proofs.Counting.{uses-none, held-none}
use Rattle.plir_core.proofs.Counted.{count_none}

-- no region is used
pub region_unused : {K A : Type 0} (t : Table (OpView K A)) (i : ℕ) → uses_of t (region i) ≡ 0
region_unused {K} {A} t i = uses-none t (region i) (λ k. held (content_at t k))
  where
    never : (n : IRNode) → is_seated (region i) n ≡ false
    never (Operation p) = refl
    never (Region p) = refl
    never (BasicBlock p) = refl

    held : (o : Option (OpView K A)) → uses_held (region i) o ≡ 0
    held None = refl
    held (Some v) =
        let a = count_none (λ x. is_seated (region i) (entity_node x.entity)) v.operands
        (λ k d b. never (entity_node (get_or v.operands k d).entity)) in
        let z = count_none (λ x. is_seated (region i) (BasicBlock x)) v.successors
        (λ k d b. never (BasicBlock (get_or v.successors k d))) in
        omega arith

-- a use is counted
pub seated_value : (d : DefiningEntity) → is_seated (seat_of (entity_node d)) (entity_node d) ≡ true
seated_value (Op p) = eq-eqb p.slot p.slot refl
seated_value (Block p) = eq-eqb p.slot p.slot refl

module _ {K A : Type 0} where
  pub values_some : (at : Seat) (o : Option (OpView K A)) → uses_held at o ≡ 0 → values_from at (operands_in o) ≡ 0
  values_some at None e = refl
  values_some at (Some v) e = omega arith

  pub blocks_some : (at : Seat) (o : Option (OpView K A)) → uses_held at o ≡ 0 → blocks_in at (successors_in o) ≡ 0
  blocks_some at None e = refl
  blocks_some at (Some v) e = omega arith

pub none_passes : {X : Type 0} (p : X → Bool) (xs : List X) (k : ℕ) (d : X) → k < length xs → p (get_or xs k d) ≡ true →
    count_by p xs ≡ 0 → ⊥
none_passes p xs k d h e zero_all =
    let a = get_or-le-sum_by (λ x. cond (p x) 1 0) xs k d h in
    let b = ap (λ (z : Bool). cond {A = ℕ} z 1 0) e in
    let one : 1 ≤ count_by p xs = subst (λ z. z ≤ count_by p xs) b a in
    omega arith

module _ {K A T : Type 0} (s : ContextView K A T) where
  -- what is not used is used by no operation
  pub unused_by : (n : IRNode) (i : ℕ) → is_not_used s n ≡ true → uses_held (seat_of n) (content_at s.nodes.ops i) ≡ 0
  unused_by n i e = held-none s.nodes.ops (seat_of n) i (eqb-true (uses_of s.nodes.ops (seat_of n)) 0 e)
