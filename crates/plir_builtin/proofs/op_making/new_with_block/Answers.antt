use Rattle.std.proofs.Common.{rules, ◌≡◌, ◌+◌, ◌-◌, ◌<◌, ◌≤◌, ◌^◌, suc, zero, [], ◌∷◌, Err, inl, inr}
use Rattle.std.proofs.Common.{sym, ap, subst, ◌∙◌, arith}
use Rattle.std.proofs.lemmas.Bool.{cases_lt}
use Rattle.plir_store.specs.TableLaws.{num_full-with_new}
use Rattle.plir_store.specs.Table.{next_slot}
use Rattle.plir_core.specs.Changes.{with_op}
use Rattle.plir_core.specs.Contents.{OpView, op_view}
use Rattle.plir_core.specs.Room.{IsFullForBlock}
use Rattle.plir_core.specs.ContextView.{ContextView, children, limit, num_live}
use Rattle.plir_core.specs.Stored.{IsStored}
use Rattle.plir_builtin.specs.BuiltinOps.{IsFullForOneBlock, block_view, with_first_block}
use Rattle.plir_core.specs.Erase.{IsErased}
use Rattle.plir_core.specs.Nodes.{is_node_live, ptr_at}
use Rattle.plir_core.specs.Unused.{IsUnusedOutside}
use Rattle.plir_core.specs.declared.arena.making.NodeErr.TheVariants.{TooManyNodes}
use Rattle.plir_core.specs.declared.ptr.IRNode.TheVariants.{Operation, Region}
use Rattle.plir_builtin.proofs.Single.{not_true}
use Rattle.plir_builtin.proofs.op_making.new_with_block.Goals as goal

pub erase-requires-clause-unused : goal.erase-requires-clause-unused
erase-requires-clause-unused g c =
    let op = Operation c.in_ok-op.op in
    subst (λ z. IsUnusedOutside z op) (sym c.in-Err.ensures.err)
    (c.what_was_made_is_unused.ensures c.with_attributes.new.ctx op c.in_ok-op.ensures.made.made)

pub returns-in-Ok-clause-made : goal.returns-in-Ok-clause-made
returns-in-Ok-clause-made g c =
    let s = c.args.ctx.now in
    let op = Operation c.in_ok-op.op in
    let added = c.in-Ok.ensures.added in
    let region = Region added.region in
    let made = c.in_ok-op.ensures.made.made in
    let new = not_true (is_node_live s.nodes region) (λ old. made.apart region old (suc zero, added.over)) in
    c.growth.ensures.made c.with_attributes.new.ctx.nodes c.add_block.new.ctx.nodes op region
    c.in_ok-op.ensures.whole.stored made added.region_live new added.grown

pub returns-in-Err-clause-err : goal.returns-in-Err-clause-err
returns-in-Err-clause-err g c =
    let t = c.with_attributes.new.ctx in
    let v = c.erase.new.ctx in
    let op = Operation c.in_ok-op.op in
    let erased = subst (λ z. IsErased z.nodes v.nodes op) c.in-Err.ensures.err c.erase.ensures.tree in
    record {
      nodes = c.growth.ensures.unmade t.nodes v.nodes op c.in_ok-op.ensures.made.made erased;
      types =
          ap (λ z. z.types) c.erase.ensures.after ∙ c.in-Err.ensures.types
          ∙ ap (λ z. z.types) c.in_ok-op.ensures.made.after;
    }

pub returns-in-Ok-clause-after : goal.returns-in-Ok-clause-after
returns-in-Ok-clause-after g c =
    let s = c.args.ctx.now in
    let v = c.with_attributes.new.ctx in
    let added = c.in-Ok.ensures.added in
    let held = op_view c.args.kind [] [] [] c.args.attributes in
    let made : v ≡ with_op s held 1 = search rules in
    let one : children v (Operation (ptr_at v.nodes.ops (next_slot s.nodes.ops))) ≡ Region added.region ∷ [] =
    subst (λ p. children v (Operation p) ≡ Region added.region ∷ []) c.in_ok-op.ensures.made.pointer
    added.only_region in
    record {
      region = added.region;
      only_region =
          subst (λ u. children u (Operation (ptr_at u.nodes.ops (next_slot s.nodes.ops))) ≡ Region added.region ∷ [])
          made one;
      after =
          added.after ∙ ap (λ u. with_first_block u added.region (block_view c.args.label c.args.arg_types.items)) made;
    }

-- an operation with a region was made: two more nodes are live, and blocks are as before
module _ {K A T : Type 0} (s u : ContextView K A T) (held : OpView K A)
    (w : IsStored s.nodes) (made : u ≡ with_op s held 1) where
  two-more : num_live u ≡ num_live s + 2
  two-more =
      let op = num_full-with_new s.nodes.ops held w.op_slots in
      let region = num_full-with_new s.nodes.regions (record {}) w.region_slots in
      ap num_live made ∙ omega (arith, op, region)

  full-before : IsFullForBlock u.nodes → IsFullForOneBlock s
  full-before full = elim full [
    | inl n ↦ let l : limit u ≡ limit s = ap limit made in inl (omega (arith, n, l, two-more))
    | inr b ↦ inr (inr (subst (λ z. 2 ^ 32 - 1 ≤ next_slot z.nodes.blocks) made b))
  ]

  room-was : (limit s < num_live s + 2 → ⊥) → (IsFullForBlock u.nodes → ⊥) → limit s < num_live s + 3 → ⊥
  room-was op block few = elim (cases_lt (limit s) (num_live s + 2)) [
    | inl h ↦ op h
    | inr h ↦ let l : limit u ≡ limit s = ap limit made in block (inl (omega (arith, few, h, l, two-more)))
  ]

pub returns-in-Ok-clause-too_many : goal.returns-in-Ok-clause-too_many
returns-in-Ok-clause-too_many g c few =
    let s = c.args.ctx.now in
    let v = c.with_attributes.new.ctx in
    let held = op_view c.args.kind [] [] [] c.args.attributes in
    let made : v ≡ with_op s held 1 = search rules in
    let op : limit s < num_live s + 2 → ⊥ =
    λ h. let e = c.with_attributes.ensures.too_many (omega (arith, h)) in let z : ⊥ = cc (e, c.in_ok-op.was) in z in
    let block : IsFullForBlock v.nodes → ⊥ =
    λ full. let e = c.add_block.ensures.too_many.1 full in let z : ⊥ = cc (e, c.in-Ok.is) in z in
    absurd (room-was s v held c.stands.ensures.whole.stored made op block few)

pub returns-in-Err-clause-too_many_only : goal.returns-in-Err-clause-too_many_only
returns-in-Err-clause-too_many_only g c e =
    let s = c.args.ctx.now in
    let v = c.with_attributes.new.ctx in
    let held = op_view c.args.kind [] [] [] c.args.attributes in
    let made : v ≡ with_op s held 1 = search rules in
    let why : c.in-Err.refused ≡ TooManyNodes = cc (e) in
    full-before s v held c.stands.ensures.whole.stored made (c.add_block.ensures.too_many.0 (c.in-Err.is ∙ ap Err why))
