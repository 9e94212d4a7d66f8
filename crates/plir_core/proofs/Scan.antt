-- The scan over all operations for one outside a tree that uses what is in it.
use Rattle.std.proofs.Common.{◌≡◌, ℕ, ◌+◌, ◌<◌, ◌≤◌, Bool, true, false, List, length, slice_index_or, Some, None, inl}
use Rattle.std.proofs.Common.{inr, refl, sym, ◌∙◌, ap, subst, arith}
use Rattle.std.specs.Prelude.{All}
use Rattle.std.proofs.lemmas.Bool.{cases_lt}
use Rattle.plir_store.specs.Table.{content_at}
use Rattle.plir_core.specs.declared.ptr.Ptr.{Ptr}
use Rattle.plir_core.specs.declared.ptr.Operation.{Operation as OperationKind}
use Rattle.plir_core.specs.declared.ptr.BasicBlock.{BasicBlock as BlockKind}
use Rattle.plir_core.specs.declared.ptr.IRNode.{IRNode}
use Rattle.plir_core.specs.declared.ptr.IRNode.TheVariants.{Operation, BasicBlock}
use Rattle.plir_core.specs.declared.value.Value.{Value}
use Rattle.plir_core.specs.declared.value.DefiningEntity.{DefiningEntity}
use Rattle.plir_core.specs.Above.{Reaches}
use Rattle.plir_core.specs.Nodes.{Nodes, ptr_at, is_node_live, node_parent}
use Rattle.plir_core.specs.Contents.{OpView, BlockView}
use Rattle.plir_core.specs.ContextView.{ContextView, IsLive, IsAncestor, entity_node, operands_in, successors_in}
use Rattle.plir_core.specs.Unused.{UsesNoneOf, IsUnusedAt, IsUnusedOutside}
use Rattle.plir_core.proofs.Listing.{some_none, within_content}
use Rattle.plir_core.proofs.Facts.{live_parts}
use Rattle.plir_core.proofs.Freed.{ptr_one}
use Rattle.plir_core.proofs.Ancestors.{AllSoFar, AllSoFar-next, not_all}

-- what holds of the entities of values, with the next value's entity read
pub not_all_values : (P : DefiningEntity → Type 0) (vs : List Value) (n : ℕ) (d : Value) (x : DefiningEntity) → x ≡
    (slice_index_or vs n d).entity → n < length vs → (P x → ⊥) → All (λ v. P v.entity) vs → ⊥
not_all_values P vs n d x e h not all = not_all (λ v. P v.entity) vs n d h (subst (λ z. P z → ⊥) e not) all

pub more_values : (P : DefiningEntity → Type 0) (vs : List Value) (n : ℕ) (d : Value) (x : DefiningEntity) → x ≡
    (slice_index_or vs n d).entity → AllSoFar (λ v. P v.entity) vs n → n < length vs → P x → AllSoFar (λ v. P v.entity)
    vs (n + 1)
more_values P vs n d x e all h here = AllSoFar-next (λ v. P v.entity) vs n d all h (subst P e here)

-- What an operation uses: s is made of the fields, and t is the value.
module _ {K A T : Type 0} (s t : ContextView K A T) (view : s ≡ t) (n : IRNode) (op : Ptr OperationKind)
    (v : OpView K A) (held : content_at s.nodes.ops op.slot ≡ Some v) where
  abbrev away_value : Value → Type 0
  away_value x = Reaches (node_parent s.nodes) (entity_node x.entity) n → ⊥

  abbrev away_block : Ptr BlockKind → Type 0
  away_block b = Reaches (node_parent s.nodes) (BasicBlock b) n → ⊥

  pub none_told : (vs : List Value) (bs : List (Ptr BlockKind)) → vs ≡ v.operands → bs ≡ v.successors → All away_value
      vs → All away_block bs → UsesNoneOf t n op
  none_told vs bs ev eb none_v none_b = subst (λ z. UsesNoneOf z n op) view (record {
    operands = subst (λ xs. All away_value xs) (ev ∙ sym (ap operands_in held)) none_v;
    successors = subst (λ xs. All away_block xs) (eb ∙ sym (ap successors_in held)) none_b;
  })

  here : UsesNoneOf t n op → UsesNoneOf s n op
  here u = subst (λ z. UsesNoneOf z n op) (sym view) u

  pub operands_told : (vs : List Value) → vs ≡ v.operands → UsesNoneOf t n op → All away_value vs
  operands_told vs ev u = subst (λ xs. All away_value xs) (sym (ev ∙ sym (ap operands_in held))) (here u).operands

  pub successors_told : (bs : List (Ptr BlockKind)) → bs ≡ v.successors → UsesNoneOf t n op → All away_block bs
  successors_told bs eb u = subst (λ xs. All away_block xs) (sym (eb ∙ sym (ap successors_in held))) (here u).successors

-- no live operation in the first i slots that is outside the tree under n uses what is in it
abbrev pub IsUnusedBelow : {K A T : Type 0} → ContextView K A T → IRNode → ℕ → Type 0
IsUnusedBelow s n i = (k : ℕ) → k < i → IsUnusedAt s n k

module _ {K A T : Type 0} (s : ContextView K A T) (n : IRNode) where
  pub IsUnusedBelow-none : IsUnusedBelow s n 0
  IsUnusedBelow-none k h = absurd (omega arith)

  pub IsUnusedBelow-more : (i : ℕ) → IsUnusedBelow s n i → IsUnusedAt s n i → IsUnusedBelow s n (i + 1)
  IsUnusedBelow-more i below here k h = elim (cases_lt k i) [
    | inl less ↦ below k less
    | inr past ↦ let e : i ≡ k = omega arith in subst (IsUnusedAt s n) e here
  ]

  pub IsUnusedBelow-all : (i : ℕ) → length s.nodes.ops.slots ≤ i → IsUnusedBelow s n i → IsUnusedOutside s n
  IsUnusedBelow-all i h below op live out =
      let some = (live_parts s.nodes.ops op.slot op.version live).0 in
      let within = within_content s.nodes.ops op.slot some in
      below op.slot (omega arith) op refl live out

  pub IsUnusedAt-outside : (i : ℕ) → IsUnusedOutside s n → IsUnusedAt s n i
  IsUnusedAt-outside i u op e live out = u op live out

  -- a slot with no operation
  pub IsUnusedAt-none : (i : ℕ) (nodes : Nodes (OpView K A) (BlockView A)) → nodes ≡ s.nodes → content_at nodes.ops i ≡
      None → IsUnusedAt s n i
  IsUnusedAt-none i nodes is none op e live out =
      absurd (some_none (content_at s.nodes.ops op.slot) ((live_parts s.nodes.ops op.slot op.version live).0)
      (ap (content_at s.nodes.ops) e ∙ ap (λ (z : Nodes (OpView K A) (BlockView A)). content_at z.ops i) (sym is) ∙
      none))

  -- the operation in the slot
  module _ (i : ℕ) (nodes : Nodes (OpView K A) (BlockView A)) (is : nodes ≡ s.nodes) (p : Ptr OperationKind)
      (at : p ≡ ptr_at nodes.ops i) (here : is_node_live nodes (Operation p) ≡ true) where
    live_here : IsLive s (Operation p)
    live_here = subst (λ z. is_node_live z (Operation p) ≡ true) is here

    slot_here : p.slot ≡ i
    slot_here = ap (λ (z : Ptr OperationKind). z.slot) at

    pub IsUnusedAt-op : ((IsAncestor s n (Operation p) → ⊥) → UsesNoneOf s n p) → IsUnusedAt s n i
    IsUnusedAt-op told op e live out =
        let one : op ≡ p = ptr_one s.nodes.ops p op live_here live (e ∙ sym slot_here) in
        subst (UsesNoneOf s n) (sym one) (told (subst (λ z. IsAncestor s n (Operation z) → ⊥) one out))

    pub IsUnusedAt-in : Reaches (node_parent nodes) (Operation p) n → IsUnusedAt s n i
    IsUnusedAt-in r = IsUnusedAt-op (λ out. absurd (out (subst (λ z. Reaches (node_parent z) (Operation p) n) is r)))

    pub IsUnusedAt-told : (Reaches (node_parent nodes) (Operation p) n → ⊥) → IsUnusedAt s n i → UsesNoneOf s n p
    IsUnusedAt-told out u = u p slot_here live_here (subst (λ z. Reaches (node_parent z) (Operation p) n → ⊥) is out)

pub true_unless : (b : Bool) → (b ≡ false → ⊥) → b ≡ true
true_unless true n = refl
true_unless false n = absurd (n refl)
