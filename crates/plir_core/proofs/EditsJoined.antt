-- An edit of what an operation or a block holds leaves all else as it was.
use Rattle.std.proofs.Common.{◌≡◌, ℕ, List, [], ◌∷◌, map, Option, Some, None, IsSome, is_some, inl, inr, refl, sym, ◌∙◌}
use Rattle.std.proofs.Common.{ap}
use Rattle.std.specs.Prelude.{option_map}
use Rattle.plir_store.specs.Table.{Table, Cell, content_at, version_at, is_live_at, with_content}
use Rattle.plir_core.specs.declared.ptr.Ptr.{Ptr}
use Rattle.plir_core.specs.declared.ptr.Operation.{Operation as OperationKind}
use Rattle.plir_core.specs.declared.ptr.BasicBlock.{BasicBlock as BasicBlockKind}
use Rattle.plir_core.specs.declared.ptr.IRNode.{IRNode}
use Rattle.plir_core.specs.declared.ptr.IRNode.TheVariants.{Operation, Region, BasicBlock}
use Rattle.plir_core.specs.Nodes.{ptr_at, is_given_out, is_node_live, was_given_out, node_children, node_parent}
use Rattle.plir_core.specs.Contents.{OpView, BlockView}
use Rattle.plir_core.specs.ContextView.{ContextView, IsLive, op_at, block_at}
use Rattle.plir_core.specs.Changes.{with_op_edit, with_block_edit, op_edited, block_edited}
use Rattle.plir_core.specs.Held.{KeepsNodes, IsOpEdited, IsBlockEdited}
use Rattle.plir_core.proofs.Freed.{ptr_one}
use Rattle.plir_core.proofs.Holds.{here_held, held_cases, version_held}
use Rattle.plir_core.proofs.Listing.{some_none}
use Rattle.plir_core.proofs.Seats.{live_some}

map_alike : {A : Type 0} (f g : ℕ → A) → ((i : ℕ) → f i ≡ g i) → (xs : List ℕ) → map f xs ≡ map g xs
map_alike f g e [] = refl
map_alike f g e (x ∷ xs) = rw (e x, map_alike f g e xs) refl

option_alike : {A : Type 0} (f g : ℕ → A) → ((i : ℕ) → f i ≡ g i) → (o : Option ℕ) → option_map f o ≡ option_map g o
option_alike f g e None = refl
option_alike f g e (Some x) = ap (λ z. Some z) (e x)

-- The slots of u are in use as those of t are, under the same versions.
pub record IsAlike {C : Type 0} (t u : Table C) : Type 0 where
  pub full : (i : ℕ) → is_some (content_at u i) ≡ is_some (content_at t i)
  pub versions : (i : ℕ) → version_at u i ≡ version_at t i

pub alike_same : {C : Type 0} (t : Table C) → IsAlike t t
alike_same t = record { full = λ i. refl; versions = λ i. refl }

alike_held : {C : Type 0} (t : Table C) (i : ℕ) (v : C) → IsSome (content_at t i) → IsAlike t (with_content t i v)
alike_held t i v some = record {
  full = λ j. elim (held_cases t i v some j) [
    | inl e ↦ ap is_some e.1 ∙ sym (ap (λ z. is_some (content_at t z)) e.0 ∙ some)
    | inr e ↦ ap is_some e
  ];
  versions = version_held t i v some;
}

module _ {C : Type 0} (t u : Table C) (a : IsAlike t u) where
  ptr_alike : {X : Type 0} (i : ℕ) → ptr_at {C = C} {X = X} u i ≡ ptr_at t i
  ptr_alike {X} i = ap (λ v. let q : Ptr X = record { slot = i; version = v; kind = record {} } in q) (a.versions i)

  live_alike : (i v : ℕ) → is_live_at u i v ≡ is_live_at t i v
  live_alike i v = rw (a.full i, a.versions i) refl

  given_alike : {X : Type 0} (p : Ptr X) → is_given_out u p ≡ is_given_out t p
  given_alike p = rw (a.versions p.slot) refl

-- Where operations and blocks are held alike, the nodes are the same.
module _ {K A T : Type 0} (s : ContextView K A T) (ops : Table (OpView K A)) (blocks : Table (BlockView A))
    (a : IsAlike s.nodes.ops ops) (b : IsAlike s.nodes.blocks blocks) where
  abbrev pub with_held : ContextView K A T
  with_held = record s { nodes = record s.nodes { ops = ops; blocks = blocks } }

  children_alike : (n : IRNode) → node_children with_held.nodes n ≡ node_children s.nodes n
  children_alike (Operation p) = rw (live_alike s.nodes.ops ops a p.slot p.version) refl
  children_alike (Region p) = rw (map_alike _ _ (λ i. ap (λ z. BasicBlock z) (ptr_alike s.nodes.blocks blocks b i)) _)
      refl
  children_alike (BasicBlock p) = rw (
    live_alike s.nodes.blocks blocks b p.slot p.version,
    map_alike _ _
        (λ i. ap (λ z. Operation z) (ptr_alike s.nodes.ops ops a i)) _,
  ) refl

  parents_alike : (n : IRNode) → node_parent with_held.nodes n ≡ node_parent s.nodes n
  parents_alike (Operation p) = rw (
    live_alike s.nodes.ops ops a p.slot p.version,
    option_alike _ _
        (λ i. ap (λ z. BasicBlock z) (ptr_alike s.nodes.blocks blocks b i)) _,
  ) refl
  parents_alike (Region p) = rw (option_alike _ _ (λ i. ap (λ z. Operation z) (ptr_alike s.nodes.ops ops a i)) _) refl
  parents_alike (BasicBlock p) = rw (live_alike s.nodes.blocks blocks b p.slot p.version) refl

  pub keeps_alike : KeepsNodes s with_held
  keeps_alike = record {
    live = λ n. lives n;
    given = λ n. gives n;
    children = children_alike;
    parents = parents_alike;
    types = refl;
    limit = refl;
  }
    where
      lives : (n : IRNode) → is_node_live with_held.nodes n ≡ is_node_live s.nodes n
      lives (Operation p) = live_alike s.nodes.ops ops a p.slot p.version
      lives (Region p) = refl
      lives (BasicBlock p) = live_alike s.nodes.blocks blocks b p.slot p.version

      gives : (n : IRNode) → was_given_out with_held.nodes n ≡ was_given_out s.nodes n
      gives (Operation p) = given_alike s.nodes.ops ops a p
      gives (Region p) = refl
      gives (BasicBlock p) = given_alike s.nodes.blocks blocks b p

held_here : {C : Type 0} (t : Table C) (i : ℕ) (v : C) → IsSome (content_at t i) → content_at (with_content t i v) i ≡
    Some v
held_here {C} t i v some = ap (λ (z : Cell C). z.content) (here_held t i v some)

module _ {K A T : Type 0} (s : ContextView K A T) where
  pub op_is_edited : (p : Ptr OperationKind) (f : OpView K A → OpView K A) → IsLive s (Operation p) → IsOpEdited s
      (with_op_edit s p f) p f
  op_is_edited p f live = in_slot (op_at s p) refl
    where
      some : IsSome (content_at s.nodes.ops p.slot)
      some = live_some s.nodes.ops p.slot p.version live

      in_slot : (o : Option (OpView K A)) → op_at s p ≡ o → IsOpEdited s (op_edited s p.slot f o) p f
      in_slot None e = absurd (some_none _ some e)
      in_slot (Some v) e = record {
        keeps = keeps_alike s (with_content s.nodes.ops p.slot (f v)) s.nodes.blocks
            (alike_held s.nodes.ops p.slot (f v) some) (alike_same s.nodes.blocks);
        held = held_here s.nodes.ops p.slot (f v) some ∙ sym (ap (option_map f) e);
        ops = λ q l ne. elim (held_cases s.nodes.ops p.slot (f v) some q.slot) [
          | inl g ↦ absurd (ne (ptr_one s.nodes.ops p q live l g.0))
          | inr g ↦ g
        ];
        blocks = λ b. refl;
      }

  pub block_is_edited : (p : Ptr BasicBlockKind) (f : BlockView A → BlockView A) → IsLive s (BasicBlock p) →
      IsBlockEdited s (with_block_edit s p f) p f
  block_is_edited p f live = in_slot (block_at s p) refl
    where
      some : IsSome (content_at s.nodes.blocks p.slot)
      some = live_some s.nodes.blocks p.slot p.version live

      in_slot : (o : Option (BlockView A)) → block_at s p ≡ o → IsBlockEdited s (block_edited s p.slot f o) p f
      in_slot None e = absurd (some_none _ some e)
      in_slot (Some v) e = record {
        keeps = keeps_alike s s.nodes.ops (with_content s.nodes.blocks p.slot (f v)) (alike_same s.nodes.ops)
            (alike_held s.nodes.blocks p.slot (f v) some);
        held = held_here s.nodes.blocks p.slot (f v) some ∙ sym (ap (option_map f) e);
        blocks = λ q l ne. elim (held_cases s.nodes.blocks p.slot (f v) some q.slot) [
          | inl g ↦ absurd (ne (ptr_one s.nodes.blocks p q live l g.0))
          | inr g ↦ g
        ];
        ops = λ o. refl;
      }
