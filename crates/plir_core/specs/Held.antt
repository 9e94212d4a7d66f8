-- What an edit of what an operation or a block holds leaves as it was.
use Rattle.std.specs.Prelude.{◌≡◌, Some, option_map}
use Rattle.plir_core.specs.declared.ptr.Ptr.{Ptr}
use Rattle.plir_core.specs.declared.ptr.Operation.{Operation as OperationKind}
use Rattle.plir_core.specs.declared.ptr.BasicBlock.{BasicBlock as BasicBlockKind}
use Rattle.plir_core.specs.declared.ptr.IRNode.{IRNode}
use Rattle.plir_core.specs.declared.ptr.IRNode.TheVariants.{Operation, BasicBlock}
use Rattle.plir_core.specs.Changes.{with_op_edit, with_block_edit}
use Rattle.plir_core.specs.Contents.{OpView, BlockView}
use Rattle.plir_core.specs.ContextView.{ContextView, IsLive, is_live, given_out, limit, children, parent_of, op_at}
use Rattle.plir_core.specs.ContextView.{block_at}

module _ {K A T : Type 0} where
  -- From s to t the same nodes are live and were given out, with the same children and parents, and the types are the
  -- same.
  pub record KeepsNodes (s t : ContextView K A T) : Type 0 where
    pub live : (n : IRNode) → is_live t n ≡ is_live s n
    pub given : (n : IRNode) → given_out t n ≡ given_out s n
    pub children : (n : IRNode) → children t n ≡ children s n
    pub parents : (n : IRNode) → parent_of t n ≡ parent_of s n
    pub types : t.types ≡ s.types
    pub limit : limit t ≡ limit s

  -- From s to t the operation p has come to hold f of what it held, and nothing else has changed.
  pub record IsOpEdited (s t : ContextView K A T) (p : Ptr OperationKind) (f : OpView K A → OpView K A) : Type 0 where
    pub keeps : KeepsNodes s t
    pub held : op_at t p ≡ option_map f (op_at s p)
    pub ops : (q : Ptr OperationKind) → IsLive s (Operation q) → (q ≡ p → ⊥) → op_at t q ≡ op_at s q
    pub blocks : (b : Ptr BasicBlockKind) → block_at t b ≡ block_at s b

  -- From s to t the block p has come to hold f of what it held, and nothing else has changed.
  pub record IsBlockEdited (s t : ContextView K A T) (p : Ptr BasicBlockKind)
      (f : BlockView A → BlockView A) : Type 0 where
    pub keeps : KeepsNodes s t
    pub held : block_at t p ≡ option_map f (block_at s p)
    pub blocks : (q : Ptr BasicBlockKind) → IsLive s (BasicBlock q) → (q ≡ p → ⊥) → block_at t q ≡ block_at s q
    pub ops : (o : Ptr OperationKind) → op_at t o ≡ op_at s o

  -- two edits of what an operation holds are one: the second of what the first made
  abbrev pub OpEditsJoin : ContextView K A T → Ptr OperationKind → Type 0
  OpEditsJoin s p = (f g : OpView K A → OpView K A) → with_op_edit (with_op_edit s p f) p g ≡ with_op_edit s p
      (λ o. g (f o))

  -- edits that make the same of what an operation holds are the same
  abbrev pub OpEditsAgree : ContextView K A T → Ptr OperationKind → Type 0
  OpEditsAgree s p = (f g : OpView K A → OpView K A) → ((o : OpView K A) → op_at s p ≡ Some o → f o ≡ g o) →
      with_op_edit s p f ≡ with_op_edit s p g

  -- the same of edits of what a block holds
  abbrev pub BlockEditsJoin : ContextView K A T → Ptr BasicBlockKind → Type 0
  BlockEditsJoin s p =
      (f g : BlockView A → BlockView A) →
      with_block_edit (with_block_edit s p f) p g ≡ with_block_edit s p (λ b. g (f b))

  abbrev pub BlockEditsAgree : ContextView K A T → Ptr BasicBlockKind → Type 0
  BlockEditsAgree s p =
      (f g : BlockView A → BlockView A) → ((b : BlockView A) → block_at s p ≡ Some b → f b ≡ g b) →
      with_block_edit s p f ≡ with_block_edit s p g
