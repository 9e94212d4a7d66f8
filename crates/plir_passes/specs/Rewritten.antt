-- How one operation is replaced by others, and what many such changes leave.
use Rattle.std.specs.Prelude.{◌≡◌, Bool, true, false, List, ◌∷◌, ◌++◌}
use Rattle.plir_data.specs.declared.op_set.OpKind.{OpKind}
use Rattle.plir_store.specs.Members.{Has}
use Rattle.plir_core.specs.declared.ptr.Ptr.{Ptr}
use Rattle.plir_core.specs.declared.ptr.Operation.{Operation as OperationKind}
use Rattle.plir_core.specs.declared.ptr.BasicBlock.{BasicBlock as BasicBlockKind}
use Rattle.plir_core.specs.declared.ptr.IRNode.{IRNode}
use Rattle.plir_core.specs.declared.ptr.IRNode.TheVariants.{Operation, BasicBlock}
use Rattle.plir_core.specs.Above.{Reaches}
use Rattle.plir_core.specs.Forest.{look}
use Rattle.plir_core.specs.ContextView.{ContextView, is_live, children, parent_of, given_out}
use Rattle.plir_walk.specs.Lawful.{Lawful}
use Rattle.plir_passes.specs.Legal.{is_illegal, IsUntouched}
use Rattle.plir_passes.specs.Kept.{Keeps}

module _ {K A T : Type 0} where
  -- From s to t no older node has come to have an illegal operation right under it: one that is there stood there
  -- before. What is new may have illegal operations below it.
  abbrev pub BringsNoIllegal : (OpKind K → Bool) → ContextView K A T → ContextView K A T → Type 0
  BringsNoIllegal illegal s t = (n a : IRNode) → given_out s n ≡ true → Has (children t n) a
      → is_illegal illegal t a ≡ true
      → Has (children s n) a × (is_illegal illegal s a ≡ true)

  -- From s to t an operation of the block b is being replaced, be it done or given up midway: the tree below b has
  -- changed alone, what stands apart from the operation is as it was, and no older node has come to have an illegal one
  -- right under it.
  pub record IsRewriting (illegal : OpKind K → Bool) (s t : ContextView K A T) (b : Ptr BasicBlockKind)
      (op : Ptr OperationKind) : Type 0 where
    pub lawful : Lawful (look s) (BasicBlock b) (look t)
    pub kept : Keeps s t (λ n. Reaches (parent_of s) n (Operation op) → ⊥)
    pub legal : BringsNoIllegal illegal s t

  -- From s to t an operation of the block b is gone, and other nodes stand in its place.
  pub record IsReplaced (s t : ContextView K A T) (b : Ptr BasicBlockKind) (op : Ptr OperationKind) : Type 0 where
    pub gone : is_live t (Operation op) ≡ false
    pub place : (xs ys : List IRNode) → children s (BasicBlock b) ≡ xs ++ Operation op ∷ ys → (ks : List IRNode) ×
        (children t (BasicBlock b) ≡ xs ++ (ks ++ ys))

  -- From s to t illegal operations were replaced: what was none of them, and stood below none, is as it was, in its
  -- order, and no older node has come to have an illegal one right under it. What was given out stays given out, and as
  -- many nodes may be live; how many there are, and which slots are free, is what the rewrites make of it.
  pub record IsConverted (illegal : OpKind K → Bool) (s t : ContextView K A T) : Type 0 where
    pub kept : Keeps s t (IsUntouched illegal s)
    pub legal : BringsNoIllegal illegal s t
    pub given : (n : IRNode) → given_out s n ≡ true → given_out t n ≡ true
