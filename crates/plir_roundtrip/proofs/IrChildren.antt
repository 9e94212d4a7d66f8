-- What is known of all at or under a node is known of all at or under each of its children: that it can be read, and
-- that what it uses is what its names mean.
use Rattle.std.proofs.Common.{◌≡◌, ℕ, List, [], ◌∷◌, Bool, Option, Some, refl, subst}
use Rattle.std.specs.Prelude.{slice_get, MatchOption}
use Rattle.plir_data.specs.declared.op_set.OpSet as op_set
use Rattle.plir_core.specs.declared.ptr.Ptr.{Ptr}
use Rattle.plir_core.specs.declared.ptr.Operation.{Operation as OperationKind}
use Rattle.plir_core.specs.declared.ptr.BasicBlock.{BasicBlock as BlockKind}
use Rattle.plir_core.specs.declared.ptr.IRNode.{IRNode}
use Rattle.plir_core.specs.declared.ptr.IRNode.TheVariants.{Operation, BasicBlock}
use Rattle.plir_store.specs.Members.{Has}
use Rattle.plir_core.specs.ContextView.{ContextView, children}
use Rattle.plir_walk.specs.Tree.{Place}
use Rattle.plir_walk.specs.TreeLaws.{under-child}
use Rattle.plir_read_ir.specs.Mentions.{Mention, Scope}
use Rattle.plir_roundtrip.specs.Readable.{IsBlockReadable}
use Rattle.plir_roundtrip.specs.IrReadable.{AreIrReadable, IsIrOpReadable}
use Rattle.plir_roundtrip.specs.UsesMeant.{IsMeantBelow, scope_in}

module _ {D K A T E : Type 0} (o : op_set.Ghosts D K A T E) (find : List ℕ → Option K) (s : ContextView K A T) where
  pub child_readable : (a x : IRNode) → Has (children s a) x → AreIrReadable o find s a → AreIrReadable o find s x
  child_readable a x h all = record {
    ops = λ q u. all.ops q (under-child (children s) a x (Operation q) h u);
    blocks = λ b u. all.blocks b (under-child (children s) a x (BasicBlock b) h u);
  }

  pub op_readable : (p : Ptr OperationKind) → AreIrReadable o find s (Operation p) → IsIrOpReadable o find s p
  op_readable p all = all.ops p ([], refl)

  pub block_readable : (b : Ptr BlockKind) → AreIrReadable o find s (BasicBlock b) → IsBlockReadable s b
  block_readable b all = all.blocks b ([], refl)

-- ---- what is meant

module _ {D K A T E : Type 0} (o : op_set.Ghosts D K A T E) (isolated : K → Bool) (s : ContextView K A T)
    (ms : List Mention) where
  pub meant_in : (i : ℕ) (rest : Place) (at : Scope) (n c : IRNode) → IsMeantBelow o isolated s ms (i ∷ rest) at n
      → slice_get (children s n) i ≡ Some c → IsMeantBelow o isolated s ms rest (scope_in o isolated s at n) c
  meant_in i rest at n c h e =
      subst (λ z. MatchOption z (Unit {0}) (λ d. IsMeantBelow o isolated s ms rest (scope_in o isolated s at n) d)) e h
