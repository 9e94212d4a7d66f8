-- Branches that go to a new block, and forward one value less to it.
use Rattle.std.specs.Prelude.{◌≡◌, ℕ, List, Option, Some, slice_get, slice_set}
use Rattle.plir_store.specs.Members.{Distinct, Has}
use Rattle.plir_core.specs.declared.ptr.Ptr.{Ptr}
use Rattle.plir_core.specs.declared.ptr.Operation.{Operation as OperationKind}
use Rattle.plir_core.specs.declared.ptr.BasicBlock.{BasicBlock as BlockKind}
use Rattle.plir_core.specs.declared.ptr.IRNode.TheVariants.{Operation}
use Rattle.plir_core.specs.declared.uses.Use.{Use}
use Rattle.plir_core.specs.Contents.{OpView}
use Rattle.plir_core.specs.ContextView.{ContextView, IsLive, block_at, op_at, successors_of}
use Rattle.plir_core.specs.Held.{KeepsNodes}
use Rattle.plir_flow.specs.Branches.{Range as Places}
use Rattle.plir_arguments.specs.Removed.{ForwardsLess}

module _ {K A : Type 0} where
  -- what an operation holds, with the block c as its successor k
  abbrev pub with_successor : ℕ → Ptr BlockKind → OpView K A → OpView K A
  with_successor k c o = record o { successors = slice_set o.successors k c }

  -- From o to o' an operation has come to forward one value less to its successor k, that for the argument at place i,
  -- and this successor is c now.
  abbrev pub IsTurned : (keys : List (List ℕ)) (forwards : ℕ → OpView K A → Option Places) (c : Ptr BlockKind) (i k : ℕ)
      → OpView K A → OpView K A → Type 0
  IsTurned keys forwards c i k o o' =
      (less : OpView K A) × (ForwardsLess keys forwards k i o less × (o' ≡ with_successor k c less))

module _ {K A T : Type 0} where
  -- the block b is the successor k of an operation
  abbrev pub GoesTo : ContextView K A T → Ptr OperationKind → ℕ → Ptr BlockKind → Type 0
  GoesTo s p k b = slice_get (successors_of s p) k ≡ Some b

  -- an operation does not branch to the block b
  abbrev pub NeverGoesTo : ContextView K A T → Ptr OperationKind → Ptr BlockKind → Type 0
  NeverGoesTo s p b = (k : ℕ) → GoesTo s p k b → ⊥

  -- Some uses are those of the block b, each once.
  pub record AreUses (s : ContextView K A T) (b : Ptr BlockKind) (us : List (Use (Ptr BlockKind))) : Type 0 where
    pub apart : Distinct us
    pub each : (u : Use (Ptr BlockKind)) → Has us u → IsLive s (Operation u.op) × GoesTo s u.op u.index b
    pub all : (p : Ptr OperationKind) (k : ℕ) → IsLive s (Operation p) → GoesTo s p k b →
        Has us (record { op = p; index = k; kind = record {} })

  -- From s to t each operation that branches to b branches to c, and forwards one value less to it, that for the
  -- argument at place i; nothing else has changed.
  pub record AreTurned (keys : List (List ℕ)) (forwards : ℕ → OpView K A → Option Places) (s t : ContextView K A T)
      (b c : Ptr BlockKind) (i : ℕ) : Type 0 where
    pub keeps : KeepsNodes s t
    pub branches : (p : Ptr OperationKind) (k : ℕ) (o : OpView K A) → IsLive s (Operation p) → GoesTo s p k b →
        op_at s p ≡ Some o → (o' : OpView K A) × (op_at t p ≡ Some o') × IsTurned keys forwards c i k o o'
    pub ops : (p : Ptr OperationKind) → IsLive s (Operation p) → NeverGoesTo s p b → op_at t p ≡ op_at s p
    pub blocks : (x : Ptr BlockKind) → block_at t x ≡ block_at s x
