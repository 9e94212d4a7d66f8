-- Laws of the operations among some nodes, for the proofs of walks.
use Rattle.std.proofs.Common.{List, [], ◌∷◌, inl, inr, ap}
use Rattle.plir_store.specs.Members.{Has}
use Rattle.plir_core.specs.declared.ptr.Ptr.{Ptr}
use Rattle.plir_core.specs.declared.ptr.Operation.{Operation as OperationKind}
use Rattle.plir_core.specs.declared.ptr.IRNode.{IRNode}
use Rattle.plir_core.specs.declared.ptr.IRNode.TheVariants.{Operation, Region, BasicBlock}
use Rattle.plir_walk.specs.Lists.{Pairs}
use Rattle.plir_walk.specs.NodeLaws.{same-op}

-- the operations among some nodes
abbrev pub ops_in : List IRNode → List (Ptr OperationKind)
ops_in [] = []
ops_in (Operation p ∷ ns) = p ∷ ops_in ns
ops_in (Region p ∷ ns) = ops_in ns
ops_in (BasicBlock p ∷ ns) = ops_in ns

pub has-op : (ns : List IRNode) (p : Ptr OperationKind) → Has ns (Operation p) → Has (ops_in ns) p
has-op [] p h = absurd h
has-op (Operation q ∷ ns) p (inl same) = inl (same-op q p same)
has-op (Operation q ∷ ns) p (inr k) = inr (has-op ns p k)
has-op (Region q ∷ ns) p h = elim h [
  | inl same ↦ absurd (let z : ⊥ = cc same in z)
  | inr k ↦ has-op ns p k
]
has-op (BasicBlock q ∷ ns) p h = elim h [
  | inl same ↦ absurd (let z : ⊥ = cc same in z)
  | inr k ↦ has-op ns p k
]

pub op-has : (ns : List IRNode) (p : Ptr OperationKind) → Has (ops_in ns) p → Has ns (Operation p)
op-has [] p h = absurd h
op-has (Operation q ∷ ns) p (inl same) = inl (ap Operation same)
op-has (Operation q ∷ ns) p (inr k) = inr (op-has ns p k)
op-has (Region q ∷ ns) p h = inr (op-has ns p h)
op-has (BasicBlock q ∷ ns) p h = inr (op-has ns p h)

pub op-pairs : (R : IRNode → IRNode → Type 0) (ns : List IRNode) → Pairs R ns →
    Pairs (λ p q. R (Operation p) (Operation q)) (ops_in ns)
op-pairs R [] h = tt
op-pairs R (Operation p ∷ ns) h = (λ q k. h.0 (Operation q) (op-has ns q k), op-pairs R ns h.1)
op-pairs R (Region p ∷ ns) h = op-pairs R ns h.1
op-pairs R (BasicBlock p ∷ ns) h = op-pairs R ns h.1
