use Rattle.std.proofs.Common.{◌≡◌, IsTrue}
use Rattle.plir_data.specs.Hashed.{past, hash_from}
use Rattle.plir_data.proofs.HashedLists.{IsSought}
use Rattle.plir_data.proofs.hashed.HashedList.find.Given as goal

abbrev pub invariant-loop-at : goal.invariant-loop-at
invariant-loop-at g l =
    IsSought (λ x. hash_from (g.T.Hash.hash_input x) ≡ l.fn.hash) (λ x. IsTrue (g.T.PartialEq.eq l.value x))
    l.self-inside.values.items l.at

abbrev pub decreases-loop-at : goal.decreases-loop-at
decreases-loop-at g l = past l.at
