-- Which operations are listed and what waits, while operations are folded behind those that make their operands.
use Rattle.std.specs.Prelude.{◌≡◌, ◌≢◌, ◌↔◌, ◌⊎◌, ◌+◌, ◌*◌, ◌^◌, ◌≤◌, ◌++◌, ◌∷◌, ◌&&◌, [], ℕ, Bool, true, nat_eq}
use Rattle.std.specs.Prelude.{length}
use Rattle.std.specs.List.{list_any}
use Rattle.std.specs.declared.ops.ControlFlow.{ControlFlow}
use Rattle.std.specs.declared.ops.ControlFlow.TheVariants.{Continue, Break}
use Rattle.plir_walk.specs.declared.interruptible.WalkContinue.{WalkContinue}
use Rattle.plir_walk.specs.declared.interruptible.WalkContinue.TheVariants.{Advance, Skip}
use Rattle.plir_store.specs.Members.{Has}
use Rattle.plir_core.specs.declared.ptr.Ptr.{Ptr}
use Rattle.plir_core.specs.declared.ptr.Operation.{Operation as OperationKind}
use Rattle.plir_folding.specs.declared.worklist.Step.{Step}
use Rattle.plir_folding.specs.declared.worklist.Step.TheVariants.{Prepare, Fold}
use Rattle.plir_folding.specs.declared.worklist.Worklist.{Worklist}

-- whether pointers are the same, as a hash set asks
abbrev pub ptr_eq : Ptr OperationKind → Ptr OperationKind → Bool
ptr_eq p q = nat_eq p.slot q.slot && (nat_eq p.version q.version && true)

-- an operation is listed
abbrev pub IsListed : Worklist → Ptr OperationKind → Type 0
IsListed w p = list_any (ptr_eq p) w.listed.keys ≡ true

-- something waits to be done
abbrev pub Waits : Worklist → Step → Type 0
Waits w x = Has w.waiting.items x

-- the operation that is to be prepared or folded
abbrev pub op_of : Step → Ptr OperationKind
op_of (Prepare p) = p
op_of (Fold p) = p

-- P holds of each operation that is listed, and of each that something waits to be done to.
pub record AreOf (P : Ptr OperationKind → Type 0) (w : Worklist) : Type 0 where
  pub listed : (p : Ptr OperationKind) → IsListed w p → P p
  pub waits : (x : Step) → Waits w x → P (op_of x)

-- From w to w' an operation was listed, and waits to be prepared.
pub record IsPut (p : Ptr OperationKind) (w w' : Worklist) : Type 0 where
  pub listed : (q : Ptr OperationKind) → IsListed w' q ↔ (IsListed w q ⊎ (q ≡ p))
  pub waits : w'.waiting.items ≡ w.waiting.items ++ Prepare p ∷ []

-- What a call at an operation does to what is listed: it is put, if it is not the root, or nothing is done, and the
-- walk goes on; or the walk is broken off.
abbrev pub IsListedAt : {B : Type 0} → Ptr OperationKind → Worklist → Ptr OperationKind → ControlFlow B WalkContinue →
    Worklist → Type 0
IsListedAt r w p (Continue Advance) w' = (w' ≡ w) ⊎ ((p ≢ r) × IsPut p w w')
IsListedAt r w p (Continue Skip) w' = ⊥
IsListedAt r w p (Break b) w' = Unit {0}

-- From w to w' the same is listed, and n things more wait at most, each to be done to what is listed.
pub record WaitMore (n : ℕ) (w w' : Worklist) : Type 0 where
  pub same : w'.listed.keys ≡ w.listed.keys
  pub waits : (x : Step) → Waits w' x → Waits w x ⊎ IsListed w (op_of x)
  pub most : length w'.waiting.items ≤ length w.waiting.items + n

-- how much is left to do at most, where what is prepared has fewer than 2 ^ 64 operands
abbrev pub left_to_do : Worklist → ℕ
left_to_do w = length w.waiting.items + 2 ^ 64 * length w.listed.keys

-- From w to w' an operation was prepared, if it was listed: nothing has come to what is listed, what has come to what
-- waits is to be done to what was listed, and no more is left to do.
pub record IsPrepared (w w' : Worklist) : Type 0 where
  pub listed : (q : Ptr OperationKind) → IsListed w' q → IsListed w q
  pub waits : (x : Step) → Waits w' x → Waits w x ⊎ IsListed w (op_of x)
  pub left : left_to_do w' ≤ left_to_do w
