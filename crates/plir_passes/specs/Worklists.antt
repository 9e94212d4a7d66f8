-- Which operations are listed and which wait, and how far dead code elimination has come.
use Rattle.std.specs.Prelude.{◌≡◌, ◌↔◌, ◌⊎◌, Bool, true, ◌&&◌, nat_eq, [], Option, Some, None}
use Rattle.std.specs.List.{list_any}
use Rattle.std.specs.declared.ops.ControlFlow.{ControlFlow}
use Rattle.std.specs.declared.ops.ControlFlow.TheVariants.{Continue, Break}
use Rattle.plir_walk.specs.declared.interruptible.WalkContinue.{WalkContinue}
use Rattle.plir_walk.specs.declared.interruptible.WalkContinue.TheVariants.{Advance, Skip}
use Rattle.plir_store.specs.Members.{Has}
use Rattle.plir_core.specs.declared.ptr.Ptr.{Ptr}
use Rattle.plir_core.specs.declared.ptr.Operation.{Operation as OperationKind}
use Rattle.plir_core.specs.declared.ptr.IRNode.TheVariants.{Operation}
use Rattle.plir_core.specs.Forest.{look, IsBelow}
use Rattle.plir_core.specs.ContextView.{ContextView, IsLive}
use Rattle.plir_passes.specs.Dead.{IsUsedBy, MayGo}
use Rattle.plir_passes.specs.declared.worklist.Worklist.{Worklist}

-- whether pointers are the same, as a hash set asks
abbrev pub ptr_eq : Ptr OperationKind → Ptr OperationKind → Bool
ptr_eq p q = nat_eq p.slot q.slot && (nat_eq p.version q.version && true)

-- an operation is listed
abbrev pub IsListed : Worklist → Ptr OperationKind → Type 0
IsListed w p = list_any (ptr_eq p) w.listed.keys ≡ true

-- an operation waits to be looked at
abbrev pub Waits : Worklist → Ptr OperationKind → Type 0
Waits w p = Has w.waiting.items p

-- From w to w' those operations were listed that P holds of, and they wait.
pub record AreListed (P : Ptr OperationKind → Type 0) (w w' : Worklist) : Type 0 where
  pub listed : (p : Ptr OperationKind) → IsListed w' p ↔ (IsListed w p ⊎ P p)
  pub waits : (p : Ptr OperationKind) → Waits w' p ↔ (Waits w p ⊎ P p)

-- From w to w' those of the listed operations wait once more that P holds of.
pub record WaitAgain (P : Ptr OperationKind → Type 0) (w w' : Worklist) : Type 0 where
  pub same : w'.listed.keys ≡ w.listed.keys
  pub waits : (p : Ptr OperationKind) → Waits w' p ↔ (Waits w p ⊎ (P p × IsListed w p))

module _ {K A T : Type 0} (effect ends : K → Bool) (s : ContextView K A T) where
  -- What a call at an operation does to what is listed: it is listed if it may go, and the walk goes on; or the walk is
  -- broken off.
  abbrev pub IsListedAt : {B : Type 0} → Worklist → Ptr OperationKind → ControlFlow B WalkContinue → Worklist → Type 0
  IsListedAt w p (Continue Advance) w' = AreListed (λ q. (q ≡ p) × MayGo effect ends s q) w w'
  IsListedAt w p (Continue Skip) w' = ⊥
  IsListedAt w p (Break b) w' = Unit {0}

  -- Those that may go and stand below r are listed, what is listed and live stands below it, what waits is listed, and
  -- each that no other operation uses waits.
  pub record IsPending (r : Ptr OperationKind) (w : Worklist) : Type 0 where
    pub below : (p : Ptr OperationKind) → IsListed w p → IsLive s (Operation p) →
        IsBelow (look s) (Operation r) (Operation p)
    pub listed : (p : Ptr OperationKind) → IsBelow (look s) (Operation r) (Operation p) → MayGo effect ends s p →
        IsListed w p
    pub waiting : (p : Ptr OperationKind) → Waits w p → IsListed w p
    pub dead : (p : Ptr OperationKind) → IsBelow (look s) (Operation r) (Operation p) → IsUsedBy effect ends s [] p →
        Waits w p

  -- From w to w' operations were taken up to one that is dead, or all, and none of them is: what was taken before it,
  -- and doesn't wait once more, is not dead.
  abbrev pub IsNextDead : Worklist → Option (Ptr OperationKind) → Worklist → Type 0
  IsNextDead w None w' = (p : Ptr OperationKind) → Waits w p → IsUsedBy effect ends s [] p → ⊥
  IsNextDead w (Some q) w' = IsUsedBy effect ends s [] q × Waits w q ×
      ((p : Ptr OperationKind) → Waits w' p → Waits w p) ×
      ((p : Ptr OperationKind) → Waits w p → IsUsedBy effect ends s [] p → (p ≡ q) ⊎ Waits w' p)
