-- The loop over the operations of a block, as they are replaced.
use Rattle.std.specs.Prelude.{◌≡◌, Bool, false, List, ◌∷◌, ◌++◌, Option}
use Rattle.std.specs.Prelude.{option_map, Result, Ok, Err, ◌⊎◌}
use Rattle.plir_data.specs.declared.op_set.OpKind.{OpKind}
use Rattle.plir_store.specs.Members.{Has, head}
use Rattle.plir_core.specs.declared.ptr.Ptr.{Ptr}
use Rattle.plir_core.specs.declared.ptr.Operation.{Operation as OperationKind}
use Rattle.plir_core.specs.declared.ptr.BasicBlock.{BasicBlock as BasicBlockKind}
use Rattle.plir_core.specs.declared.ptr.IRNode.{IRNode}
use Rattle.plir_core.specs.declared.ptr.IRNode.TheVariants.{Operation, BasicBlock}
use Rattle.plir_core.specs.ContextView.{ContextView, children}
use Rattle.plir_passes.specs.Legal.{is_illegal}
use Rattle.plir_passes.specs.Rewrites.{Rewrites, IsRewrite}

-- From s to t, where the operation op of the block b stood there are legal operations, and what stood behind it begins
-- with `next`.
abbrev pub IsPassed : {K A T : Type 0} → (OpKind K → Bool) → ContextView K A T → ContextView K A T
    → Ptr BasicBlockKind →
    Ptr OperationKind → Option (Ptr OperationKind) → Type 0
IsPassed illegal s t b op next = (xs ys : List IRNode) → children s (BasicBlock b) ≡ xs ++ Operation op ∷ ys
    → (option_map Operation next ≡ head ys) × (ks : List IRNode) × (children t (BasicBlock b) ≡ xs ++ (ks ++ ys)) ×
    ((a : IRNode) → Has ks a → is_illegal illegal t a ≡ false)

-- an answer without its value
abbrev pub said : {X E : Type 0} → Result X E → Result (Unit {0}) E
said (Ok x) = Ok tt
said (Err e) = Err e

-- From s to t the operation op of the block b was handed to `rewrite`, which answered so; or it is legal, and nothing
-- was done.
abbrev pub IsHanded : {K A T E X : Type 0} → (OpKind K → Bool) → Rewrites K A T E → ContextView K A T →
    Ptr BasicBlockKind → Ptr OperationKind → Result X E → ContextView K A T → Type 0
IsHanded illegal rewrites s b op answer t =
    ((is_illegal illegal s (Operation op) ≡ false) × (said answer ≡ Ok tt) × (t ≡ s))
    ⊎ IsRewrite illegal rewrites (record { before = s; block = b; op = op; answer = said answer; after = t })
