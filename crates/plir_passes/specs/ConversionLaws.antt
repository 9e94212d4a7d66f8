-- Laws of conversions, for the proofs of passes: what each call of `rewrite` keeps of a context, the conversion keeps.
use Rattle.std.proofs.Common.{Bool, List, [], ◌∷◌, Result, sym, subst}
use Rattle.std.specs.declared.ops.ControlFlow.{ControlFlow}
use Rattle.plir_data.specs.declared.op_set.OpKind.{OpKind}
use Rattle.plir_core.specs.declared.ptr.Ptr.{Ptr}
use Rattle.plir_core.specs.declared.ptr.BasicBlock.{BasicBlock as BasicBlockKind}
use Rattle.plir_core.specs.declared.ptr.IRNode.{IRNode}
use Rattle.plir_core.specs.declared.ptr.IRNode.TheVariants.{Operation, Region, BasicBlock}
use Rattle.plir_core.specs.Forest.{look}
use Rattle.plir_core.specs.ContextView.{ContextView}
use Rattle.plir_walk.specs.declared.interruptible.WalkContinue.{WalkContinue}
use Rattle.plir_walk.specs.CallLaws.{kept_from_entry_to_exit}
use Rattle.plir_walk.specs.Walked.{IsCallUnder}
use Rattle.plir_passes.specs.Rewrites.{Rewrites, Rewrite, IsRewrite, AreRewrites, IsBlockConverted, IsNodeConverted}
use Rattle.plir_passes.specs.Rewrites.{IsConversion}

module _ {K A T E : Type 0} (illegal : OpKind K → Bool) (rewrites : Rewrites K A T E)
    (keeps : ContextView K A T → ContextView K A T → Type 0) (itself : (s : ContextView K A T) → keeps s s)
    (on : (s t u : ContextView K A T) → keeps s t → keeps t u → keeps s u)
    (each : (x : Rewrite K A T E) → IsRewrite illegal rewrites x → keeps x.before x.after) where
  kept_by_rewrites : (s t : ContextView K A T) (calls : List (Rewrite K A T E))
      → AreRewrites illegal rewrites s calls t → keeps s t
  kept_by_rewrites s t [] h = subst (keeps s) (sym h) (itself s)
  kept_by_rewrites s t (x ∷ xs) h =
      on s x.after t (subst (λ z. keeps z x.after) h.0 (each x h.1)) (kept_by_rewrites x.after t xs h.2)

  pub kept_by_block : (s t : ContextView K A T) (b : Ptr BasicBlockKind) (answer : Result (Unit {0}) E)
      → IsBlockConverted illegal rewrites s b answer t → keeps s t
  kept_by_block s t b answer f = kept_by_rewrites s t f.calls f.chain

  kept_by_node : (s t : ContextView K A T) (n : IRNode) (a : ControlFlow E WalkContinue)
      → IsNodeConverted illegal rewrites s n a t → keeps s t
  kept_by_node s t (Operation p) a h = subst (keeps s) (sym h.1) (itself s)
  kept_by_node s t (Region p) a h = subst (keeps s) (sym h.1) (itself s)
  kept_by_node s t (BasicBlock b) a h = kept_by_block s t b h.0 h.2

  pub kept_by_conversion : (s t : ContextView K A T) (r : IRNode) (answer : Result (Unit {0}) E)
      → IsConversion illegal rewrites s r answer t → keeps s t
  kept_by_conversion s t r answer f =
      kept_from_entry_to_exit (IsCallUnder look r (λ c u n a c' u'. IsNodeConverted illegal rewrites c n a c'))
      (λ c u c' u'. keeps c c')
      (record { itself = λ d u. itself d; on = λ d e f u v w g k. on d e f g k })
      (λ d d' u u' n a p. kept_by_node d d' n a p.made) s t tt tt f.calls f.chain
