-- What is passed to the function of a name, read off a call as it is lent.
use Rattle.std.proofs.Common.{◌≡◌, ℕ, List, Option, sym, ap, ◌∙◌}
use Rattle.std.proofs.lemmas.Option.{same_Some}
use Rattle.plir_core.specs.declared.ptr.Ptr.{Ptr}
use Rattle.plir_core.specs.declared.ptr.Operation.{Operation as OperationKind}
use Rattle.plir_core.specs.Contents.{OpView}
use Rattle.plir_core.specs.ContextView.{ContextView}
use Rattle.plir_flow.specs.declared.calls.CallOpCallable.{CallOpCallable}
use Rattle.plir_flow.specs.declared.calls.CallOpCallable.TheVariants.{Direct, Indirect}
use Rattle.plir_flow_sets.specs.Calls.{CallView}
use Rattle.plir_inliner.specs.Meaning.{PassesAll}

direct-name : (x y : List ℕ) → Direct x ≡ Direct y → x ≡ y
direct-name x y e = ap name-in e
  where
    name-in : CallOpCallable → List ℕ
    name-in (Direct n) = n
    name-in (Indirect v) = x

module _ {K A T : Type 0} (calls : OpView K A → Option CallView) (s : ContextView K A T) (p : Ptr OperationKind) where
  -- a call passes all to one name at most
  pub one-name : (x y : List ℕ) → PassesAll calls s p x → PassesAll calls s p y → x ≡ y
  one-name x y h k = direct-name x y (ap (λ z. z.callee) (same_Some _ _ (sym h ∙ k)))
