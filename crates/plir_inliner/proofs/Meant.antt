-- What calls mean, from what a look-up answers.
use Rattle.std.proofs.Common.{◌≡◌, ℕ, Bool, false, cond, List, [], map, Option, Some, None, Result, Ok, Err}
use Rattle.std.proofs.Common.{sym, ap, subst, ◌∙◌}
use Rattle.std.specs.Prelude.{IfErr, IfOk, IfSome, option_and_then}
use Rattle.std.proofs.lemmas.Option.{none-some, same_Some}
use Rattle.plir_store.specs.Lists.{children_at}
use Rattle.plir_core.specs.declared.ptr.Ptr.{Ptr}
use Rattle.plir_core.specs.declared.ptr.Operation.{Operation as OperationKind}
use Rattle.plir_core.specs.declared.ptr.BasicBlock.{BasicBlock as BlockKind}
use Rattle.plir_core.specs.declared.ptr.IRNode.TheVariants.{BasicBlock, Operation}
use Rattle.plir_core.specs.Contents.{OpView}
use Rattle.plir_core.specs.Nodes.{region_node}
use Rattle.plir_core.specs.ContextView.{ContextView, children, is_live}
use Rattle.plir_builtin.specs.declared.symbol_table_err.SymbolTableErr.{SymbolTableErr}
use Rattle.plir_builtin.specs.Nearest.{IsFoundNearest, IsNearestRefusal}
use Rattle.plir_builtin.specs.Symbols.{only}
use Rattle.plir_builtin.specs.Table.{Tables}
use Rattle.plir_flow_sets.specs.Calls.{CallView}
use Rattle.plir_inliner.specs.Meaning.{IsBodyMeant, IsBodyOf, IsCalleeRefusal, Means, PassesAll}
use Rattle.plir_inliner.proofs.Nearest.{found-same}
use Rattle.plir_inliner.proofs.Passing.{one-name}

block-same : (p q : Ptr BlockKind) → BasicBlock p ≡ BasicBlock q → p ≡ q
block-same p q h = cc

module _ {K A T : Type 0} (own own_table : K → Bool) (calls : OpView K A → Option CallView) (s : ContextView K A T)
    (call : Ptr OperationKind) where
  -- what a look-up finds is meant, and where it finds none nothing is
  pub found-means : {E : Type 0} (name : List ℕ) → PassesAll calls s call name →
      (r : Result (Option (Ptr OperationKind)) E) → IfOk r (IsFoundNearest own own_table s call name) →
      IfOk r (λ o. IfSome o (Means own own_table calls s call))
  found-means name passes (Ok None) h = tt
  found-means name passes (Ok (Some f)) h = record { name = name; passes = passes; found = h }
  found-means name passes (Err e) h = tt

  pub none-means : {E : Type 0} (name : List ℕ) → PassesAll calls s call name →
      (r : Result (Option (Ptr OperationKind)) E) → IfOk r (IsFoundNearest own own_table s call name) →
      IfOk r (λ o. o ≡ None → (f : Ptr OperationKind) → Means own own_table calls s call f → ⊥)
  none-means name passes (Ok o) h = λ none f m.
      let same : m.name ≡ name = one-name calls s call m.name name m.passes passes in
      let found = subst (λ z. IsFoundNearest own own_table s call z (Some f)) same m.found in
      none-some f (sym none ∙ found-same own_table s call own name o (Some f) h found)
  none-means name passes (Err e) h = tt

  -- and where it is refused, the call's nearest table is
  pub lookup-refused : {R : Type 0} (name : List ℕ) → PassesAll calls s call name → (c : Tables) →
      (r : Result R SymbolTableErr) → IfErr r (IsNearestRefusal own own_table s c call) →
      IfErr r (IsCalleeRefusal own own_table calls s call)
  lookup-refused name passes c (Ok x) h = tt
  lookup-refused name passes c (Err e) h =
      record { name = name; passes = passes; table = h.0; nearest = h.1; refused = h.3 }

  -- a call means one function
  pub one-callee : (f g : Ptr OperationKind) → Means own own_table calls s call f → Means own own_table calls s call g →
      f ≡ g
  one-callee f g m n =
      let same : m.name ≡ n.name = one-name calls s call m.name n.name m.passes n.passes in
      let found = subst (λ z. IsFoundNearest own own_table s call z (Some f)) same m.found in
      same_Some f g (found-same own_table s call own n.name (Some f) (Some g) found n.found)

  -- and one body
  pub one-body : (a b : Ptr BlockKind) → IsBodyMeant own own_table calls s call a →
      IsBodyMeant own own_table calls s call b → a ≡ b
  one-body a b h k =
      let same : h.callee ≡ k.callee = one-callee h.callee k.callee h.means k.means in
      let body = subst (λ z. IsBodyOf s z a) same h.body in
      block-same a b (same_Some (BasicBlock a) (BasicBlock b) (sym body.body ∙ k.body.body))

  pub body-meant : (f : Ptr OperationKind) → Means own own_table calls s call f → (o : Option (Ptr BlockKind)) →
      IfSome o (IsBodyOf s f) → IfSome o (IsBodyMeant own own_table calls s call)
  body-meant f m None h = tt
  body-meant f m (Some b) h = record { callee = f; means = m; body = h }

  pub no-body-meant : (f : Ptr OperationKind) → Means own own_table calls s call f → (o : Option (Ptr BlockKind)) →
      (o ≡ None → (b : Ptr BlockKind) → IsBodyOf s f b → ⊥) → o ≡ None →
      (b : Ptr BlockKind) → IsBodyMeant own own_table calls s call b → ⊥
  no-body-meant f m o none is b h =
      none is b (subst (λ z. IsBodyOf s z b) (one-callee h.callee f h.means m) h.body)

-- what is not live has no body
pub dead-body : {K A T : Type 0} (s : ContextView K A T) (f : Ptr OperationKind) → is_live s (Operation f) ≡ false →
    (b : Ptr BlockKind) → IsBodyOf s f b → ⊥
dead-body s f dead b h =
    let bare : children s (Operation f) ≡ [] =
    ap (λ z. cond z (map (region_node s.nodes) (children_at s.nodes.regions_in_op f.slot)) []) dead in
    none-some (BasicBlock b) (sym (ap (λ z. option_and_then (λ r. only (children s r)) (only z)) bare) ∙ h.body)
