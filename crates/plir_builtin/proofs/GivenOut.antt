-- Tables that are cached for what was given out.
use Rattle.std.proofs.Common.{◌≡◌, Bool, true, false, cond, Option, Some, None, refl, sym, ap, subst, ◌∙◌}
use Rattle.std.specs.Prelude.{IfSome}
use Rattle.std.specs.FinMap.{get, empty, insert, get-empty, get-insert}
use Rattle.std.specs.Ordering.{eq_by_cmp}
use Rattle.std.proofs.lemmas.Option.{same_Some, none-some}
use Rattle.plir_core.specs.declared.ptr.Ptr.{Ptr}
use Rattle.plir_core.specs.declared.ptr.Operation.{Operation as OperationKind}
use Rattle.plir_core.specs.declared.ptr.BasicBlock.{BasicBlock as BlockKind}
use Rattle.plir_core.specs.declared.ptr.IRNode.TheVariants.{Operation, BasicBlock}
use Rattle.plir_core.specs.declared.insertion_point.OpInsertionPoint.{OpInsertionPoint}
use Rattle.plir_core.specs.Nodes.{is_given_out}
use Rattle.plir_core.specs.ContextView.{ContextView, given_out}
use Rattle.plir_builtin.specs.Insertion.{put_at, IsPutInto}
use Rattle.plir_builtin.specs.Maps.{ptr_cmp}
use Rattle.plir_builtin.specs.Table.{Table, Tables}
use Rattle.plir_builtin.specs.Agree.{AllAgree, AreGivenOut, IsNewlyCached, KeepsAllAgree, KeepsGivenOut}
use Rattle.plir_builtin.proofs.MapViews.{insert-twice, ptr_total, ptr_same, ptr_reflects}

-- none is cached
pub given-empty : {K A T : Type 0} (s : ContextView K A T) → AreGivenOut s empty
given-empty s p t h = absurd (none-some t (sym (get-empty ptr_cmp p) ∙ h))

-- what is put at a key is found there
pub get-put : (c : Tables) (p : Ptr OperationKind) (t : Table) → get (insert c p t) p ≡ Some t
get-put c p t = get-insert ptr_total c p t p ∙ ap (λ b. cond b (Some t) (get c p)) (ptr_reflects p p refl)

module _ {K A T : Type 0} (s : ContextView K A T) where
  pub given-insert : (c : Tables) (p : Ptr OperationKind) (tab : Table) → given_out s (Operation p) ≡ true
      → given_out s (Operation tab.op) ≡ true → AreGivenOut s c → AreGivenOut s (insert c p tab)
  given-insert c p tab key own all q u has =
      by_key (eq_by_cmp ptr_cmp q p) refl (sym (get-insert ptr_total c p tab q) ∙ has)
    where
      by_key : (k : Bool) → eq_by_cmp ptr_cmp q p ≡ k → cond (eq_by_cmp ptr_cmp q p) (Some tab) (get c q) ≡ Some u
          → (given_out s (Operation q) ≡ true) × (given_out s (Operation u.op) ≡ true)
      by_key true same h =
          let it : tab ≡ u = same_Some tab u (ap (λ z. cond z (Some tab) (get c q)) (sym same) ∙ h) in (
            subst (λ z. given_out s (Operation z) ≡ true) (sym (ptr_same q p same)) key,
            subst (λ (z : Table). given_out s (Operation z.op) ≡ true) it own,
          )
      by_key false other h = all q u (ap (λ z. cond z (Some tab) (get c q)) (sym other) ∙ h)

  -- where a table was brought for p
  pub brought-given : (own own_table : K → Bool) (c : Tables) (p : Ptr OperationKind) → given_out s (Operation p) ≡ true
      → (d : Tables) → IsNewlyCached own own_table s c p d → AreGivenOut s c → AreGivenOut s d
  brought-given own own_table c p key d m all =
      subst (AreGivenOut s) (sym m.1)
      (given-insert c p m.0 key (subst (λ z. given_out s (Operation z) ≡ true) (sym m.2) key) all)

module _ {K A T : Type 0} (s t : ContextView K A T)
    (stay : (p : Ptr OperationKind) → given_out s (Operation p) ≡ true → given_out t (Operation p) ≡ true) where
  pub given-later : (c : Tables) → AreGivenOut s c → AreGivenOut t c
  given-later c all p tab has = let h = all p tab has in (stay p h.0, stay tab.op h.1)

  pub given-edited : (tab u : Table) → u.op ≡ tab.op → KeepsGivenOut s tab t u
  given-edited tab u is c all =
      let key = stay tab.op (all tab.op tab (get-put c tab.op tab)).0 in
      subst (AreGivenOut t) (insert-twice c tab.op tab u)
      (given-insert t (insert c tab.op tab) tab.op u key (subst (λ z. given_out t (Operation z) ≡ true) (sym is) key)
      (given-later (insert c tab.op tab) all))

module _ {K A T : Type 0} (s t : ContextView K A T) where
  -- where nodes were only moved, the same pointers were given out
  pub moved-given : t.nodes.ops ≡ s.nodes.ops → (p : Ptr OperationKind) → given_out s (Operation p) ≡ true
      → given_out t (Operation p) ≡ true
  moved-given e p h = ap (λ z. is_given_out z p) e ∙ h

  pub put-given : (o : Ptr OperationKind) (b : Ptr BlockKind) (place : Option OpInsertionPoint) → (place ≡ None → t ≡ s)
      → IfSome place (λ q. (t ≡ put_at s o q) × IsPutInto s t o (BasicBlock b)) → (p : Ptr OperationKind)
      → given_out s (Operation p) ≡ true → given_out t (Operation p) ≡ true
  put-given o b None stays put p h =
      subst (λ (z : ContextView K A T). given_out z (Operation p) ≡ true) (sym (stays refl)) h
  put-given o b (Some q) stays put p h = moved-given put.1.placed.moved.ops p h

-- what holds of each collection in which the table is cached holds of each one that it is put into
pub keeps-put : {K A T : Type 0} (own own_table : K → Bool) (s t : ContextView K A T) (tab u : Table)
    → ((c : Tables) → AllAgree own own_table s c → get c tab.op ≡ Some tab
    → AllAgree own own_table t (insert c tab.op u)) → KeepsAllAgree own own_table s tab t u
keeps-put own own_table s t tab u keeps c all =
    subst (AllAgree own own_table t) (insert-twice c tab.op tab u)
    (keeps (insert c tab.op tab) all (get-put c tab.op tab))
