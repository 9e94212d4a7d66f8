-- Edits of the body of one operation: which tables agree afterwards.
use Rattle.std.proofs.Common.{◌≡◌, Bool, true, false, true≢false, cond, List, ◌∷◌, ◌++◌, Some, inl, inr, refl, sym, ap}
use Rattle.std.proofs.Common.{subst, ◌∙◌}
use Rattle.std.specs.FinMap.{get, insert, get-insert}
use Rattle.std.specs.Ordering.{eq_by_cmp}
use Rattle.std.proofs.lemmas.Option.{same_Some}
use Rattle.plir_store.specs.Table.{content_at, is_live_at}
use Rattle.plir_core.specs.declared.ptr.Ptr.{Ptr}
use Rattle.plir_core.specs.declared.ptr.Operation.{Operation as OperationKind}
use Rattle.plir_core.specs.declared.ptr.IRNode.{IRNode}
use Rattle.plir_core.specs.declared.ptr.IRNode.TheVariants.{Operation, Region, BasicBlock}
use Rattle.plir_store.specs.Members.{Has}
use Rattle.plir_core.specs.Above.{Reaches}
use Rattle.plir_core.specs.ContextView.{ContextView, is_live, children, parent_of, op_at}
use Rattle.plir_core.specs.Placed.{IsPlaced, IsUnlinked}
use Rattle.plir_core.specs.Erase.{IsErased}
use Rattle.plir_core.specs.Standing.{IsStanding}
use Rattle.plir_builtin.specs.Maps.{ptr_cmp}
use Rattle.plir_builtin.specs.Table.{Table, Tables}
use Rattle.plir_builtin.specs.Symbols.{only, body}
use Rattle.plir_builtin.specs.Agree.{Agrees, AllAgree}
use Rattle.plir_builtin.proofs.MapViews.{ptr_total, ptr_same, ptr_reflects}
use Rattle.plir_builtin.proofs.SymbolLists.{only-Has}
use Rattle.plir_builtin.proofs.Bodies.{body-is, one-body, not_region_block, not_block_op}
use Rattle.plir_builtin.proofs.Frames.{KeepsBody, agrees-same}

-- From s to t the children of the block b have become ks. Every other node that is live in t was live in s, and has
-- the children and the contents that it had.
pub record EditsBlock {K A T : Type 0} (s t : ContextView K A T) (b : IRNode) (ks : List IRNode) : Type 0 where
  pub children_over : children t b ≡ ks
  pub children : (m : IRNode) → is_live t m ≡ true → (m ≡ b → ⊥) → children t m ≡ children s m
  pub holds : (q : Ptr OperationKind) → is_live t (Operation q) ≡ true → op_at t q ≡ op_at s q
  pub stays : (m : IRNode) → is_live t m ≡ true → is_live s m ≡ true

module _ {K A T : Type 0} (s t : ContextView K A T) (ws : IsStanding s) (wt : IsStanding t) (o : Ptr OperationKind)
    (b : IRNode) (ks : List IRNode) (at_body : body s o ≡ Some b) (e : EditsBlock s t b ks) where
  not_op : (p : Ptr OperationKind) → Operation p ≡ b → ⊥
  not_op p h = let i = body-is s o b at_body in not_block_op i.block p (sym i.is ∙ sym h)

  keeps_with : (p : Ptr OperationKind) (c : IRNode) (ls : List IRNode) → is_live t (Operation p) ≡ true
      → body s p ≡ Some c → ((live : is_live t c ≡ true) → children t c ≡ ls) → KeepsBody s t p ls
  keeps_with p c ls live at_c children_c =
      let i = body-is s p c at_c in
      let regions = e.children (Operation p) live (not_op p) in
      let region_live =
      wt.forest.child_live (Operation p) (Region i.region) (only-Has _ _ (ap only regions ∙ i.one_region)) in
      let not_b : Region i.region ≡ b → ⊥ =
      λ h. let j = body-is s o b at_body in not_region_block j.block i.region (sym (h ∙ j.is)) in
      let blocks = e.children (Region i.region) region_live not_b in
      let block_live =
      wt.forest.child_live (Region i.region) (BasicBlock i.block) (only-Has _ _ (ap only blocks ∙ i.one_block)) in
      let now = children_c (subst (λ n. is_live t n ≡ true) (sym i.is) block_live) in
      record {
        holds = e.holds p live;
        regions = regions;
        blocks =
            λ r h. let same = same_Some (Region i.region) r (sym i.one_region ∙ h) in
            subst (λ n. children t n ≡ children s n) same blocks;
        children = λ d h. ap (children t) (same_Some d c (sym h ∙ at_c)) ∙ now;
        contents =
            λ d q h has.
            e.holds q (wt.forest.child_live c (Operation q) (subst (λ l. Has l (Operation q)) (sym now) has));
      }

  -- the body of the operation itself has become ks
  pub keeps-edited : is_live t (Operation o) ≡ true → KeepsBody s t o ks
  keeps-edited live = keeps_with o b ks live at_body (λ _. e.children_over)

  -- that of another one is as it was
  pub keeps-other : (p : Ptr OperationKind) (c : IRNode) → is_live t (Operation p) ≡ true → (p ≡ o → ⊥)
      → body s p ≡ Some c → KeepsBody s t p (children s c)
  keeps-other p c live other at_c =
      keeps_with p c (children s c) live at_c
      (λ l. e.children c l (λ h. other (one-body s ws p o c at_c (at_body ∙ ap (λ z. Some z) (sym h)))))

  -- all tables agree, if the one of the edited operation does
  pub all_agree-edited : (own own_table : K → Bool) (c : Tables) (tab : Table) → AllAgree own own_table s c → tab.op ≡ o
      → (is_live t (Operation o) ≡ true → Agrees own own_table t tab) → AllAgree own own_table t (insert c o tab)
  all_agree-edited own own_table c tab all is agrees p u has live =
      by_key (eq_by_cmp ptr_cmp p o) refl (sym (get-insert ptr_total c o tab p) ∙ has)
    where
      by_key : (k : Bool) → eq_by_cmp ptr_cmp p o ≡ k → cond (eq_by_cmp ptr_cmp p o) (Some tab) (get c p) ≡ Some u
          → (u.op ≡ p) × Agrees own own_table t u
      by_key true same h =
          let here : p ≡ o = ptr_same p o same in
          let it : tab ≡ u = same_Some tab u (ap (λ z. cond z (Some tab) (get c p)) (sym same) ∙ h) in
          let op_is : u.op ≡ p = ap (λ (z : Table). z.op) (sym it) ∙ is ∙ sym here in
          let alive : is_live t (Operation o) ≡ true =
          elim live [
            | inl l ↦ subst (λ z. is_live t (Operation z) ≡ true) (op_is ∙ here) l
            | inr l ↦ subst (λ z. is_live t (Operation z) ≡ true) here l
          ] in
          (op_is, subst (Agrees own own_table t) it (agrees alive))
      by_key false other h =
          let there : get c p ≡ Some u = ap (λ z. cond z (Some tab) (get c p)) (sym other) ∙ h in
          let was =
          all p u there
          (elim live [ inl l ↦ inl (e.stays (Operation u.op) l) | inr l ↦ inr (e.stays (Operation p) l) ]) in
          let alive : is_live t (Operation u.op) ≡ true =
          elim live [ inl l ↦ l | inr l ↦ subst (λ z. is_live t (Operation z) ≡ true) (sym was.0) l ] in
          let apart : u.op ≡ o → ⊥ = λ q. true≢false (sym (ptr_reflects p o (sym was.0 ∙ q)) ∙ other) in
          (was.0, agrees-same own own_table s t u (λ d at_d. keeps-other u.op d alive apart at_d) was.1)

-- how nodes are live by their tables
pub live-same : {K A T : Type 0} (s t : ContextView K A T) → t.nodes.ops ≡ s.nodes.ops
    → t.nodes.regions ≡ s.nodes.regions → t.nodes.blocks ≡ s.nodes.blocks → (m : IRNode) → is_live t m ≡ is_live s m
live-same s t a b c (Operation p) = ap (λ z. is_live_at z p.slot p.version) a
live-same s t a b c (Region p) = ap (λ z. is_live_at z p.slot p.version) b
live-same s t a b c (BasicBlock p) = ap (λ z. is_live_at z p.slot p.version) c

module _ {K A T : Type 0} (s t : ContextView K A T) (n b : IRNode) where
  pub edits-placed : (ks : List IRNode) → IsPlaced s.nodes t.nodes n b ks → EditsBlock s t b ks
  edits-placed ks p = record {
    children_over = p.children_over;
    children = λ m live other. p.children m other;
    holds = λ q live. ap (λ z. content_at z q.slot) p.moved.ops;
    stays = λ m live. sym (live-same s t p.moved.ops p.moved.regions p.moved.blocks m) ∙ live;
  }

  pub edits-unlinked : (xs ys : List IRNode) → parent_of s n ≡ Some b → children s b ≡ xs ++ n ∷ ys
      → IsUnlinked s.nodes t.nodes n → EditsBlock s t b (xs ++ ys)
  edits-unlinked xs ys over cut u = record {
    children_over = u.children_over b xs ys cut;
    children = λ m live other. u.children m (λ h. other (same_Some m b (sym h ∙ over)));
    holds = λ q live. ap (λ z. content_at z q.slot) u.moved.ops;
    stays = λ m live. sym (live-same s t u.moved.ops u.moved.regions u.moved.blocks m) ∙ live;
  }

  -- what is live afterwards was not below
  not_under : IsErased s.nodes t.nodes n → (m : IRNode) → is_live t m ≡ true → Reaches (parent_of s) m n → ⊥
  not_under x m live r = true≢false (sym live ∙ x.gone m r)

  pub edits-erased : (xs ys : List IRNode) → parent_of s n ≡ Some b → children s b ≡ xs ++ n ∷ ys
      → IsErased s.nodes t.nodes n → EditsBlock s t b (xs ++ ys)
  edits-erased xs ys over cut x = record {
    children_over = x.children_over b xs ys cut;
    children = λ m live other. x.children m (not_under x m live) (λ h. other (same_Some m b (sym h ∙ over)));
    holds = λ q live. x.ops q live;
    stays = λ m live. sym (x.live m (not_under x m live)) ∙ live;
  }
