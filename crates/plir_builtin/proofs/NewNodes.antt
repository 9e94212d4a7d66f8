-- New nodes change no table of an older operation, and neither do new types.
use Rattle.std.proofs.Common.{◌≡◌, Bool, true, false, true≢false, Some, inl, inr, refl, sym, ap, subst, ◌∙◌}
use Rattle.std.specs.FinMap.{get}
use Rattle.std.proofs.lemmas.Option.{same_Some}
use Rattle.plir_core.specs.declared.ptr.Ptr.{Ptr}
use Rattle.plir_core.specs.declared.ptr.Operation.{Operation as OperationKind}
use Rattle.plir_core.specs.declared.ptr.IRNode.{IRNode}
use Rattle.plir_core.specs.declared.ptr.IRNode.TheVariants.{Operation, Region, BasicBlock}
use Rattle.plir_store.specs.Table.{content_at}
use Rattle.plir_core.specs.Edits.{SameNodes}
use Rattle.plir_core.specs.Made.{IsMade}
use Rattle.plir_core.specs.Nodes.{is_node_live, node_children}
use Rattle.plir_core.specs.Standing.{IsStanding}
use Rattle.plir_core.specs.ContextView.{ContextView, is_live, given_out, children, op_at}
use Rattle.plir_builtin.specs.Table.{Table, Tables}
use Rattle.plir_builtin.specs.Symbols.{body}
use Rattle.plir_builtin.specs.Agree.{AllAgree, AreGivenOut}
use Rattle.plir_builtin.proofs.SymbolLists.{only-Has}
use Rattle.plir_builtin.proofs.Bodies.{body-is}
use Rattle.plir_builtin.proofs.Frames.{KeepsBody, agrees-same}

-- From s to t what was live has the children that it had, and holds what it held.
module _ {K A T : Type 0} (s t : ContextView K A T) (w : IsStanding s)
    (children_kept : (m : IRNode) → is_live s m ≡ true → children t m ≡ children s m)
    (held : (p : Ptr OperationKind) → is_live s (Operation p) ≡ true → op_at t p ≡ op_at s p) where
  keeps-old : (p : Ptr OperationKind) (c : IRNode) → is_live s (Operation p) ≡ true → body s p ≡ Some c
      → KeepsBody s t p (children s c)
  keeps-old p c live at_c =
      let i = body-is s p c at_c in
      let region_live = w.forest.child_live (Operation p) (Region i.region) (only-Has _ _ i.one_region) in
      let block_live = w.forest.child_live (Region i.region) (BasicBlock i.block) (only-Has _ _ i.one_block) in
      let blocks = children_kept (Region i.region) region_live in
      let now = children_kept c (subst (λ z. is_live s z ≡ true) (sym i.is) block_live) in
      record {
        holds = held p live;
        regions = children_kept (Operation p) live;
        blocks =
            λ r h. let same = same_Some (Region i.region) r (sym i.one_region ∙ h) in
            subst (λ m. children t m ≡ children s m) same blocks;
        children = λ d h. ap (children t) (same_Some d c (sym h ∙ at_c)) ∙ now;
        contents = λ d q h has. held q (w.forest.child_live c (Operation q) has);
      }

  -- where no table is cached for what has become live since, or is its, all tables agree as before
  pub agree-kept : (own own_table : K → Bool) (c : Tables)
      → ((p : Ptr OperationKind) (tab : Table) → get c p ≡ Some tab
      → (is_live t (Operation p) ≡ true → is_live s (Operation p) ≡ true) ×
      (is_live t (Operation tab.op) ≡ true → is_live s (Operation tab.op) ≡ true))
      → AllAgree own own_table s c → AllAgree own own_table t c
  agree-kept own own_table c before all p tab has live =
      let b = before p tab has in
      let was = all p tab has (elim live [ inl l ↦ inl (b.1 l) | inr l ↦ inr (b.0 l) ]) in
      let alive : is_live s (Operation tab.op) ≡ true =
      elim live [ inl l ↦ b.1 l | inr l ↦ subst (λ z. is_live s (Operation z) ≡ true) (sym was.0) (b.0 l) ] in
      (was.0, agrees-same own own_table s t tab (λ d at_d. keeps-old tab.op d alive at_d) was.1)

module _ {K A T : Type 0} (s t : ContextView K A T) (w : IsStanding s) (own own_table : K → Bool) (c : Tables) where
  pub made-agree : (n : IRNode) → IsMade s.nodes t.nodes n → AreGivenOut s c → AllAgree own own_table s c
      → AllAgree own own_table t c
  made-agree n made given =
      agree-kept s t w made.children made.keeps.ops own own_table c
      (λ p tab has. (was_live (Operation p) (given p tab has).0, was_live (Operation tab.op) (given p tab has).1))
    where
      -- what was given out before and is live now was live before
      was_live : (m : IRNode) → given_out s m ≡ true → is_live t m ≡ true → is_live s m ≡ true
      was_live m old live = at (is_live s m) refl
        where
          at : (b : Bool) → is_live s m ≡ b → is_live s m ≡ true
          at true e = e
          at false e = absurd (true≢false (sym old ∙ made.fresh m live e))

  pub same-agree : SameNodes s.nodes t.nodes → AllAgree own own_table s c → AllAgree own own_table t c
  same-agree same =
      agree-kept s t w (λ m live. same.children m) same.ops own own_table c
      (λ p tab has. ((λ l. sym (same.live (Operation p)) ∙ l), (λ l. sym (same.live (Operation tab.op)) ∙ l)))

  pub typed-agree : t.nodes ≡ s.nodes → AllAgree own own_table s c → AllAgree own own_table t c
  typed-agree e =
      agree-kept s t w (λ m live. ap (λ z. node_children z m) e) (λ p live. ap (λ z. content_at z.ops p.slot) e) own
      own_table c
      (λ p tab has. (
        (λ l. ap (λ z. is_node_live z (Operation p)) (sym e) ∙ l),
        (λ l. ap (λ z. is_node_live z (Operation tab.op)) (sym e) ∙ l),
      ))
