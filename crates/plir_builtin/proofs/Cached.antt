-- Calls on a table that is cached in a collection that agrees.
use Rattle.std.proofs.Common.{◌≡◌, ℕ, List, Bool, true, Option, Some, None, IsSome, Result, Ok, Err, OnOk, OnErr}
use Rattle.std.proofs.Common.{MutBor, inr, refl, sym, ap, subst, ◌∙◌}
use Rattle.std.specs.Prelude.{IfErr, IfSome, option_map}
use Rattle.std.specs.Option.{OnSome}
use Rattle.std.specs.FinMap.{get, insert}
use Rattle.plir_core.specs.declared.ptr.Ptr.{Ptr}
use Rattle.plir_core.specs.declared.ptr.Operation.{Operation as OperationKind}
use Rattle.plir_core.specs.declared.ptr.IRNode.TheVariants.{Operation}
use Rattle.plir_core.specs.declared.insertion_point.OpInsertionPoint.{OpInsertionPoint}
use Rattle.plir_core.specs.ContextView.{ContextView, is_live, IsAncestor}
use Rattle.plir_core.specs.Changes.{with_op_unlinked}
use Rattle.plir_core.specs.Unused.{IsUnusedOutside, without_tree}
use Rattle.plir_builtin.specs.declared.symbol_table_err.SymbolTableErr.{SymbolTableErr}
use Rattle.plir_builtin.specs.declared.symbol_edits.SymbolEdit.{SymbolEdit}
use Rattle.plir_builtin.specs.declared.symbol_edits.SymbolEdit.TheVariants.{Insert, Remove, Erase}
use Rattle.plir_builtin.specs.Table.{Table, Tables}
use Rattle.plir_builtin.specs.Symbols.{body, scan}
use Rattle.plir_builtin.specs.Agree.{Agrees, AllAgree, AgreesAsLent, IsNewlyCached, IsCachedFor, IsReady}
use Rattle.plir_builtin.specs.Insertion.{inserted}
use Rattle.plir_builtin.specs.Refusals.{Refusal, reported, reported_or, ReportsOnly, ReportsOr, IsInsertErr}
use Rattle.plir_builtin.specs.Refusals.{IsInsertGrowth, IsInsertRefusal, IsRemoveRefusal, IsPlaceable}
use Rattle.plir_builtin.specs.TableEdits.{IsRecorded, IsForgotten}
use Rattle.plir_builtin.specs.SymbolEdits.{table_of, IsMember, IsMadeEdit, IsCallGrowth, IsCallRefusal}
use Rattle.plir_builtin.specs.Applied.{IsCalled}
use Rattle.std.proofs.Common.{cond, false}
use Rattle.std.specs.FinMap.{get-insert}
use Rattle.std.specs.Ordering.{eq_by_cmp}
use Rattle.std.proofs.lemmas.Option.{same_Some, none-some}
use Rattle.plir_builtin.specs.Maps.{ptr_cmp}
use Rattle.plir_builtin.specs.Symbols.{IsGood}
use Rattle.plir_builtin.proofs.Brought.{lent-put}
use Rattle.plir_builtin.proofs.Frames.{some-is}
use Rattle.plir_builtin.proofs.MapViews.{insert-has, ptr_total, ptr_same, ptr_reflects}

-- A table that is cached for an operation, which may be edited.
module _ {K A T : Type 0} (s : ContextView K A T) (c : Tables) (table : Ptr OperationKind)
    (ready : IsReady s c table) where
  pub ready-there : None ≡ get c table → ⊥
  ready-there none = none-some table (ap (option_map (λ (t : Table). t.op)) none ∙ ready.0)

  pub ready-some : IsSome (get c table)
  ready-some = at (get c table) ready.0
    where
      at : (o : Option Table) → option_map (λ (t : Table). t.op) o ≡ Some table → IsSome o
      at None e = absurd (none-some table e)
      at (Some t) e = refl

  module _ (tab : Table) (has : Some tab ≡ get c table) where
    pub ready-op : tab.op ≡ table
    ready-op = same_Some tab.op table (ap (option_map (λ (t : Table). t.op)) has ∙ ready.0)

    pub ready-live : is_live s (Operation table) ≡ true → is_live s (Operation tab.op) ≡ true
    ready-live live = subst (λ z. is_live s (Operation z) ≡ true) (sym ready-op) live

    pub ready-body : IsSome (body s tab.op)
    ready-body = subst (λ z. IsSome (body s z)) (sym ready-op) ready.1

    pub ready-away : (o : Ptr OperationKind) → (IsAncestor s (Operation o) (Operation table) → ⊥)
        → IsAncestor s (Operation o) (Operation tab.op) → ⊥
    ready-away o away = subst (λ z. IsAncestor s (Operation o) (Operation z) → ⊥) (sym ready-op) away

    -- the collection afterwards, where the table ends as u
    pub put-after : (u : Table) (n : Tables) (res : Option (MutBor Table)) (lent : MutBor Table) → res ≡ Some lent
        → OnSome res (n ≡ insert c table u) → n ≡ insert c table u
    put-after u n res lent e put = subst (λ z. OnSome z (n ≡ insert c table u)) e put

    -- of which P holds: that all its tables agree, or that they are cached for what was given out
    pub kept-after : (P : ContextView K A T → Tables → Type 0) → P s c
        → (r : Result (Unit {0}) SymbolTableErr) (t : ContextView K A T) (u : Table) (n : Tables)
        (res : Option (MutBor Table)) (lent : MutBor Table) → res ≡ Some lent → OnSome res (n ≡ insert c table u)
        → OnOk r ((d : Tables) → P s (insert d tab.op tab) → P t (insert d tab.op u)) → OnErr r ((t ≡ s) × (u ≡ tab))
        → P t n
    kept-after P h r t u n res lent e put ok err = subst (P t) (sym (put-after u n res lent e put)) (at r ok err)
      where
        at : (r : Result (Unit {0}) SymbolTableErr)
            → OnOk r ((d : Tables) → P s (insert d tab.op tab) → P t (insert d tab.op u))
            → OnErr r ((t ≡ s) × (u ≡ tab)) → P t (insert c table u)
        at (Ok v) f k =
            subst (λ z. P t (insert c z u)) ready-op
            (f c (subst (P s) (sym (insert-has c tab.op tab (ap (get c) ready-op ∙ sym has))) h))
        at (Err x) f k =
            subst (λ z. P z (insert c table u)) (sym k.0)
            (subst (P s) (sym (ap (insert c table) k.1 ∙ insert-has c table tab (sym has))) h)

-- what is reported, and what stands for it where memory was refused, said in other words
pub reported-map : (M N : Type 0) (P Q : Refusal → Type 0) (o : Option Refusal) → (M → N) → ((r : Refusal) → P r → Q r)
    → reported_or M P o → reported_or N Q o
reported-map M N P Q None m f h = m h
reported-map M N P Q (Some r) m f h = f r h

-- what is reported alone, and never that memory was refused
pub reported-only : (N : Type 0) (P : Refusal → Type 0) (o : Option Refusal) → ((r : Refusal) × (o ≡ Some r) × P r)
    → reported_or N P o
reported-only N P o h = subst (reported_or N P) (sym h.1) h.2

-- The same where all tables agree.
module _ {K A T : Type 0} (w own own_table : K → Bool) (s : ContextView K A T) (c : Tables)
    (all : AllAgree own own_table s c) (table : Ptr OperationKind) (live : is_live s (Operation table) ≡ true)
    (tab : Table) (has : Some tab ≡ get c table) where
  cached_at : (tab.op ≡ table) × Agrees own own_table s tab
  cached_at = all table tab (sym has) (inr live)

  names_same : get tab.names ≡ scan own s tab.op
  names_same = λ i x. cached_at.1.names x i

  -- what a call on the table leaves and answers
  called_so : (e : SymbolEdit) → table_of e ≡ table
      → (r : Result (Unit {0}) SymbolTableErr) (t : ContextView K A T) (u : Table) (n : Tables) → n ≡ insert c table u
      → AllAgree own own_table t n
      → OnOk r (IsMadeEdit w own own_table s e t)
      → IfErr r (ReportsOr (IsCallGrowth w own own_table s e) (IsCallRefusal w own own_table s e))
      → OnErr r ((t ≡ s) × (u ≡ tab)) → IsCalled w own own_table s c e r t n
  called_so e of (Ok v) t u n put agree made refused same =
      (made, (u, subst (λ z. n ≡ insert c z u) (sym of) put), agree)
  called_so e of (Err x) t u n put agree made refused same =
      (same.0, put ∙ ap (insert c table) same.1 ∙ insert-has c table tab (sym has), refused)

  module _ (o : Ptr OperationKind) (r : Result (Unit {0}) SymbolTableErr) (t : ContextView K A T) (u : Table)
      (n : Tables) (put : n ≡ insert c table u) (agree : AllAgree own own_table t n)
      (same : OnErr r ((t ≡ s) × (u ≡ tab))) where
    pub insert-called : (p : Option OpInsertionPoint) → (IsAncestor s (Operation o) (Operation table) → ⊥)
        → OnOk r (IsRecorded own s tab o u) → OnOk r (t ≡ inserted w s tab.op o p)
        → OnOk r (IsPlaceable own s tab.op o p) → IfErr r (IsInsertErr own s (get tab.names) tab.op o p)
        → IsCalled w own own_table s c (Insert table o p) r t n
    insert-called p away recorded after placeable refused =
        called_so (Insert table o p) refl r t u n put agree (made r recorded after placeable) (why r refused) same
      where
        made : (q : Result (Unit {0}) SymbolTableErr) → OnOk q (IsRecorded own s tab o u)
            → OnOk q (t ≡ inserted w s tab.op o p) → OnOk q (IsPlaceable own s tab.op o p)
            → OnOk q (IsMadeEdit w own own_table s (Insert table o p) t)
        made (Ok v) a b d = (
          away,
          (
            a.name,
            a.named,
            subst (λ z. (q : Ptr OperationKind) → scan own s z a.name ≡ Some q → q ≡ o) cached_at.0
                (λ q e. a.free q (cached_at.1.names a.name ∙ e)),
          ),
          subst (λ z. IsPlaceable own s z o p) cached_at.0 d,
          b ∙ ap (λ z. inserted w s z o p) cached_at.0,
        )
        made (Err x) a b d = tt

        why : (q : Result (Unit {0}) SymbolTableErr) → IfErr q (IsInsertErr own s (get tab.names) tab.op o p)
            → IfErr q (ReportsOr (IsCallGrowth w own own_table s (Insert table o p))
            (IsCallRefusal w own own_table s (Insert table o p)))
        why (Ok v) h = tt
        why (Err x) h =
            reported-map (IsInsertGrowth own s (scan own s table) table o p)
            (IsCallGrowth w own own_table s (Insert table o p)) (IsInsertRefusal own s (scan own s table) table o p)
            (IsCallRefusal w own own_table s (Insert table o p)) (reported x) (λ m. (away, m)) (λ f m. (away, m))
            (subst (λ z. IsInsertErr own s (scan own s z) z o p x) cached_at.0
            (subst (λ f. IsInsertErr own s f tab.op o p x) names_same h))

    member_so : (q : Result (Unit {0}) SymbolTableErr) → OnOk q (IsForgotten own s tab o u)
        → OnOk q (IsMember w own own_table s table o)
    member_so (Ok v) a = ((a.name, a.named), a.member ∙ ap (body s) cached_at.0)
    member_so (Err x) a = tt

    refused_so : (N : Type 0) (q : Result (Unit {0}) SymbolTableErr)
        → IfErr q (ReportsOnly (IsRemoveRefusal own s tab.op o)) → IfErr q (ReportsOr N (IsRemoveRefusal own s table o))
    refused_so N (Ok v) h = tt
    refused_so N (Err x) h =
        reported-only N (IsRemoveRefusal own s table o) (reported x)
        (subst (λ z. ReportsOnly (IsRemoveRefusal own s z o) x) cached_at.0 h)

    both : (P Q : Type 0) (q : Result (Unit {0}) SymbolTableErr) → OnOk q P → OnOk q Q → OnOk q (P × Q)
    both P Q (Ok v) a b = (a, b)
    both P Q (Err x) a b = tt

    pub remove-called : OnOk r (IsForgotten own s tab o u) → OnOk r (t ≡ with_op_unlinked s o)
        → IfErr r (ReportsOnly (IsRemoveRefusal own s tab.op o)) → IsCalled w own own_table s c (Remove table o) r t n
    remove-called forgotten after refused =
        called_so (Remove table o) refl r t u n put agree
        (both (IsMember w own own_table s table o) (t ≡ with_op_unlinked s o) r (member_so r forgotten) after)
        (refused_so ⊥ r refused) same

    pub erase-called : IsUnusedOutside s (Operation o) → OnOk r (IsForgotten own s tab o u)
        → OnOk r (t ≡ without_tree s (Operation o)) → IfErr r (ReportsOnly (IsRemoveRefusal own s tab.op o))
        → IsCalled w own own_table s c (Erase table o) r t n
    erase-called unused forgotten after refused =
        called_so (Erase table o) refl r t u n put agree (made r forgotten after) (refused_so ⊥ r refused) same
      where
        made : (q : Result (Unit {0}) SymbolTableErr) → OnOk q (IsForgotten own s tab o u)
            → OnOk q (t ≡ without_tree s (Operation o)) → OnOk q (IsMadeEdit w own own_table s (Erase table o) t)
        made (Ok v) a b = (((a.name, a.named), a.member ∙ ap (body s) cached_at.0), unused, b)
        made (Err x) a b = tt

module _ {K A T : Type 0} (own own_table : K → Bool) (s : ContextView K A T) (c : Tables)
    (all : AllAgree own own_table s c) (table : Ptr OperationKind) where
  -- the table that is cached
  pub cached-now : is_live s (Operation table) ≡ true → IsSome (get c table)
      → (t : Table) × (get c table ≡ Some t) × (t.op ≡ table) × Agrees own own_table s t
  cached-now live some =
      let t = some-is (get c table) some in
      let a = all table t.0 t.1 (inr live) in
      (t.0, t.1, a.0, a.1)

  module _ (tab : Table) (is : tab.op ≡ table) (agrees : Agrees own own_table s tab) (n : Tables)
      (put : n ≡ insert c table tab) where
    -- a new table
    pub cached-new : (t : Table) × (get n table ≡ Some t) × (t.op ≡ table) × Agrees own own_table s t
    cached-new = (
      tab,
      ap (λ (z : Tables). get z table) put ∙ get-insert ptr_total c table tab table
          ∙ ap (λ b. cond b (Some tab) (get c table)) (ptr_reflects table table refl),
      is,
      agrees,
    )

    pub agree-new : AllAgree own own_table s n
    agree-new p u has live =
        by_key (eq_by_cmp ptr_cmp p table) refl
        (sym (ap (λ (z : Tables). get z p) put ∙ get-insert ptr_total c table tab p) ∙ has)
      where
        by_key : (k : Bool) → eq_by_cmp ptr_cmp p table ≡ k
            → cond (eq_by_cmp ptr_cmp p table) (Some tab) (get c p) ≡ Some u → (u.op ≡ p) × Agrees own own_table s u
        by_key true same h =
            let it : tab ≡ u = same_Some tab u (ap (λ z. cond z (Some tab) (get c p)) (sym same) ∙ h) in (
              ap (λ (z : Table). z.op) (sym it) ∙ is ∙ sym (ptr_same p table same),
              subst (Agrees own own_table s) it agrees,
            )
        by_key false other h = all p u (ap (λ z. cond z (Some tab) (get c p)) (sym other) ∙ h) live

-- A collection that brought a table for p.
module _ {K A T : Type 0} (own own_table : K → Bool) (s : ContextView K A T) (c : Tables) (p : Ptr OperationKind)
    (live : is_live s (Operation p) ≡ true) (d : Tables) (kept : IsSome (get c p) → d ≡ c)
    (made : get c p ≡ None → IsNewlyCached own own_table s c p d) (all : AllAgree own own_table s c) where
  pub brought-for : IsCachedFor own own_table s d p
  brought-for = at (get c p) refl
    where
      at : (o : Option Table) → get c p ≡ o → IsCachedFor own own_table s d p
      at None e = let m = made e in cached-new own own_table s c all p m.0 m.2 m.3 d m.1
      at (Some t) e =
          let h = subst IsSome (sym e) refl in
          subst (λ z. IsCachedFor own own_table s z p) (sym (kept h)) (cached-now own own_table s c all p live h)

  pub brought-agree : AllAgree own own_table s d
  brought-agree = at (get c p) refl
    where
      at : (o : Option Table) → get c p ≡ o → AllAgree own own_table s d
      at None e = let m = made e in agree-new own own_table s c all p m.0 m.2 m.3 d m.1
      at (Some t) e = subst (AllAgree own own_table s) (sym (kept (subst IsSome (sym e) refl))) all

  -- the table that is lent agrees, and so do all with it in its place
  pub brought-lent : (x : Table) → Some x ≡ get d p → AgreesAsLent own own_table s c p x
  brought-lent x has =
      let f = brought-for in
      let it : x ≡ f.0 = same_Some x f.0 (has ∙ f.1) in (
        ap (λ (z : Table). z.op) it ∙ f.2,
        subst (Agrees own own_table s) (sym it) f.3,
        subst (AllAgree own own_table s) (sym (lent-put own own_table s c d p kept made x has)) brought-agree,
      )

  -- what it finds is what a scan finds
  pub brought-found : (r : Option (Ptr OperationKind)) (x : List ℕ) → IfSome (get d p) (λ t. r ≡ get t.names x)
      → r ≡ scan own s p x
  brought-found r x h =
      let b = brought-for in
      let found = subst (λ (z : Option Table). IfSome z (λ t. r ≡ get t.names x)) b.1 h in
      found ∙ b.3.names x ∙ ap (λ z. scan own s z x) b.2

  pub brought-good : IsGood own own_table s p
  brought-good = subst (IsGood own own_table s) brought-for.2 brought-for.3.good

-- what is cached for p may be edited, if it agrees
pub ready-for : {K A T : Type 0} (own own_table : K → Bool) (s : ContextView K A T) (c : Tables) (p : Ptr OperationKind)
    → IsCachedFor own own_table s c p → IsReady s c p
ready-for own own_table s c p h =
    (ap (option_map (λ (t : Table). t.op)) h.1 ∙ ap Some h.2, subst (λ z. IsSome (body s z)) h.2 h.3.good.body)

-- a table that agrees is good, and so is its operation under another name
pub good-at : {K A T : Type 0} (own own_table : K → Bool) (s : ContextView K A T) (t : Table)
    (table : Ptr OperationKind) → t.op ≡ table → Agrees own own_table s t → IsGood own own_table s table
good-at own own_table s t table e a = subst (IsGood own own_table s) e a.good
