-- Insertions into a table's body and removals from it keep agreement.
use Rattle.std.proofs.Common.{◌≡◌, ℕ, zero, suc, ◌≤◌, arith, Bool, true, false, true≢false, cond, List, [], ◌∷◌, ◌++◌}
use Rattle.std.proofs.Common.{Option, Some, None, IsSome, inl, inr, refl, sym, ap, subst, ◌∙◌}
use Rattle.std.specs.Prelude.{IfSome}
use Rattle.std.specs.FinMap.{get, insert, get-insert}
use Rattle.std.specs.Cmp.{eq_by_cmp_equiv}
use Rattle.std.proofs.lemmas.Cmp.{nat_list_cmp_total}
use Rattle.std.proofs.lemmas.Option.{same_Some, none-some}
use Rattle.plir_data.specs.Dictionary.{is_key}
use Rattle.plir_core.specs.declared.ptr.Ptr.{Ptr}
use Rattle.plir_core.specs.declared.ptr.Operation.{Operation as OperationKind}
use Rattle.plir_core.specs.declared.ptr.BasicBlock.{BasicBlock as BlockKind}
use Rattle.plir_core.specs.declared.ptr.IRNode.{IRNode}
use Rattle.plir_core.specs.declared.ptr.IRNode.TheVariants.{Operation, Region, BasicBlock}
use Rattle.plir_core.specs.declared.insertion_point.OpInsertionPoint.{OpInsertionPoint}
use Rattle.plir_store.specs.Members.{Has}
use Rattle.plir_core.specs.Contents.{OpView}
use Rattle.plir_core.specs.Above.{climb, Reaches}
use Rattle.plir_core.specs.ContextView.{ContextView, is_live, children, parent_of, op_at, kind_in, IsAncestor}
use Rattle.plir_core.specs.Placed.{IsUnlinked}
use Rattle.plir_core.specs.Erase.{IsErased}
use Rattle.plir_core.specs.Standing.{IsStanding}
use Rattle.plir_core.specs.Measures.{depth}
use Rattle.plir_builtin.specs.Table.{Table, Tables}
use Rattle.plir_builtin.specs.Symbols.{Symbols, body, children_in, scan, symbols_among, is_symbol_kind, name_held}
use Rattle.plir_builtin.specs.Symbols.{find_named, is_named}
use Rattle.plir_builtin.specs.Agree.{Agrees, AllAgree}
use Rattle.plir_builtin.specs.Insertion.{put_at, inserted, inserted_at, unless_linked, IsPutInto}
use Rattle.plir_builtin.specs.Refusals.{IsSymbolNamed, IsNotOthers}
use Rattle.plir_builtin.specs.Plan.{IsPlanned}
use Rattle.plir_builtin.specs.TableEdits.{with_name, without_name}
use Rattle.plir_builtin.proofs.SymbolLists.{Has-cut, symbols-mid, key_same, split_none}
use Rattle.plir_builtin.proofs.Bodies.{body-is, body-parent, body-reaches}
use Rattle.plir_builtin.proofs.Frames.{agrees-more, agrees-less, some-is}
use Rattle.plir_builtin.proofs.Edits.{EditsBlock, edits-placed, edits-unlinked, edits-erased, keeps-edited}
use Rattle.plir_builtin.proofs.Edits.{all_agree-edited, live-same}

-- a symbol that is found stands in the list
pub found-Has : {K A : Type 0} (own : K → Bool) (f : Ptr OperationKind → Option (OpView K A)) (x : List ℕ)
    (ns : List IRNode) (q : Ptr OperationKind) → find_named x (symbols_among own f ns) ≡ Some q → Has ns (Operation q)
found-Has own f x [] q e = absurd (none-some q e)
found-Has own f x (Operation p ∷ ns) q e = at (found-Has own f x ns q) (is_symbol_kind own (kind_in (f p))) e
  where
    named_at : (find_named x (symbols_among own f ns) ≡ Some q → Has ns (Operation q)) → (c : Bool)
        → cond c (Some p) (find_named x (symbols_among own f ns)) ≡ Some q → Has (Operation p ∷ ns) (Operation q)
    named_at rest true k = inl (ap Operation (same_Some p q k))
    named_at rest false k = inr (rest k)

    at : (find_named x (symbols_among own f ns) ≡ Some q → Has ns (Operation q)) → (b : Bool)
        → find_named x (cond b ((p, name_held (f p)) ∷ symbols_among own f ns) (symbols_among own f ns)) ≡ Some q
        → Has (Operation p ∷ ns) (Operation q)
    at rest false h = inr (rest h)
    at rest true h = named_at rest (is_named x (name_held (f p))) h
found-Has own f x (Region p ∷ ns) q e = inr (found-Has own f x ns q e)
found-Has own f x (BasicBlock p ∷ ns) q e = inr (found-Has own f x ns q e)

key_self : (x : List ℕ) → is_key x x ≡ true
key_self x = (eq_by_cmp_equiv nat_list_cmp_total).refl x

-- a name that stands in a list is found
found-mid : (es fs : Symbols) (p : Ptr OperationKind) (x : List ℕ) → find_named x (es ++ (p, Some x) ∷ fs) ≡ None → ⊥
found-mid [] fs p x e = true≢false (sym (key_self x) ∙ (split_none (is_key x x) p (find_named x fs) e).0)
found-mid (a ∷ es) fs p x e =
    found-mid es fs p x (split_none (is_named x a.1) a.0 (find_named x (es ++ (p, Some x) ∷ fs)) e).1

module _ {K A T : Type 0} (own own_table : K → Bool) (s : ContextView K A T) (w : IsStanding s) (tab : Table)
    (o : Ptr OperationKind) (b : IRNode) (at_body : body s tab.op ≡ Some b) where
  -- what stands in the body is found by its name
  scanned : (x : List ℕ) → IsSymbolNamed own s o x → parent_of s (Operation o) ≡ Some b → scan own s tab.op x ≡ None → ⊥
  scanned x named over none =
      let c = Has-cut (children s b) (Operation o) (w.forest.parent_child b (Operation o) over) in
      found-mid (symbols_among own (op_at s) c.0) (symbols_among own (op_at s) c.1) o x
      (sym (ap (find_named x) (ap (λ z. symbols_among own (op_at s) (children_in s z)) at_body
      ∙ ap (symbols_among own (op_at s)) c.2 ∙ symbols-mid own (op_at s) c.0 c.1 o x named.symbol named.name))
      ∙ none)

  -- what stands nowhere is not found
  unscanned : (x : List ℕ) → IsNotOthers own s (get tab.names) o x → Agrees own own_table s tab
      → parent_of s (Operation o) ≡ None → scan own s tab.op x ≡ None
  unscanned x free a alone = at (scan own s tab.op x) refl
    where
      at : (r : Option (Ptr OperationKind)) → scan own s tab.op x ≡ r → scan own s tab.op x ≡ None
      at None e = e
      at (Some q) e =
          let same : q ≡ o = free q (a.names x ∙ e) in
          let listed =
          found-Has own (op_at s) x (children s b) q
          (ap (λ z. find_named x (symbols_among own (op_at s) (children_in s z))) (sym at_body) ∙ e) in
          absurd (none-some b (sym alone ∙ ap (λ p. parent_of s (Operation p)) (sym same)
          ∙ w.forest.child_parent b (Operation q) listed))

  -- to record what stands there already changes no name
  agrees-stays : (x : List ℕ) → IsSymbolNamed own s o x → IsNotOthers own s (get tab.names) o x
      → parent_of s (Operation o) ≡ Some b → Agrees own own_table s tab → Agrees own own_table s (with_name tab x o)
  agrees-stays x named free over a = record {
    good = a.good;
    names = λ y. get-insert nat_list_cmp_total tab.names x o y ∙ at y (is_key y x) refl;
  }
    where
      found : (r : Option (Ptr OperationKind)) → scan own s tab.op x ≡ r → Some o ≡ r
      found None e = absurd (scanned x named over e)
      found (Some q) e = ap (λ z. Some z) (sym (free q (a.names x ∙ e)))

      at : (y : List ℕ) (c : Bool) → is_key y x ≡ c → cond c (Some o) (get tab.names y) ≡ scan own s tab.op y
      at y true e = found (scan own s tab.op x) refl ∙ ap (λ z. scan own s tab.op z) (sym (key_same y x e))
      at y false e = a.names y

  edits-none : EditsBlock s s b (children s b)
  edits-none =
      record { children_over = refl; children = λ m live other. refl; holds = λ q live. refl; stays = λ m live. live }

-- An insertion that was carried out.
module _ {K A T : Type 0} (is_terminator own own_table : K → Bool) (s t : ContextView K A T) (ws : IsStanding s)
    (wt : IsStanding t) (tab : Table) (o : Ptr OperationKind) (point : Option OpInsertionPoint) (x : List ℕ)
    (b : Ptr BlockKind) where
  pub record IsCarriedOut (place : Option OpInsertionPoint) : Type 0 where
    pub plan : IsPlanned is_terminator own s (get tab.names) tab.op o point x b place
    pub stays : place ≡ None → t ≡ s
    pub put : IfSome place (λ q. (t ≡ put_at s o q) × IsPutInto s t o (BasicBlock b))

  insert_both : (place : Option OpInsertionPoint) → IsCarriedOut place → is_live s (Operation tab.op) ≡ true
      → (Agrees own own_table s tab → Agrees own own_table t (with_name tab x o)) ×
      ((ks : List IRNode) × EditsBlock s t (BasicBlock b) ks)
  insert_both None h live =
      let same : s ≡ t = sym (h.stays refl) in (
        λ a. subst (λ z. Agrees own own_table z (with_name tab x o)) same
            (agrees-stays own own_table s ws tab o (BasicBlock b) h.plan.at_body x h.plan.named h.plan.free
            h.plan.placed a),
        (
          children s (BasicBlock b),
          subst (λ z. EditsBlock s z (BasicBlock b) (children s (BasicBlock b))) same
              (edits-none own own_table s ws tab o (BasicBlock b) h.plan.at_body),
        ),
      )
  insert_both (Some q) h live =
      let p = h.put.1 in
      let e = edits-placed s t (Operation o) (BasicBlock b) (p.before ++ Operation o ∷ p.behind) p.placed in
      let alive : is_live t (Operation tab.op) ≡ true =
      live-same s t p.placed.moved.ops p.placed.moved.regions p.placed.moved.blocks (Operation tab.op) ∙ live in (
        λ a. agrees-more own own_table s t tab o x (BasicBlock b) p.before p.behind h.plan.at_body p.cut
            (keeps-edited s t ws wt tab.op (BasicBlock b) (p.before ++ Operation o ∷ p.behind) h.plan.at_body e alive)
            h.plan.named.symbol h.plan.named.name
            (unscanned own own_table s ws tab o (BasicBlock b) h.plan.at_body x h.plan.free a h.plan.placed.0) a,
        (p.before ++ Operation o ∷ p.behind, e),
      )

  module _ (place : Option OpInsertionPoint) (h : IsCarriedOut place) (live : is_live s (Operation tab.op) ≡ true)
      (u : Table) (is : u ≡ with_name tab x o) where
    pub insert-agrees : Agrees own own_table s tab → Agrees own own_table t u
    insert-agrees a = subst (Agrees own own_table t) (sym is) ((insert_both place h live).0 a)

    pub insert-all : (c : Tables) → AllAgree own own_table s c → get c tab.op ≡ Some tab
        → AllAgree own own_table t (insert c tab.op u)
    insert-all c all has =
        let both = insert_both place h live in
        all_agree-edited s t ws wt tab.op (BasicBlock b) both.1.0 h.plan.at_body both.1.1 own own_table c u all
        (ap (λ (z : Table). z.op) is)
        (λ _. insert-agrees (all tab.op tab has (inl live)).1)

  pub insert-after : (place : Option OpInsertionPoint) → IsCarriedOut place
      → t ≡ inserted is_terminator s tab.op o point
  insert-after None h =
      h.stays refl ∙ sym (ap (λ z. unless_linked z s (inserted_at is_terminator s tab.op o point)) h.plan.placed)
  insert-after (Some q) h =
      h.put.0 ∙ h.plan.placed.3
      ∙ sym (ap (λ z. unless_linked z s (inserted_at is_terminator s tab.op o point)) h.plan.placed.0)

  pub insert-not_above : (place : Option OpInsertionPoint)
      → IsPlanned is_terminator own s (get tab.names) tab.op o point x b place
      → (IsAncestor s (Operation o) (Operation tab.op) → ⊥) → IsAncestor s (Operation o) (BasicBlock b) → ⊥
  insert-not_above place plan away r = away (body-reaches s ws tab.op o (BasicBlock b) plan.at_body r)

-- A removal: s became t where the operation o left the body b.
module _ {K A T : Type 0} (own own_table : K → Bool) (s t : ContextView K A T) (ws : IsStanding s) (wt : IsStanding t)
    (tab : Table) (o : Ptr OperationKind) (x : List ℕ) (b : IRNode) (at_body : body s tab.op ≡ Some b)
    (over : parent_of s (Operation o) ≡ Some b) (named : IsSymbolNamed own s o x) where
  abbrev cut_at : (xs : List IRNode) × (ys : List IRNode) × (children s b ≡ xs ++ Operation o ∷ ys)
  cut_at = Has-cut (children s b) (Operation o) (ws.forest.parent_child b (Operation o) over)

  module _ (e : EditsBlock s t b (cut_at.0 ++ cut_at.1)) (u : Table) (is : u ≡ without_name tab x) where
    pub remove-agrees : is_live t (Operation tab.op) ≡ true → Agrees own own_table s tab → Agrees own own_table t u
    remove-agrees alive a =
        subst (Agrees own own_table t) (sym is)
        (agrees-less own own_table s t tab o x b cut_at.0 cut_at.1 at_body cut_at.2
        (keeps-edited s t ws wt tab.op b (cut_at.0 ++ cut_at.1) at_body e alive) named.symbol named.name a)

    pub remove-all : is_live s (Operation tab.op) ≡ true → (c : Tables) → AllAgree own own_table s c
        → get c tab.op ≡ Some tab → AllAgree own own_table t (insert c tab.op u)
    remove-all live c all has =
        all_agree-edited s t ws wt tab.op b (cut_at.0 ++ cut_at.1) at_body e own own_table c u all
        (ap (λ (z : Table). z.op) is)
        (λ alive. remove-agrees alive (all tab.op tab has (inl live)).1)

  pub unlink-edits : IsUnlinked s.nodes t.nodes (Operation o) → EditsBlock s t b (cut_at.0 ++ cut_at.1)
  unlink-edits q = edits-unlinked s t (Operation o) b cut_at.0 cut_at.1 over cut_at.2 q

  pub unlink-live : IsUnlinked s.nodes t.nodes (Operation o) → is_live s (Operation tab.op) ≡ true
      → is_live t (Operation tab.op) ≡ true
  unlink-live q live = live-same s t q.moved.ops q.moved.regions q.moved.blocks (Operation tab.op) ∙ live

  pub erase-edits : IsErased s.nodes t.nodes (Operation o) → EditsBlock s t b (cut_at.0 ++ cut_at.1)
  erase-edits q = edits-erased s t (Operation o) b cut_at.0 cut_at.1 over cut_at.2 q

  -- from a node up there are no fewer nodes above
  shallower : (k : ℕ) (m n : IRNode) → climb (parent_of s) k (Some m) ≡ Some n → depth s n ≤ depth s m
  shallower zero m n e = subst (λ z. depth s n ≤ depth s z) (sym (same_Some m n e)) (omega arith)
  shallower (suc k) m n e = at (λ a g. shallower k a n g) (parent_of s m) refl e
    where
      nothing : (j : ℕ) → climb (parent_of s) j None ≡ None
      nothing zero = refl
      nothing (suc j) = refl

      at : ((a : IRNode) → climb (parent_of s) k (Some a) ≡ Some n → depth s n ≤ depth s a) → (p : Option IRNode)
          → parent_of s m ≡ p → climb (parent_of s) k p ≡ Some n → depth s n ≤ depth s m
      at rest None f g = absurd (none-some n (sym (nothing k) ∙ g))
      at rest (Some a) f g = let i = rest a g in let d = ws.measured.deeper a m f in omega (arith, i, d)

  -- a table is not below what is in its body
  not_below : Reaches (parent_of s) (Operation tab.op) (Operation o) → ⊥
  not_below r =
      let i = body-is s tab.op b at_body in
      let p = body-parent s ws tab.op b i in
      let d0 = ws.measured.deeper b (Operation o) over in
      let d1 = ws.measured.deeper (Region i.region) b p.0 in
      let d2 = ws.measured.deeper (Operation tab.op) (Region i.region) p.1 in
      let d3 = shallower r.0 (Operation tab.op) (Operation o) r.1 in
      let z : ⊥ = omega (arith, d0, d1, d2, d3) in z

  pub erase-live : IsErased s.nodes t.nodes (Operation o) → is_live s (Operation tab.op) ≡ true
      → is_live t (Operation tab.op) ≡ true
  erase-live q live = q.live (Operation tab.op) not_below ∙ live

-- The same, from what a call knows.
module _ {K A T : Type 0} (own own_table : K → Bool) (s t : ContextView K A T) (ws : IsStanding s) (wt : IsStanding t)
    (tab : Table) (o : Ptr OperationKind) (x : List ℕ) (named : IsSymbolNamed own s o x) (some : IsSome (body s tab.op))
    (member : parent_of s (Operation o) ≡ body s tab.op) (live : is_live s (Operation tab.op) ≡ true) (u : Table)
    (is : u ≡ without_name tab x) where
  abbrev b_at : (b : IRNode) × (body s tab.op ≡ Some b)
  b_at = some-is (body s tab.op) some

  pub unlinked-agrees : IsUnlinked s.nodes t.nodes (Operation o) → Agrees own own_table s tab → Agrees own own_table t u
  unlinked-agrees q =
      remove-agrees own own_table s t ws wt tab o x b_at.0 b_at.1 (member ∙ b_at.1) named
      (unlink-edits own own_table s t ws wt tab o x b_at.0 b_at.1 (member ∙ b_at.1) named q) u is
      (unlink-live own own_table s t ws wt tab o x b_at.0 b_at.1 (member ∙ b_at.1) named q live)

  pub unlinked-all : IsUnlinked s.nodes t.nodes (Operation o) → (c : Tables) → AllAgree own own_table s c
      → get c tab.op ≡ Some tab → AllAgree own own_table t (insert c tab.op u)
  unlinked-all q =
      remove-all own own_table s t ws wt tab o x b_at.0 b_at.1 (member ∙ b_at.1) named
      (unlink-edits own own_table s t ws wt tab o x b_at.0 b_at.1 (member ∙ b_at.1) named q) u is live

  pub erased-agrees : IsErased s.nodes t.nodes (Operation o) → Agrees own own_table s tab → Agrees own own_table t u
  erased-agrees q =
      remove-agrees own own_table s t ws wt tab o x b_at.0 b_at.1 (member ∙ b_at.1) named
      (erase-edits own own_table s t ws wt tab o x b_at.0 b_at.1 (member ∙ b_at.1) named q) u is
      (erase-live own own_table s t ws wt tab o x b_at.0 b_at.1 (member ∙ b_at.1) named q live)

  pub erased-all : IsErased s.nodes t.nodes (Operation o) → (c : Tables) → AllAgree own own_table s c
      → get c tab.op ≡ Some tab → AllAgree own own_table t (insert c tab.op u)
  erased-all q =
      remove-all own own_table s t ws wt tab o x b_at.0 b_at.1 (member ∙ b_at.1) named
      (erase-edits own own_table s t ws wt tab o x b_at.0 b_at.1 (member ∙ b_at.1) named q) u is live
