-- What a copied tree is, once all of it is copied.
use Rattle.std.proofs.Common.{◌≡◌, ◌∙◌, ℕ, zero, suc, true, false, true≢false, cond, List, [], ◌∷◌, ◌++◌}
use Rattle.std.proofs.Common.{map}
use Rattle.std.proofs.Common.{Option, Some, None, inl, inr, refl, sym, ap, subst, option_map}
use Rattle.std.proofs.lemmas.Option.{same_Some, none-some}
use Rattle.std.proofs.lemmas.Bool.{cases_Bool}
use Rattle.plir_store.specs.Members.{Has, Distinct}
use Rattle.plir_store.specs.MemberLaws.{Has-map, map-Has}
use Rattle.plir_core.specs.declared.ptr.Ptr.{Ptr}
use Rattle.plir_core.specs.declared.ptr.Operation.{Operation as OperationKind}
use Rattle.plir_core.specs.declared.ptr.Region.{Region as RegionKind}
use Rattle.plir_core.specs.declared.ptr.BasicBlock.{BasicBlock as BlockKind}
use Rattle.plir_core.specs.declared.ptr.IRNode.{IRNode}
use Rattle.plir_core.specs.declared.ptr.IRNode.TheVariants.{Operation, Region, BasicBlock}
use Rattle.plir_core.specs.SameValue.{same_ptr, ptr-exact}
use Rattle.plir_core.specs.Above.{climb}
use Rattle.plir_core.specs.ContextView.{ContextView, IsLive, IsAncestor, is_live, children, parent_of, op_at, block_at}
use Rattle.plir_core.specs.Forest.{look, IsForest}
use Rattle.plir_core.specs.Made.{IsMade}
use Rattle.plir_core.specs.Measures.{IsMeasured}
use Rattle.plir_core.specs.Room.{HaveCome}
use Rattle.plir_copies.specs.declared.trees.Twin.{Twin}
use Rattle.plir_copies.specs.Images.{Images}
use Rattle.plir_copies.specs.Copied.{op_under}
use Rattle.plir_copies.specs.Room.{count_of, tree_count}
use Rattle.plir_copies.specs.Trees.{Copies, node_copy, HoldsTheSame, IsCopied, IsTreeCopied}
use Rattle.plir_copies.specs.Twins.{nodes_of, copies_of, AreOfOneKind, HoldsAs, IsTwin, AreTogether, IsCopying}
use Rattle.plir_copies.specs.Twins.{AreChanged}
use Rattle.plir_copies.proofs.Keeping.{made-kept}
use Rattle.plir_copies.proofs.TreeNodes.{climb-none, tree-counted}
use Rattle.plir_copies.proofs.Twins.{holds-kind}

-- What a list of nodes with their copies says that a node has become: the first that is listed counts.
abbrev pub op_or : IRNode → IRNode → Ptr OperationKind → Ptr OperationKind → Ptr OperationKind
op_or (Operation p) (Operation q) x rest = cond (same_ptr p x) q rest
op_or n c x rest = rest

abbrev pub region_or : IRNode → IRNode → Ptr RegionKind → Ptr RegionKind → Ptr RegionKind
region_or (Region p) (Region q) x rest = cond (same_ptr p x) q rest
region_or n c x rest = rest

abbrev pub block_or : IRNode → IRNode → Ptr BlockKind → Ptr BlockKind → Ptr BlockKind
block_or (BasicBlock p) (BasicBlock q) x rest = cond (same_ptr p x) q rest
block_or n c x rest = rest

abbrev pub op_in : List Twin → Ptr OperationKind → Ptr OperationKind
op_in [] x = x
op_in (w ∷ ws) x = op_or w.node w.copy x (op_in ws x)

abbrev pub region_in : List Twin → Ptr RegionKind → Ptr RegionKind
region_in [] x = x
region_in (w ∷ ws) x = region_or w.node w.copy x (region_in ws x)

abbrev pub block_in_list : List Twin → Ptr BlockKind → Ptr BlockKind
block_in_list [] x = x
block_in_list (w ∷ ws) x = block_or w.node w.copy x (block_in_list ws x)

abbrev pub copies_in : List Twin → Copies
copies_in ws = record { op = op_in ws; region = region_in ws; block = block_in_list ws }

module _ {X : Type 0} (p q rest : Ptr X) where
  hit : cond (same_ptr p p) q rest ≡ q
  hit = ap (λ b. cond b q rest) ((ptr-exact p p).1 refl)

  missed : (x : Ptr X) → (p ≡ x → ⊥) → cond (same_ptr p x) q rest ≡ rest
  missed x n = elim (cases_Bool (same_ptr p x)) [
    | inl e ↦ absurd (n ((ptr-exact p x).0 e))
    | inr e ↦ ap (λ b. cond b q rest) e
  ]

-- a node is the first that is listed
here : (n c : IRNode) (ws : List Twin) → AreOfOneKind n c
    → node_copy (copies_in (record { node = n; copy = c } ∷ ws)) n ≡ c
here (Operation p) (Operation q) ws k = ap Operation (hit p q (op_in ws p))
here (Region p) (Region q) ws k = ap Region (hit p q (region_in ws p))
here (BasicBlock p) (BasicBlock q) ws k = ap BasicBlock (hit p q (block_in_list ws p))
here (Operation p) (Region q) ws k = absurd k
here (Operation p) (BasicBlock q) ws k = absurd k
here (Region p) (Operation q) ws k = absurd k
here (Region p) (BasicBlock q) ws k = absurd k
here (BasicBlock p) (Operation q) ws k = absurd k
here (BasicBlock p) (Region q) ws k = absurd k

-- another one is listed before it
later : (m d : IRNode) (ws : List Twin) (n : IRNode) → AreOfOneKind m d → (m ≡ n → ⊥)
    → node_copy (copies_in (record { node = m; copy = d } ∷ ws)) n ≡ node_copy (copies_in ws) n
later (Operation p) (Operation q) ws (Operation x) k e = ap Operation (missed p q (op_in ws x) x (λ h. e (ap Operation h)))
later (Operation p) (Operation q) ws (Region x) k e = refl
later (Operation p) (Operation q) ws (BasicBlock x) k e = refl
later (Region p) (Region q) ws (Operation x) k e = refl
later (Region p) (Region q) ws (Region x) k e = ap Region (missed p q (region_in ws x) x (λ h. e (ap Region h)))
later (Region p) (Region q) ws (BasicBlock x) k e = refl
later (BasicBlock p) (BasicBlock q) ws (Operation x) k e = refl
later (BasicBlock p) (BasicBlock q) ws (Region x) k e = refl
later (BasicBlock p) (BasicBlock q) ws (BasicBlock x) k e = ap BasicBlock (missed p q (block_in_list ws x) x (λ h. e (ap BasicBlock h)))
later (Operation p) (Region q) ws n k e = absurd k
later (Operation p) (BasicBlock q) ws n k e = absurd k
later (Region p) (Operation q) ws n k e = absurd k
later (Region p) (BasicBlock q) ws n k e = absurd k
later (BasicBlock p) (Operation q) ws n k e = absurd k
later (BasicBlock p) (Region q) ws n k e = absurd k

-- each node that is listed has become its copy
pub become : (ws : List Twin) → Distinct (nodes_of ws) → ((w : Twin) → Has ws w → AreOfOneKind w.node w.copy) → (w : Twin)
    → Has ws w → node_copy (copies_in ws) w.node ≡ w.copy
become [] d k w h = absurd h
become (x ∷ ws) d k w (inl e) =
    subst (λ z. node_copy (copies_in (x ∷ ws)) z.node ≡ z.copy) e (here x.node x.copy ws (k x (inl refl)))
become (x ∷ ws) d k w (inr h) =
    later x.node x.copy ws w.node (k x (inl refl)) (λ e. d.0 (subst (Has (nodes_of ws)) (sym e) (map-Has (λ z. z.node) ws w h)))
    ∙ become ws d.1 (λ y m. k y (inr m)) w h

-- the copies of some of a list, in their order
pub become-all : (c : Copies) (vs : List Twin) → ((w : Twin) → Has vs w → node_copy c w.node ≡ w.copy)
    → map (node_copy c) (nodes_of vs) ≡ copies_of vs
become-all c [] h = refl
become-all c (w ∷ vs) h =
    ap (λ x. x ∷ map (node_copy c) (nodes_of vs)) (h w (inl refl))
    ∙ ap (λ xs. w.copy ∷ xs) (become-all c vs (λ x m. h x (inr m)))

-- What is known once all of the tree is copied.
pub record IsWholeCopy {K A T : Type 0} (s t : ContextView K A T) (root copy : IRNode) (ws : List Twin) : Type 0 where
  pub forest : IsForest (look s)
  pub made : IsMade s.nodes t.nodes copy
  pub first : Has ws (record { node = root; copy = copy })
  pub nodes : Distinct (nodes_of ws)
  pub copies : Distinct (copies_of ws)
  pub each : (w : Twin) → Has ws w → IsTwin s t w
  pub below : (w : Twin) → Has ws w → IsAncestor s root w.node
  pub whole : (w : Twin) → Has ws w → AreTogether ws (children s w.node) (children t w.copy)
  pub measured : IsMeasured s
  pub come : HaveCome s.nodes t.nodes (count_of (nodes_of ws))

append-none : {X : Type 0} (xs : List X) → xs ++ [] ≡ xs
append-none [] = refl
append-none (x ∷ xs) = ap (λ zs. x ∷ zs) (append-none xs)

pub whole-copy : {K A T : Type 0} (s t : ContextView K A T) (root copy : IRNode) (ws : List Twin)
    → IsCopying s t root copy ws [] → IsWholeCopy s t root copy ws
whole-copy s t root copy ws h =
    let e = append-none ws in
    let old : (w : Twin) → Has ws w → Has (ws ++ []) w = λ w m. subst (λ l. Has l w) (sym e) m in
    record {
      forest = h.forest;
      made = h.made;
      first = subst (λ l. Has l (record { node = root; copy = copy })) e h.first;
      nodes = subst (λ l. Distinct (nodes_of l)) e h.nodes;
      copies = subst (λ l. Distinct (copies_of l)) e h.copies;
      each = λ w m. h.each w (old w m);
      below = λ w m. h.below w (old w m);
      whole = λ w m. subst (λ l. AreTogether l (children s w.node) (children t w.copy)) e (h.whole w m);
      measured = h.measured;
      come = subst (λ l. HaveCome s.nodes t.nodes (count_of (nodes_of l))) e h.come;
    }

module _ {K A T : Type 0} (s t : ContextView K A T) (root copy : IRNode) (ws : List Twin)
    (h : IsWholeCopy s t root copy ws) where
  -- each node of the tree is listed
  listed-from : (k : ℕ) (n : IRNode) → climb (parent_of s) k (Some n) ≡ Some root → (w : Twin) × (Has ws w × (w.node ≡ n))
  listed-from zero n e = (record { node = root; copy = copy }, (h.first, sym (same_Some n root e)))
  listed-from (suc k) n e = go (λ x c. listed-from k x c) (parent_of s n) refl e
    where
      go : ((x : IRNode) → climb (parent_of s) k (Some x) ≡ Some root → (w : Twin) × (Has ws w × (w.node ≡ x)))
          → (o : Option IRNode) → parent_of s n ≡ o → climb (parent_of s) k o ≡ Some root
          → (w : Twin) × (Has ws w × (w.node ≡ n))
      go more None p c = absurd (none-some root (sym (climb-none (parent_of s) k) ∙ c))
      go more (Some x) p c =
          let over = more x c in
          let r = h.whole over.0 over.1.0 in
          let child : Has (children s over.0.node) n =
          subst (λ y. Has (children s y) n) (sym over.1.1) (h.forest.parent_child x n p) in
          let v = Has-map (λ z. z.node) r.0 n (subst (λ l. Has l n) (sym r.2) child) in
          (v.0, (r.1 v.0 v.1.0, v.1.1))

  pub listed : (n : IRNode) → IsAncestor s root n → (w : Twin) × (Has ws w × (w.node ≡ n))
  listed n r = listed-from r.0 n r.1

  -- as many nodes have come as the tree has
  pub tree-come : HaveCome s.nodes t.nodes (tree_count s.nodes root)
  tree-come =
      subst (HaveCome s.nodes t.nodes) (tree-counted s h.forest h.measured root (nodes_of ws) h.nodes (λ n m.
      let w = Has-map (λ z. z.node) ws n m in
      subst (IsAncestor s root) w.1.1 (h.below w.0 w.1.0)) (λ n r.
      let w = listed n r in
      subst (Has (nodes_of ws)) w.1.1 (map-Has (λ z. z.node) ws w.0 w.1.0))) h.come

  pub kinds : (w : Twin) → Has ws w → AreOfOneKind w.node w.copy
  kinds w m = holds-kind s t w.node w.copy (h.each w m).holds

  pub has-become : (w : Twin) → Has ws w → node_copy (copies_in ws) w.node ≡ w.copy
  has-become = become ws h.nodes kinds

  module _ (u : ContextView K A T) (m : Images) (changed : AreChanged t u m (copies_of ws)) where
    held : (n c : IRNode) → HoldsAs s t n c → Has (copies_of ws) c → node_copy (copies_in ws) n ≡ c
        → HoldsTheSame s u (copies_in ws) m n
    held (Operation p) (Operation q) e k b =
        let same : (copies_in ws).op p ≡ q = cc in
        ap (op_at u) same ∙ changed.ops q k ∙ ap (option_map (op_under m)) e
    held (Region p) (Region q) e k b = tt
    held (BasicBlock p) (BasicBlock q) e k b =
        let same : (copies_in ws).block p ≡ q = cc in
        ap (block_at u) same ∙ changed.blocks q ∙ e
    held (Operation p) (Region q) e k b = absurd e
    held (Operation p) (BasicBlock q) e k b = absurd e
    held (Region p) (Operation q) e k b = absurd e
    held (Region p) (BasicBlock q) e k b = absurd e
    held (BasicBlock p) (Operation q) e k b = absurd e
    held (BasicBlock p) (Region q) e k b = absurd e

    copied : (w : Twin) → Has ws w → IsCopied s u (copies_in ws) m w.node
    copied w k =
        let b = has-become w k in
        let e = h.each w k in
        let r = h.whole w k in
        record {
          new = subst (λ x. is_live s x ≡ false) (sym b) e.new;
          live = subst (IsLive u) (sym b) (changed.keeps.live w.copy ∙ e.copy_live);
          holds = held w.node w.copy e.holds (map-Has (λ z. z.copy) ws w k) b;
          children = ap (children u) b ∙ changed.keeps.children w.copy ∙ sym r.3
              ∙ sym (become-all (copies_in ws) r.0 (λ x i. has-become x (r.1 x i))) ∙ ap (map (node_copy (copies_in ws))) r.2;
        }

    pub tree-copied : IsTreeCopied s u (copies_in ws) m root
    tree-copied n r = let w = listed n r in subst (IsCopied s u (copies_in ws) m) w.1.1 (copied w.0 w.1.0)

    -- what was made, with its operations changed, was made
    pub made-changed : IsMade s.nodes u.nodes copy
    made-changed =
        made-kept s t u copy h.made changed.keeps (λ p l. changed.others p (h.made.keeps.live (Operation p) l) (λ k.
        let w = Has-map (λ z. z.copy) ws (Operation p) k in
        true≢false (sym l ∙ ap (is_live s) (sym w.1.1) ∙ (h.each w.0 w.1.0).new))) (λ b l. changed.blocks b)
