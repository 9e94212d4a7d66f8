-- Tables of which some contents have changed, and what a walk sees of their nodes.
use Rattle.std.proofs.Common.{◌≡◌, ℕ, cond, ◌&&◌, nat_lt, nat_le, List, [], ◌∷◌, map, Option, Some, None, IsSome, inl}
use Rattle.std.proofs.Common.{inr, refl, sym, ap, subst, ◌∙◌, length-set}
use Rattle.std.specs.Prelude.{option_map}
use Rattle.plir_store.specs.Lists.{children_at, parent_at}
use Rattle.plir_store.specs.Table.{Table, content_at, version_at, is_live_at}
use Rattle.plir_core.specs.declared.ptr.Ptr.{Ptr}
use Rattle.plir_core.specs.declared.ptr.Operation.{Operation as OperationKind}
use Rattle.plir_core.specs.declared.ptr.BasicBlock.{BasicBlock as BasicBlockKind}
use Rattle.plir_core.specs.declared.ptr.IRNode.{IRNode}
use Rattle.plir_core.specs.declared.ptr.IRNode.TheVariants.{Operation, Region, BasicBlock}
use Rattle.plir_store.specs.Members.{Has, Distinct}
use Rattle.plir_core.specs.Contents.{OpView, BlockView}
use Rattle.plir_core.specs.Nodes.{region_node}
use Rattle.plir_core.specs.ContextView.{ContextView, is_live, given_out, children, parent_of}
use Rattle.plir_walk.specs.Unnamed.{SameSlots}
use Rattle.plir_walk.proofs.NamedStores.{edit_in, edited}
use Rattle.plir_walk.proofs.Slots.{content-here, content-other, version-kept, full-kept}

module _ {C : Type 0} (t : Table C) (i : ℕ) (f : C → C) where
  some-content : (v : C) → content_at t i ≡ Some v → IsSome (content_at t i)
  some-content v e = subst IsSome (sym e) refl

  pub edited-slots : SameSlots t (edited t i f)
  edited-slots = go (content_at t i) refl
    where
      go : (o : Option C) → content_at t i ≡ o → SameSlots t (edit_in t i f o)
      go None e = record { number = refl; full = λ j. refl; versions = λ j. refl; free = refl }
      go (Some v) e = record {
        number = length-set t.slots i (record { version = version_at t i; content = Some (f v) });
        full = full-kept t i (f v) (some-content v e);
        versions = version-kept t i (f v) (some-content v e);
        free = refl;
      }

  edited-here : content_at (edited t i f) i ≡ option_map f (content_at t i)
  edited-here = go (content_at t i) refl
    where
      go : (o : Option C) → content_at t i ≡ o → content_at (edit_in t i f o) i ≡ option_map f o
      go None e = e
      go (Some v) e = content-here t i (f v) (some-content v e)

  edited-other : (j : ℕ) → (j ≡ i → ⊥) → content_at (edited t i f) j ≡ content_at t j
  edited-other j ne = go (content_at t i) refl
    where
      go : (o : Option C) → content_at t i ≡ o → content_at (edit_in t i f o) j ≡ content_at t j
      go None e = refl
      go (Some v) e = content-other t i (f v) (some-content v e) j ne

-- the contents of some slots are edited one after another
unfoldable pub refilled : {C : Type 0} → Table C → (C → C) → List ℕ → Table C
refilled t f [] = t
refilled t f (i ∷ is) = refilled (edited t i f) f is

module _ {C : Type 0} (f : C → C) where
  pub refilled-slots : (is : List ℕ) (t : Table C) → SameSlots t (refilled t f is)
  unfolding refilled
  refilled-slots [] t = record { number = refl; full = λ j. refl; versions = λ j. refl; free = refl }
  refilled-slots (i ∷ is) t =
      let a = edited-slots t i f in
      let b = refilled-slots is (edited t i f) in
      record {
        number = b.number ∙ a.number;
        full = λ j. b.full j ∙ a.full j;
        versions = λ j. b.versions j ∙ a.versions j;
        free = b.free ∙ a.free;
      }

  pub refilled-apart : (is : List ℕ) (t : Table C) (j : ℕ) → (Has is j → ⊥) → content_at (refilled t f is) j ≡
      content_at t j
  unfolding refilled
  refilled-apart [] t j apart = refl
  refilled-apart (i ∷ is) t j apart = refilled-apart is (edited t i f) j
      (λ h. apart (inr h)) ∙ edited-other t i f j (λ e. apart (inl (sym e)))

  -- a slot that comes once is edited once
  pub refilled-here : (is : List ℕ) (t : Table C) (j : ℕ) → Distinct is → Has is j → content_at (refilled t f is) j ≡
      option_map f (content_at t j)
  unfolding refilled
  refilled-here [] t j d h = absurd h
  refilled-here (i ∷ is) t j d (inl e) = refilled-apart is (edited t i f) j (λ h. d.0 (subst (Has is) (sym e) h)) ∙
      subst (λ z. content_at (edited t i f) z ≡ option_map f (content_at t z)) e (edited-here t i f)
  refilled-here (i ∷ is) t j d (inr h) = refilled-here is (edited t i f) j d.1 h ∙ ap (option_map f)
      (edited-other t i f j (λ e. d.0 (subst (Has is) e h)))

abbrev op_by : (ℕ → ℕ) → ℕ → IRNode
op_by version j = Operation (let p : Ptr OperationKind = record { slot = j; version = version j; kind = record {} } in
    p)

abbrev block_by : (ℕ → ℕ) → ℕ → IRNode
block_by version j = BasicBlock (let p : Ptr BasicBlockKind = record { slot = j; version = version j; kind = record {} }
    in p)

-- Other contents in the same slots: a walk sees nothing of it.
module _ {K A T : Type 0} (s : ContextView K A T) (o : Table (OpView K A)) (b : Table (BlockView A))
    (os : SameSlots s.nodes.ops o) (bs : SameSlots s.nodes.blocks b) where
  abbrev now : ContextView K A T
  now = record s { nodes = record s.nodes { ops = o; blocks = b } }

  same-ops : ◌≡◌ {A = ℕ → ℕ} (λ j. version_at o j) (λ j. version_at s.nodes.ops j)
  same-ops = λ k j. os.versions j k

  same-blocks : ◌≡◌ {A = ℕ → ℕ} (λ j. version_at b j) (λ j. version_at s.nodes.blocks j)
  same-blocks = λ k j. bs.versions j k

  pub refilled-live : (m : IRNode) → is_live now m ≡ is_live s m
  refilled-live (Operation p) = rw (os.full p.slot, os.versions p.slot) refl
  refilled-live (Region p) = refl
  refilled-live (BasicBlock p) = rw (bs.full p.slot, bs.versions p.slot) refl

  pub refilled-given : (m : IRNode) → given_out now m ≡ given_out s m
  refilled-given (Operation p) = ap (λ z. nat_lt 0 p.version && nat_le p.version z) (os.versions p.slot)
  refilled-given (Region p) = refl
  refilled-given (BasicBlock p) = ap (λ z. nat_lt 0 p.version && nat_le p.version z) (bs.versions p.slot)

  pub refilled-children : (m : IRNode) → children now m ≡ children s m
  refilled-children (Operation p) = ap (λ l. cond l (map (region_node s.nodes) (children_at s.nodes.regions_in_op
      p.slot)) []) (refilled-live (Operation p))
  refilled-children (Region p) = ap (λ f. cond (is_live_at s.nodes.regions p.slot p.version)
      (map (block_by f) (children_at s.nodes.blocks_in_region p.slot)) []) same-blocks
  refilled-children (BasicBlock p) =
      ap (λ l. cond l (map (op_by (λ j. version_at o j)) (children_at s.nodes.ops_in_block p.slot)) [])
      (refilled-live (BasicBlock p))
      ∙ ap (λ f. cond (is_live s (BasicBlock p)) (map (op_by f) (children_at s.nodes.ops_in_block p.slot)) []) same-ops

  pub refilled-parents : (m : IRNode) → parent_of now m ≡ parent_of s m
  refilled-parents (Operation p) =
      ap (λ l. cond l (option_map (block_by (λ j. version_at b j)) (parent_at s.nodes.ops_in_block p.slot)) None)
      (refilled-live (Operation p))
      ∙ ap (λ f. cond (is_live s (Operation p)) (option_map (block_by f) (parent_at s.nodes.ops_in_block p.slot)) None)
      same-blocks
  refilled-parents (Region p) = ap (λ f. cond (is_live_at s.nodes.regions p.slot p.version)
      (option_map (op_by f) (parent_at s.nodes.regions_in_op p.slot)) None) same-ops
  refilled-parents (BasicBlock p) = ap (λ l. cond l (option_map (region_node s.nodes)
      (parent_at s.nodes.blocks_in_region p.slot)) None) (refilled-live (BasicBlock p))
