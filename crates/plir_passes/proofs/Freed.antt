-- What is left where operations are freed does not depend on what they held.
use Rattle.std.proofs.Common.{◌≡◌, ℕ, ◌+◌, true, false, cond, List, [], ◌∷◌, Option, Some, None, IsSome}
use Rattle.std.proofs.Common.{inl, inr, refl, sym, ap, subst, ◌∙◌, set}
use Rattle.std.specs.Prelude.{◌==◌, is_some, ◌&&◌}
use Rattle.std.proofs.lemmas.Bool.{cases_eq}
use Rattle.std.proofs.lemmas.List.{set-set, set_comm}
use Rattle.std.specs.List.{filter}
use Rattle.plir_store.specs.FilterLaws.{not-both}
use Rattle.plir_store.specs.Lists.{without_child}
use Rattle.plir_store.specs.Table.{Cell, MAX_VERSION, Table, content_at, num_full, version_at, with_content}
use Rattle.plir_store.specs.Table.{without_slot}
use Rattle.plir_store.specs.TableLaws.{cell_at-with_content, cell_at-with_content_other, cell_at-without_slot_other}
use Rattle.plir_store.specs.TableLaws.{num_full-with_content, within_from_content}
use Rattle.plir_core.specs.declared.ptr.Ptr.{Ptr}
use Rattle.plir_core.specs.declared.ptr.Operation.{Operation as OperationKind}
use Rattle.plir_core.specs.declared.ptr.IRNode.{IRNode}
use Rattle.plir_core.specs.declared.ptr.IRNode.TheVariants.{Operation, Region, BasicBlock}
use Rattle.plir_core.specs.Changes.{op_edited, with_op_edit}
use Rattle.plir_core.specs.Contents.{BlockView, OpView}
use Rattle.plir_core.specs.Erase.{without_node, without_nodes}
use Rattle.plir_core.specs.Held.{IsOpEdited}
use Rattle.plir_core.specs.Nodes.{Nodes, is_node_live}
use Rattle.plir_core.specs.ContextView.{ContextView, IsLive, is_live, num_live, op_at}
use Rattle.plir_walk.specs.Thinned.{IsThinned}
use Rattle.plir_passes.specs.Cutting.{AreErased, HasSlot, IsCut}

module _ {C : Type 0} (t : Table C) (i : ℕ) (v : C) (some : IsSome (content_at t i)) where
  -- the versions of slots are not told by what they hold
  version-same : (j : ℕ) → version_at (with_content t i v) j ≡ version_at t j
  version-same j = elim (cases_eq j i) [
    | inl e ↦ ap (version_at (with_content t i v)) e
        ∙ ap (λ (z : Cell C). z.version) (cell_at-with_content t i v (within_from_content t i some))
        ∙ ap (version_at t) (sym e)
    | inr n ↦ ap (λ (z : Cell C). z.version) (cell_at-with_content_other t i v j n)
  ]

  -- the slots xs, of which j is freed under the version n
  abbrev FreedIn : List (Cell C) → ℕ → ℕ → Table C
  FreedIn xs j n = record {
    slots = set xs j (record { version = n; content = None });
    free = cond (n == MAX_VERSION) t.free (j ∷ t.free);
  }

  -- the free slots, once j is one of them
  abbrev free_after : ℕ → List ℕ
  free_after j = cond (version_at t j == MAX_VERSION) t.free (j ∷ t.free)

  abbrev filled : List (Cell C)
  filled = set t.slots i (record { version = version_at t i; content = Some v })

  -- the slot is freed
  freed-here : without_slot (with_content t i v) i ≡ without_slot t i
  freed-here =
      ap (FreedIn filled i) (version-same i)
      ∙ ap (λ (xs : List (Cell C)). record { slots = xs; free = free_after i })
      (set-set t.slots i (record { version = version_at t i; content = Some v })
      (record { version = version_at t i; content = None }))

  -- another one is
  freed-other : (j : ℕ) → (j ≡ i → ⊥) → without_slot (with_content t i v) j ≡ with_content (without_slot t j) i v
  freed-other j n =
      ap (FreedIn filled j) (version-same j)
      ∙ ap (λ (xs : List (Cell C)). record { slots = xs; free = free_after j })
      (set_comm t.slots i j (record { version = version_at t i; content = Some v })
      (record { version = version_at t j; content = None }) (λ e. n (sym e))
      ∙ ap (λ k. set (set t.slots j (record { version = version_at t j; content = None })) i
      (record { version = k; content = Some v }))
      (sym (ap (λ (z : Cell C). z.version) (cell_at-without_slot_other t j i (λ e. n (sym e))))))

-- an operation that is no longer live where nodes were freed was one of them, or in the slot of one
module _ {O B : Type 0} where
  pub freed-slot : (ns : List IRNode) (s : Nodes O B) (q : Ptr OperationKind) → is_node_live s (Operation q) ≡ true →
      is_node_live (without_nodes s ns) (Operation q) ≡ false → HasSlot ns q.slot
  freed-slot [] s q live gone = absurd (not-both (is_node_live s (Operation q)) live gone)
  freed-slot (Operation p ∷ ns) s q live gone = elim (cases_eq q.slot p.slot) [
    | inl e ↦ inl (sym e)
    | inr n ↦ inr (freed-slot ns (without_node s (Operation p)) q
        (ap (λ (c : Cell O). is_some c.content && (c.version == q.version))
        (cell_at-without_slot_other s.ops p.slot q.slot n) ∙ live) gone)
  ]
  freed-slot (Region p ∷ ns) s q live gone = freed-slot ns (without_node s (Region p)) q live gone
  freed-slot (BasicBlock p ∷ ns) s q live gone = freed-slot ns (without_node s (BasicBlock p)) q live gone

module _ {K A : Type 0} where
  -- the operation p is freed, and then others
  abbrev then : List IRNode → Nodes (OpView K A) (BlockView A) → Ptr OperationKind → Table (OpView K A) →
      Nodes (OpView K A) (BlockView A)
  then ns s p o = without_nodes (record s { ops = o; ops_in_block = without_child s.ops_in_block p.slot }) ns

  -- where a slot of operations is freed, it is the same what it held
  pub freed-same : (ns : List IRNode) (s : Nodes (OpView K A) (BlockView A)) (i : ℕ) (v : OpView K A) →
      IsSome (content_at s.ops i) → HasSlot ns i →
      without_nodes (record s { ops = with_content s.ops i v }) ns ≡ without_nodes s ns
  freed-same [] s i v some has = absurd has
  freed-same (Operation p ∷ ns) s i v some has = elim (cases_eq p.slot i) [
    | inl e ↦ ap (then ns s p) (subst (λ j. without_slot (with_content s.ops i v) j ≡ without_slot s.ops j) (sym e)
        (freed-here s.ops i v some))
    | inr n ↦ ap (then ns s p) (freed-other s.ops i v some p.slot n)
        ∙ freed-same ns (without_node s (Operation p)) i v
        (subst IsSome (sym (ap (λ (c : Cell (OpView K A)). c.content)
        (cell_at-without_slot_other s.ops p.slot i (λ e. n (sym e))))) some)
        (elim has [ inl e ↦ absurd (n e) | inr more ↦ more ])
  ]
  freed-same (Region p ∷ ns) s i v some has = freed-same ns (without_node s (Region p)) i v some has
  freed-same (BasicBlock p ∷ ns) s i v some has = freed-same ns (without_node s (BasicBlock p)) i v some has

module _ {K A T : Type 0} where
  -- one operation comes to hold something else
  pub cut-edit : (s : ContextView K A T) (p : Ptr OperationKind) (f : OpView K A → OpView K A) →
      IsOpEdited s (with_op_edit s p f) p f → IsCut (λ q. q ≡ p) s (with_op_edit s p f)
  cut-edit s p f e = record {
    keeps = e.keeps;
    ops = λ q l ne. e.ops q l ne;
    blocks = e.blocks;
    count = count (op_at s p) refl;
    freed = λ ns all. freed ns (all p refl) (op_at s p) refl;
  }
    where
      some-at : (v : OpView K A) → op_at s p ≡ Some v → IsSome (op_at s p)
      some-at v e = subst IsSome (sym e) refl

      count : (o : Option (OpView K A)) → op_at s p ≡ o → num_live (op_edited s p.slot f o) ≡ num_live s
      count None e = refl
      count (Some v) e =
          ap (λ n. n + num_full s.nodes.regions + num_full s.nodes.blocks)
          (num_full-with_content s.nodes.ops p.slot (f v) (some-at v e))

      freed : (ns : List IRNode) → HasSlot ns p.slot → (o : Option (OpView K A)) → op_at s p ≡ o →
          without_nodes (op_edited s p.slot f o).nodes ns ≡ without_nodes s.nodes ns
      freed ns has None e = refl
      freed ns has (Some v) e = freed-same ns s.nodes p.slot (f v) (some-at v e) has

  pub cut-none : {D : Ptr OperationKind → Type 0} (s : ContextView K A T) → IsCut D s s
  cut-none s = record {
    keeps = record {
      live = λ n. refl;
      given = λ n. refl;
      children = λ n. refl;
      parents = λ n. refl;
      types = refl;
      limit = refl;
    };
    ops = λ q l no. refl;
    blocks = λ b. refl;
    count = refl;
    freed = λ ns all. refl;
  }

  -- some are cut, and then others
  pub cut-both : {P Q R : Ptr OperationKind → Type 0} (s m t : ContextView K A T) →
      ((q : Ptr OperationKind) → P q → R q) → ((q : Ptr OperationKind) → Q q → R q) → IsCut P s m → IsCut Q m t →
      IsCut R s t
  cut-both s m t f g h k = record {
    keeps = record {
      live = λ n. k.keeps.live n ∙ h.keeps.live n;
      given = λ n. k.keeps.given n ∙ h.keeps.given n;
      children = λ n. k.keeps.children n ∙ h.keeps.children n;
      parents = λ n. k.keeps.parents n ∙ h.keeps.parents n;
      types = k.keeps.types ∙ h.keeps.types;
      limit = k.keeps.limit ∙ h.keeps.limit;
    };
    ops = λ q l no.
        k.ops q (h.keeps.live (Operation q) ∙ l) (λ x. no (g q x)) ∙ h.ops q l (λ x. no (f q x));
    blocks = λ b. k.blocks b ∙ h.blocks b;
    count = k.count ∙ h.count;
    freed = λ ns all. k.freed ns (λ q x. all q (g q x)) ∙ h.freed ns (λ q x. all q (f q x));
  }

  -- What is cut and then erased is erased, and it is the same what it held.
  pub cut-thinned : {D : Ptr OperationKind → Type 0} (s m t : ContextView K A T) → IsCut D s m →
      ((q : Ptr OperationKind) → D q → IsLive s (Operation q)) → AreErased D m t → IsThinned s t
  cut-thinned s m t cut live e =
      let thin = e.thinned in
      let nodes = cut.freed thin.gone (λ q d. freed-slot thin.gone m.nodes q
      (cut.keeps.live (Operation q) ∙ live q d)
      (ap (λ (z : ContextView K A T). is_live z (Operation q)) (sym thin.after) ∙ e.gone q d)) in
      let types = cut.keeps.types in record {
        gone = thin.gone;
        after = thin.after ∙ (λ i. record { nodes = nodes i; types = types i });
        count = thin.count ∙ cut.count;
        old = λ n l. sym (cut.keeps.live n) ∙ thin.old n l;
        children = λ n l. thin.children n l ∙ ap (filter (is_live t)) (cut.keeps.children n);
        parents = λ n l. thin.parents n l ∙ cut.keeps.parents n;
        ops = λ p l.
            thin.ops p l ∙ cut.ops p (sym (cut.keeps.live (Operation p)) ∙ thin.old (Operation p) l)
            (λ d. not-both (is_live t (Operation p)) l (e.gone p d));
        blocks = λ b l. thin.blocks b l ∙ cut.blocks b;
        types = thin.types ∙ types;
        limit = thin.limit ∙ cut.keeps.limit;
        given = λ n. thin.given n ∙ cut.keeps.given n;
      }
