-- How far dead code elimination has come: what is listed, and what waits.
use Rattle.std.proofs.Common.{◌≡◌, ℕ, zero, suc, Bool, true≢false, List, [], ◌∷◌, ◌++◌, Option}
use Rattle.std.proofs.Common.{Some, None, inl, inr, refl, sym, ap, subst, ◌∙◌}
use Rattle.std.specs.Prelude.{slice_get}
use Rattle.std.specs.List.{list_any}
use Rattle.plir_store.specs.Members.{Has}
use Rattle.plir_core.specs.declared.ptr.Ptr.{Ptr}
use Rattle.plir_core.specs.declared.ptr.Operation.{Operation as OperationKind}
use Rattle.plir_core.specs.declared.ptr.IRNode.{IRNode}
use Rattle.plir_core.specs.declared.ptr.IRNode.TheVariants.{Operation}
use Rattle.plir_core.specs.Above.{climb}
use Rattle.plir_core.specs.Erase.{IsErased}
use Rattle.plir_core.specs.Forest.{look, IsBelow, IsForest}
use Rattle.plir_core.specs.Unused.{without_tree}
use Rattle.plir_core.specs.ContextView.{ContextView, IsAncestor, IsLive, children, kind_in, operands_in, parent_of}
use Rattle.plir_walk.specs.Lawful.{Lawful}
use Rattle.plir_walk.specs.LawfulChanges.{LawfulChanges}
use Rattle.plir_walk.specs.NodeLaws.{climb-nothing, ptr-tells, reach-leaf, same-op}
use Rattle.plir_walk.specs.Thinned.{IsThinned}
use Rattle.plir_passes.specs.Legal.{is_kind}
use Rattle.plir_passes.specs.Dead.{HasNoDead, IsUsedBy, MayGo, Uses, is_removable}
use Rattle.plir_passes.specs.Swept.{IsSwept}
use Rattle.plir_passes.specs.declared.worklist.Worklist.{Worklist}
use Rattle.plir_passes.specs.Worklists.{AreListed, IsListed, IsNextDead, IsPending, WaitAgain, Waits, ptr_eq}
use Rattle.plir_passes.proofs.Lists.{taken-before, taken-cases}
use Rattle.plir_passes.proofs.Sweeps.{live-apart, others-stay, swept-erased, swept-none, swept-then}
use Rattle.plir_passes.proofs.Using.{uses-tells}

module _ {K A T : Type 0} (effect ends : K → Bool) where
  goes : (s : ContextView K A T) (p : Ptr OperationKind) → IsUsedBy effect ends s [] p → MayGo effect ends s p
  goes s p d = record { removable = d.removable; no_region = d.no_region }

  -- ---- at the beginning

  module _ (s : ContextView K A T) (r : Ptr OperationKind) (u : Worklist) (bare : u.listed.keys ≡ [])
      (empty : u.waiting.items ≡ []) where
    none-listed : (p : Ptr OperationKind) → IsListed u p → ⊥
    none-listed p h = true≢false (sym h ∙ ap (λ ks. list_any (ptr_eq p) ks) bare)

    none-waits : (p : Ptr OperationKind) → Waits u p → ⊥
    none-waits p h = subst (λ z. Has z p) empty h

    -- nothing stands below what has no region
    pub pending-leaf : IsForest (look s) → children s (Operation r) ≡ [] → IsPending effect ends s r u
    pending-leaf w leaf = record {
      below = λ p h l. absurd (none-listed p h);
      listed = λ p b g. absurd (nothing p b);
      waiting = λ p h. absurd (none-waits p h);
      dead = λ p b d. absurd (nothing p b);
    }
      where
        nothing : (p : Ptr OperationKind) → IsBelow (look s) (Operation r) (Operation p) → ⊥
        nothing p b = up (parent_of s (Operation p)) refl
          where
            up : (o : Option IRNode) → parent_of s (Operation p) ≡ o → ⊥
            up None q = climb-nothing (parent_of s) b.0 (Operation r) (ap (climb (parent_of s) b.0) (sym q) ∙ b.1)
            up (Some a) q =
                let over = reach-leaf s (Operation r) w leaf b.0 a (ap (climb (parent_of s) b.0) (sym q) ∙ b.1) in
                subst (λ z. Has z (Operation p)) leaf (w.parent_child (Operation r) (Operation p) (q ∙ ap Some over))

    -- all that may go below a root with regions is listed
    pub pending-listed : (v : Worklist) → (children s (Operation r) ≡ [] → ⊥) →
        AreListed (λ q. IsAncestor s (Operation r) (Operation q) × MayGo effect ends s q) u v →
        IsPending effect ends s r v
    pending-listed v root h = record {
      below = λ p k l. elim ((h.listed p).0 k) [
        | inl away ↦ absurd (none-listed p away)
        | inr a ↦ under p a.0.0 a.0.1 a.1
      ];
      listed = λ p b g. (h.listed p).1 (inr ((suc b.0, b.1), g));
      waiting = λ p k. elim ((h.waits p).0 k) [
        | inl away ↦ absurd (none-waits p away)
        | inr a ↦ (h.listed p).1 (inr a)
      ];
      dead = λ p b d. (h.waits p).1 (inr ((suc b.0, b.1), goes s p d));
    }
      where
        under : (p : Ptr OperationKind) (k : ℕ) → climb (parent_of s) k (Some (Operation p)) ≡ Some (Operation r) →
            MayGo effect ends s p → IsBelow (look s) (Operation r) (Operation p)
        under p zero e g =
            (let same : p ≡ r = cc e in
            absurd (root (subst (λ z. children s (Operation z) ≡ []) same g.no_region)))
        under p (suc k) e g = (k, e)

  -- ---- the next one that is dead

  -- what waits did so at first, and of what did so at first the dead wait still
  pub record StillWaits (s : ContextView K A T) (w m : Worklist) : Type 0 where
    pub before : (q : Ptr OperationKind) → Waits m q → Waits w q
    pub dead : (q : Ptr OperationKind) → Waits w q → IsUsedBy effect ends s [] q → Waits m q

  module _ (s : ContextView K A T) (w m t : Worklist) (p : Ptr OperationKind)
      (taken : m.waiting.items ≡ t.waiting.items ++ p ∷ []) where
    pub next-found : StillWaits s w m → IsUsedBy effect ends s [] p → IsNextDead effect ends s w (Some p) t
    next-found h d = (
      d,
      h.before p (taken-before t.waiting.items m.waiting.items p p taken (inr refl)),
      λ q k. h.before q (taken-before t.waiting.items m.waiting.items p q taken (inl k)),
      λ q k used. elim (taken-cases t.waiting.items m.waiting.items p q taken (h.dead q k used)) [
        | inl x ↦ inr x
        | inr x ↦ inl x
      ],
    )

    pub next-passed : StillWaits s w m → (IsUsedBy effect ends s [] p → ⊥) → StillWaits s w t
    next-passed h away = record {
      before = λ q k. h.before q (taken-before t.waiting.items m.waiting.items p q taken (inl k));
      dead = λ q k used. elim (taken-cases t.waiting.items m.waiting.items p q taken (h.dead q k used)) [
        | inl x ↦ x
        | inr x ↦ absurd (away (subst (IsUsedBy effect ends s []) x used))
      ];
    }

  pub next-none : (s : ContextView K A T) (w m : Worklist) → StillWaits s w m → m.waiting.items ≡ [] →
      (p : Ptr OperationKind) → Waits w p → IsUsedBy effect ends s [] p → ⊥
  next-none s w m h empty p k d = subst (λ z. Has z p) empty (h.dead p k d)

  -- ---- one is erased

  module _ (s t : ContextView K A T) (forest : IsForest (look t)) (thin : IsThinned s t) where
    -- what is live in t stands below what it stood below
    climb-same : (k : ℕ) (n : IRNode) → IsLive t n →
        climb (parent_of t) k (Some n) ≡ climb (parent_of s) k (Some n)
    climb-same zero n l = refl
    climb-same (suc k) n l =
        up (λ a m. climb-same k a m) (parent_of t n) refl ∙ ap (climb (parent_of s) k) (thin.parents n l)
      where
        none : (k : ℕ) → climb (parent_of t) k None ≡ climb (parent_of s) k None
        none zero = refl
        none (suc k) = refl

        up : ((a : IRNode) → IsLive t a → climb (parent_of t) k (Some a) ≡ climb (parent_of s) k (Some a)) →
            (o : Option IRNode) → parent_of t n ≡ o →
            climb (parent_of t) k (parent_of t n) ≡ climb (parent_of s) k (parent_of t n)
        up rest None q = ap (climb (parent_of t) k) q ∙ none k ∙ ap (climb (parent_of s) k) (sym q)
        up rest (Some a) q =
            ap (climb (parent_of t) k) q ∙ rest a (forest.parent_live a n q) ∙ ap (climb (parent_of s) k) (sym q)

  module _ (s t : ContextView K A T) (r p : Ptr OperationKind) (w w' w'' : Worklist) (h : IsPending effect ends s r w)
      (next : IsNextDead effect ends s w (Some p) w') (keys : w'.listed.keys ≡ w.listed.keys) where
    -- the one that is erased next stands below the root
    pub next-below : IsBelow (look s) (Operation r) (Operation p)
    next-below = h.below p (h.waiting p next.1) next.0.live

    module _ (again : WaitAgain (Uses s p) w' w'') (forest : IsForest (look s)) (forest' : IsForest (look t))
        (e : IsErased s.nodes t.nodes (Operation p)) (freed : t ≡ without_tree s (Operation p))
        (thin : IsThinned s t) where
      pub step-swept : IsSwept effect ends s t
      step-swept = swept-erased effect ends s t p forest next.0 e thin freed

      same-keys : w''.listed.keys ≡ w.listed.keys
      same-keys = again.same ∙ keys

      was-listed : (q : Ptr OperationKind) → IsListed w'' q → IsListed w q
      was-listed q k = ap (λ ks. list_any (ptr_eq q) ks) (sym same-keys) ∙ k

      stays-listed : (q : Ptr OperationKind) → IsListed w q → IsListed w'' q
      stays-listed q k = ap (λ ks. list_any (ptr_eq q) ks) same-keys ∙ k

      below-before : (q : Ptr OperationKind) → IsLive t (Operation q) → IsBelow (look t) (Operation r) (Operation q) →
          IsBelow (look s) (Operation r) (Operation q)
      below-before q l b = (b.0, sym (climb-same s t forest' thin (suc b.0) (Operation q) l) ∙ b.1)

      below-after : (q : Ptr OperationKind) → IsLive t (Operation q) → IsBelow (look s) (Operation r) (Operation q) →
          IsBelow (look t) (Operation r) (Operation q)
      below-after q l b = (b.0, climb-same s t forest' thin (suc b.0) (Operation q) l ∙ b.1)

      went : (q : Ptr OperationKind) → IsLive t (Operation q) → MayGo effect ends t q → MayGo effect ends s q
      went q l g = record {
        removable = ap (λ z. is_kind (is_removable effect ends) (kind_in z)) (sym (thin.ops q l)) ∙ g.removable;
        no_region = sym (step-swept.regions q l) ∙ g.no_region;
      }

      -- what p did not use was dead before
      dead-before : (q : Ptr OperationKind) → IsUsedBy effect ends t [] q → (Uses s p q → ⊥) →
          IsUsedBy effect ends s [] q
      dead-before q d away =
          let g = went q d.live (goes t q d) in record {
            live = thin.old (Operation q) d.live;
            removable = g.removable;
            no_region = g.no_region;
            users = λ x l ne u. elim (ptr-tells x p) [
              | inl is ↦ absurd (away (subst (λ z. Uses s z q) is u))
              | inr other ↦
                  let k = others-stay effect ends s t p forest next.0 e thin freed (Operation x) l
                  (λ f. other (same-op x p f)) in
                  d.users x k ne (record {
                    place = u.place;
                    index = u.index;
                    here = ap (λ z. slice_get (operands_in z) u.place) (thin.ops x k) ∙ u.here;
                  })
            ];
          }

      still-dead : (q : Ptr OperationKind) → IsBelow (look t) (Operation r) (Operation q) →
          IsUsedBy effect ends t [] q → Waits w'' q
      still-dead q b d =
          let below = below-before q d.live b in
          let listed = stays-listed q (h.listed q below (went q d.live (goes t q d))) in
          elim (uses-tells s p q) [
            | inl u ↦ (again.waits q).1 (inr (u, ap (λ ks. list_any (ptr_eq q) ks) (sym again.same) ∙ listed))
            | inr away ↦
                let before = dead-before q d away in
                elim (next.3 q (h.dead q below before) before) [
                  | inl is ↦ absurd (live-apart effect ends s t p forest next.0 e thin freed (Operation q) d.live
                      (ap Operation is))
                  | inr waits ↦ (again.waits q).1 (inl waits)
                ]
          ]

      pub step-pending : IsPending effect ends t r w''
      step-pending = record {
        below = λ q k l. below-after q l (h.below q (was-listed q k) (thin.old (Operation q) l));
        listed = λ q b g. (let l = live-below q b in
            stays-listed q (h.listed q (below-before q l b) (went q l g)));
        waiting = λ q k. elim ((again.waits q).0 k) [
          | inl waits ↦ stays-listed q (h.waiting q (next.2 q waits))
          | inr used ↦ ap (λ ks. list_any (ptr_eq q) ks) again.same ∙ used.1
        ];
        dead = still-dead;
      }
        where
          -- what stands below something is live
          live-below : (q : Ptr OperationKind) → IsBelow (look t) (Operation r) (Operation q) → IsLive t (Operation q)
          live-below q b = up (parent_of t (Operation q)) refl
            where
              up : (o : Option IRNode) → parent_of t (Operation q) ≡ o → IsLive t (Operation q)
              up None f = absurd (climb-nothing (parent_of t) b.0 (Operation r)
                  (ap (climb (parent_of t) b.0) (sym f) ∙ b.1))
              up (Some a) f = forest'.child_live a (Operation q) (forest'.parent_child a (Operation q) f)

  -- ---- all of it

  -- From s dead code elimination below r has come to t: operations that were dead are gone, and those that are dead now
  -- wait.
  pub record IsSweeping (s : ContextView K A T) (r : Ptr OperationKind) (t : ContextView K A T) (w : Worklist) :
      Type 0 where
    pub swept : IsSwept effect ends s t
    pub lawful : Lawful (look s) (Operation r) (look t)
    pub forest : IsForest (look t)
    pub pending : IsPending effect ends t r w

  pub sweeping-start : (s : ContextView K A T) (r : Ptr OperationKind) (w : Worklist) → IsForest (look s) →
      Lawful (look s) (Operation r) (look s) → IsPending effect ends s r w → IsSweeping s r s w
  sweeping-start s r w f l h = record {
    swept = swept-none effect ends s f;
    lawful = l;
    forest = f;
    pending = h;
  }

  pub sweeping-more : {own : A → List ℕ} → LawfulChanges K A T own → (s m t : ContextView K A T)
      (r p : Ptr OperationKind) (w w' w'' : Worklist) → IsForest (look s) → IsSweeping s r m w →
      IsNextDead effect ends m w (Some p) w' → w'.listed.keys ≡ w.listed.keys → WaitAgain (Uses m p) w' w'' →
      IsForest (look t) → IsErased m.nodes t.nodes (Operation p) → t ≡ without_tree m (Operation p) → IsThinned m t →
      IsSweeping s r t w''
  sweeping-more laws s m t r p w w' w'' f h next keys again f' e freed thin = record {
    swept = swept-then effect ends s m h.swept t
        (step-swept m t r p w w' w'' h.pending next keys again h.forest f' e freed thin);
    lawful = laws.both s m t (Operation r) f h.lawful
        (laws.erased m t (Operation r) (Operation p) (next-below m t r p w w' w'' h.pending next keys) e);
    forest = f';
    pending = step-pending m t r p w w' w'' h.pending next keys again h.forest f' e freed thin;
  }

  pub sweeping-end : (s t : ContextView K A T) (r : Ptr OperationKind) (w w' : Worklist) → IsSweeping s r t w →
      IsNextDead effect ends t w None w' → HasNoDead effect ends t (Operation r)
  sweeping-end s t r w w' h none p b d = none p (h.pending.dead p b d) d
