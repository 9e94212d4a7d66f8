-- What is left where the operations that are not reached are cut and erased.
use Rattle.std.proofs.Common.{◌≡◌, ◌≢◌, ◌↔◌, ◌<◌, ◌+◌, ℕ, arith, zero, suc, Bool, IsTrue, List, get_or, length, All}
use Rattle.std.proofs.Common.{Some, None, inl, inr, refl, sym, ap, subst, ◌∙◌}
use Rattle.std.proofs.lemmas.Bool.{cases_Bool}
use Rattle.std.proofs.lemmas.Option.{none-some, same_Some, slice_get-get_or}
use Rattle.plir_store.specs.FilterLaws.{filter-all, not-both}
use Rattle.plir_store.specs.Members.{Has}
use Rattle.plir_store.specs.MemberLaws.{Has-at}
use Rattle.plir_core.specs.declared.ptr.Ptr.{Ptr}
use Rattle.plir_core.specs.declared.ptr.Operation.{Operation as OperationKind}
use Rattle.plir_core.specs.declared.ptr.BasicBlock.{BasicBlock as BlockKind}
use Rattle.plir_core.specs.declared.ptr.IRNode.{IRNode}
use Rattle.plir_core.specs.declared.ptr.IRNode.TheVariants.{Operation, BasicBlock}
use Rattle.plir_core.specs.declared.value.DefiningEntity.{DefiningEntity}
use Rattle.plir_core.specs.declared.value.DefiningEntity.TheVariants.{Op, Block}
use Rattle.plir_core.specs.Above.{climb}
use Rattle.plir_core.specs.ContextView.{ContextView, IsAncestor, IsLive, entity_node, is_live, op_at, operands_in}
use Rattle.plir_core.specs.ContextView.{operands_of, parent_of, children, successors_in, successors_of}
use Rattle.plir_core.specs.Forest.{look, IsBelow, IsForest}
use Rattle.plir_core.specs.Unused.{IsUnusedOutside, UsesNoneOf}
use Rattle.plir_walk.specs.Lawful.{Lawful}
use Rattle.plir_walk.specs.NodeLaws.{same-op}
use Rattle.plir_walk.specs.Thinned.{IsThinned}
use Rattle.plir_passes.specs.declared.marks.Marks.{Marks}
use Rattle.plir_passes.specs.Cutting.{AreErased, IsCut, IsLoose, UsesNothing}
use Rattle.plir_passes.specs.Marked.{is_among, ops_of}
use Rattle.plir_passes.specs.Reached.{IsBlockOf, IsFrom, IsReached, IsReachedLeft, IsUnder, IsUnreached, Needs}
use Rattle.plir_passes.proofs.Erasures.{climb-same}
use Rattle.plir_passes.proofs.Freed.{cut-thinned}
use Rattle.plir_passes.proofs.Marking.{has-among, among-has}
use Rattle.plir_passes.proofs.Upward.{climb-on, first-step, op-of-block, reach-on, under-live, upward}

-- what is read of a list at a place is one of it
has-get : {X : Type 0} (xs : List X) (k : ℕ) (d : X) → k < length xs → Has xs (get_or xs k d)
has-get xs k d less = Has-at xs k (get_or xs k d) (slice_get-get_or xs k d less)

module _ {K A T : Type 0} (effect ends : K → Bool) (s : ContextView K A T) (r : Ptr OperationKind)
    (w : IsForest (look s)) (live : IsLive s (Operation r)) (alone : IsUnusedOutside s (Operation r)) where
  abbrev reached : Ptr OperationKind → Type 0
  reached q = IsReached effect ends s r q

  -- what a reached operation needs is reached
  needed : (p q : Ptr OperationKind) → reached p → IsUnder s r q → Needs ends s p q → reached q
  needed p q h under need = (suc h.0, (p, h.1, (under, need)))

  pub root-reached : reached r
  root-reached = (zero, ((zero, refl), inl refl))

  -- what stands above a reached operation, and not above the root, is reached
  pub up-reached : (p u : Ptr OperationKind) → IsUnder s r p → IsAncestor s (Operation p) (Operation u) → reached u →
      reached p
  up-reached p u under above h =
      upward s reached p
      (λ v q k stands over. needed v q k
      (reach-on (parent_of s) (Operation q) (Operation p) (Operation r) over under)
      (inr (inr (inl stands)))) above.0 u above.1 h

  -- What a block or a value comes from, where that is reached, is at or below no operation that is not.
  used-block : (p : Ptr OperationKind) (b : Ptr BlockKind) → IsUnder s r p → IsAncestor s (Operation p) (BasicBlock b) →
      ((q : Ptr OperationKind) → IsUnder s r q → IsBlockOf s q b → reached q) → reached p
  used-block p b under above each =
      let f = op-of-block s b above.0 p above.1 in
      let over : IsAncestor s (Operation p) (Operation f.0) = (f.1, f.4) in
      up-reached p f.0 under over
      (each f.0 (reach-on (parent_of s) (Operation f.0) (Operation p) (Operation r) over under) f.3)

  used-value : (p : Ptr OperationKind) (e : DefiningEntity) → IsUnder s r p → IsAncestor s (Operation p) (entity_node e)
      → ((q : Ptr OperationKind) → IsUnder s r q → IsFrom s q e → reached q) → reached p
  used-value p (Op q) under above each =
      up-reached p q under above
      (each q (reach-on (parent_of s) (Operation q) (Operation p) (Operation r) above under) refl)
  used-value p (Block b) under above each = used-block p b under above each

  module _ (under marked : Marks) (is : (q : Ptr OperationKind) → Has (ops_of under) q ↔ IsUnder s r q)
      (right : (q : Ptr OperationKind) → IsTrue (is_among (ops_of marked) q) ↔ reached q) where
    abbrev loose : Ptr OperationKind → Type 0
    loose q = IsLoose under marked q

    pub loose-unreached : (q : Ptr OperationKind) → loose q → IsUnreached effect ends s r q
    loose-unreached q d = ((is q).0 d.0, λ h. not-both (is_among (ops_of marked) q) ((right q).1 h) d.1)

    pub loose-live : (q : Ptr OperationKind) → loose q → IsLive s (Operation q)
    loose-live q d = under-live s w (Operation r) (Operation q) ((is q).0 d.0) live

    -- the root is reached, so what is not stands in a block
    below : (q : Ptr OperationKind) → IsUnreached effect ends s r q → (k : ℕ) ×
        (climb (parent_of s) (suc k) (Some (Operation q)) ≡ Some (Operation r))
    below q d = at d.0.0 d.0.1
      where
        at : (k : ℕ) → climb (parent_of s) k (Some (Operation q)) ≡ Some (Operation r) → (j : ℕ) ×
            (climb (parent_of s) (suc j) (Some (Operation q)) ≡ Some (Operation r))
        at zero e =
            (let same = same-op q r (same_Some (Operation q) (Operation r) e) in
            absurd (d.1 (subst reached (sym same) root-reached)))
        at (suc k) e = (k, e)

    pub loose-in-block : (q : Ptr OperationKind) → loose q → parent_of s (Operation q) ≢ None
    loose-in-block q d none =
        let f = below q (loose-unreached q d) in
        let g = first-step (parent_of s) f.0 (Operation q) (Operation r) f.1 in
        none-some g.0 (sym none ∙ g.1)

    module _ (m : ContextView K A T) (cut : IsCut loose s m)
        (none : (q : Ptr OperationKind) → loose q → UsesNothing m q) where
      -- what stands above what is the same
      before : (a n : IRNode) → IsAncestor m a n → IsAncestor s a n
      before a n h = (h.0, subst (λ f. climb f h.0 (Some n) ≡ Some a) (λ i x. cut.keeps.parents x i) h.1)

      before-live : (n : IRNode) → IsLive m n → IsLive s n
      before-live n l = sym (cut.keeps.live n) ∙ l

      -- an operation that is let go of uses nothing of a tree that it is not in
      cut-uses : (p u : Ptr OperationKind) → loose u → (IsAncestor m (Operation p) (Operation u) → ⊥) →
          UsesNoneOf m (Operation p) u
      cut-uses p u d out =
          let f = none u d in record {
            operands = subst (All (λ v. IsAncestor m (Operation p) (entity_node v.entity) → ⊥)) (sym f.operands)
                (λ k x less. absurd (let z : ⊥ = omega (arith, less) in z));
            successors = λ k x less above.
                (let b = get_or (successors_of m u) k x in
                let over = f.successors b (has-get (successors_of m u) k x less) in
                out (suc above.0, ap (climb (parent_of m) above.0) over ∙ above.1));
          }

      module _ (p : Ptr OperationKind) (d : loose p) where
        up : IsUnder s r p
        up = (is p).0 d.0

        never : reached p → ⊥
        never h = (loose-unreached p d).1 h

        -- one that is reached uses nothing of it
        reached-uses : (u : Ptr OperationKind) → reached u → op_at m u ≡ op_at s u → UsesNoneOf m (Operation p) u
        reached-uses u h same = record {
          operands = subst (λ z. All (λ v. IsAncestor m (Operation p) (entity_node v.entity) → ⊥) (operands_in z))
              (sym same)
              (λ k x less above.
              (let v = get_or (operands_of s u) k x in
              never (used-value p v.entity up (before (Operation p) (entity_node v.entity) above)
              (λ q uq from. needed u q h uq (inl (v, has-get (operands_of s u) k x less, from))))));
          successors = subst (λ z. All (λ b. IsAncestor m (Operation p) (BasicBlock b) → ⊥) (successors_in z))
              (sym same)
              (λ k x less above.
              (let b = get_or (successors_of s u) k x in
              never (used-block p b up (before (Operation p) (BasicBlock b) above)
              (λ q uq from. needed u q h uq (inr (inl (b, has-get (successors_of s u) k x less, from)))))));
        }

        -- nor does one that is not under the root
        outer-uses : (u : Ptr OperationKind) → UsesNoneOf s (Operation r) u → op_at m u ≡ op_at s u →
            UsesNoneOf m (Operation p) u
        outer-uses u h same = record {
          operands = subst (λ z. All (λ v. IsAncestor m (Operation p) (entity_node v.entity) → ⊥) (operands_in z))
              (sym same)
              (λ k x less above.
              (let n = entity_node (get_or (operands_of s u) k x).entity in
              h.operands k x less
              (reach-on (parent_of s) n (Operation p) (Operation r) (before (Operation p) n above) up)));
          successors = subst (λ z. All (λ b. IsAncestor m (Operation p) (BasicBlock b) → ⊥) (successors_in z))
              (sym same)
              (λ k x less above.
              (let n = BasicBlock (get_or (successors_of s u) k x) in
              h.successors k x less
              (reach-on (parent_of s) n (Operation p) (Operation r) (before (Operation p) n above) up)));
        }

        -- so nothing uses it
        pub cut-unused : IsUnusedOutside m (Operation p)
        cut-unused u l out = elim (cases_Bool (is_among (ops_of marked) u)) [
          | inl on ↦ reached-uses u ((right u).0 on)
              (cut.ops u (before-live (Operation u) l) (λ x. not-both (is_among (ops_of marked) u) on x.1))
          | inr off ↦ elim (cases_Bool (is_among (ops_of under) u)) [
            | inl here ↦ cut-uses p u (among-has (ops_of under) u here, off) out
            | inr away ↦ outer-uses u
                (alone u (before-live (Operation u) l)
                (λ a. not-both (is_among (ops_of under) u) (has-among (ops_of under) u ((is u).1 a)) away))
                (cut.ops u (before-live (Operation u) l)
                (λ x. not-both (is_among (ops_of under) u) (has-among (ops_of under) u x.0) away))
          ]
        ]

      module _ (t : ContextView K A T) (e : AreErased loose m t) where
        thin : IsThinned s t
        thin = cut-thinned s m t cut loose-live e

        stays : (n : IRNode) → IsLive s n →
            ((p : Ptr OperationKind) → IsUnreached effect ends s r p → IsAncestor s (Operation p) n → ⊥) → IsLive t n
        stays n l apart =
            e.left n (cut.keeps.live n ∙ l) (λ q d a. apart q (loose-unreached q d) (before (Operation q) n a))

        pub all-left : IsReachedLeft effect ends s r t
        all-left = record {
          ops = λ p under. (
            λ l. elim (cases_Bool (is_among (ops_of marked) p)) [
              | inl on ↦ (right p).0 on
              | inr off ↦ absurd (not-both (is_live t (Operation p)) l (e.gone p ((is p).1 under, off)))
            ],
            λ h. stays (Operation p) (under-live s w (Operation r) (Operation p) under live)
                (λ q unreached above. unreached.1 (up-reached q p unreached.0 above h)),
          );
          nodes = stays;
          thinned = thin;
        }

        -- what is not below the root is left
        outside : (n : IRNode) → IsLive s n → (IsBelow (look s) (Operation r) n → ⊥) → IsLive t n
        outside n l apart =
            stays n l (λ p unreached above.
            (let f = below p unreached in
            let more : above.0 + suc f.0 ≡ suc (above.0 + f.0) = omega arith in
            apart (
              above.0 + f.0,
              ap (λ k. climb (parent_of s) k (Some n)) (sym more)
                  ∙ climb-on (parent_of s) above.0 (suc f.0) n (Operation p) (Some (Operation r)) above.1 f.1,
            )))

        -- a child of a node that is not below the root, and not the root, is not below the root
        beside : (n x : IRNode) → n ≢ Operation r → (IsBelow (look s) (Operation r) n → ⊥) → Has (children s n) x →
            IsBelow (look s) (Operation r) x → ⊥
        beside n x ne apart has b = at b.0 (ap (climb (parent_of s) b.0) (sym (w.child_parent n x has)) ∙ b.1)
          where
            at : (k : ℕ) → climb (parent_of s) k (Some n) ≡ Some (Operation r) → ⊥
            at zero f = ne (same_Some n (Operation r) f)
            at (suc k) f = apart (k, f)

        pub all-lawful : Lawful (look s) (Operation r) (look t)
        all-lawful = record {
          kept = λ n l apart. (
            outside n l apart,
            thin.parents n (outside n l apart),
            λ ne. thin.children n (outside n l apart)
                ∙ filter-all (is_live t) (children s n)
                (λ x has. outside x (w.child_live n x has) (beside n x ne apart has)),
          );
          below = λ n b.
              (let f = first-step (parent_of t) b.0 n (Operation r) b.1 in
              let l = e.forest.child_live f.0 n (e.forest.parent_child f.0 n f.1) in
              inl (b.0, sym (climb-same s t e.forest thin (suc b.0) n l) ∙ b.1));
          given = λ n g. thin.given n ∙ g;
        }
