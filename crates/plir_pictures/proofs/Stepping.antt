-- The steps that put a nested text.
use Rattle.std.proofs.Common.{◌≡◌, ℕ, zero, suc, ◌+◌, Bool, true, false, List, [], ◌∷◌, ◌++◌, Some, None, refl, sym}
use Rattle.std.proofs.Common.{ap, subst, ◌∙◌, arith, append_assoc, append-nil}
use Rattle.std.specs.List.{flat_map}
use Rattle.std.proofs.lemmas.Option.{same_Some, none-some}
use Rattle.plir_core.specs.declared.ptr.IRNode.{IRNode}
use Rattle.plir_core.specs.Measures.{depth}
use Rattle.plir_core.specs.Standing.{IsStanding}
use Rattle.plir_core.specs.ContextView.{ContextView, IsLive, children, next_sibling, parent_of}
use Rattle.plir_store.specs.Members.{Has, head}
use Rattle.plir_store.specs.MemberLaws.{Has-mid, Has-split}
use Rattle.plir_pictures.specs.Nested.{nested}
use Rattle.plir_pictures.specs.Steps.{Cursor, HangsIn, IsAt, IsBehind, Steps, own_rest, steps_left}
use Rattle.plir_pictures.proofs.Levels.{level}
use Rattle.plir_pictures.proofs.StepsLeft.{fewer-in, fewer-past, fewer-over, fewer-up}

-- what a step puts, and what is left
regroup-in : (old a t f c r : List ℕ) → old ++ ((a ++ ((t ++ f) ++ c)) ++ r) ≡ (old ++ a) ++ (t ++ (f ++ (c ++ r)))
regroup-in old a t f c r = simp append_assoc

regroup-past : (old a c r : List ℕ) → old ++ ((a ++ c) ++ r) ≡ (old ++ a) ++ (c ++ r)
regroup-past old a c r = simp append_assoc

regroup-over : (old c t f u : List ℕ) → old ++ (c ++ ((t ++ f) ++ u)) ≡ (old ++ c) ++ (t ++ (f ++ u))
regroup-over old c t f u = simp append_assoc

pub no-head : (xs : List IRNode) → head xs ≡ None → xs ≡ []
no-head [] e = refl
no-head (x ∷ xs) e = absurd (none-some x (sym e))

pub some-head : (xs : List IRNode) (x : IRNode) → head xs ≡ Some x → (ys : List IRNode) × (xs ≡ x ∷ ys)
some-head [] x e = absurd (none-some x e)
some-head (y ∷ ys) x e = (ys, ap (λ z. z ∷ ys) (same_Some y x e))

module _ {K A T : Type 0} (s : ContextView K A T) (st : IsStanding s) (opens closes : IRNode → List ℕ) where
  abbrev text : IRNode → List ℕ
  text = nested s opens closes

  abbrev texts : List IRNode → List ℕ
  texts = flat_map (nested s opens closes)

  -- ---- what is known of a node that the loop has come to

  hangs : (x : IRNode) (t : List ℕ) (h : HangsIn s opens closes x t) → Has (children s h.over) x
  hangs x t h = subst (λ z. Has z x) (sym h.there) (Has-mid h.earlier h.later x)

  module _ (root : IRNode) where
    deep : (k : ℕ) (x : IRNode) (t : List ℕ) → IsBehind s opens closes root k x t → depth s x ≡ depth s root + k
    deep zero x t h = let e = ap (depth s) h.0 in omega (arith, e)
    deep (suc k) x t h =
        let d = st.measured.deeper h.0.over x (st.forest.child_parent h.0.over x (hangs x t h.0)) in
        let e = deep k h.0.over h.0.rest h.1 in
        omega (arith, d, e)

    live : (k : ℕ) (x : IRNode) (t : List ℕ) → IsBehind s opens closes root k x t → IsLive s root → IsLive s x
    live zero x t h l = subst (IsLive s) (sym h.0) l
    live (suc k) x t h l = st.forest.child_live h.0.over x (hangs x t h.0)

    pub at-live : (whole out : List ℕ) (c : Cursor) → IsAt s opens closes root whole out c → IsLive s root
        → IsLive s c.0
    at-live whole out c at l = live at.levels c.0 at.behind at.is_behind l

    -- the whole is still to come, as the root is entered
    pub begins : (old : List ℕ) → IsAt s opens closes root (old ++ text root) old (root, true)
    begins old = record {
      levels = 0;
      behind = [];
      is_behind = (refl, refl);
      is_whole = ap (λ z. old ++ z) (sym (append-nil (text root)));
    }

    -- ---- a node is entered

    goes-in : (x child : IRNode) (ks : List IRNode) (old new whole : List ℕ) → children s x ≡ child ∷ ks
        → new ≡ old ++ opens x → IsAt s opens closes root whole old (x, true)
        → IsAt s opens closes root whole new (child, true)
    goes-in x child ks old new whole e p at = record {
      levels = suc at.levels;
      behind = texts ks ++ (closes x ++ at.behind);
      is_behind = (
        record { over = x; earlier = []; later = ks; rest = at.behind; there = e; text = refl },
        at.is_behind,
      );
      is_whole = at.is_whole
          ∙ (ap (λ z. old ++ (z ++ at.behind))
          (level s st opens closes x ∙ ap (λ z. opens x ++ (texts z ++ closes x)) e)
          ∙ (regroup-in old (opens x) (text child) (texts ks) (closes x) at.behind
          ∙ ap (λ z. z ++ (text child ++ (texts ks ++ (closes x ++ at.behind)))) (sym p)));
    }

    goes-past : (x : IRNode) (old new whole : List ℕ) → children s x ≡ [] → new ≡ old ++ opens x
        → IsAt s opens closes root whole old (x, true) → IsAt s opens closes root whole new (x, false)
    goes-past x old new whole e p at = record {
      levels = at.levels;
      behind = at.behind;
      is_behind = at.is_behind;
      is_whole = at.is_whole
          ∙ (ap (λ z. old ++ (z ++ at.behind))
          (level s st opens closes x ∙ ap (λ z. opens x ++ (texts z ++ closes x)) e)
          ∙ (regroup-past old (opens x) (closes x) at.behind
          ∙ ap (λ z. z ++ (closes x ++ at.behind)) (sym p)));
    }

    pub enters-child : (x child : IRNode) (old new : List ℕ) → head (children s x) ≡ Some child
        → new ≡ old ++ opens x → Steps s opens closes root old (x, true) new (Some (child, true))
    enters-child x child old new e p =
        let found = some-head (children s x) child e in (
          λ whole at. goes-in x child found.0 old new whole found.1 p at,
          fewer-in s st x child found.0 found.1,
        )

    pub enters-leaf : (x : IRNode) (old new : List ℕ) → head (children s x) ≡ None → new ≡ old ++ opens x
        → Steps s opens closes root old (x, true) new (Some (x, false))
    enters-leaf x old new e p = (
      λ whole at. goes-past x old new whole (no-head (children s x) e) p at,
      fewer-past s st x,
    )

    -- ---- a node is left

    module _ (x : IRNode) (old new : List ℕ) (p : new ≡ old ++ closes x) where
      end-by : (whole : List ℕ) (k : ℕ) (behind : List ℕ) → x ≡ root → IsBehind s opens closes root k x behind
          → whole ≡ old ++ (closes x ++ behind) → new ≡ whole
      end-by whole zero behind e h w =
          p ∙ (sym (append-nil (old ++ closes x))
          ∙ (append_assoc old (closes x) [] ∙ (ap (λ z. old ++ (closes x ++ z)) (sym h.1) ∙ sym w)))
      end-by whole (suc k) behind e h w =
          absurd (let d = deep (suc k) x behind h in let same = ap (depth s) e in omega (arith, d, same))

      -- the root is left
      pub leaves-root : x ≡ root → Steps s opens closes root old (x, false) new None
      leaves-root e whole at = end-by whole at.levels at.behind e at.is_behind at.is_whole

      alone-by : (whole : List ℕ) (k : ℕ) (behind : List ℕ) → parent_of s x ≡ None → (x ≡ root → ⊥)
          → IsBehind s opens closes root k x behind → new ≡ whole
      alone-by whole zero behind up off h = absurd (off h.0)
      alone-by whole (suc k) behind up off h =
          absurd (none-some h.0.over (sym up ∙ st.forest.child_parent h.0.over x (hangs x behind h.0)))

      -- no other node stands alone
      pub leaves-alone : parent_of s x ≡ None → (x ≡ root → ⊥) → Steps s opens closes root old (x, false) new None
      leaves-alone up off whole at = alone-by whole at.levels at.behind up off at.is_behind

      module _ (next : (over : IRNode) (xs ys : List IRNode) → children s over ≡ xs ++ x ∷ ys
          → next_sibling s x ≡ head ys) (over : IRNode) (up : parent_of s x ≡ Some over) (off : x ≡ root → ⊥) where
        same-over : (behind : List ℕ) (h : HangsIn s opens closes x behind) → h.over ≡ over
        same-over behind h =
            same_Some h.over over (sym (st.forest.child_parent h.over x (hangs x behind h)) ∙ up)

        split : (xs : List IRNode) × (ys : List IRNode) × (children s over ≡ xs ++ x ∷ ys)
        split = Has-split (children s over) x (st.forest.parent_child over x up)

        over-by : (y : IRNode) → next_sibling s x ≡ Some y → (whole : List ℕ) (k : ℕ) (behind : List ℕ)
            → IsBehind s opens closes root k x behind → whole ≡ old ++ (closes x ++ behind)
            → IsAt s opens closes root whole new (y, true)
        over-by y right whole zero behind h w = absurd (off h.0)
        over-by y right whole (suc k) behind h w =
            let found = some-head h.0.later y (sym (next h.0.over h.0.earlier h.0.later h.0.there) ∙ right) in
            let closed = closes h.0.over ++ h.0.rest in
            record {
              levels = suc k;
              behind = texts found.0 ++ closed;
              is_behind = (
                record {
                  over = h.0.over;
                  earlier = h.0.earlier ++ x ∷ [];
                  later = found.0;
                  rest = h.0.rest;
                  there = h.0.there ∙ (ap (λ z. h.0.earlier ++ x ∷ z) found.1
                      ∙ sym (append_assoc h.0.earlier (x ∷ []) (y ∷ found.0)));
                  text = refl;
                },
                h.1,
              );
              is_whole = w
                  ∙ (ap (λ z. old ++ (closes x ++ z)) (h.0.text ∙ ap (λ z. texts z ++ closed) found.1)
                  ∙ (regroup-over old (closes x) (text y) (texts found.0) closed
                  ∙ ap (λ z. z ++ (text y ++ (texts found.0 ++ closed))) (sym p)));
            }

        pub leaves-over : (y : IRNode) → next_sibling s x ≡ Some y
            → Steps s opens closes root old (x, false) new (Some (y, true))
        leaves-over y right =
            let found = some-head split.1 y (sym (next over split.0 split.1 split.2) ∙ right) in (
              λ whole at. over-by y right whole at.levels at.behind at.is_behind at.is_whole,
              fewer-over s st over x y split.0 found.0 (split.2 ∙ ap (λ z. split.0 ++ x ∷ z) found.1),
            )

        up-by : next_sibling s x ≡ None → (whole : List ℕ) (k : ℕ) (behind : List ℕ)
            → IsBehind s opens closes root k x behind → whole ≡ old ++ (closes x ++ behind)
            → IsAt s opens closes root whole new (over, false)
        up-by right whole zero behind h w = absurd (off h.0)
        up-by right whole (suc k) behind h w =
            let none : h.0.later ≡ [] =
            no-head h.0.later (sym (next h.0.over h.0.earlier h.0.later h.0.there) ∙ right) in
            let closed = closes h.0.over ++ h.0.rest in
            let there : IsAt s opens closes root whole new (h.0.over, false) = record {
              levels = k;
              behind = h.0.rest;
              is_behind = h.1;
              is_whole = w
                  ∙ (ap (λ z. old ++ (closes x ++ z)) (h.0.text ∙ ap (λ z. texts z ++ closed) none)
                  ∙ (sym (append_assoc old (closes x) closed) ∙ ap (λ z. z ++ closed) (sym p)));
            } in
            subst (λ z. IsAt s opens closes root whole new (z, false)) (same-over behind h.0) there

        pub leaves-up : next_sibling s x ≡ None → Steps s opens closes root old (x, false) new (Some (over, false))
        leaves-up right =
            let none : split.1 ≡ [] = no-head split.1 (sym (next over split.0 split.1 split.2) ∙ right) in (
              λ whole at. up-by right whole at.levels at.behind at.is_behind at.is_whole,
              fewer-up s st over x split.0 (split.2 ∙ ap (λ z. split.0 ++ x ∷ z) none),
            )
