-- Operations of a block come one after another to stand elsewhere, the one first that stood first.
use Rattle.std.proofs.Common.{◌≡◌, zero, suc, ◌<◌, true, List, [], ◌∷◌, ◌++◌, length, Option, Some, None, IsSome, inl}
use Rattle.std.proofs.Common.{inr, refl, sym, ◌∙◌, ap, subst, arith}
use Rattle.std.proofs.lemmas.List.{append_assoc, append-nil, length-append}
use Rattle.std.proofs.lemmas.Option.{same_Some, none-some}
use Rattle.plir_store.specs.Members.{Has, head}
use Rattle.plir_store.specs.MemberLaws.{Has-split, Has-mid, Has-append_left, Has-append_right, Has-append_cases}
use Rattle.plir_core.specs.declared.ptr.IRNode.{IRNode}
use Rattle.plir_core.specs.Above.{climb, Reaches}
use Rattle.plir_core.specs.Moved.{IsTransferred, IsSplitOff, IsSplicedBefore, IsMovedBefore}
use Rattle.plir_core.specs.Nodes.{Nodes, is_node_live, node_children, node_parent, node_next}
use Rattle.plir_core.specs.Placed.{IsPlaced, IsPlacedLast, IsUnlinked}
use Rattle.plir_core.specs.Stored.{IsStored}
use Rattle.plir_core.proofs.Apart.{moved_apart, still_apart}
use Rattle.plir_core.proofs.ChildPlaces.{next-behind}
use Rattle.plir_core.proofs.Facts.{child-parent, child-live, parent-child}
use Rattle.plir_core.proofs.Listing.{some_is, some_value}
use Rattle.plir_core.proofs.Splits.{nothing_first}
use Rattle.plir_core.proofs.Trees.{climb_step}

-- Of the nodes `all`, which stood behind `front` under `source`, those up to `next` have come under `over`, between
-- `before` and `behind`.
pub record IsMoving {O B : Type 0} (s t : Nodes O B) (source over : IRNode) (front all before behind : List IRNode)
    (next : Option IRNode) : Type 0 where
  pub done : List IRNode
  pub rest : List IRNode
  pub whole : all ≡ done ++ rest
  pub ahead : head rest ≡ next
  pub apart : Reaches (node_parent t) over source → ⊥
  pub so_far : IsTransferred s t source over done (front ++ rest) (before ++ done ++ behind)

module _ {O B : Type 0} (s : Nodes O B) (source over : IRNode) (front all before behind : List IRNode) where
  abbrev Moving : Nodes O B → Option IRNode → Type 0
  Moving t next = IsMoving s t source over front all before behind next

  pub moving-start : (next : Option IRNode) → node_children s source ≡ front ++ all → node_children s over ≡ before ++
      behind → head all ≡ next → (Reaches (node_parent s) over source → ⊥) → Moving s next
  moving-start next e f g away = record {
    done = [];
    rest = all;
    whole = refl;
    ahead = g;
    apart = away;
    so_far = record {
      ops = refl;
      regions = refl;
      blocks = refl;
      limit = refl;
      left = e;
      children_over = f ∙ ap (λ z. z ++ behind) (sym (append-nil before));
      children = λ m a b. refl;
      moved = λ m h. absurd h;
      parents = λ m h. refl;
    };
  }

  headed : (xs : List IRNode) (n : IRNode) → head xs ≡ Some n → (ys : List IRNode) × (xs ≡ n ∷ ys)
  headed [] n e = absurd (none-some n e)
  headed (x ∷ xs) n e = (xs, ap (λ z. z ∷ xs) (same_Some x n e))

  pub moving-end : (t : Nodes O B) → Moving t None → IsTransferred s t source over all front (before ++ all ++ behind)
  moving-end t m =
      let none = nothing_first m.rest m.ahead in
      let same : m.done ≡ all = sym (append-nil m.done) ∙ sym (ap (λ z. m.done ++ z) none) ∙ sym m.whole in
      let left : front ++ m.rest ≡ front = ap (λ z. front ++ z) none ∙ append-nil front in
      subst (λ z. IsTransferred s t source over z front (before ++ z ++ behind)) same
      (subst (λ z. IsTransferred s t source over m.done z (before ++ m.done ++ behind)) left m.so_far)

  -- The next one to be moved is n.
  module _ (t : Nodes O B) (w : IsStored t) (n : IRNode) (m : Moving t (Some n)) where
    pub tail : (ys : List IRNode) × (m.rest ≡ n ∷ ys)
    tail = headed m.rest n m.ahead

    pub here : node_children t source ≡ front ++ n ∷ tail.0
    here = m.so_far.left ∙ ap (λ z. front ++ z) tail.1

    pub there : node_children t over ≡ before ++ m.done ++ behind
    there = m.so_far.children_over

    is_child : Has (node_children t source) n
    is_child = subst (λ z. Has z n) (sym here) (Has-mid front tail.0 n)

    pub parent_here : node_parent t n ≡ Some source
    parent_here = child-parent t w source n is_child

    pub live_here : is_node_live t n ≡ true
    live_here = child-live t w source n is_child

    pub next_is : node_next t n ≡ head tail.0
    next_is = next-behind t w source n front tail.0 here

    two : source ≡ over → ⊥
    two e = m.apart (zero, ap Some (sym e))

    -- it does not stand above where it goes
    pub away : Reaches (node_parent t) over n → ⊥
    away r = m.apart (suc r.0, climb_step (node_parent t) r.0 (Some over) n r.1 ∙ parent_here)

    -- nor above a child there
    pub away_from : (x : IRNode) → node_parent t x ≡ Some over → Reaches (node_parent t) x n → ⊥
    away_from x e (zero, q) =
        two (same_Some source over (sym parent_here ∙ sym (ap (node_parent t) (same_Some x n q)) ∙ e))
    away_from x e (suc k, q) = away (k, ap (climb (node_parent t) k) (sym e) ∙ q)

    -- once it is taken out
    module _ (out : Nodes O B) (u : IsUnlinked t out n) where
      pub out_there : node_children out over ≡ before ++ m.done ++ behind
      out_there = u.children over (λ q. two (same_Some source over (sym parent_here ∙ q))) ∙ there

      pub out_away : Reaches (node_parent out) over n → ⊥
      out_away = moved_apart t out n u.moved over n away away

      -- and put there
      module _ (now : Nodes O B) (p : IsPlaced out now n over (before ++ m.done ++ n ∷ behind)) where
        parents_now : (x : IRNode) → (x ≡ n → ⊥) → node_parent now x ≡ node_parent t x
        parents_now x ne = p.moved.parents x ne ∙ u.moved.parents x ne

        in_done : (x : IRNode) → Has m.done x → x ≡ n → ⊥
        in_done x h e =
            two (same_Some source over (sym parent_here ∙ sym (ap (node_parent t) e) ∙ m.so_far.moved x h))

        pub moving-more : Moving now (head tail.0)
        moving-more = record {
          done = m.done ++ n ∷ [];
          rest = tail.0;
          whole = m.whole ∙ ap (λ z. m.done ++ z) tail.1 ∙ sym (append_assoc m.done (n ∷ []) tail.0);
          ahead = refl;
          apart = still_apart (node_parent t) (node_parent now) n parents_now over source away m.apart;
          so_far = record {
            ops = p.moved.ops ∙ u.moved.ops ∙ m.so_far.ops;
            regions = p.moved.regions ∙ u.moved.regions ∙ m.so_far.regions;
            blocks = p.moved.blocks ∙ u.moved.blocks ∙ m.so_far.blocks;
            limit = p.moved.limit ∙ u.moved.limit ∙ m.so_far.limit;
            left = p.children source two ∙ u.children_over source front tail.0 here;
            children_over = p.children_over ∙ sym (append_assoc (before ++ m.done) (n ∷ []) behind)
                ∙ ap (λ z. z ++ behind) (append_assoc before m.done (n ∷ []));
            children = λ x a b.
                p.children x b ∙ u.children x (λ q. a (sym (same_Some source x (sym parent_here ∙ q))))
                ∙ m.so_far.children x a b;
            moved = λ x h. elim (Has-append_cases m.done (n ∷ []) x h) [
              | inl k ↦ parents_now x (in_done x k) ∙ m.so_far.moved x k
              | inr k ↦ elim k [ inl e ↦ ap (node_parent now) (sym e) ∙ p.parent | inr j ↦ absurd j ]
            ];
            parents = λ x h.
                parents_now x (λ e. h (Has-append_right m.done (n ∷ []) x (inl (sym e))))
                ∙ m.so_far.parents x (λ k. h (Has-append_left m.done (n ∷ []) x k));
          };
        }

        -- fewer are left
        pub moving-fewer : length (node_children now source) < length (node_children t source)
        moving-fewer =
            let a = ap length (p.children source two ∙ u.children_over source front tail.0 here) ∙ length-append front
            tail.0 in
            let b = ap length here ∙ length-append front (n ∷ tail.0) in
            omega arith

-- An operation and all behind it come to the end of another block.
abbrev pub IsTailMoving : {O B : Type 0} (s t : Nodes O B) (source over first : IRNode) → Option IRNode → Type 0
IsTailMoving s t source over first next =
    (xs ys : List IRNode) → node_children s source ≡ xs ++ first ∷ ys → IsMoving s t source over xs (first ∷ ys)
    (node_children s over) [] next

module _ {O B : Type 0} (s : Nodes O B) (source over first : IRNode) where
  pub tail-start : (Reaches (node_parent s) over source → ⊥) → IsTailMoving s s source over first (Some first)
  tail-start away xs ys e = moving-start s source over xs (first ∷ ys) (node_children s over) [] (Some first) e
      (sym (append-nil (node_children s over))) refl away

  pub tail-end : (t : Nodes O B) (next : Option IRNode) → IsTailMoving s t source over first next → next ≡ None →
      IsSplitOff s t source first over
  tail-end t next m none xs ys e = subst (λ z. IsTransferred s t source over (first ∷ ys) xs z)
      (append-nil (node_children s over ++ first ∷ ys)) (moving-end s source over xs (first ∷ ys)
      (node_children s over) [] t (subst (IsMoving s t source over xs (first ∷ ys) (node_children s over) []) none
      (m xs ys e)))

  module _ (w : IsStored s) (child : node_parent s first ≡ Some source) (t : Nodes O B) (v : IsStored t)
      (next : Option IRNode) (so_far : IsTailMoving s t source over first next) (n : IRNode) (is : next ≡ Some n) where
    m : IsTailMoving s t source over first (Some n)
    m xs ys e = subst (IsMoving s t source over xs (first ∷ ys) (node_children s over) []) is (so_far xs ys e)

    parts : (xs : List IRNode) × (ys : List IRNode) × (node_children s source ≡ xs ++ first ∷ ys)
    parts = Has-split (node_children s source) first (parent-child s w source first child)

    one : IsMoving s t source over parts.0 (first ∷ parts.1) (node_children s over) [] (Some n)
    one = m parts.0 parts.1 parts.2

    pub tail-live : is_node_live t n ≡ true
    tail-live = live_here s source over parts.0 (first ∷ parts.1) (node_children s over) [] t v n one

    module _ (out : Nodes O B) (u : IsUnlinked t out n) where
      pub tail-away : Reaches (node_parent out) over n → ⊥
      tail-away = out_away s source over parts.0 (first ∷ parts.1) (node_children s over) [] t v n one out u

      module _ (now : Nodes O B) (p : IsPlacedLast out now n over) where
        placed : (xs ys : List IRNode) (e : node_children s source ≡ xs ++ first ∷ ys) → IsPlaced out now n over
            (node_children s over ++ (m xs ys e).done ++ n ∷ [])
        placed xs ys e = subst (λ z. IsPlaced out now n over z)
            (ap (λ z. z ++ n ∷ [])
            (out_there s source over xs (first ∷ ys) (node_children s over) [] t v n (m xs ys e) out u
            ∙ append-nil (node_children s over ++ (m xs ys e).done))) p

        pub tail-more : IsTailMoving s now source over first (node_next t n)
        tail-more xs ys e = subst (IsMoving s now source over xs (first ∷ ys) (node_children s over) [])
            (sym (next_is s source over xs (first ∷ ys) (node_children s over) [] t v n (m xs ys e)))
            (moving-more s source over xs (first ∷ ys) (node_children s over) [] t v n (m xs ys e) out u now
            (placed xs ys e))

        pub tail-fewer : length (node_children now source) < length (node_children t source)
        unfolding one
        tail-fewer = moving-fewer s source over parts.0 (first ∷ parts.1) (node_children s over) [] t v n one out u now
            (placed parts.0 parts.1 parts.2)

-- n can come to stand beside the mark.
pub record CanStandBeside {O B : Type 0} (t : Nodes O B) (mark n : IRNode) : Type 0 where
  pub live : is_node_live t n ≡ true
  pub mark_live : is_node_live t mark ≡ true
  pub linked : IsSome (node_parent t mark)
  pub not_above : Reaches (node_parent t) mark n → ⊥

-- All operations of a block come to stand right before one of another block.
abbrev pub IsAllMoving : {O B : Type 0} (s t : Nodes O B) (source mark : IRNode) → Type 0
IsAllMoving s t source mark =
    (over : IRNode) (xs ys : List IRNode) → node_children s over ≡ xs ++ mark ∷ ys → IsMoving s t source over []
    (node_children s source) xs (mark ∷ ys) (head (node_children t source))

module _ {O B : Type 0} (s : Nodes O B) (source mark : IRNode) (w : IsStored s) where
  marked : (over : IRNode) (xs ys : List IRNode) → node_children s over ≡ xs ++ mark ∷ ys → node_parent s mark ≡ Some
      over
  marked over xs ys e = child-parent s w over mark (subst (λ z. Has z mark) (sym e) (Has-mid xs ys mark))

  pub all-start : (Reaches (node_parent s) mark source → ⊥) → IsAllMoving s s source mark
  all-start away over xs ys e = moving-start s source over [] (node_children s source) xs (mark ∷ ys)
      (head (node_children s source)) refl e refl
      (λ r. away (suc r.0, ap (climb (node_parent s) r.0) (marked over xs ys e) ∙ r.1))

  pub all-end : (t : Nodes O B) → head (node_children t source) ≡ None → IsAllMoving s t source mark → IsSplicedBefore s
      t source mark
  all-end t none m over xs ys e = moving-end s source over [] (node_children s source) xs (mark ∷ ys) t
      (subst (IsMoving s t source over [] (node_children s source) xs (mark ∷ ys)) none (m over xs ys e))

  module _ (linked : IsSome (node_parent s mark)) (t : Nodes O B) (v : IsStored t) (m : IsAllMoving s t source mark)
      (n : IRNode) (first : head (node_children t source) ≡ Some n) where
    pub over_is : (over : IRNode) × (node_parent s mark ≡ Some over)
    over_is = some_value (node_parent s mark) linked

    sides : (xs : List IRNode) × (ys : List IRNode) × (node_children s over_is.0 ≡ xs ++ mark ∷ ys)
    sides = Has-split (node_children s over_is.0) mark (parent-child s w over_is.0 mark over_is.1)

    moving : (over : IRNode) (xs ys : List IRNode) → node_children s over ≡ xs ++ mark ∷ ys → IsMoving s t source over []
        (node_children s source) xs (mark ∷ ys) (Some n)
    moving over xs ys e = subst (IsMoving s t source over [] (node_children s source) xs (mark ∷ ys)) first
        (m over xs ys e)

    this : IsMoving s t source over_is.0 [] (node_children s source) sides.0 (mark ∷ sides.1) (Some n)
    this = moving over_is.0 sides.0 sides.1 sides.2

    mark_there : Has (node_children t over_is.0) mark
    mark_there = subst (λ z. Has z mark) (sym this.so_far.children_over)
        (Has-mid (sides.0 ++ this.done) sides.1 mark)

    mark-parent : node_parent t mark ≡ Some over_is.0
    mark-parent = child-parent t v over_is.0 mark mark_there

    pub all-next : CanStandBeside t mark n
    all-next = record {
      live = live_here s source over_is.0 [] (node_children s source) sides.0 (mark ∷ sides.1) t v n this;
      mark_live = child-live t v over_is.0 mark mark_there;
      linked = some_is (node_parent t mark) over_is.0 mark-parent;
      not_above = away_from s source over_is.0 [] (node_children s source) sides.0 (mark ∷ sides.1) t v n this mark
          mark-parent;
    }

    module _ (now : Nodes O B) (p : IsMovedBefore t now n mark) where
      put : (over : IRNode) (xs ys : List IRNode) (e : node_children s over ≡ xs ++ mark ∷ ys) → IsPlaced p.0 now n over
          (xs ++ (moving over xs ys e).done ++ n ∷ mark ∷ ys)
      put over xs ys e = p.1.1 over (xs ++ (moving over xs ys e).done) ys
          (out_there s source over [] (node_children s source) xs (mark ∷ ys) t v n (moving over xs ys e) p.0 p.1.0)

      pub all-more : IsAllMoving s now source mark
      unfolding moving-more tail
      all-more over xs ys e =
          let more = moving-more s source over [] (node_children s source) xs (mark ∷ ys) t v n (moving over xs ys e)
          p.0 p.1.0 now (put over xs ys e) in
          subst (IsMoving s now source over [] (node_children s source) xs (mark ∷ ys))
          (sym (ap head more.so_far.left)) more

      pub all-fewer : length (node_children now source) < length (node_children t source)
      unfolding this moving
      all-fewer = moving-fewer s source over_is.0 [] (node_children s source) sides.0 (mark ∷ sides.1) t v n this p.0
          p.1.0 now (put over_is.0 sides.0 sides.1 sides.2)
