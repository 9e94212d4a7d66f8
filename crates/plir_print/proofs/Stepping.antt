-- The steps of a printer through a tree.
use Rattle.std.proofs.Common.{◌≡◌, ℕ, zero, suc, ◌+◌, ◌-◌, ◌*◌, ◌<◌, ◌≤◌, ◌^◌, Bool, true, false, cond, map, List, []}
use Rattle.std.proofs.Common.{◌∷◌, ◌++◌, codes, length, Some, None, inl, inr, refl, sym, ap, subst, ◌∙◌, arith}
use Rattle.std.proofs.Common.{append_assoc, append-nil, length-append}
use Rattle.std.specs.List.{flat_map}
use Rattle.std.proofs.lemmas.Option.{same_Some, none-some}
use Rattle.plir_data.specs.declared.op_set.OpSet as op_set
use Rattle.plir_core.specs.declared.ptr.Ptr.{Ptr}
use Rattle.plir_core.specs.declared.ptr.Operation.{Operation as OperationKind}
use Rattle.plir_core.specs.declared.ptr.Region.{Region as RegionKind}
use Rattle.plir_core.specs.declared.ptr.BasicBlock.{BasicBlock as BasicBlockKind}
use Rattle.plir_core.specs.declared.ptr.IRNode.{IRNode}
use Rattle.plir_core.specs.declared.ptr.IRNode.TheVariants.{Operation, Region, BasicBlock}
use Rattle.plir_core.specs.Measures.{depth}
use Rattle.plir_core.specs.Standing.{IsStanding}
use Rattle.plir_core.specs.ContextView.{ContextView, IsLive, children, next_sibling, parent_of}
use Rattle.plir_store.specs.Members.{Has, head}
use Rattle.plir_store.specs.MemberLaws.{Has-map, Has-mid}
use Rattle.plir_print.specs.HeaderAttrs.{IsPrintable}
use Rattle.plir_data.specs.TextParts.{before, parted_from}
use Rattle.plir_print.specs.OpText.{line, op_front, block_front, text_of}
use Rattle.plir_print.specs.Steps.{Cursor, HangsIn, IsAt, IsBehind, IsNearer, Steps, closing, inner, children_text}
use Rattle.plir_print.specs.Steps.{lead, opening, outer, own_rest, rank, ranks}
use Rattle.plir_print.proofs.HeadersUnder.{child-printable}
use Rattle.plir_print.proofs.OneLevel.{op-level, region-level, block-level}

-- children with what stands before each, as texts name them
module _ (w : IRNode → List ℕ) (n : ℕ) where
  children-regions : (p : Ptr OperationKind) (b : Bool) (xs : List IRNode)
      → children_text w b n (Operation p) xs ≡ flat_map w xs
  children-regions p b [] = refl
  children-regions p b (x ∷ xs) = ap (λ z. w x ++ z) (children-regions p false xs)

  children-blocks : (r : Ptr RegionKind) (b : Bool) (xs : List IRNode)
      → children_text w b n (Region r) xs ≡ flat_map (λ x. line n ++ w x) xs
  children-blocks r b [] = refl
  children-blocks r b (x ∷ xs) =
      ap (λ z. line n ++ (w x ++ z)) (children-blocks r false xs)
      ∙ sym (append_assoc (line n) (w x) (flat_map (λ x. line n ++ w x) xs))

  children-ops : (c : Ptr BasicBlockKind) (b : Bool) (xs : List IRNode)
      → children_text w b n (BasicBlock c) xs ≡ parted_from b (codes ";") (λ x. line n ++ w x) xs
  children-ops c b [] = refl
  children-ops c b (x ∷ xs) =
      let rest = parted_from false (codes ";") (λ x. line n ++ w x) xs in
      ap (λ z. (before b (codes ";") ++ line n) ++ (w x ++ z)) (children-ops c false xs)
      ∙ (append_assoc (before b (codes ";")) (line n) (w x ++ rest)
      ∙ ap (λ z. before b (codes ";") ++ z) (sym (append_assoc (line n) (w x) rest)))

-- what a step puts, and what is left
regroup-in : (old a l t f c r : List ℕ)
    → old ++ ((a ++ ((l ++ (t ++ f)) ++ c)) ++ r) ≡ (old ++ (a ++ l)) ++ (t ++ (f ++ (c ++ r)))
regroup-in old a l t f c r = simp append_assoc

regroup-past : (old a c r : List ℕ) → old ++ ((a ++ c) ++ r) ≡ (old ++ a) ++ (c ++ r)
regroup-past old a c r = simp append_assoc

regroup-over : (old c l t f u : List ℕ) → old ++ (c ++ ((l ++ (t ++ f)) ++ u)) ≡ (old ++ (c ++ l)) ++ (t ++ (f ++ u))
regroup-over old c l t f u = simp append_assoc

behind-first : (xs ys : List IRNode) (x y : IRNode) → xs ++ x ∷ (y ∷ ys) ≡ (xs ++ x ∷ []) ++ y ∷ ys
behind-first xs ys x y = sym (append_assoc xs (x ∷ []) (y ∷ ys))

no-head : (xs : List IRNode) → head xs ≡ None → xs ≡ []
no-head [] e = refl
no-head (x ∷ xs) e = absurd (none-some x (sym e))

some-head : (xs : List IRNode) (x : IRNode) → head xs ≡ Some x → (ys : List IRNode) × (xs ≡ x ∷ ys)
some-head [] x e = absurd (none-some x e)
some-head (y ∷ ys) x e = (ys, ap (λ z. z ∷ ys) (same_Some y x e))

outer-inner : (n : ℕ) (x : IRNode) → outer (inner n x) x ≡ n
outer-inner n (Operation p) = refl
outer-inner n (Region r) = omega arith
outer-inner n (BasicBlock b) = omega arith

inner-near : (n : ℕ) (x : IRNode) → inner n x ≤ n + 2
inner-near n (Operation p) = omega arith
inner-near n (Region r) = omega arith
inner-near n (BasicBlock b) = omega arith

-- ---- each step comes nearer to the end

module _ {K A T : Type 0} (s : ContextView K A T) (st : IsStanding s) where
  kind-of-child : (b : Bool) (f : ℕ → Ptr RegionKind) (is : List ℕ) (x : IRNode)
      → Has (cond b (map (λ i. Region (f i)) is) []) x → (r : Ptr RegionKind) × (Region r ≡ x)
  kind-of-child true f is x h = let m = Has-map (λ i. Region (f i)) is x h in (f m.0, m.1.1)
  kind-of-child false f is x h = absurd h

  region-child : (p : Ptr OperationKind) (x : IRNode) → Has (children s (Operation p)) x
      → (r : Ptr RegionKind) × (Region r ≡ x)
  region-child p x h = kind-of-child _ _ _ x h

  puts-some : (n : ℕ) (over x : IRNode) → Has (children s over) x → 1 ≤ length (closing n x ++ lead false n over)
  puts-some n (Operation p) x h =
      let k = region-child p x h in
      subst (λ z. 1 ≤ length (closing n z ++ lead false n (Operation p))) k.1 (omega arith)
  puts-some n (Region r) x h = let e = length-append (closing n x) (line n) in omega (arith, e)
  puts-some n (BasicBlock b) x h = let e = length-append (closing n x) (codes ";" ++ line n) in omega (arith, e)

  longer : (old put new : List ℕ) → new ≡ old ++ put → length old ≤ length new
  longer old put new p = let e = ap length p in let f = length-append old put in omega (arith, e, f)

  nearer-in : (n m : ℕ) (x child : IRNode) (ks : List IRNode) (old put new : List ℕ) → children s x ≡ child ∷ ks
      → new ≡ old ++ put → IsNearer s old (x, true, n) new (child, true, m)
  nearer-in n m x child ks old put new e p =
      let has : Has (children s x) child = subst (λ z. Has z child) (sym e) (inl refl) in
      let d = st.measured.deeper x child (st.forest.child_parent x child has) in
      let m = st.measured.deepest child in
      inr (longer old put new p, omega (arith, d, m))

  nearer-past : (n : ℕ) (x : IRNode) (old put new : List ℕ) → new ≡ old ++ put
      → IsNearer s old (x, true, n) new (x, false, n)
  nearer-past n x old put new p = let m = st.measured.deepest x in inr (longer old put new p, omega (arith, m))

  nearer-over : (n : ℕ) (x over y : IRNode) (old new : List ℕ) → parent_of s x ≡ Some over
      → new ≡ old ++ (closing n x ++ lead false n over) → IsNearer s old (x, false, n) new (y, true, n)
  nearer-over n x over y old new up p =
      let put = closing n x ++ lead false n over in
      let some = puts-some n over x (st.forest.parent_child over x up) in
      let e = ap length p in
      let f = length-append old put in
      inl (omega (arith, some, e, f))

  nearer-up : (n m : ℕ) (x over : IRNode) (old put new : List ℕ) → parent_of s x ≡ Some over → new ≡ old ++ put
      → IsNearer s old (x, false, n) new (over, false, m)
  nearer-up n m x over old put new up p =
      let d = st.measured.deeper over x up in inr (longer old put new p, omega (arith, d))

  -- the rank of a cursor is below all ranks
  below-ranks : (x : IRNode) (e : Bool) → rank s (x, e, 0) < ranks s
  below-ranks x true = omega arith
  below-ranks x false = let d = st.measured.deepest x in omega (arith, d)

  falls-by : (r a b p q : ℕ) → q < r → (b < a) → b * r + q < a * r + p
  falls-by r a b p q lt less = grind arith

  keeps-by : (r a b p q : ℕ) → q < p → (b ≤ a) → b * r + q < a * r + p
  keeps-by r a b p q lt less = grind arith

  pub falls : (whole old new : List ℕ) (b c : Cursor) → length new ≤ length whole → IsNearer s old b new c
      → (length whole - length new) * ranks s + rank s c < (length whole - length old) * ranks s + rank s b
  falls whole old new b c fits (inl h) =
      falls-by (ranks s) (length whole - length old) (length whole - length new) (rank s b) (rank s c)
      (below-ranks c.0 c.1) (omega (arith, fits, h))
  falls whole old new b c fits (inr h) =
      keeps-by (ranks s) (length whole - length old) (length whole - length new) (rank s b) (rank s c) h.1
      (let l = h.0 in omega (arith, fits, l))

module _ {D K A T E : Type 0} (o : op_set.Ghosts D K A T E) (s : ContextView K A T) (st : IsStanding s) where
  node-level-inner : (n : ℕ) (x : IRNode) → text_of o s n x ≡
      opening o s n x ++ (children_text (text_of o s (inner n x)) true (inner n x) x (children s x) ++ closing n x)
  node-level-inner n (Operation p) =
      op-level o s st n p
      ∙ ap (λ z. op_front o s n p ++ z)
      (sym (append-nil _ ∙ children-regions (text_of o s n) n p true (children s (Operation p))))
  node-level-inner n (Region r) =
      region-level o s st n r
      ∙ (sym (append_assoc (line n) (codes "{") _) ∙ ap (λ z. (line n ++ codes "{") ++ (z ++ (line n ++ codes "}")))
      (sym (children-blocks (text_of o s (n + 2)) (n + 2) r true (children s (Region r)))))
  node-level-inner n (BasicBlock b) =
      block-level o s st n b
      ∙ ap (λ z. block_front o s b ++ z)
      (sym (append-nil _ ∙ children-ops (text_of o s (n + 2)) (n + 2) b true (children s (BasicBlock b))))

  node-level : (n m : ℕ) (x : IRNode) (ks : List IRNode) → m ≡ inner n x → children s x ≡ ks
      → text_of o s n x ≡ opening o s n x ++ (children_text (text_of o s m) true m x ks ++ closing n x)
  node-level n m x ks e k =
      subst (λ z. text_of o s n x ≡ opening o s n x ++ (children_text (text_of o s m) true m x z ++ closing n x)) k
      (subst (λ z.
      text_of o s n x ≡ opening o s n x ++ (children_text (text_of o s z) true z x (children s x) ++ closing n x))
      (sym e)
      (node-level-inner n x))

  -- ---- what is known of a node that the printer has come to

  hangs : (n : ℕ) (x : IRNode) (t : List ℕ) (h : HangsIn o s n x t) → Has (children s h.over) x
  hangs n x t h = subst (λ z. Has z x) (sym h.there) (Has-mid h.earlier h.later x)

  hangs-deeper : (n : ℕ) (x : IRNode) (t : List ℕ) (h : HangsIn o s n x t) → depth s x ≡ depth s h.over + 1
  hangs-deeper n x t h = st.measured.deeper h.over x (st.forest.child_parent h.over x (hangs n x t h))

  module _ (root : IRNode) where
    deep : (k n : ℕ) (x : IRNode) (t : List ℕ) → IsBehind o s root k n x t → depth s x ≡ depth s root + k
    deep zero n x t h = let e = ap (depth s) h.0 in omega (arith, e)
    deep (suc k) n x t h =
        let d = hangs-deeper n x t h.0 in let e = deep k h.0.columns h.0.over h.0.rest h.1 in omega (arith, d, e)

    shallow : (k n : ℕ) (x : IRNode) (t : List ℕ) → IsBehind o s root k n x t → n ≤ 2 * depth s x
    shallow zero n x t h = let e = h.1 in omega (arith, e)
    shallow (suc k) n x t h =
        let d = hangs-deeper n x t h.0 in
        let e = shallow k h.0.columns h.0.over h.0.rest h.1 in
        let f = h.0.further in
        let near = inner-near h.0.columns h.0.over in
        omega (arith, d, e, f, near)

    live : (k n : ℕ) (x : IRNode) (t : List ℕ) → IsBehind o s root k n x t → IsLive s root → IsLive s x
    live zero n x t h l = subst (IsLive s) (sym h.0) l
    live (suc k) n x t h l = st.forest.child_live h.0.over x (hangs n x t h.0)

    printable : (k n : ℕ) (x : IRNode) (t : List ℕ) → IsBehind o s root k n x t → IsPrintable s root → IsPrintable s x
    printable zero n x t h p = subst (IsPrintable s) (sym h.0) p
    printable (suc k) n x t h p =
        child-printable s h.0.over x (hangs n x t h.0) (printable k h.0.columns h.0.over h.0.rest h.1 p)

    pub at-live : (whole out : List ℕ) (c : Cursor) → IsAt o s root whole out c → IsLive s root → IsLive s c.0
    at-live whole out c at l = live at.levels c.2 c.0 at.behind at.is_behind l

    pub at-printable : (whole out : List ℕ) (c : Cursor) → IsAt o s root whole out c → IsPrintable s root
        → IsPrintable s c.0
    at-printable whole out c at p = printable at.levels c.2 c.0 at.behind at.is_behind p

    pub at-fits : (whole out : List ℕ) (c : Cursor) → IsAt o s root whole out c → c.2 < 2 ^ 40
    at-fits whole out c at =
        let h = shallow at.levels c.2 c.0 at.behind at.is_behind in
        let d = st.measured.deepest c.0 in
        let f = st.limit_fits in
        omega (arith, h, d, f)

    -- the whole is still to come, as the root is entered
    pub begins : (old : List ℕ) → IsAt o s root (old ++ text_of o s 0 root) old (root, true, 0)
    begins old = record {
      levels = 0;
      behind = [];
      is_behind = (refl, refl, refl);
      is_whole = ap (λ z. old ++ z) (sym (append-nil (text_of o s 0 root)));
    }

    pub fits-whole : (whole out : List ℕ) (c : Cursor) → IsAt o s root whole out c → length out ≤ length whole
    fits-whole whole out c at =
        let e = ap length at.is_whole in
        let f = length-append out (own_rest o s c.2 c.0 c.1 ++ at.behind) in
        omega (arith, e, f)

    -- ---- a node is entered

    goes-in : (n m : ℕ) (x child : IRNode) (ks : List IRNode) (old new whole : List ℕ) → children s x ≡ child ∷ ks
        → m ≡ inner n x → new ≡ old ++ (opening o s n x ++ lead true m x) → IsAt o s root whole old (x, true, n)
        → IsAt o s root whole new (child, true, m)
    goes-in n m x child ks old new whole e further p at =
        let write = text_of o s m in
        let later = children_text write false m x ks in
        record {
          levels = suc at.levels;
          behind = later ++ (closing n x ++ at.behind);
          is_behind = (
            record {
              over = x;
              columns = n;
              earlier = [];
              later = ks;
              rest = at.behind;
              there = e;
              further = further;
              text = refl;
            },
            at.is_behind,
          );
          is_whole = at.is_whole
              ∙ (ap (λ z. old ++ (z ++ at.behind)) (node-level n m x (child ∷ ks) further e)
              ∙ (regroup-in old (opening o s n x) (lead true m x) (write child) later (closing n x) at.behind
              ∙ ap (λ z. z ++ (write child ++ (later ++ (closing n x ++ at.behind)))) (sym p)));
        }

    goes-past : (n : ℕ) (x : IRNode) (old new whole : List ℕ) → children s x ≡ [] → new ≡ old ++ opening o s n x
        → IsAt o s root whole old (x, true, n) → IsAt o s root whole new (x, false, n)
    goes-past n x old new whole e p at = record {
      levels = at.levels;
      behind = at.behind;
      is_behind = at.is_behind;
      is_whole = at.is_whole
          ∙ (ap (λ z. old ++ (z ++ at.behind)) (node-level n (inner n x) x [] refl e)
          ∙ (regroup-past old (opening o s n x) (closing n x) at.behind
          ∙ ap (λ z. z ++ (closing n x ++ at.behind)) (sym p)));
    }

    pub enters-child : (n m : ℕ) (x child : IRNode) (old new : List ℕ) → head (children s x) ≡ Some child
        → m ≡ inner n x → new ≡ old ++ (opening o s n x ++ lead true m x)
        → Steps o s root old (x, true, n) new (Some (child, true, m))
    enters-child n m x child old new e further p =
        let found = some-head (children s x) child e in (
          λ whole at. goes-in n m x child found.0 old new whole found.1 further p at,
          nearer-in s st n m x child found.0 old (opening o s n x ++ lead true m x) new found.1 p,
        )

    pub enters-leaf : (n : ℕ) (x : IRNode) (old new : List ℕ) → head (children s x) ≡ None
        → new ≡ old ++ opening o s n x → Steps o s root old (x, true, n) new (Some (x, false, n))
    enters-leaf n x old new e p = (
      λ whole at. goes-past n x old new whole (no-head (children s x) e) p at,
      nearer-past s st n x old (opening o s n x) new p,
    )

    -- ---- a node is left

    module _ (n : ℕ) (x : IRNode) (old new : List ℕ) where
      end-by : (whole : List ℕ) (k : ℕ) (behind : List ℕ) → x ≡ root → IsBehind o s root k n x behind
          → whole ≡ old ++ (closing n x ++ behind) → new ≡ old ++ closing n x → new ≡ whole
      end-by whole zero behind e h w p =
          p ∙ (sym (append-nil (old ++ closing n x))
          ∙ (append_assoc old (closing n x) [] ∙ (ap (λ z. old ++ (closing n x ++ z)) (sym h.2) ∙ sym w)))
      end-by whole (suc k) behind e h w p =
          absurd (let d = deep (suc k) n x behind h in let same = ap (depth s) e in omega (arith, d, same))

      -- the root is left
      pub leaves-root : x ≡ root → new ≡ old ++ closing n x → Steps o s root old (x, false, n) new None
      leaves-root e p whole at = end-by whole at.levels at.behind e at.is_behind at.is_whole p

      alone-by : (whole : List ℕ) (k : ℕ) (behind : List ℕ) → parent_of s x ≡ None → (x ≡ root → ⊥)
          → IsBehind o s root k n x behind → new ≡ whole
      alone-by whole zero behind up off h = absurd (off h.0)
      alone-by whole (suc k) behind up off h =
          absurd (none-some h.0.over (sym up ∙ st.forest.child_parent h.0.over x (hangs n x behind h.0)))

      -- no other node stands alone
      pub leaves-alone : parent_of s x ≡ None → (x ≡ root → ⊥) → Steps o s root old (x, false, n) new None
      leaves-alone up off whole at = alone-by whole at.levels at.behind up off at.is_behind

    module _ (n : ℕ) (x : IRNode)
        (next : (over : IRNode) (xs ys : List IRNode) → children s over ≡ xs ++ x ∷ ys → next_sibling s x ≡ head ys)
        (old new : List ℕ) where
      over-by : (over y : IRNode) → parent_of s x ≡ Some over → next_sibling s x ≡ Some y
          → new ≡ old ++ (closing n x ++ lead false n over) → (x ≡ root → ⊥)
          → (whole : List ℕ) (k : ℕ) (behind : List ℕ) → IsBehind o s root k n x behind
          → whole ≡ old ++ (closing n x ++ behind) → IsAt o s root whole new (y, true, n)
      over-by over y up right p off whole zero behind h w = absurd (off h.0)
      over-by over y up right p off whole (suc k) behind h w =
          let write = text_of o s n in
          let same : h.0.over ≡ over =
          same_Some h.0.over over (sym (st.forest.child_parent h.0.over x (hangs n x behind h.0)) ∙ up) in
          let found = some-head h.0.later y (sym (next h.0.over h.0.earlier h.0.later h.0.there) ∙ right) in
          let later = children_text write false n h.0.over found.0 in
          let closed = closing h.0.columns h.0.over ++ h.0.rest in
          record {
            levels = suc k;
            behind = later ++ closed;
            is_behind = (
              record {
                over = h.0.over;
                columns = h.0.columns;
                earlier = h.0.earlier ++ x ∷ [];
                later = found.0;
                rest = h.0.rest;
                there = h.0.there ∙ (ap (λ z. h.0.earlier ++ x ∷ z) found.1 ∙ behind-first h.0.earlier found.0 x y);
                further = h.0.further;
                text = refl;
              },
              h.1,
            );
            is_whole = w
                ∙ (ap (λ z. old ++ (closing n x ++ z))
                (h.0.text ∙ ap (λ z. children_text write false n h.0.over z ++ closed) found.1)
                ∙ (regroup-over old (closing n x) (lead false n h.0.over) (write y) later closed
                ∙ ap (λ z. z ++ (write y ++ (later ++ closed)))
                (ap (λ z. old ++ (closing n x ++ lead false n z)) same ∙ sym p)));
          }

      pub leaves-over : (over y : IRNode) → parent_of s x ≡ Some over → next_sibling s x ≡ Some y
          → new ≡ old ++ (closing n x ++ lead false n over) → (x ≡ root → ⊥)
          → Steps o s root old (x, false, n) new (Some (y, true, n))
      leaves-over over y up right p off = (
        λ whole at. over-by over y up right p off whole at.levels at.behind at.is_behind at.is_whole,
        nearer-over s st n x over y old new up p,
      )

      up-by : (over : IRNode) (m : ℕ) → parent_of s x ≡ Some over → next_sibling s x ≡ None → m ≡ outer n over
          → new ≡ old ++ closing n x → (x ≡ root → ⊥) → (whole : List ℕ) (k : ℕ) (behind : List ℕ)
          → IsBehind o s root k n x behind → whole ≡ old ++ (closing n x ++ behind)
          → IsAt o s root whole new (over, false, m)
      up-by over m up right out p off whole zero behind h w = absurd (off h.0)
      up-by over m up right out p off whole (suc k) behind h w =
          let same : h.0.over ≡ over =
          same_Some h.0.over over (sym (st.forest.child_parent h.0.over x (hangs n x behind h.0)) ∙ up) in
          let none : h.0.later ≡ [] = no-head h.0.later (sym (next h.0.over h.0.earlier h.0.later h.0.there) ∙ right) in
          let columns : h.0.columns ≡ m =
          sym (outer-inner h.0.columns h.0.over)
          ∙ (ap (λ z. outer z h.0.over) (sym h.0.further) ∙ (ap (outer n) same ∙ sym out)) in
          let closed = closing h.0.columns h.0.over ++ h.0.rest in
          let there : IsAt o s root whole new (h.0.over, false, h.0.columns) = record {
            levels = k;
            behind = h.0.rest;
            is_behind = h.1;
            is_whole = w
                ∙ (ap (λ z. old ++ (closing n x ++ z))
                (h.0.text ∙ ap (λ z. children_text (text_of o s n) false n h.0.over z ++ closed) none)
                ∙ (sym (append_assoc old (closing n x) closed) ∙ ap (λ z. z ++ closed) (sym p)));
          } in
          subst (λ z. IsAt o s root whole new (over, false, z)) columns
          (subst (λ z. IsAt o s root whole new (z, false, h.0.columns)) same there)

      pub leaves-up : (over : IRNode) (m : ℕ) → parent_of s x ≡ Some over → next_sibling s x ≡ None → m ≡ outer n over
          → new ≡ old ++ closing n x → (x ≡ root → ⊥) → Steps o s root old (x, false, n) new (Some (over, false, m))
      leaves-up over m up right out p off = (
        λ whole at. up-by over m up right out p off whole at.levels at.behind at.is_behind at.is_whole,
        nearer-up s st n m x over old (closing n x) new up p,
      )
