-- One operand is folded: a constant is made, put before the operand's user, and takes the operand's place.
use Rattle.std.proofs.Common.{◌≡◌, ℕ, zero, suc, false, List, [], ◌∷◌, ◌++◌, Option, Some, None, inl, inr}
use Rattle.std.proofs.Common.{refl, sym, ap, subst, ◌∙◌, slice_get, option_map, ◌⊎◌}
use Rattle.std.specs.Prelude.{slice_set}
use Rattle.std.specs.Option.{unwrap_or}
use Rattle.std.specs.List.{filter}
use Rattle.std.proofs.lemmas.Bool.{cases_Bool}
use Rattle.std.proofs.lemmas.Option.{none-some, same_Some}
use Rattle.plir_store.specs.Members.{Has}
use Rattle.plir_store.specs.MemberLaws.{Has-at, Has-split, Has-append_left, Has-append_right}
use Rattle.plir_store.specs.Table.{content_at, is_live_at}
use Rattle.plir_core.specs.Nodes.{is_given_out, was_given_out}
use Rattle.plir_data.specs.declared.location.Location.{Location}
use Rattle.plir_data.specs.declared.location.Location.TheVariants.{Unknown}
use Rattle.plir_store.specs.FilterLaws.{not-both, filter-all, filter-without}
use Rattle.plir_core.specs.declared.ptr.Ptr.{Ptr}
use Rattle.plir_core.specs.declared.ptr.Operation.{Operation as OperationKind}
use Rattle.plir_core.specs.declared.ptr.BasicBlock.{BasicBlock as BasicBlockKind}
use Rattle.plir_core.specs.declared.ptr.IRNode.{IRNode}
use Rattle.plir_core.specs.declared.ptr.IRNode.TheVariants.{Operation, Region, BasicBlock}
use Rattle.plir_core.specs.declared.value.Value.{Value}
use Rattle.plir_core.specs.Contents.{OpView}
use Rattle.plir_core.specs.Held.{IsOpEdited}
use Rattle.plir_core.specs.Made.{IsMade}
use Rattle.plir_core.specs.Nodes.{Nodes, is_node_live}
use Rattle.plir_core.specs.Placed.{MovesOnly, IsPlaced, IsPlacedBefore}
use Rattle.plir_core.specs.Forest.{look, IsForest}
use Rattle.plir_core.specs.ContextView.{ContextView, IsLive, is_live, children, parent_of, op_at, block_at, operands_in}
use Rattle.plir_core.specs.ContextView.{operands_of, results_in, types_from, type_of_value, location_in, location_of}
use Rattle.plir_core.specs.ButOperands.{but_operands}
use Rattle.plir_core.specs.WellFormed.{IsWellFormed}
use Rattle.plir_walk.specs.Lawful.{Lawful}
use Rattle.plir_walk.specs.LawfulChanges.{LawfulChanges}
use Rattle.plir_walk.specs.NodeLaws.{ptr-tells, block-tells, reach-leaf}
use Rattle.plir_folding.specs.Worth.{Integer, maker_of, held_at, made_by, folded}
use Rattle.plir_folding.specs.Folded.{ArePaired, constant_view, result_of, written_at, IsNewConstantOf, IsForUser}
use Rattle.plir_folding.specs.Folded.{IsReplaced, IsSameOrReplaced, IsFolded}
use Rattle.plir_folding.specs.Folding.{IsFilledBefore}
use Rattle.plir_folding.proofs.Worths.{maker-entity, folded-worth, folded-typed, folded-unknown}
use Rattle.plir_folding.proofs.Backwards.{operand-live}
use Rattle.plir_folding.proofs.Folds.{paired-self}

moved-live : {O B : Type 0} (s t : Nodes O B) (x : IRNode) → MovesOnly s t x → (m : IRNode)
    → is_node_live t m ≡ is_node_live s m
moved-live s t x e (Operation p) = ap (λ z. is_live_at z p.slot p.version) e.ops
moved-live s t x e (Region p) = ap (λ z. is_live_at z p.slot p.version) e.regions
moved-live s t x e (BasicBlock p) = ap (λ z. is_live_at z p.slot p.version) e.blocks

moved-given : {O B : Type 0} (s t : Nodes O B) (x : IRNode) → MovesOnly s t x → (m : IRNode)
    → was_given_out t m ≡ was_given_out s m
moved-given s t x e (Operation p) = ap (λ z. is_given_out z p) e.ops
moved-given s t x e (Region p) = ap (λ z. is_given_out z p) e.regions
moved-given s t x e (BasicBlock p) = ap (λ z. is_given_out z p) e.blocks

-- what was set at an index of a list stands there
set-there : {X : Type 0} (xs : List X) (i : ℕ) (x y : X) → slice_get xs i ≡ Some x
    → slice_get (slice_set xs i y) i ≡ Some y
set-there [] i x y e = absurd (none-some x e)
set-there (z ∷ xs) zero x y e = refl
set-there (z ∷ xs) (suc i) x y e = set-there xs i x y e

-- what stands in a list in which something was set is that, at its index, or what stood there
set-at : {X : Type 0} (xs : List X) (i j : ℕ) (y z : X) → slice_get (slice_set xs i y) j ≡ Some z
    → (j ≡ i) ⊎ (slice_get xs j ≡ Some z)
set-at [] i j y z e = inr e
set-at (x ∷ xs) zero zero y z e = inl refl
set-at (x ∷ xs) zero (suc j) y z e = inr e
set-at (x ∷ xs) (suc i) zero y z e = inr e
set-at (x ∷ xs) (suc i) (suc j) y z e = elim (set-at xs i j y z e) [
  | inl k ↦ inl (ap (λ n. suc n) k)
  | inr k ↦ inr k
]

-- a list with one value replaced is paired with the list
paired-set : (R : Value → Value → Type 0) → ((v : Value) → R v v) → (vs : List Value) (i : ℕ) (x y : Value)
    → slice_get vs i ≡ Some x → R x y → ArePaired R vs (slice_set vs i y)
paired-set R same [] i x y e r = absurd (none-some x e)
paired-set R same (v ∷ vs) zero x y e r = (subst (λ z. R z y) (sym (same_Some v x e)) r, paired-self R same vs)
paired-set R same (v ∷ vs) (suc i) x y e r = (same v, paired-set R same vs i x y e r)

module _ {K A : Type 0} (i : ℕ) (y : Value) where
  abbrev pub replaced_in : OpView K A → OpView K A
  replaced_in o = record o { operands = slice_set o.operands i y }

  but-replaced : (o : Option (OpView K A)) → but_operands (option_map replaced_in o) ≡ but_operands o
  but-replaced None = refl
  but-replaced (Some o) = refl

  operands-replaced : (o : Option (OpView K A)) → operands_in (option_map replaced_in o) ≡ slice_set (operands_in o) i y
  operands-replaced None = refl
  operands-replaced (Some o) = refl

module _ {K A T : Type 0} where
  -- a constant was made and put before op
  module _ (own : A → List ℕ) (s t u : ContextView K A T) (b : Ptr BasicBlockKind) (op c : Ptr OperationKind)
      (w : IsForest (look s))
      (here : parent_of s (Operation op) ≡ Some (BasicBlock b)) (made : IsMade s.nodes t.nodes (Operation c))
      (placed : IsPlacedBefore t.nodes u.nodes (Operation c) (Operation op)) where
    over : IsLive s (BasicBlock b)
    over = w.parent_live (BasicBlock b) (Operation op) here

    cut : (front : List IRNode) × (back : List IRNode) × (children s (BasicBlock b) ≡ front ++ Operation op ∷ back)
    cut = Has-split (children s (BasicBlock b)) (Operation op) (w.parent_child (BasicBlock b) (Operation op) here)

    pub now : (xs ys : List IRNode) → children s (BasicBlock b) ≡ xs ++ Operation op ∷ ys
        → IsPlaced t.nodes u.nodes (Operation c) (BasicBlock b) (xs ++ Operation c ∷ Operation op ∷ ys)
    now xs ys e = placed (BasicBlock b) xs ys (made.children (BasicBlock b) over ∙ e)

    at : IsPlaced t.nodes u.nodes (Operation c) (BasicBlock b) (cut.0 ++ Operation c ∷ Operation op ∷ cut.1)
    at = now cut.0 cut.1 cut.2

    op-live : IsLive s (Operation op)
    op-live = w.child_live (BasicBlock b) (Operation op) (w.parent_child (BasicBlock b) (Operation op) here)

    older : (n : IRNode) → IsLive s n → n ≡ Operation c → ⊥
    older n l e = not-both (is_live s (Operation c)) (subst (IsLive s) e l) made.new

    pub live-u : (n : IRNode) → IsLive s n → IsLive u n
    live-u n l = moved-live t.nodes u.nodes (Operation c) at.moved n ∙ made.keeps.live n l

    pub new-live-u : IsLive u (Operation c)
    new-live-u = moved-live t.nodes u.nodes (Operation c) at.moved (Operation c) ∙ made.root

    parent-u : (n : IRNode) → IsLive s n → parent_of u n ≡ parent_of s n
    parent-u n l = at.moved.parents n (older n l) ∙ made.keeps.parents n l

    pub op-u : (p : Ptr OperationKind) → IsLive s (Operation p) → op_at u p ≡ op_at s p
    op-u p l = ap (λ z. content_at z p.slot) at.moved.ops ∙ made.keeps.ops p l

    pub new-op-u : op_at u c ≡ op_at t c
    new-op-u = ap (λ z. content_at z c.slot) at.moved.ops

    block-u : (q : Ptr BasicBlockKind) → IsLive s (BasicBlock q) → block_at u q ≡ block_at s q
    block-u q l = ap (λ z. content_at z q.slot) at.moved.blocks ∙ made.keeps.blocks q l

    module _ (laws : LawfulChanges K A T own) (v : ContextView K A T) where
      pub lawful-fold : Lawful (look u) (BasicBlock b) (look v) → Lawful (look s) (BasicBlock b) (look v)
      lawful-fold e =
          laws.both s u v (BasicBlock b) w
          (laws.placed s t u (BasicBlock b) (BasicBlock b) (Operation c) _ w (zero, refl) made at) e

    -- and it took the place of an operand of op
    module _ (fold : K → Integer → Integer → Option Integer) (v : ContextView K A T) (i : ℕ)
        (n : Integer) (loc : Location) (x : Value) (w' : IsForest (look t))
        (holds : op_at t c ≡ Some (constant_view n loc)) (leaf : children t (Operation c) ≡ [])
        (is : loc ≡ unwrap_or (written_at s x) Unknown)
        (types : t.types ≡ s.types) (moved_types : u.types ≡ t.types)
        (edited : IsOpEdited u v op (replaced_in i (result_of c))) (operand : slice_get (operands_of s op) i ≡ Some x)
        (folds : folded fold s x ≡ Some n) where
      apart : c ≡ op → ⊥
      apart e = older (Operation op) op-live (ap Operation (sym e))

      there : op_at v c ≡ Some (constant_view n loc)
      there = edited.ops c new-live-u apart ∙ new-op-u ∙ holds

      new-constant : IsNewConstantOf s v c n
      new-constant = record {
        live = edited.keeps.live (Operation c) ∙ new-live-u;
        new = made.new;
        fresh = made.fresh (Operation c) made.root made.new;
        location = loc;
        holds = there;
      }

      -- the constant's type is the operand's
      same-type : type_of_value v (result_of c) ≡ type_of_value s x
      same-type =
          ap (λ z. slice_get (results_in z) 0) new-constant.holds
          ∙ sym (go (maker_of x) refl (folded-typed fold s x n folds))
        where
          go : (m : Option (Ptr OperationKind)) → maker_of x ≡ m
              → (o : OpView K A) × ((made_by s x ≡ Some o) × (o.result_types ≡ n.type ∷ []))
              → type_of_value s x ≡ Some n.type
          go None q r = absurd (none-some r.0 (sym (ap (held_at s) q) ∙ r.1.0))
          go (Some p) q r =
              let e = maker-entity x.entity x.index p q in
              ap (λ z. slice_get (types_from s z) x.index) e.0 ∙ ap (slice_get (results_in (op_at s p))) e.1
              ∙ ap (λ z. slice_get (results_in z) 0) (sym (ap (held_at s) q) ∙ r.1.0) ∙ ap (λ z. slice_get z 0) r.1.1

      -- and its location is that of the operand's operation
      same-place : location_of v c ≡ written_at s x
      same-place = ap location_in there ∙ ap Some is ∙ go (made_by s x) (folded-typed fold s x n folds)
        where
          go : (m : Option (OpView K A)) → (o : OpView K A) × ((m ≡ Some o) × (o.result_types ≡ n.type ∷ []))
              → Some (unwrap_or (location_in m) Unknown) ≡ location_in m
          go None r = absurd (none-some r.0 r.1.0)
          go (Some o) r = refl

      replaced : IsReplaced fold s v x (result_of c)
      replaced = record {
        unknown = folded-unknown fold s x n folds;
        constant = c;
        integer = n;
        result = refl;
        made = new-constant;
        worth = (2, folded-worth fold s x n folds);
        typed = same-type;
        written = same-place;
      }

      only-new : (m : IRNode) → IsLive v m → is_live s m ≡ false → m ≡ Operation c
      only-new m l e =
          let lt = sym (moved-live t.nodes u.nodes (Operation c) at.moved m) ∙ sym (edited.keeps.live m) ∙ l in
          let r = made.below m lt e in
          reach-leaf t (Operation c) w' leaf r.0 m r.1

      children-left : (m : IRNode) → IsLive s m → filter (is_live s) (children v m) ≡ children s m
      children-left m l = elim (block-tells m b) [
        | inl e ↦ subst (λ z. filter (is_live s) (children v z) ≡ children s z) (sym e)
            (ap (filter (is_live s)) (edited.keeps.children (BasicBlock b) ∙ at.children_over)
            ∙ filter-without (is_live s) cut.0 (Operation op ∷ cut.1) (Operation c) made.new
            (λ y h. w.child_live (BasicBlock b) y
            (subst (λ z. Has z y) (sym cut.2) (Has-append_left cut.0 (Operation op ∷ cut.1) y h)))
            (λ y h. w.child_live (BasicBlock b) y
            (subst (λ z. Has z y) (sym cut.2) (Has-append_right cut.0 (Operation op ∷ cut.1) y h)))
            ∙ sym cut.2)
        | inr ne ↦ ap (filter (is_live s)) (edited.keeps.children m ∙ at.children m ne ∙ made.children m l)
            ∙ filter-all (is_live s) (children s m) (λ y h. w.child_live m y h)
      ]

      but-kept : (p : Ptr OperationKind) → IsLive s (Operation p) → but_operands (op_at v p) ≡ but_operands (op_at s p)
      but-kept p l = elim (ptr-tells p op) [
        | inl e ↦ subst (λ z. but_operands (op_at v z) ≡ but_operands (op_at s z)) (sym e)
            (ap but_operands edited.held ∙ but-replaced i (result_of c) (op_at u op)
            ∙ ap but_operands (op-u op op-live))
        | inr ne ↦ ap but_operands (edited.ops p (live-u (Operation p) l) ne ∙ op-u p l)
      ]

      -- the operands of op are those that it had, with the constant among them
      op-operands : operands_of v op ≡ slice_set (operands_of s op) i (result_of c)
      op-operands =
          ap operands_in edited.held ∙ operands-replaced i (result_of c) (op_at u op)
          ∙ ap (λ z. slice_set (operands_in z) i (result_of c)) (op-u op op-live)

      abbrev R : Value → Value → Type 0
      R y z = IsSameOrReplaced fold s v y z

      operands-left : (p : Ptr OperationKind) → IsLive s (Operation p) → ArePaired R (operands_of s p) (operands_of v p)
      operands-left p l = elim (ptr-tells p op) [
        | inl e ↦ subst (λ z. ArePaired R (operands_of s z) (operands_of v z)) (sym e)
            (subst (ArePaired R (operands_of s op)) (sym op-operands)
            (paired-set R (λ y. inl refl) (operands_of s op) i x (result_of c) operand (inr replaced)))
        | inr ne ↦ subst (ArePaired R (operands_of s p))
            (sym (ap operands_in (edited.ops p (live-u (Operation p) l) ne ∙ op-u p l)))
            (paired-self R (λ y. inl refl) (operands_of s p))
      ]

      -- nothing used it before it was made
      unused : IsWellFormed own s → (q : Ptr OperationKind) (j : ℕ) → slice_get (operands_of s q) j ≡ Some (result_of c)
          → ⊥
      unused whole q j e =
          not-both (is_live s (Operation c))
          (operand-live own s whole q (result_of c) (Has-at (operands_of s q) j (result_of c) e)) made.new

      -- so nothing else uses it
      used-alone : IsWellFormed own s → (q : Ptr OperationKind) (j : ℕ) → IsLive v (Operation q)
          → slice_get (operands_of v q) j ≡ Some (result_of c) → (q ≡ op) × (j ≡ i)
      used-alone whole q j l e = elim (ptr-tells q op) [
        | inl is ↦ elim (set-at (operands_of s op) i j (result_of c) (result_of c)
            (sym (ap (λ z. slice_get z j) op-operands)
            ∙ subst (λ z. slice_get (operands_of v z) j ≡ Some (result_of c)) is e)) [
              | inl k ↦ (is, k)
              | inr k ↦ absurd (unused whole op j k)
            ]
        | inr ne ↦ elim (cases_Bool (is_live s (Operation q))) [
          | inl k ↦ absurd (unused whole q j
              (sym (ap (λ z. slice_get (operands_in z) j) (edited.ops q (live-u (Operation q) k) ne ∙ op-u q k)) ∙ e))
          | inr k ↦ (let is : q ≡ c = cc (only-new (Operation q) l k) in
              absurd (none-some (result_of c)
              (sym (ap (λ z. slice_get (operands_in z) j) new-constant.holds)
              ∙ subst (λ z. slice_get (operands_of v z) j ≡ Some (result_of c)) is e)))
        ]
      ]

      -- it stands right before op, which uses it
      for-op : IsWellFormed own s → IsForUser s v c
      for-op whole = record {
        user = op;
        index = i;
        block = b;
        front = cut.0;
        between = [];
        back = cut.1;
        old = op-live;
        over = over;
        used = ap (λ z. slice_get z i) op-operands ∙ set-there (operands_of s op) i x (result_of c) operand;
        alone = used-alone whole;
        stands = edited.keeps.children (BasicBlock b) ∙ at.children_over;
        among = λ m h. absurd h;
      }

      folded-one : IsWellFormed own s → IsFolded fold s v
      folded-one whole = record {
        live = λ m l. edited.keeps.live m ∙ live-u m l;
        new = λ m l e. (c, (n, (only-new m l e, new-constant)));
        for_user =
            λ p l e. (let is : p ≡ c = cc (only-new (Operation p) l e) in
            subst (IsForUser s v) (sym is) (for-op whole));
        children = children-left;
        parents = λ m l. edited.keeps.parents m ∙ parent-u m l;
        ops = but-kept;
        operands = operands-left;
        blocks = λ q l. edited.blocks q ∙ block-u q l;
        types = edited.keeps.types ∙ moved_types ∙ types;
        limit = edited.keeps.limit ∙ at.moved.limit ∙ made.keeps.limit;
        given = λ m g. edited.keeps.given m ∙ moved-given t.nodes u.nodes (Operation c) at.moved m ∙ made.keeps.given m g;
      }

      filled-one : IsFilledBefore s v b op
      filled-one xs ys e = (Operation c ∷ [], edited.keeps.children (BasicBlock b) ∙ (now xs ys e).children_over)

      -- all that is left of it
      pub done : IsWellFormed own s → IsFolded fold s v × IsNewConstantOf s v c n × IsFilledBefore s v b op
      done whole = (folded-one whole, new-constant, filled-one)
