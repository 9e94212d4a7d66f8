-- Changes of a context as the counts of uses see them.
use Rattle.std.proofs.Common.{◌≡◌, ℕ, ◌+◌, ◌<◌, Bool, true, false, cond, List, [], ◌∷◌, length, get_or, Option, Some}
use Rattle.std.proofs.Common.{None, refl, sym, ◌∙◌, ap, subst, arith, slice_set}
use Rattle.std.specs.Prelude.{All, count_by, insert, remove, slice_get, nat_lt}
use Rattle.std.proofs.lemmas.List.Sums.{sum_by-cons, sum_by-insert, sum_by-remove, sum_by-set}
use Rattle.std.proofs.lemmas.Option.{slice_get_within, get_or_from_slice_get, none-some, same_Some}
use Rattle.plir_core.specs.declared.ptr.Region.{Region as RegionKind}
use Rattle.std.proofs.lemmas.List.Elements.{All-head, All-tail}
use Rattle.std.proofs.lemmas.Bool.{and_parts, ne_eqb}
use Rattle.plir_data.specs.AttrView.{AttrView}
use Rattle.plir_data.specs.declared.location.Location.{Location}
use Rattle.plir_store.specs.Table.{Table, Cell, IsTable, content_at, version_at, next_slot, with_new, with_content}
use Rattle.plir_store.specs.Table.{without_slot}
use Rattle.plir_store.specs.TableLaws.{cell_at-with_new, cell_at-with_content, cell_at-with_content_other}
use Rattle.plir_store.specs.TableLaws.{cell_at-without_slot, cell_at-without_slot_other}
use Rattle.plir_core.specs.declared.ptr.Ptr.{Ptr}
use Rattle.plir_core.specs.declared.ptr.Operation.{Operation as OperationKind}
use Rattle.plir_core.specs.declared.ptr.BasicBlock.{BasicBlock as BasicBlockKind}
use Rattle.plir_core.specs.declared.ptr.IRNode.{IRNode}
use Rattle.plir_core.specs.declared.ptr.IRNode.TheVariants.{Operation, Region, BasicBlock}
use Rattle.plir_core.specs.declared.value.Value.{Value}
use Rattle.plir_core.specs.Contents.{OpView, BlockView}
use Rattle.plir_core.specs.Edits.{SameNodes, with_new_op, with_new_block, with_new_regions}
use Rattle.plir_core.specs.Nodes.{Nodes, ptr_at, is_node_live}
use Rattle.plir_core.specs.Stored.{Seat, op, region, block, seat_of}
use Rattle.plir_core.specs.ContextView.{ContextView, IsLive, is_live, entity_node, types_from, operands_of, operands_in}
use Rattle.plir_core.specs.ContextView.{successors_of, successors_in}
use Rattle.plir_core.specs.WellFormed.{IsWellFormed}
use Rattle.plir_core.specs.Erase.{without_node}
use Rattle.plir_core.specs.Uses.{Uses, is_seated, hit, values_from, blocks_in, uses_in, uses_held, uses_of, Counts}
use Rattle.plir_core.specs.Uses.{IsRaisedBy, IsLoweredBy, with_use, without_use}
use Rattle.plir_core.proofs.Listing.{some_none, some_is, within_content, content_new_other}
use Rattle.plir_core.proofs.Seats.{live_some, some_live}
use Rattle.plir_core.proofs.Holds.{next_vacant, ops-with_new_regions}
use Rattle.plir_core.proofs.Counting.{uses-changed, uses-same, uses-none, Counts-same, Counts-with_use}
use Rattle.plir_core.proofs.Counting.{Counts-without_use}

module _ {K A : Type 0} (t : Table (OpView K A)) where
  -- what an operation holds is replaced
  pub uses-edited : (i : ℕ) (u v : OpView K A) → content_at t i ≡ Some u → (at : Seat) → uses_of (with_content t i v) at
      + uses_in at u ≡ uses_of t at + uses_in at v
  uses-edited i u v was at =
      let e = uses-changed t (with_content t i v) i (λ k ne. ap (λ (z : Cell (OpView K A)). z.content)
      (cell_at-with_content_other t i v k ne)) at in
      let a = ap (uses_held at) was in
      let b = ap (λ (z : Cell (OpView K A)). uses_held at z.content) (cell_at-with_content t i v
      (within_content t i (some_is (content_at t i) u was))) in
      omega arith

  -- one more operation
  pub uses-new : (v : OpView K A) → IsTable t → (at : Seat) → uses_of (with_new t v) at ≡ uses_of t at + uses_in at v
  uses-new v w at =
      let e = uses-changed t (with_new t v) (next_slot t) (λ k ne. content_new_other t v k ne) at in
      let a = ap (uses_held at) (next_vacant t w) in
      let b = ap (λ (z : Cell (OpView K A)). uses_held at z.content) (cell_at-with_new t v w) in
      omega arith

  -- one fewer
  pub uses-freed : (i : ℕ) (u : OpView K A) → content_at t i ≡ Some u → (at : Seat) → uses_of t at ≡ uses_of
      (without_slot t i) at + uses_in at u
  uses-freed i u was at =
      let e = uses-changed t (without_slot t i) i (λ k ne. ap (λ (z : Cell (OpView K A)). z.content)
      (cell_at-without_slot_other t i k ne)) at in
      let a = ap (uses_held at) was in
      let b = ap (λ (z : Cell (OpView K A)). uses_held at z.content) (cell_at-without_slot t i
      (some_is (content_at t i) u was)) in
      omega arith

-- links, regions and blocks have changed
pub Counts-linked : {K A : Type 0} (u : Uses) (s n m : Nodes (OpView K A) (BlockView A)) → n ≡ m → m.ops ≡ s.ops →
    Counts u (uses_of s.ops) → Counts u (uses_of n.ops)
Counts-linked {K} {A} u s n m e same c = subst (λ z. Counts u (uses_of z)) (sym same ∙ ap
    (λ (z : Nodes (OpView K A) (BlockView A)). z.ops) (sym e)) c

-- the operations are the same
pub Counts-kept : {K A : Type 0} (u : Uses) (t t' : Table (OpView K A)) → t' ≡ t → Counts u (uses_of t) → Counts u
    (uses_of t')
Counts-kept u t t' e c = subst (λ z. Counts u (uses_of z)) (sym e) c

-- an operation is edited, but uses what it used
pub Counts-edited : {K A : Type 0} (u : Uses) (t : Table (OpView K A)) (i : ℕ) (old new : OpView K A) → content_at t i ≡
    Some old → new.operands ≡ old.operands → new.successors ≡ old.successors → Counts u (uses_of t) → Counts u
    (uses_of (with_content t i new))
Counts-edited u t i old new was es eb c = Counts-same u (uses_of t) (uses_of (with_content t i new)) c (λ at.
    let e = uses-edited t i old new was at in
    let a = ap (values_from at) es in
    let b = ap (blocks_in at) eb in
    omega arith)

-- attributes and a place in a source text
pub Counts-attributes : {K A : Type 0} (u : Uses) (t : Table (OpView K A)) (i : ℕ) (o : OpView K A)
    (es : List (List ℕ × AttrView A)) → content_at t i ≡ Some o → Counts u (uses_of t) → Counts u
    (uses_of (with_content t i (record o { attributes = es })))
Counts-attributes u t i o es was c = Counts-edited u t i o (record o { attributes = es }) was refl refl c

pub Counts-located : {K A : Type 0} (u : Uses) (t : Table (OpView K A)) (i : ℕ) (o : OpView K A) (l : Location) →
    content_at t i ≡ Some o → Counts u (uses_of t) → Counts u (uses_of (with_content t i (record o { location = l })))
Counts-located u t i o l was c = Counts-edited u t i o (record o { location = l }) was refl refl c

-- operands that a refused growth left as they were
pub Counts-unchanged : {K A : Type 0} (u : Uses) (t : Table (OpView K A)) (i : ℕ) (o : OpView K A) (xs : List Value) →
    content_at t i ≡ Some o → xs ≡ o.operands → Counts u (uses_of t) → Counts u (uses_of
    (with_content t i (record o { operands = xs })))
Counts-unchanged u t i o xs was e c = Counts-edited u t i o (record o { operands = xs }) was e refl c

-- the uses of an operation are taken off, and those of what it has become are counted, which is read again
pub Counts-rewritten : {K A : Type 0} (u mid now : Uses) (t : Table (OpView K A)) (i : ℕ) (old new read : OpView K A) →
    content_at t i ≡ Some old → content_at (with_content t i new) i ≡ Some read → Counts u (uses_of t) → IsLoweredBy u
    mid (λ at. uses_in at old) → IsRaisedBy mid now (λ at. uses_in at read) → Counts now
    (uses_of (with_content t i new))
Counts-rewritten {K} {A} u mid now t i old new read was is c low high =
    let written = ap (λ (z : Cell (OpView K A)). z.content) (cell_at-with_content t i new
    (within_content t i (some_is (content_at t i) old was))) in
    let same = same_Some new read (sym written ∙ is) in
    high (uses_of (without_slot t i)) (uses_of (with_content t i new)) (low (uses_of t) (uses_of (without_slot t i)) c
    (uses-freed t i old was)) (λ at.
    let e = uses-edited t i old new was at in
    let d = uses-freed t i old was at in
    let f = ap (uses_in at) same in
    omega arith)

-- an operation comes to use the node x once more and the node y once less
pub Counts-swapped : {K A : Type 0} (u mid now : Uses) (t : Table (OpView K A)) (i : ℕ) (old new : OpView K A)
    (x y : IRNode) → content_at t i ≡ Some old →
    ((at : Seat) → uses_in at new + hit at y ≡ uses_in at old + hit at x) → Counts u (uses_of t) → mid ≡ with_use u x →
    now ≡ without_use mid y → Counts now (uses_of (with_content t i new))
Counts-swapped u mid now t i old new x y was swap c is is' =
    let f : Seat → ℕ = λ at. uses_of t at + hit at x in
    let up : Counts mid f = subst (λ z. Counts z f) (sym is) (Counts-with_use u (uses_of t) f x c (λ at. refl)) in
    subst (λ z. Counts z (uses_of (with_content t i new))) (sym is') (Counts-without_use mid f
    (uses_of (with_content t i new)) y up (λ at.
    let e = uses-edited t i old new was at in
    let a = swap at in
    omega arith))

-- a block comes in place of a successor
pub Counts-redirected : {K A : Type 0} (u mid now : Uses) (t : Table (OpView K A)) (i n : ℕ) (o : OpView K A)
    (x y : Ptr BasicBlockKind) (xs : List (Ptr BasicBlockKind)) → content_at t i ≡ Some o → slice_get o.successors n ≡
    Some y → xs ≡ slice_set o.successors n x → Counts u (uses_of t) → mid ≡ with_use u (BasicBlock x) → now ≡
    without_use mid (BasicBlock y) → Counts now (uses_of (with_content t i (record o { successors = xs })))
Counts-redirected u mid now t i n o x y xs was there put =
    let seen : Seat → Ptr BasicBlockKind → ℕ = λ at b. hit at (BasicBlock b) in
    Counts-swapped u mid now t i o (record o { successors = xs }) (BasicBlock x) (BasicBlock y) was (λ at.
    let a = ap (blocks_in at) put in
    let b = sum_by-set (seen at) o.successors n x y (slice_get_within o.successors n y there) in
    let d = ap (seen at) (get_or_from_slice_get o.successors n y y there) in
    omega arith)

-- An operation's operands are edited, and the use of a value is counted or taken off.
module _ {K A : Type 0} (u u' : Uses) (t : Table (OpView K A)) (i n : ℕ) (o : OpView K A)
    (was : content_at t i ≡ Some o) (x : Value) (xs : List Value) (c : Counts u (uses_of t)) where
  abbrev seen : Seat → Value → ℕ
  seen at v = cond (is_seated at (entity_node v.entity)) 1 0

  abbrev edited : OpView K A
  edited = record o { operands = xs }

  pub Counts-inserted : xs ≡ insert o.operands n x → u' ≡ with_use u (entity_node x.entity) → Counts u'
      (uses_of (with_content t i edited))
  Counts-inserted put is =
      subst (λ z. Counts z (uses_of (with_content t i edited))) (sym is) (Counts-with_use u (uses_of t)
      (uses_of (with_content t i edited)) (entity_node x.entity) c (λ at.
      let e = uses-edited t i o edited was at in
      let a = ap (values_from at) put in
      let b = sum_by-insert (seen at) o.operands n x in
      omega arith))

  pub Counts-removed : n < length o.operands → xs ≡ remove o.operands n → x ≡ get_or o.operands n x → u' ≡ without_use u
      (entity_node x.entity) → Counts u' (uses_of (with_content t i edited))
  Counts-removed below out taken is =
      subst (λ z. Counts z (uses_of (with_content t i edited))) (sym is) (Counts-without_use u (uses_of t)
      (uses_of (with_content t i edited)) (entity_node x.entity) c (λ at.
      let e = uses-edited t i o edited was at in
      let a = ap (values_from at) out in
      let b = sum_by-remove (seen at) o.operands n x below in
      let d = ap (seen at) taken in
      omega arith))

  pub Counts-replaced : (mid : Uses) (y : Value) → slice_get o.operands n ≡ Some y → xs ≡ slice_set o.operands n x → mid
      ≡ with_use u (entity_node x.entity) → u' ≡ without_use mid (entity_node y.entity) → Counts u'
      (uses_of (with_content t i edited))
  Counts-replaced mid y there put is is' =
      Counts-swapped u mid u' t i o edited (entity_node x.entity) (entity_node y.entity) was (λ at.
      let a = ap (values_from at) put in
      let b = sum_by-set (seen at) o.operands n x y (slice_get_within o.operands n y there) in
      let d = ap (seen at) (get_or_from_slice_get o.operands n y y there) in
      omega arith) c is is'

-- the operands of an operation by what it holds: s is made of the fields, and t is the value
module _ {K A T : Type 0} (s t : ContextView K A T) (view : s ≡ t) (p : Ptr OperationKind) (n : ℕ) (o : OpView K A)
    (was : content_at s.nodes.ops p.slot ≡ Some o) where
  listed : operands_of t p ≡ o.operands
  listed = ap (λ (z : ContextView K A T). operands_of z p) (sym view) ∙ ap operands_in was

  pub operand_within : n < length (operands_of t p) → n < length o.operands
  operand_within h = subst (λ xs. n < length xs) listed h

  pub operand_there : (y : Value) → slice_get (operands_of t p) n ≡ Some y → slice_get o.operands n ≡ Some y
  operand_there y e = ap (λ xs. slice_get xs n) (sym listed) ∙ e

  -- and its successors
  pub successor_there : (y : Ptr BasicBlockKind) → slice_get (successors_of t p) n ≡ Some y → slice_get o.successors n ≡
      Some y
  successor_there y e =
      let same : successors_of t p ≡ o.successors = ap (λ (z : ContextView K A T). successors_of z p) (sym view) ∙ ap
      successors_in was in
      ap (λ xs. slice_get xs n) (sym same) ∙ e

pub count_none : {X : Type 0} (p : X → Bool) (xs : List X) → All (λ x. p x ≡ false) xs → count_by p xs ≡ 0
count_none p [] a = refl
count_none p (x ∷ xs) a =
    let e = sum_by-cons (λ z. cond (p z) 1 0) x xs in
    let h = ap (λ (b : Bool). cond {A = ℕ} b 1 0) (All-head (λ z. p z ≡ false) x xs a) in
    let r = count_none p xs (All-tail (λ z. p z ≡ false) x xs a) in
    omega arith

-- No live operation uses a node that is not live: s is made of the fields.
module _ {K A T : Type 0} (own : A → List ℕ) (s : ContextView K A T) (w : IsWellFormed own s) where
  unused_seat : (at : Seat) → ((n : IRNode) → IsLive s n → is_seated at n ≡ false) → uses_of s.nodes.ops at ≡ 0
  unused_seat at away = uses-none s.nodes.ops at (λ k. held k (content_at s.nodes.ops k) refl)
    where
      held : (k : ℕ) (o : Option (OpView K A)) → content_at s.nodes.ops k ≡ o → uses_held at o ≡ 0
      held k None e = refl
      held k (Some v) e =
          let h = w.holds.ops k v e in
          let a = count_none (λ x. is_seated at (entity_node x.entity)) v.operands
          (λ i d b. away (entity_node (get_or v.operands i d).entity) ((and_parts
          (is_live s (entity_node (get_or v.operands i d).entity)) (nat_lt (get_or v.operands i d).index
          (length (types_from s (get_or v.operands i d).entity))) (h.operands i d b)).0)) in
          let z = count_none (λ x. is_seated at (BasicBlock x)) v.successors (λ i d b. away
          (BasicBlock (get_or v.successors i d)) (h.successors i d b)) in
          omega arith

  -- a slot that holds nothing
  pub vacant_op : (i : ℕ) → content_at s.nodes.ops i ≡ None → uses_of s.nodes.ops (op i) ≡ 0
  vacant_op i none = unused_seat (op i) away
    where
      away : (n : IRNode) → IsLive s n → is_seated (op i) n ≡ false
      away (Operation p) live = ne_eqb p.slot i (λ e. some_none (content_at s.nodes.ops p.slot)
          (live_some s.nodes.ops p.slot p.version live) (ap (content_at s.nodes.ops) e ∙ none))
      away (Region p) live = refl
      away (BasicBlock p) live = refl

  pub vacant_block : (i : ℕ) → content_at s.nodes.blocks i ≡ None → uses_of s.nodes.ops (block i) ≡ 0
  vacant_block i none = unused_seat (block i) away
    where
      away : (n : IRNode) → IsLive s n → is_seated (block i) n ≡ false
      away (Operation p) live = refl
      away (Region p) live = refl
      away (BasicBlock p) live = ne_eqb p.slot i (λ e. some_none (content_at s.nodes.blocks p.slot)
          (live_some s.nodes.blocks p.slot p.version live) (ap (content_at s.nodes.blocks) e ∙ none))

  -- a new operation, whose count begins and whose uses are counted
  pub Counts-made : (u mid now : Uses) (v x : OpView K A) (n : Nodes (OpView K A) (BlockView A)) (p : Ptr OperationKind)
      (k : ℕ) →
      Counts u (uses_of s.nodes.ops) →
      n ≡ with_new_regions (with_new_op s.nodes v) (next_slot s.nodes.ops) k →
      p ≡ ptr_at n.ops (next_slot s.nodes.ops) → content_at n.ops p.slot ≡ Some v → content_at n.ops p.slot ≡ Some x →
      ((f : Seat → ℕ) → f (seat_of (Operation p)) ≡ 0 → Counts u f → Counts mid f) →
      ((f g : Seat → ℕ) → Counts mid f → ((at : Seat) → g at ≡ f at + uses_in at x) → Counts now g) →
      Counts now (uses_of n.ops)
  Counts-made u mid now v x n p k c e is held read begun raised =
      let new : n.ops ≡ with_new s.nodes.ops v = ap (λ (z : Nodes (OpView K A) (BlockView A)). z.ops) e ∙
      ops-with_new_regions (with_new_op s.nodes v) (next_slot s.nodes.ops) k in
      let slot : p.slot ≡ next_slot s.nodes.ops = ap (λ (z : Ptr OperationKind). z.slot) is in
      let zero_there : uses_of s.nodes.ops (op p.slot) ≡ 0 = vacant_op p.slot (ap (content_at s.nodes.ops) slot ∙
      next_vacant s.nodes.ops w.stored.op_slots) in
      let same : v ≡ x = same_Some v x (sym held ∙ read) in
      raised (uses_of s.nodes.ops) (uses_of n.ops) (begun (uses_of s.nodes.ops) zero_there c) (λ at.
      ap (λ z. uses_of z at) new ∙ uses-new s.nodes.ops v w.stored.op_slots at ∙ ap
      (λ z. uses_of s.nodes.ops at + uses_in at z) same)

  -- a new block, whose count begins
  pub Counts-made_block : (u now : Uses) (v : BlockView A) (n : Nodes (OpView K A) (BlockView A))
      (p : Ptr BasicBlockKind) →
      Counts u (uses_of s.nodes.ops) → n ≡ with_new_block s.nodes v → p ≡ ptr_at n.blocks (next_slot s.nodes.blocks) →
      ((f : Seat → ℕ) → f (seat_of (BasicBlock p)) ≡ 0 → Counts u f → Counts now f) → Counts now (uses_of n.ops)
  Counts-made_block u now v n p c e is begun =
      let slot : p.slot ≡ next_slot s.nodes.blocks = ap (λ (z : Ptr BasicBlockKind). z.slot) is in
      let zero_there : uses_of s.nodes.ops (block p.slot) ≡ 0 = vacant_block p.slot
      (ap (content_at s.nodes.blocks) slot ∙ next_vacant s.nodes.blocks w.stored.block_slots) in
      Counts-kept now s.nodes.ops n.ops (ap (λ (z : Nodes (OpView K A) (BlockView A)). z.ops) e)
      (begun (uses_of s.nodes.ops) zero_there c)

-- no live node has changed
module _ {K A : Type 0} (s n : Nodes (OpView K A) (BlockView A)) (x : SameNodes s n) where
  same_content : (k : ℕ) → content_at n.ops k ≡ content_at s.ops k
  same_content k = in_case (content_at s.ops k) (content_at n.ops k) refl refl
    where
      in_case : (a b : Option (OpView K A)) → content_at s.ops k ≡ a → content_at n.ops k ≡ b → content_at n.ops k ≡
          content_at s.ops k
      in_case None None e f = f ∙ sym e
      in_case None (Some v) e f =
          let live : is_node_live n (Operation (ptr_at n.ops k)) ≡ true = some_live n.ops k
          (some_is (content_at n.ops k) v f) in
          let before : is_node_live s (Operation (ptr_at n.ops k)) ≡ true = sym (x.live (Operation (ptr_at n.ops k))) ∙
          live in
          absurd (some_none (content_at s.ops k) (live_some s.ops k (version_at n.ops k) before) e)
      in_case (Some v) b e f = x.ops (ptr_at s.ops k) (some_live s.ops k (some_is (content_at s.ops k) v e))

  pub Counts-unmade : (u : Uses) → Counts u (uses_of s.ops) → Counts u (uses_of n.ops)
  Counts-unmade u c = Counts-same u (uses_of s.ops) (uses_of n.ops) c (uses-same s.ops n.ops same_content)

-- An operation, region or block is freed, and what it uses is taken off.
module _ {K A : Type 0} (u now : Uses) (s : Nodes (OpView K A) (BlockView A)) (c : Counts u (uses_of s.ops))
    (n : IRNode) where
  pub Counts-freed_op : (p : Ptr OperationKind) (v : OpView K A) → n ≡ Operation p → content_at s.ops p.slot ≡ Some v →
      ((f g : Seat → ℕ) → Counts u f → ((at : Seat) → f at ≡ g at + uses_in at v) → Counts now g) → Counts now
      (uses_of (without_node s n).ops)
  Counts-freed_op p v e held lowered =
      subst (λ z. Counts now (uses_of (without_node s z).ops)) (sym e) (lowered (uses_of s.ops)
      (uses_of (without_slot s.ops p.slot)) c (uses-freed s.ops p.slot v held))

  pub Counts-freed_region : (p : Ptr RegionKind) → n ≡ Region p → now ≡ u → Counts now (uses_of (without_node s n).ops)
  Counts-freed_region p e same = subst (λ z. Counts now (uses_of (without_node s z).ops)) (sym e)
      (subst (λ z. Counts z (uses_of s.ops)) (sym same) c)

  pub Counts-freed_block : (p : Ptr BasicBlockKind) → n ≡ BasicBlock p → now ≡ u → Counts now
      (uses_of (without_node s n).ops)
  Counts-freed_block p e same = subst (λ z. Counts now (uses_of (without_node s z).ops)) (sym e)
      (subst (λ z. Counts z (uses_of s.ops)) (sym same) c)

-- nothing is counted at first
pub Counts-empty : (u : Uses) (f : Seat → ℕ) → u ≡ record { ops = []; blocks = [] } → Counts u f
Counts-empty u f e = subst (λ z. Counts z f) (sym e) none
  where
    none : Counts (record { ops = []; blocks = [] }) f
    none (op i) n q = absurd (none-some n q)
    none (region i) n q = absurd (none-some n q)
    none (block i) n q = absurd (none-some n q)
