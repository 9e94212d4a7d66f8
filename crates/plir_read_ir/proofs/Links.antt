-- Operations come to use what their names mean.
use Rattle.std.proofs.Common.{◌≡◌, ◌++◌, ◌+◌, ℕ, zero, suc, Bool, true, false, cond, List, [], ◌∷◌, length, map}
use Rattle.std.proofs.Common.{slice_get}
use Rattle.std.proofs.Common.{slice_set, Option, Some, None, refl, sym, ap, ap₂, subst, ◌∙◌, append-nil}
use Rattle.std.proofs.Common.{append_assoc, arith}
use Rattle.std.proofs.Math.Seq.{set-append_seam}
use Rattle.std.proofs.lemmas.Option.{none-some}
use Rattle.plir_names.specs.Meanings.{meaning}
use Rattle.plir_names.specs.declared.names.Meaning.{Meaning}
use Rattle.plir_names.specs.declared.names.Meaning.TheVariants.{Only}
use Rattle.plir_core.specs.Contents.{BlockView, OpView}
use Rattle.plir_core.specs.ContextView.{ContextView, IsLive, entity_node, is_live, op_at}
use Rattle.plir_core.specs.ContextView.{type_of_value}
use Rattle.plir_core.specs.SameValue.{ptr-exact, same_ptr}
use Rattle.plir_core.specs.Standing.{IsStanding}
use Rattle.plir_core.specs.declared.ptr.Ptr.{Ptr}
use Rattle.plir_core.specs.declared.ptr.Operation.{Operation as OperationKind}
use Rattle.plir_core.specs.declared.ptr.Region.{Region as RegionKind}
use Rattle.plir_core.specs.declared.ptr.BasicBlock.{BasicBlock as BlockKind}
use Rattle.plir_core.specs.declared.ptr.IRNode.{IRNode}
use Rattle.plir_core.specs.declared.ptr.IRNode.TheVariants.{Operation, Region, BasicBlock}
use Rattle.plir_core.specs.declared.value.Value.{Value}
use Rattle.plir_attr_text.specs.Names.{Grows}
use Rattle.plir_attr_text.specs.laws.Growth.{Grows-itself, NamesAll-grown}
use Rattle.plir_attr_text.specs.laws.Meanings.{IsDictMeant-grown}
use Rattle.plir_read.specs.Heads.{result_names}
use Rattle.plir_read.specs.OpsStanding.{HoldsBlock, HoldsOp}
use Rattle.plir_read_own.specs.OwnTerms.{Header}
use Rattle.plir_read_ir.specs.IrStanding.{IsFrontAt, IsIrAt, IsIrWhole, IsOwnAt}
use Rattle.plir_read_ir.specs.IrTerms.{Front, bodied_front, constant_front, own_front, IrOp}
use Rattle.plir_read_ir.specs.Linking.{AreSteps, AreUsesLinked, IsLinkedAt, IsMadeBy, IsStep, KeepsShape}
use Rattle.plir_read_ir.specs.Mentions.{Mention, Scope, WordIn, labels_in, nowhere, op_mentions, same_word, values_in}
use Rattle.plir_read_ir.specs.OwnOps.{own_op}
use Rattle.plir_read_ir.specs.Readings.{IsFrontNoted, IsOwnNoted, NotedUse, noted_operand, noted_successor}
use Rattle.plir_read_ir.specs.Readings.{noted_operands, noted_successors, noted_use, place_in, uses_at, uses_by}
use Rattle.plir_read_ir.specs.declared.notes.PendingUse.{PendingUse}
use Rattle.plir_read_ir.proofs.Noted.{all_and}
use Rattle.plir_read_ir.proofs.Says.{uses_by-append}
use Rattle.plir_read_ir.proofs.Shapes.{types_shaped, value_back}
use Rattle.plir_read_ir.proofs.Standing.{block_head_on, constant_on, header_on}
use Rattle.plir_read_ir.proofs.Trees.{ir_kept, op_says}

module _ {K A T : Type 0} (values : List (WordIn OperationKind × Value)) (labels : List (WordIn RegionKind × Ptr BlockKind))
    (s : ContextView K A T) where
  -- ---- one use after the other

  pub steps_none : (o p : OpView K A) → p ≡ o → AreSteps values labels s [] o p
  steps_none o p e = e

  steps_append : (us vs : List NotedUse) (o m p : OpView K A) → AreSteps values labels s us o m →
      AreSteps values labels s vs m p → AreSteps values labels s (us ++ vs) o p
  steps_append [] vs o m p e h = subst (λ z. AreSteps values labels s vs z p) e h
  steps_append (u ∷ us) vs o m p e h = (e.0, e.1, steps_append us vs e.0 m p e.2 h)

  pub uses_none : AreUsesLinked values labels s s []
  uses_none q live o e = (o, e, refl)

  -- what a use makes where operations use others
  step_back : (t : ContextView K A T) → KeepsShape s t → (u : NotedUse) (o p : OpView K A) → IsStep values labels t u o p →
      IsStep values labels s u o p
  step_back t k (noted_operand w type) o p e =
      let live = value_back s t k e.0 e.1 in
      let owner = all_and (is_live s (entity_node e.0.entity)) _ live in (
        e.0,
        live,
        e.2,
        sym (ap (λ (l : List ℕ). slice_get l e.0.index) (types_shaped s t k e.0.entity owner.0)) ∙ e.3,
        e.4,
      )
  step_back t k (noted_successor l place) o p e = e

  -- one use more
  pub uses_more : (t u : ContextView K A T) (us : List PendingUse) (x : PendingUse) → KeepsShape s t →
      AreUsesLinked values labels s t us → IsLinkedAt t u x.op →
      IsMadeBy values labels t u x.op (IsStep values labels t (noted_use x)) →
      AreUsesLinked values labels s u (us ++ x ∷ [])
  uses_more t u us x k all l step q live o e =
      let before = all q live o e in
      let now : IsLive t (Operation q) = k.nodes.live (Operation q) ∙ live in
      at (same_ptr x.op q) refl before.0 before.1 before.2 now
    where
      at : (b : Bool) → same_ptr x.op q ≡ b → (m : OpView K A) → op_at t q ≡ Some m →
          AreSteps values labels s (uses_by q us) o m → IsLive t (Operation q) →
          (p : OpView K A) × (op_at u q ≡ Some p) × AreSteps values labels s (uses_by q (us ++ x ∷ [])) o p
      at true is m h steps now =
          let same : x.op ≡ q = (ptr-exact x.op q).0 is in
          let next = subst (λ z. IsMadeBy values labels t u z (IsStep values labels t (noted_use x))) same step now m h in (
            next.0,
            next.1,
            subst (λ z. AreSteps values labels s z o next.0)
                (ap (λ (l : List NotedUse). uses_by q us ++ l)
                (sym (ap (λ c. cond c (noted_use x ∷ []) []) is)) ∙ sym (uses_by-append q us (x ∷ [])))
                (steps_append (uses_by q us) (noted_use x ∷ []) o m next.0 steps
                (next.0, step_back t k (noted_use x) m next.0 next.2, refl)),
          )
      at false is m h steps now = (
        m,
        l.ops q now (λ f. let z = sym ((ptr-exact x.op q).1 (sym f)) ∙ is in cc) ∙ h,
        subst (λ z. AreSteps values labels s z o m)
            (sym (append-nil (uses_by q us)) ∙
            ap (λ (l : List NotedUse). uses_by q us ++ l) (sym (ap (λ c. cond c (noted_use x ∷ []) []) is)) ∙
            sym (uses_by-append q us (x ∷ []))) steps,
      )

  -- ---- operands, and then successors

  module _ (t : ContextView K A T) (k : KeepsShape s t) (body : Option (Ptr OperationKind)) where
    -- the operands that an operation gets
    record OperandsLinked (ws : List (List ℕ)) (types : List ℕ) (rest : List NotedUse) (o p : OpView K A) : Type 0 where
      operands : List Value
      meant : map (λ w. meaning same_word values (body, w)) ws ≡ map Only operands
      have : map (type_of_value t) operands ≡ map Some types
      steps : AreSteps values labels s rest (record o { operands = o.operands ++ operands }) p

    operands_linked : (ws : List (List ℕ)) (types : List ℕ) (rest : List NotedUse) (o p : OpView K A) →
        length ws ≡ length types → AreSteps values labels s (noted_operands body ws types ++ rest) o p →
        OperandsLinked ws types rest o p
    operands_linked [] [] rest o p many e = record {
      operands = [];
      meant = refl;
      have = refl;
      steps = subst (λ z. AreSteps values labels s rest z p)
          (ap (λ (l : List Value). let x : OpView K A = record o { operands = l } in x) (sym (append-nil o.operands))) e;
    }
    operands_linked [] (ty ∷ types) rest o p many e = absurd (omega (arith, many))
    operands_linked (w ∷ ws) [] rest o p many e = absurd (omega (arith, many))
    operands_linked (w ∷ ws) (ty ∷ types) rest o p many e =
        let v = e.1.0 in
        let r = operands_linked ws types rest e.0 p (omega (arith, many)) e.2 in
        let owner = all_and (is_live s (entity_node v.entity)) _ e.1.1 in
        record {
          operands = v ∷ r.operands;
          meant = ap₂ (λ (x : Meaning Value) (l : List (Meaning Value)). x ∷ l) e.1.2 r.meant;
          have = ap₂ (λ (x : Option ℕ) (l : List (Option ℕ)). x ∷ l)
              (ap (λ (l : List ℕ). slice_get l v.index) (types_shaped s t k v.entity owner.0) ∙ e.1.3) r.have;
          steps = subst (λ z. AreSteps values labels s rest z p)
              (ap (λ (x : OpView K A). let y : OpView K A = record x { operands = x.operands ++ r.operands } in y) e.1.4 ∙
              ap (λ (l : List Value). let y : OpView K A = record o { operands = l } in y)
              (append_assoc o.operands (v ∷ []) r.operands)) r.steps;
        }

  -- the successors that an operation gets
  record SuccessorsLinked (region : Option (Ptr RegionKind)) (ls : List (List ℕ)) (front : List (Ptr BlockKind))
      (o p : OpView K A) : Type 0 where
    successors : List (Ptr BlockKind)
    meant : map (λ w. meaning same_word labels (region, w)) ls ≡ map Only successors
    made : p ≡ record o { successors = front ++ successors }

  successors_linked : (region : Option (Ptr RegionKind)) (ls : List (List ℕ)) (i : ℕ) (front back : List (Ptr BlockKind))
      (o p : OpView K A) → o.successors ≡ front ++ back → length front ≡ place_in region i →
      length back ≡ place_in region (length ls) → AreSteps values labels s (noted_successors region i ls) o p →
      SuccessorsLinked region ls front o p
  successors_linked region [] i front back o p is many left e =
      let none : back ≡ [] = nothing region back left in
      record {
        successors = [];
        meant = refl;
        made = e ∙ ap (λ (l : List (Ptr BlockKind)). let y : OpView K A = record o { successors = l } in y)
            (is ∙ ap (λ (l : List (Ptr BlockKind)). front ++ l) none);
      }
    where
      nothing : (r : Option (Ptr RegionKind)) (l : List (Ptr BlockKind)) → length l ≡ place_in r 0 → l ≡ []
      nothing r [] h = refl
      nothing None (x ∷ l) h = absurd cc
      nothing (Some y) (x ∷ l) h = absurd cc
  successors_linked None (w ∷ ls) i front back o p is many left e = absurd (none-some _ e.1.2)
  successors_linked (Some region) (w ∷ ls) i front [] o p is many left e = absurd (omega (arith, left))
  successors_linked (Some region) (w ∷ ls) i front (x ∷ back) o p is many left e =
      let b = e.1.0 in
      let set : slice_set o.successors i b ≡ front ++ b ∷ back =
      ap (λ (l : List (Ptr BlockKind)). slice_set l i b) is ∙
      ap (λ n. slice_set (front ++ x ∷ back) n b) (sym many) ∙ set-append_seam front x back b in
      let held : e.0.successors ≡ (front ++ b ∷ []) ++ back =
      ap (λ (z : OpView K A). z.successors) e.1.4 ∙ set ∙ sym (append_assoc front (b ∷ []) back) in
      let r = successors_linked (Some region) ls (i + 1) (front ++ b ∷ []) back e.0 p held (longer front b i many)
      (omega (arith, left)) e.2 in
      record {
        successors = b ∷ r.successors;
        meant = ap₂ (λ (y : Meaning (Ptr BlockKind)) (l : List (Meaning (Ptr BlockKind))). y ∷ l) e.1.3 r.meant;
        made = r.made ∙
            ap (λ (z : OpView K A). let y : OpView K A = record z { successors = (front ++ b ∷ []) ++ r.successors } in y)
            e.1.4 ∙
            ap (λ (l : List (Ptr BlockKind)). let y : OpView K A = record o { successors = l } in y)
            (append_assoc front (b ∷ []) r.successors);
      }
    where
      longer : (l : List (Ptr BlockKind)) (b : Ptr BlockKind) (i : ℕ) → length l ≡ i → length (l ++ b ∷ []) ≡ i + 1
      longer [] b i h = omega (arith, h)
      longer (x ∷ l) b zero h = absurd cc
      longer (x ∷ l) b (suc i) h = let r = longer l b i (omega (arith, h)) in omega (arith, r)

-- ---- whole operations

module _ {K A T : Type 0} (isolated : K → Bool) (s t : ContextView K A T) (us : List PendingUse) (ms : List Mention)
    (k : KeepsShape s t) (linked : AreUsesLinked (values_in ms) (labels_in ms) s t us) where
  grown : Grows s.types t.types
  grown = subst (Grows s.types) (sym k.nodes.types) (Grows-itself s.types)

  -- what uses nothing is as it was
  pub unused : (n : IRNode) → IsLive s n → uses_at n us ≡ [] → (v : OpView K A) → HoldsOp s n v → HoldsOp t n v
  unused (Operation p) live none v e =
      let l = linked p live v e in
      l.1 ∙ ap (λ (z : OpView K A). Some z)
      (subst (λ (z : List NotedUse). AreSteps (values_in ms) (labels_in ms) s z v l.0) none l.2)
  unused (Region p) live none v e = e
  unused (BasicBlock p) live none v e = e

  own_linked : (at : Scope) (n : IRNode) (h : Header K) → IsLive s n → IsOwnNoted s us at n h → IsOwnAt t ms at n h
  own_linked at (Region p) h live e = absurd e.holds
  own_linked at (BasicBlock p) h live e = absurd e.holds
  own_linked at (Operation p) h live e =
      let first : OpView K A = own_op h.kind (result_names h.names) e.entries e.result_types e.successors in
      let l = linked p live first e.holds in
      let steps = subst (λ (z : List NotedUse). AreSteps (values_in ms) (labels_in ms) s z first l.0) e.uses l.2 in
      let a = operands_linked (values_in ms) (labels_in ms) s t k at.body h.uses.operands e.operand_types
      (noted_successors at.region 0 h.uses.successors) first l.0 e.typed steps in
      let mid : OpView K A = record first { operands = a.operands } in
      let b = successors_linked (values_in ms) (labels_in ms) s at.region h.uses.successors 0 [] e.successors mid l.0
      refl (at_start at.region) e.as_many a.steps in
      record {
        entries = e.entries;
        result_types = e.result_types;
        operand_types = e.operand_types;
        operands = a.operands;
        successors = b.successors;
        holds = l.1 ∙ ap (λ (z : OpView K A). Some z) b.made;
        entries_meant = IsDictMeant-grown s.types t.types grown h.entries e.entries e.entries_meant;
        results_typed = NamesAll-grown s.types t.types e.result_types h.signature.result_types grown e.results_typed;
        operands_meant = a.meant;
        operands_have = a.have;
        operands_typed = NamesAll-grown s.types t.types e.operand_types h.signature.operand_types grown
            e.operands_typed;
        successors_meant = b.meant;
      }
    where
      at_start : (r : Option (Ptr RegionKind)) → 0 ≡ place_in r 0
      at_start None = refl
      at_start (Some r) = refl

  front_linked : (at : Scope) (n : IRNode) (f : Front K) → IsLive s n → IsFrontNoted s us at n f → IsFrontAt t ms at n f
  front_linked at n (bodied_front h) live e = header_on s t grown n (unused n live e.1) h e.0
  front_linked at n (constant_front w a ty) live e =
      constant_on s t grown n (unused n live e.1) (result_names (w ∷ [])) (a, ty) (k.nodes.children n) e.0
  front_linked at n (own_front h) live e = own_linked at n h live e

  pub block_same : (n : IRNode) (v : BlockView A) → HoldsBlock s n v → HoldsBlock t n v
  block_same (BasicBlock p) v e = k.blocks p ∙ e
  block_same (Region p) v e = e
  block_same (Operation p) v e = e

  -- the tree of an operation
  pub ir_linked : IsStanding s → (n : IRNode) (o : IrOp K) → IsLive s n →
      IsIrAt isolated s (IsFrontNoted s us) nowhere n o → IsIrAt isolated t (IsFrontAt t ms) nowhere n o
  ir_linked w n o live e =
      ir_kept isolated s t (λ m. IsLive s m) (λ m p. k.nodes.children m) (λ m x p h. w.forest.child_live m x h)
      (IsFrontNoted s us) (IsFrontAt t ms) front_linked (λ m b p. block_head_on s t grown m (block_same m) b) nowhere n o
      live e

-- names mean what the tree says where nodes stand as they did
pub whole_linked : {K A T : Type 0} (isolated : K → Bool) (s t : ContextView K A T) (us : List PendingUse)
    (n : IRNode) (o : IrOp K) → KeepsShape s t → IsStanding s → IsLive s n →
    AreUsesLinked (values_in (op_mentions isolated s nowhere n o)) (labels_in (op_mentions isolated s nowhere n o)) s t us
    → IsIrAt isolated s (IsFrontNoted s us) nowhere n o → IsIrWhole isolated t n o
whole_linked isolated s t us n o k w live l e =
    subst (λ ms. IsIrAt isolated t (IsFrontAt t ms) nowhere n o)
    (sym (op_says isolated s t (λ m. IsLive s m) (λ m p. k.nodes.children m) (λ m x p h. w.forest.child_live m x h)
    nowhere n o live))
    (ir_linked isolated s t us (op_mentions isolated s nowhere n o) k l w n o live e)
