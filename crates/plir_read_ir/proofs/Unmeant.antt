-- Uses that get nothing.
use Rattle.std.proofs.Common.{◌≡◌, ◌++◌, ◌+◌, ◌<◌, ℕ, Bool, List, [], ◌∷◌, length, map, take, drop, get_or}
use Rattle.std.proofs.Common.{slice_get, slice_set, Option, Some, None, inl, inr, refl, sym, ap, subst, ◌∙◌}
use Rattle.std.proofs.lemmas.List.{drop_more, map-append, take-append-drop}
use Rattle.plir_names.specs.Meanings.{bearers, meaning, meaning_by}
use Rattle.plir_names.specs.Tables.{meanings}
use Rattle.plir_names.specs.declared.names.Meaning.TheVariants.{Unknown, Only}
use Rattle.plir_store.specs.Members.{Has}
use Rattle.plir_data.specs.Types.{TypeView}
use Rattle.plir_core.specs.Contents.{OpView}
use Rattle.plir_core.specs.ContextView.{ContextView, IsLive, IsValueLive, entity_node, is_live, type_of_value}
use Rattle.plir_core.specs.Standing.{IsStanding}
use Rattle.plir_core.specs.declared.ptr.Ptr.{Ptr}
use Rattle.plir_core.specs.declared.ptr.Operation.{Operation as OperationKind}
use Rattle.plir_core.specs.declared.ptr.Region.{Region as RegionKind}
use Rattle.plir_core.specs.declared.ptr.BasicBlock.{BasicBlock as BlockKind}
use Rattle.plir_core.specs.declared.ptr.IRNode.{IRNode}
use Rattle.plir_core.specs.declared.ptr.IRNode.TheVariants.{Operation, Region, BasicBlock}
use Rattle.plir_core.specs.declared.value.Value.{Value}
use Rattle.plir_attr_text.specs.Names.{Grows, Names}
use Rattle.plir_attr_text.specs.laws.Growth.{Grows-itself, NamesAll-grown}
use Rattle.plir_attr_text.specs.laws.Meanings.{IsDictMeant-grown}
use Rattle.plir_read.specs.Heads.{result_names}
use Rattle.plir_read_own.specs.OwnTerms.{Header}
use Rattle.plir_read_ir.specs.IrFaults.{fault_of}
use Rattle.plir_read_ir.specs.IrStanding.{IsIrAt}
use Rattle.plir_read_ir.specs.IrTerms.{Front, bodied_front, constant_front, own_front, IrOp}
use Rattle.plir_read_ir.specs.Linking.{AreSteps, AreUsesLinked, FailsUse, FailsUses, HasFault, IsStep, KeepsShape}
use Rattle.plir_read_ir.specs.Linking.{StopsAtUse}
use Rattle.plir_read_ir.specs.Linking.{TellsMeaning, TellsNoUse, TellsType}
use Rattle.plir_read_ir.specs.Mentions.{Mention, value_bears, block_bears, operand_named, successor_named, Scope}
use Rattle.plir_read_ir.specs.Mentions.{WordIn}
use Rattle.plir_read_ir.specs.Mentions.{block_meant, labels_in, nowhere, op_mentions, same_word, uses_in, value_meant}
use Rattle.plir_read_ir.specs.Mentions.{values_in}
use Rattle.plir_read_ir.specs.Noting.{LabelInRegion, NameInBody, same_label, same_name}
use Rattle.plir_read_ir.specs.OwnOps.{own_op}
use Rattle.plir_read_ir.specs.Readings.{AreMentioned, IsFrontNoted, IsMentioned, IsOwnNoted, NotedUse}
use Rattle.plir_read_ir.specs.Readings.{noted_operand, noted_successor, ReadsText, SaysLabels, SaysValues, noted_use}
use Rattle.plir_read_ir.specs.Readings.{plain_label, uses_at, uses_by}
use Rattle.plir_read_ir.specs.UseFaults.{HasUseFault, IsAtUse, IsFrontMade, IsOwnMade, IsUnmeant}
use Rattle.plir_read_ir.specs.declared.fault.IrFault.{IrFault}
use Rattle.plir_read_ir.specs.declared.fault.IrFault.TheVariants.{Text, UnknownName, AmbiguousName, TypeMismatch}
use Rattle.plir_read_ir.specs.declared.fault.IrStop.{IrStop}
use Rattle.plir_read_ir.specs.declared.fault.IrStop.TheVariants.{Reading, Use}
use Rattle.plir_read_ir.specs.declared.notes.Notes.{Notes}
use Rattle.plir_read_ir.specs.declared.notes.PendingUse.{PendingUse}
use Rattle.plir_read_ir.proofs.Links.{block_same, unused}
use Rattle.plir_read_ir.proofs.Noted.{all_and}
use Rattle.plir_read_ir.proofs.Says.{says_labels, says_values, uses_by-append}
use Rattle.plir_read_ir.proofs.Shapes.{types_shaped, value_back}
use Rattle.plir_read_ir.proofs.Standing.{block_head_on, constant_on, header_on}
use Rattle.plir_read_ir.proofs.Trees.{ir_kept, op_says}

-- ---- one use

module _ {K A T : Type 0} (notes : Notes) (s : ContextView K A T) where
  pub fails_operand : (n : NameInBody) (type : ℕ) (stop : IrStop) →
      TellsMeaning (meanings same_name notes.values n) stop → FailsUse notes s (noted_operand (n.0, n.1.now) type) stop
  fails_operand n type (Reading stop) h = tt
  fails_operand n type (Use UnknownName left) h = λ values labels a b. sym (a n) ∙ h
  fails_operand n type (Use AmbiguousName left) h = λ values labels a b. sym (a n) ∙ h
  fails_operand n type (Use TypeMismatch left) h = absurd h
  fails_operand n type (Use (Text f) left) h = absurd h

  pub fails_type : (n : NameInBody) (type : ℕ) (v : Value) (stop : IrStop) → IsValueLive s v →
      meanings same_name notes.values n ≡ Only v → TellsType stop → (type_of_value s v ≡ Some type → ⊥) →
      FailsUse notes s (noted_operand (n.0, n.1.now) type) stop
  fails_type n type v (Reading stop) live is h other = tt
  fails_type n type v (Use UnknownName left) live is h other = absurd h
  fails_type n type v (Use AmbiguousName left) live is h other = absurd h
  fails_type n type v (Use TypeMismatch left) live is h other = λ values labels a b. (v, live, sym (a n) ∙ is, other)
  fails_type n type v (Use (Text f) left) live is h other = absurd h

  pub fails_successor : (l : LabelInRegion) (place : ℕ) (stop : IrStop) →
      TellsMeaning (meanings same_label notes.labels l) stop →
      FailsUse notes s (noted_successor (Some l.0, l.1.now) place) stop
  fails_successor l place (Reading stop) h = tt
  fails_successor l place (Use UnknownName left) h = λ values labels a b. inr (sym (b l) ∙ h)
  fails_successor l place (Use AmbiguousName left) h = λ values labels a b. sym (b l) ∙ h
  fails_successor l place (Use TypeMismatch left) h = absurd h
  fails_successor l place (Use (Text f) left) h = absurd h

pub memory_fails : {K A T : Type 0} (notes : Notes) (s : ContextView K A T) (u : NotedUse) (stop : IrStop) →
    TellsNoUse stop → FailsUse notes s u stop
memory_fails notes s u (Reading stop) h = tt
memory_fails notes s u (Use fault left) h = absurd h

-- ---- one of several

module _ {K A T : Type 0} (values : List (WordIn OperationKind × Value)) (labels : List (WordIn RegionKind × Ptr BlockKind))
    (s t : ContextView K A T) (k : KeepsShape s t) where
  fault_back : (fault : IrFault) (u : NotedUse) → HasFault values labels t fault u → HasFault values labels s fault u
  fault_back UnknownName (noted_operand w type) h = h
  fault_back UnknownName (noted_successor l place) h = h
  fault_back AmbiguousName (noted_operand w type) h = h
  fault_back AmbiguousName (noted_successor l place) h = h
  fault_back TypeMismatch (noted_operand w type) h =
      let live = value_back s t k h.0 h.1 in
      let owner = all_and (is_live s (entity_node h.0.entity)) _ live in
      (h.0, live, h.2, λ e. h.3 (ap (λ (l : List ℕ). slice_get l h.0.index) (types_shaped s t k h.0.entity owner.0) ∙ e))
  fault_back TypeMismatch (noted_successor l place) h = h
  fault_back (Text f) u h = h

pub fails_uses : {K A T : Type 0} (notes : Notes) (s v t : ContextView K A T) (us : List PendingUse) (i : ℕ)
    (d : PendingUse) (stop : IrStop) → t ≡ v → KeepsShape s v → i < length us →
    ((values : List (WordIn OperationKind × Value)) (labels : List (WordIn RegionKind × Ptr BlockKind)) →
    SaysValues notes.values values → SaysLabels notes.labels labels → AreUsesLinked values labels s v (take i us)) →
    FailsUse notes v (noted_use (get_or us i d)) stop → FailsUses notes s t us stop
fails_uses notes s v t us i d (Reading stop) e k lt all h = tt
fails_uses notes s v t us i d (Use fault left) e k lt all h = λ values labels a b. record {
  before = take i us;
  stops = get_or us i d;
  after = drop (i + 1) us;
  are = sym (take-append-drop i us) ∙ ap (λ (l : List PendingUse). take i us ++ l) (drop_more us i d lt);
  linked = subst (λ z. AreUsesLinked values labels s z (take i us)) (sym e) (all values labels a b);
  fault_is = fault_back values labels s v k fault (noted_use (get_or us i d)) (h values labels a b);
}

-- ---- the whole

-- no label stands outside all regions
module _ (w : List ℕ) where
  none_outside : (bs : List (LabelInRegion × Ptr BlockKind)) → bearers same_word (map plain_label bs) (None, w) ≡ []
  none_outside [] = refl
  none_outside (b ∷ bs) = none_outside bs

module _ {T : Type 0} (types : List (TypeView T)) where
  -- the mention of one use among others
  mention_of : (xs : List NotedUse) (u : NotedUse) (ys : List NotedUse) (ms : List Mention) →
      AreMentioned types (xs ++ u ∷ ys) ms → (m : Mention) × Has ms m × IsMentioned types u m
  mention_of [] u ys [] e = absurd e
  mention_of [] u ys (m ∷ ms) e = (m, inl refl, e.0)
  mention_of (x ∷ xs) u ys [] e = absurd e
  mention_of (x ∷ xs) u ys (m ∷ ms) e = let r = mention_of xs u ys ms e.1 in (r.0, inr r.1, r.2)

module _ {K A T : Type 0} (s t : ContextView K A T) (k : KeepsShape s t) (ms : List Mention)
    (outside : (w : List ℕ) → block_meant ms (None, w) ≡ Unknown) where
  unmeant_as : (fault : IrFault) (u : NotedUse) (m : Mention) → IsMentioned s.types u m →
      HasFault (values_in ms) (labels_in ms) s fault u → IsUnmeant t ms fault m
  unmeant_as UnknownName (noted_operand w type) (operand_named v y) e h = sym (ap (value_meant ms) e.0) ∙ h
  unmeant_as UnknownName (noted_successor l place) (successor_named j) e h = sym (ap (block_meant ms) e) ∙ elim h [
    | inl p ↦ ap (λ r. block_meant ms (r, l.1)) p ∙ outside l.1
    | inr p ↦ p
  ]
  unmeant_as AmbiguousName (noted_operand w type) (operand_named v y) e h = sym (ap (value_meant ms) e.0) ∙ h
  unmeant_as AmbiguousName (noted_successor l place) (successor_named j) e h = sym (ap (block_meant ms) e) ∙ h
  unmeant_as TypeMismatch (noted_operand w type) (operand_named v y) e h =
      let owner = all_and (is_live s (entity_node h.0.entity)) _ h.1 in (
        h.0,
        type,
        sym (ap (value_meant ms) e.0) ∙ h.2,
        subst (λ z. Names z type y) (sym k.nodes.types) e.1,
        λ q. h.3 (sym (ap (λ (l : List ℕ). slice_get l h.0.index) (types_shaped s t k h.0.entity owner.0)) ∙ q),
      )
  unmeant_as TypeMismatch (noted_successor l place) (successor_named j) e h = absurd h
  unmeant_as (Text f) u m e h = absurd h
  unmeant_as fault (noted_operand w type) (successor_named l) e h = absurd e
  unmeant_as fault (noted_operand w type) (value_bears v x) e h = absurd e
  unmeant_as fault (noted_operand w type) (block_bears l b) e h = absurd e
  unmeant_as fault (noted_successor l place) (operand_named v y) e h = absurd e
  unmeant_as fault (noted_successor l place) (value_bears v x) e h = absurd e
  unmeant_as fault (noted_successor l place) (block_bears j b) e h = absurd e

module _ {K A T : Type 0} (values : List (WordIn OperationKind × Value)) (labels : List (WordIn RegionKind × Ptr BlockKind))
    (s : ContextView K A T) where
  -- uses leave the kind, the results and the attributes
  record Uses (o p : OpView K A) : Type 0 where
    operands : List Value
    successors : List (Ptr BlockKind)
    made : p ≡ record o { operands = operands; successors = successors }

  step_uses : (u : NotedUse) (o p : OpView K A) → IsStep values labels s u o p → Uses o p
  step_uses (noted_operand w type) o p e =
      record { operands = o.operands ++ e.0 ∷ []; successors = o.successors; made = e.4 }
  step_uses (noted_successor l place) o p e =
      record { operands = o.operands; successors = slice_set o.successors place e.0; made = e.4 }

  steps_use : (us : List NotedUse) (o p : OpView K A) → AreSteps values labels s us o p → Uses o p
  steps_use [] o p e = record { operands = o.operands; successors = o.successors; made = e }
  steps_use (u ∷ us) o p e =
      let a = step_uses u o e.0 e.1 in
      let b = steps_use us e.0 p e.2 in
      record {
        operands = b.operands;
        successors = b.successors;
        made = b.made ∙ ap (λ (z : OpView K A). let y : OpView K A =
            record z { operands = b.operands; successors = b.successors } in y) a.made;
      }

no_front : {X : Type 0} (xs ys : List X) → xs ++ ys ≡ [] → xs ≡ []
no_front [] ys e = refl
no_front (x ∷ xs) ys e = absurd cc

-- where uses before one of them were linked, operations stand but for what they use
module _ {K A T : Type 0} (isolated : K → Bool) (s t : ContextView K A T) (us before after : List PendingUse)
    (ms : List Mention) (k : KeepsShape s t) (are : us ≡ before ++ after)
    (linked : AreUsesLinked (values_in ms) (labels_in ms) s t before) where
  types_grow : Grows s.types t.types
  types_grow = subst (Grows s.types) (sym k.nodes.types) (Grows-itself s.types)

  unused_before : (n : IRNode) → uses_at n us ≡ [] → uses_at n before ≡ []
  unused_before (Operation p) e =
      no_front (uses_by p before) (uses_by p after) (sym (uses_by-append p before after) ∙ sym (ap (uses_by p) are) ∙ e)
  unused_before (Region p) e = refl
  unused_before (BasicBlock p) e = refl

  own_made : (at : Scope) (n : IRNode) (h : Header K) → IsLive s n → IsOwnNoted s us at n h → IsOwnMade t n h
  own_made at (Region p) h live e = absurd e.holds
  own_made at (BasicBlock p) h live e = absurd e.holds
  own_made at (Operation p) h live e =
      let l = linked p live (own_op h.kind (result_names h.names) e.entries e.result_types e.successors) e.holds in
      let u = steps_use (values_in ms) (labels_in ms) s (uses_by p before) _ l.0 l.2 in
      record {
        entries = e.entries;
        result_types = e.result_types;
        operands = u.operands;
        successors = u.successors;
        holds = l.1 ∙ ap (λ (z : OpView K A). Some z) u.made;
        entries_meant = IsDictMeant-grown s.types t.types types_grow h.entries e.entries e.entries_meant;
        results_typed = NamesAll-grown s.types t.types e.result_types h.signature.result_types types_grow
            e.results_typed;
      }

  front_made : (at : Scope) (n : IRNode) (f : Front K) → IsLive s n → IsFrontNoted s us at n f → IsFrontMade t at n f
  front_made at n (bodied_front h) live e =
      header_on s t types_grow n (unused isolated s t before ms k linked n live (unused_before n e.1)) h e.0
  front_made at n (constant_front w a ty) live e =
      constant_on s t types_grow n (unused isolated s t before ms k linked n live (unused_before n e.1))
      (result_names (w ∷ [])) (a, ty) (k.nodes.children n) e.0
  front_made at n (own_front h) live e = own_made at n h live e

  pub ir_made : IsStanding s → (n : IRNode) (o : IrOp K) → IsLive s n →
      IsIrAt isolated s (IsFrontNoted s us) nowhere n o → IsIrAt isolated t (IsFrontMade t) nowhere n o
  ir_made w n o live e =
      ir_kept isolated s t (λ m. IsLive s m) (λ m p. k.nodes.children m) (λ m x p h. w.forest.child_live m x h)
      (IsFrontNoted s us) (IsFrontMade t) front_made
      (λ m b p. block_head_on s t types_grow m (block_same isolated s t before ms k linked m) b) nowhere n o live e

-- a text that was read, where a use of it fails
module _ {K A T : Type 0} (find : List ℕ → Option K) (isolated : K → Bool) (n : ℕ) (bytes : List ℕ)
    (a s t : ContextView K A T) (old new : Notes) (m : IRNode) (r : ReadsText find isolated n bytes a s old new m)
    (k : KeepsShape s t) (w : IsStanding s) (live : IsLive s m) (none : old.uses.items ≡ [])
    (no_value : SaysValues old.values []) (no_label : SaysLabels old.labels []) where
  abbrev Said : List Mention
  Said = op_mentions isolated s nowhere m r.op

  outside : (v : List ℕ) → block_meant Said (None, v) ≡ Unknown
  outside v = ap (λ l. meaning same_word l (None, v)) (sym r.noted.labels.1) ∙
      ap meaning_by (none_outside v r.noted.labels.0)

  all_uses : new.uses.items ≡ r.noted.more
  all_uses = r.noted.added ∙ ap (λ (l : List PendingUse). l ++ r.noted.more) none

  said_still : op_mentions isolated t nowhere m r.op ≡ Said
  said_still =
      op_says isolated s t (λ x. IsLive s x) (λ x p. k.nodes.children x) (λ x y p h. w.forest.child_live x y h) nowhere m
      r.op live

  use_fault : (fault : IrFault) → StopsAtUse (values_in Said) (labels_in Said) s t new.uses.items fault →
      HasUseFault find isolated n t bytes fault
  use_fault fault f =
      let noted = subst (λ (l : List NotedUse). AreMentioned s.types l (uses_in Said))
      (ap (map noted_use) (sym all_uses ∙ f.are) ∙ map-append noted_use f.before (f.stops ∷ f.after)) r.noted.mentioned
      in
      let u = mention_of s.types (map noted_use f.before) (noted_use f.stops) (map noted_use f.after) (uses_in Said)
      noted in
      record {
        root = m;
        op = r.op;
        text = r.text;
        stands = ir_made isolated s t new.uses.items f.before (f.stops ∷ f.after) Said k f.are f.linked w m r.op live
            r.stands;
        use_of = u.0;
        used = subst (λ ms. Has (uses_in ms) u.0) (sym said_still) u.1;
        unmeant = subst (λ ms. IsUnmeant t ms fault u.0) (sym said_still)
            (unmeant_as s t k Said outside fault (noted_use f.stops) u.0 u.2 f.fault_is);
      }

  pub text_fails : (stop : IrStop) → FailsUses new s t new.uses.items stop →
      IsAtUse find isolated n t bytes (fault_of stop)
  text_fails (Reading stop) h = tt
  text_fails (Use (Text f) left) h = tt
  text_fails (Use UnknownName left) h = use_fault UnknownName (h (values_in Said) (labels_in Said)
      (says_values old.values new.values (values_in Said) no_value r.noted.values)
      (says_labels old.labels new.labels (labels_in Said) no_label r.noted.labels))
  text_fails (Use AmbiguousName left) h = use_fault AmbiguousName (h (values_in Said) (labels_in Said)
      (says_values old.values new.values (values_in Said) no_value r.noted.values)
      (says_labels old.labels new.labels (labels_in Said) no_label r.noted.labels))
  text_fails (Use TypeMismatch left) h = use_fault TypeMismatch (h (values_in Said) (labels_in Said)
      (says_values old.values new.values (values_in Said) no_value r.noted.values)
      (says_labels old.labels new.labels (labels_in Said) no_label r.noted.labels))
