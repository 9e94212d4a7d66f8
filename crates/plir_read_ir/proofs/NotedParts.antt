-- What is noted of one part of an operation or of a block.
use Rattle.std.proofs.Common.{◌≡◌, ◌++◌, ◌+◌, ℕ, suc, false, List, [], ◌∷◌, Option, Some, None}
use Rattle.std.proofs.Common.{length, option_map, refl, sym, ap, subst, ◌∙◌, append-nil, arith}
use Rattle.std.proofs.lemmas.List.Elements.{All-nil}
use Rattle.plir_data.specs.Types.{TypeView}
use Rattle.plir_core.specs.ContextView.{ContextView, is_live}
use Rattle.plir_core.specs.declared.ptr.Ptr.{Ptr}
use Rattle.plir_core.specs.declared.ptr.Operation.{Operation as OperationKind}
use Rattle.plir_core.specs.declared.ptr.Region.{Region as RegionKind}
use Rattle.plir_core.specs.declared.ptr.BasicBlock.{BasicBlock as BlockKind}
use Rattle.plir_core.specs.declared.ptr.IRNode.TheVariants.{Operation, BasicBlock}
use Rattle.plir_core.specs.declared.value.Value.{Value}
use Rattle.plir_attr_text.specs.Names.{Names, NamesAll}
use Rattle.plir_attr_text.specs.Terms.{TypeTerms, no_types, type_before}
use Rattle.plir_read_own.specs.OwnTerms.{Signature, Uses}
use Rattle.plir_read_ir.specs.Mentions.{Mention, operand_named, successor_named, Scope}
use Rattle.plir_read_ir.specs.Mentions.{arguments_bear}
use Rattle.plir_read_ir.specs.Mentions.{label_bears, labels_in, operands_named}
use Rattle.plir_read_ir.specs.Mentions.{results_bear, successors_named, uses_in, uses_named, values_bear, values_in}
use Rattle.plir_read_ir.specs.Noting.{AreReady, Bears, LabelInRegion, places, same_label, same_name}
use Rattle.plir_read_ir.specs.Readings.{AddsLabels, AddsNoted, AddsValues, AreMentioned, IsNoted}
use Rattle.plir_read_ir.specs.Readings.{NotedUse}
use Rattle.plir_read_ir.specs.Readings.{noted_operands}
use Rattle.plir_read_ir.specs.Readings.{noted_successors, place_in, plain_label, plain_name, uses_by}
use Rattle.plir_read_ir.specs.declared.notes.Notes.{Notes}
use Rattle.plir_read_ir.specs.declared.notes.PendingUse.{PendingUse}
use Rattle.plir_read_ir.proofs.Noted.{all_as}
use Rattle.plir_read_ir.proofs.Says.{IsFresh, adds_same, mentioned_append, no_old_uses}
use Rattle.plir_read_ir.proofs.Says.{uses_by-append, uses_by_itself}

-- ---- mentions of one kind

no_labels : (body : Option (Ptr OperationKind)) (value : ℕ → Value) (i : ℕ) (ws : List (List ℕ)) →
    labels_in (values_bear body value i ws) ≡ []
no_labels body value i [] = refl
no_labels body value i (w ∷ ws) = no_labels body value (suc i) ws

no_uses : (body : Option (Ptr OperationKind)) (value : ℕ → Value) (i : ℕ) (ws : List (List ℕ)) →
    uses_in (values_bear body value i ws) ≡ []
no_uses body value i [] = refl
no_uses body value i (w ∷ ws) = no_uses body value (suc i) ws

module _ (body : Option (Ptr OperationKind)) where
  operand_values : (ws : List (List ℕ)) (ts : TypeTerms) (ms : List Mention) →
      values_in (operands_named body ws ts ++ ms) ≡ values_in ms
  operand_values [] ts ms = refl
  operand_values (w ∷ ws) no_types ms = refl
  operand_values (w ∷ ws) (type_before t ts) ms = operand_values ws ts ms

  operand_labels : (ws : List (List ℕ)) (ts : TypeTerms) (ms : List Mention) →
      labels_in (operands_named body ws ts ++ ms) ≡ labels_in ms
  operand_labels [] ts ms = refl
  operand_labels (w ∷ ws) no_types ms = refl
  operand_labels (w ∷ ws) (type_before t ts) ms = operand_labels ws ts ms

  operand_uses : (ws : List (List ℕ)) (ts : TypeTerms) (ms : List Mention) →
      uses_in (operands_named body ws ts ++ ms) ≡ operands_named body ws ts ++ uses_in ms
  operand_uses [] ts ms = refl
  operand_uses (w ∷ ws) no_types ms = refl
  operand_uses (w ∷ ws) (type_before t ts) ms =
      ap (λ (l : List Mention). operand_named (body, w) t ∷ l) (operand_uses ws ts ms)

module _ (region : Option (Ptr RegionKind)) where
  successor_values : (ws : List (List ℕ)) → values_in (successors_named region ws) ≡ []
  successor_values [] = refl
  successor_values (w ∷ ws) = successor_values ws

  successor_labels : (ws : List (List ℕ)) → labels_in (successors_named region ws) ≡ []
  successor_labels [] = refl
  successor_labels (w ∷ ws) = successor_labels ws

  successor_uses : (ws : List (List ℕ)) → uses_in (successors_named region ws) ≡ successors_named region ws
  successor_uses [] = refl
  successor_uses (w ∷ ws) = ap (λ (l : List Mention). successor_named (region, w) ∷ l) (successor_uses ws)

module _ {T : Type 0} (types : List (TypeView T)) where
  successors_mentioned : (region : Option (Ptr RegionKind)) (i : ℕ) (ws : List (List ℕ)) →
      AreMentioned types (noted_successors region i ws) (successors_named region ws)
  successors_mentioned region i [] = tt
  successors_mentioned region i (w ∷ ws) = (refl, successors_mentioned region (i + 1) ws)

  operands_mentioned : (body : Option (Ptr OperationKind)) (ws : List (List ℕ)) (handles : List ℕ) (ts : TypeTerms) →
      length ws ≡ length handles → NamesAll types handles ts →
      AreMentioned types (noted_operands body ws handles) (operands_named body ws ts)
  operands_mentioned body [] handles ts many n = tt
  operands_mentioned body (w ∷ ws) [] ts many n = absurd (omega (arith, many))
  operands_mentioned body (w ∷ ws) (h ∷ hs) no_types many n = absurd (let z : h ∷ hs ≡ [] = n in cc)
  operands_mentioned body (w ∷ ws) (h ∷ hs) (type_before t ts) many n =
      let head : h ≡ n.0 = let z : h ∷ hs ≡ n.0 ∷ n.1 = n.4 in cc in
      let tail : hs ≡ n.1 = let z : h ∷ hs ≡ n.0 ∷ n.1 = n.4 in cc in (
        (refl, subst (λ x. Names types x t) (sym head) n.2),
        operands_mentioned body ws hs ts (omega (arith, many)) (subst (λ l. NamesAll types l ts) (sym tail) n.3),
      )

-- ---- what is noted of one part

module _ {K A T : Type 0} (s t : ContextView K A T) where
  -- values bear names
  pub noted_values : (old new : Notes) (ms : List Mention) → AddsValues old.values new.values (values_in ms) →
      new.labels ≡ old.labels → new.uses ≡ old.uses → labels_in ms ≡ [] → uses_in ms ≡ [] → IsNoted s t old new ms
  noted_values old new ms v l u no_label no_use = record {
    values = v;
    labels = subst (AddsLabels old.labels new.labels) (sym no_label) (adds_same same_label plain_label old.labels new.labels l);
    more = [];
    added = ap (λ z. z.items) u ∙ sym (append-nil old.uses.items);
    fresh = All-nil (IsFresh s);
    mentioned = subst (AreMentioned t.types []) (sym no_use) tt;
  }

  pub noted_results : (old new : Notes) (body : Option (Ptr OperationKind)) (p : Ptr OperationKind)
      (ws : List (List ℕ)) → AddsValues old.values new.values (values_in (results_bear body (Operation p) ws)) →
      new.labels ≡ old.labels → new.uses ≡ old.uses → IsNoted s t old new (results_bear body (Operation p) ws)
  noted_results old new body p ws v l u =
      noted_values old new (results_bear body (Operation p) ws) v l u (no_labels body _ 0 ws) (no_uses body _ 0 ws)

  pub noted_arguments : (old new : Notes) (body : Option (Ptr OperationKind)) (p : Ptr BlockKind)
      (ws : List (List ℕ)) → AddsValues old.values new.values (values_in (arguments_bear body (BasicBlock p) ws)) →
      new.labels ≡ old.labels → new.uses ≡ old.uses → IsNoted s t old new (arguments_bear body (BasicBlock p) ws)
  noted_arguments old new body p ws v l u =
      noted_values old new (arguments_bear body (BasicBlock p) ws) v l u (no_labels body _ 0 ws) (no_uses body _ 0 ws)

  -- a block bears a label
  pub noted_label : (old new : Notes) (l : LabelInRegion) (p : Ptr BlockKind) → Bears same_label old.labels new.labels
      ((l, p) ∷ []) → new.values ≡ old.values → new.uses ≡ old.uses →
      IsNoted s t old new (label_bears (Some l.0) (BasicBlock p) l.1.now)
  noted_label old new l p f v u = record {
    values = adds_same same_name plain_name old.values new.values v;
    labels = ((l, p) ∷ [], refl, f);
    more = [];
    added = ap (λ z. z.items) u ∙ sym (append-nil old.uses.items);
    fresh = All-nil (IsFresh s);
    mentioned = tt;
  }

  -- an operation that was not there uses something
  pub noted_uses : (old new : Notes) (p : Ptr OperationKind) (at : Scope) (u : Uses) (g : Signature)
      (types : List ℕ) → length u.operands ≡ length types → NamesAll t.types types g.operand_types →
      is_live s (Operation p) ≡ false →
      AddsNoted p (noted_operands at.body u.operands types ++ noted_successors at.region 0 u.successors)
      old.uses.items new.uses.items → new.values ≡ old.values → new.labels ≡ old.labels →
      IsNoted s t old new (uses_named at u g)
  noted_uses old new p at u g types many named e a v l = record {
    values = subst (AddsValues old.values new.values)
        (sym (operand_values at.body u.operands g.operand_types (successors_named at.region u.successors) ∙
        successor_values at.region u.successors)) (adds_same same_name plain_name old.values new.values v);
    labels = subst (AddsLabels old.labels new.labels)
        (sym (operand_labels at.body u.operands g.operand_types (successors_named at.region u.successors) ∙
        successor_labels at.region u.successors)) (adds_same same_label plain_label old.labels new.labels l);
    more = a.0;
    added = a.1;
    fresh = all_as (λ (x : PendingUse). x.op ≡ p) (IsFresh s) a.0
        (λ x h. ap (λ z. is_live s (Operation z)) h ∙ e) a.2;
    mentioned = subst (λ (x : List NotedUse). AreMentioned t.types x (uses_in (uses_named at u g))) (sym a.3)
        (subst (AreMentioned t.types (noted_operands at.body u.operands types ++
        noted_successors at.region 0 u.successors))
        (sym (operand_uses at.body u.operands g.operand_types (successors_named at.region u.successors) ∙
        ap (λ (x : List Mention). operands_named at.body u.operands g.operand_types ++ x)
        (successor_uses at.region u.successors)))
        (mentioned_append t.types (noted_operands at.body u.operands types)
        (noted_successors at.region 0 u.successors) (operands_named at.body u.operands g.operand_types)
        (successors_named at.region u.successors)
        (operands_mentioned t.types at.body u.operands types g.operand_types many named)
        (successors_mentioned t.types at.region 0 u.successors)));
  }

  -- it uses nothing else
  pub uses_alone : (old mid new : Notes) (p : Ptr OperationKind) (us : List NotedUse) → AreReady s old →
      is_live s (Operation p) ≡ false → mid.uses ≡ old.uses → AddsNoted p us mid.uses.items new.uses.items →
      uses_by p new.uses.items ≡ us
  uses_alone old mid new p us r e same a =
      ap (uses_by p) a.1 ∙ uses_by-append p mid.uses.items a.0 ∙
      ap (λ (l : List NotedUse). l ++ uses_by p a.0)
      (ap (λ z. uses_by p z.items) same ∙ no_old_uses s p old r e) ∙ uses_by_itself p a.0 a.2 ∙ a.3

pub as_many_blocks : (block : Option (Ptr RegionKind × Ptr BlockKind)) (n : ℕ) →
    places block n ≡ place_in (option_map (λ (b : Ptr RegionKind × Ptr BlockKind). b.0) block) n
as_many_blocks None n = refl
as_many_blocks (Some b) n = refl
