-- What is noted, as more is read.
use Rattle.std.proofs.Common.{◌≡◌, ◌++◌, ◌&&◌, Bool, true, false, cond, nat_eq, List, [], ◌∷◌, Option, Some, None, map}
use Rattle.std.proofs.Common.{refl, sym, ap, ap₂, subst, ◌∙◌, append-nil, append_assoc}
use Rattle.std.specs.Option.{option_eq}
use Rattle.std.specs.Prelude.{All}
use Rattle.std.specs.Str.{bytes_eq}
use Rattle.std.proofs.lemmas.List.{map-append}
use Rattle.std.proofs.lemmas.List.Elements.{All-nil, All-head, All-tail, All-append}
use Rattle.plir_names.specs.Meanings.{Says, bearers, meaning_by}
use Rattle.plir_names.specs.Tables.{meanings}
use Rattle.plir_names.specs.declared.names.NameTable.{NameTable}
use Rattle.plir_data.specs.Types.{TypeView}
use Rattle.plir_attr_text.specs.Names.{Grows}
use Rattle.plir_attr_text.specs.laws.Growth.{Names-grown}
use Rattle.plir_core.specs.ContextView.{ContextView, IsLive, is_live}
use Rattle.plir_core.specs.Made.{KeepsLive}
use Rattle.plir_core.specs.SameValue.{ptr-exact, same_ptr}
use Rattle.plir_core.specs.declared.ptr.Ptr.{Ptr}
use Rattle.plir_core.specs.declared.ptr.Operation.{Operation as OperationKind}
use Rattle.plir_core.specs.declared.ptr.Region.{Region as RegionKind}
use Rattle.plir_core.specs.declared.ptr.BasicBlock.{BasicBlock as BlockKind}
use Rattle.plir_core.specs.declared.ptr.IRNode.{IRNode}
use Rattle.plir_core.specs.declared.ptr.IRNode.TheVariants.{Operation, Region, BasicBlock}
use Rattle.plir_core.specs.declared.value.Value.{Value}
use Rattle.plir_read_ir.specs.Mentions.{Mention, value_bears, block_bears, operand_named, successor_named, WordIn}
use Rattle.plir_read_ir.specs.Mentions.{labels_in, same_word, uses_in, values_in}
use Rattle.plir_read_ir.specs.Noting.{AreReady, Bears, IsPending, LabelInRegion, NameInBody, same_label, same_name}
use Rattle.plir_read_ir.specs.Noting.{same_pointer}
use Rattle.plir_read_ir.specs.Readings.{AddsLabels, AddsValues, AreMentioned, IsMentioned, IsNoted}
use Rattle.plir_read_ir.specs.Readings.{NotedUse, noted_operand, noted_successor, SaysLabels, SaysValues, noted_use}
use Rattle.plir_read_ir.specs.Readings.{plain_label, plain_name, uses_at, uses_by}
use Rattle.plir_read_ir.specs.declared.notes.Notes.{Notes}
use Rattle.plir_read_ir.specs.declared.notes.PendingUse.{PendingUse}
use Rattle.plir_read_ir.proofs.Noted.{all_as, dead_before}

-- ---- words as they stand in the text

and_true : (a : Bool) → (a && true) ≡ a
and_true true = refl
and_true false = refl

same_ptrs : {X : Type 0} (p q : Ptr X) → same_pointer p q ≡ same_ptr p q
same_ptrs p q = ap (λ b. nat_eq p.slot q.slot && b) (and_true (nat_eq p.version q.version))

same_options : {X : Type 0} (p q : Option (Ptr X)) → option_eq same_pointer p q ≡ option_eq same_ptr p q
same_options None None = refl
same_options None (Some q) = refl
same_options (Some p) None = refl
same_options (Some p) (Some q) = same_ptrs p q

plain_bearers : (bs : List (NameInBody × Value)) (n : NameInBody) →
    bearers same_name bs n ≡ bearers same_word (map plain_name bs) (n.0, n.1.now)
plain_bearers [] n = refl
plain_bearers (b ∷ bs) n = ap₂ (λ (t : Bool) (l : List Value). cond t (b.1 ∷ l) l)
    (ap (λ t. t && bytes_eq b.0.1.now n.1.now) (same_options b.0.0 n.0)) (plain_bearers bs n)

label_bearers : (bs : List (LabelInRegion × Ptr BlockKind)) (l : LabelInRegion) →
    bearers same_label bs l ≡ bearers same_word (map plain_label bs) (Some l.0, l.1.now)
label_bearers [] l = refl
label_bearers (b ∷ bs) l = ap₂ (λ (t : Bool) (m : List (Ptr BlockKind)). cond t (b.1 ∷ m) m)
    (ap (λ t. t && bytes_eq b.0.1.now l.1.now) (same_ptrs b.0.0 l.0)) (label_bearers bs l)

-- a table in which nothing was borne says of each name what it means among those that have come
pub says_values : (old new : NameTable NameInBody Value) (ws : List (WordIn OperationKind × Value)) →
    SaysValues old [] → AddsValues old new ws → SaysValues new ws
says_values old new ws none adds = subst (SaysValues new) adds.1
    (λ n. adds.2 [] none n ∙ ap meaning_by (plain_bearers adds.0 n))

pub says_labels : (old new : NameTable LabelInRegion (Ptr BlockKind)) (ws : List (WordIn RegionKind × Ptr BlockKind)) →
    SaysLabels old [] → AddsLabels old new ws → SaysLabels new ws
says_labels old new ws none adds = subst (SaysLabels new) adds.1
    (λ l. adds.2 [] none l ∙ ap meaning_by (label_bearers adds.0 l))

-- ---- one after the other

module _ {N V W : Type 0} (same : N → N → Bool) (plain : N × V → W) where
  bears_none : (t : NameTable N V) → Bears same t t []
  bears_none t listed h = subst (Says same (meanings same t)) (sym (append-nil listed)) h

  bears_on : (a b c : NameTable N V) (xs ys : List (N × V)) → Bears same a b xs → Bears same b c ys →
      Bears same a c (xs ++ ys)
  bears_on a b c xs ys f g listed h =
      subst (Says same (meanings same c)) (append_assoc listed xs ys) (g (listed ++ xs) (f listed h))

  abbrev pub Adds : (old new : NameTable N V) → List W → Type 0
  Adds old new more = (added : List (N × V)) × (map plain added ≡ more) × Bears same old new added

  pub adds_none : (t : NameTable N V) → Adds t t []
  adds_none t = ([], refl, bears_none t)

  pub adds_on : (a b c : NameTable N V) (xs ys : List W) → Adds a b xs → Adds b c ys → Adds a c (xs ++ ys)
  adds_on a b c xs ys p q =
      (p.0 ++ q.0, map-append plain p.0 q.0 ∙ ap₂ (λ (x y : List W). x ++ y) p.1 q.1, bears_on a b c p.0 q.0 p.2 q.2)

  pub adds_as : (a b : NameTable N V) (xs ys : List W) → xs ≡ ys → Adds a b xs → Adds a b ys
  adds_as a b xs ys e p = (p.0, p.1 ∙ e, p.2)

  pub adds_same : (a b : NameTable N V) → b ≡ a → Adds a b []
  adds_same a b e = subst (λ z. Adds a z []) (sym e) (adds_none a)

  -- one more bears a name, and then the table is the same
  pub adds_one : (a b c : NameTable N V) (xs : List W) (x : N × V) → Adds a b xs → Bears same b c (x ∷ []) →
      Adds a c (xs ++ plain x ∷ [])
  adds_one a b c xs x p f = adds_on a b c xs (plain x ∷ []) p (x ∷ [], refl, f)

pub values_in-append : (a b : List Mention) → values_in (a ++ b) ≡ values_in a ++ values_in b
values_in-append [] b = refl
values_in-append (value_bears w v ∷ a) b = ap (λ (l : List (WordIn OperationKind × Value)). (w, v) ∷ l) (values_in-append a b)
values_in-append (block_bears l x ∷ a) b = values_in-append a b
values_in-append (operand_named w t ∷ a) b = values_in-append a b
values_in-append (successor_named l ∷ a) b = values_in-append a b

pub labels_in-append : (a b : List Mention) → labels_in (a ++ b) ≡ labels_in a ++ labels_in b
labels_in-append [] b = refl
labels_in-append (value_bears w v ∷ a) b = labels_in-append a b
labels_in-append (block_bears l x ∷ a) b = ap (λ (z : List (WordIn RegionKind × Ptr BlockKind)). (l, x) ∷ z) (labels_in-append a b)
labels_in-append (operand_named w t ∷ a) b = labels_in-append a b
labels_in-append (successor_named l ∷ a) b = labels_in-append a b

pub uses_in-append : (a b : List Mention) → uses_in (a ++ b) ≡ uses_in a ++ uses_in b
uses_in-append [] b = refl
uses_in-append (value_bears w v ∷ a) b = uses_in-append a b
uses_in-append (block_bears l x ∷ a) b = uses_in-append a b
uses_in-append (operand_named w t ∷ a) b = ap (λ (l : List Mention). operand_named w t ∷ l) (uses_in-append a b)
uses_in-append (successor_named z ∷ a) b = ap (λ (l : List Mention). successor_named z ∷ l) (uses_in-append a b)

-- ---- uses that are mentioned

module _ {T : Type 0} (xs ys : List (TypeView T)) (grows : Grows xs ys) where
  mentioned_grown : (u : NotedUse) (m : Mention) → IsMentioned xs u m → IsMentioned ys u m
  mentioned_grown (noted_operand w h) (operand_named v t) e = (e.0, Names-grown xs ys h t grows e.1)
  mentioned_grown (noted_operand w h) (successor_named l) e = e
  mentioned_grown (noted_operand w h) (value_bears v x) e = e
  mentioned_grown (noted_operand w h) (block_bears l b) e = e
  mentioned_grown (noted_successor l i) (operand_named v t) e = e
  mentioned_grown (noted_successor l i) (successor_named k) e = e
  mentioned_grown (noted_successor l i) (value_bears v x) e = e
  mentioned_grown (noted_successor l i) (block_bears k b) e = e

  all_grown : (us : List NotedUse) (ms : List Mention) → AreMentioned xs us ms → AreMentioned ys us ms
  all_grown [] [] e = e
  all_grown [] (m ∷ ms) e = e
  all_grown (u ∷ us) [] e = e
  all_grown (u ∷ us) (m ∷ ms) e = (mentioned_grown u m e.0, all_grown us ms e.1)

pub mentioned_append : {T : Type 0} (types : List (TypeView T)) (us vs : List NotedUse) (ms ns : List Mention) →
    AreMentioned types us ms → AreMentioned types vs ns → AreMentioned types (us ++ vs) (ms ++ ns)
mentioned_append types [] vs [] ns e h = h
mentioned_append types [] vs (m ∷ ms) ns e h = absurd e
mentioned_append types (u ∷ us) vs [] ns e h = absurd e
mentioned_append types (u ∷ us) vs (m ∷ ms) ns e h = (e.0, mentioned_append types us vs ms ns e.1 h)

abbrev pub IsFresh : {K A T : Type 0} → ContextView K A T → PendingUse → Type 0
IsFresh s u = is_live s (Operation u.op) ≡ false

module _ {K A T : Type 0} where
  pub noted_none : (s : ContextView K A T) (n : Notes) → IsNoted s s n n []
  noted_none s n = record {
    values = adds_none same_name plain_name n.values;
    labels = adds_none same_label plain_label n.labels;
    more = [];
    added = sym (append-nil n.uses.items);
    fresh = All-nil (IsFresh s);
    mentioned = tt;
  }

  -- the same from a context with fewer nodes
  pub noted_since : (s t u : ContextView K A T) (old new : Notes) (ms : List Mention) → KeepsLive s.nodes t.nodes →
      IsNoted t u old new ms → IsNoted s u old new ms
  noted_since s t u old new ms k q = record {
    values = q.values;
    labels = q.labels;
    more = q.more;
    added = q.added;
    fresh = all_as (IsFresh t) (IsFresh s) q.more (λ u h. dead_before s t (Operation u.op) k h) q.fresh;
    mentioned = q.mentioned;
  }

  -- the same to a context with more types
  pub noted_grown : (s t u : ContextView K A T) (old new : Notes) (ms : List Mention) → Grows t.types u.types →
      IsNoted s t old new ms → IsNoted s u old new ms
  noted_grown s t u old new ms g q = record {
    values = q.values;
    labels = q.labels;
    more = q.more;
    added = q.added;
    fresh = q.fresh;
    mentioned = all_grown t.types u.types g (map noted_use q.more) (uses_in ms) q.mentioned;
  }

  pub noted_on : (s u : ContextView K A T) (old mid new : Notes) (a b : List Mention) → IsNoted s u old mid a →
      IsNoted s u mid new b → IsNoted s u old new (a ++ b)
  noted_on s u old mid new a b p q = record {
    values = adds_as same_name plain_name old.values new.values _ _ (sym (values_in-append a b))
        (adds_on same_name plain_name old.values mid.values new.values _ _ p.values q.values);
    labels = adds_as same_label plain_label old.labels new.labels _ _ (sym (labels_in-append a b))
        (adds_on same_label plain_label old.labels mid.labels new.labels _ _ p.labels q.labels);
    more = p.more ++ q.more;
    added = q.added ∙ ap (λ (l : List PendingUse). l ++ q.more) p.added ∙ append_assoc old.uses.items p.more q.more;
    fresh = All-append (IsFresh s) p.more q.more p.fresh q.fresh;
    mentioned = subst (λ l. AreMentioned u.types l (uses_in (a ++ b))) (sym (map-append noted_use p.more q.more))
        (subst (AreMentioned u.types (map noted_use p.more ++ map noted_use q.more)) (sym (uses_in-append a b))
        (mentioned_append u.types (map noted_use p.more) (map noted_use q.more) (uses_in a) (uses_in b) p.mentioned
        q.mentioned));
  }

  pub noted_as : (s t : ContextView K A T) (old new : Notes) (a b : List Mention) → a ≡ b → IsNoted s t old new a →
      IsNoted s t old new b
  noted_as s t old new a b e p = subst (IsNoted s t old new) e p

-- ---- what one operation uses

test_false : (b : Bool) → (b ≡ true → ⊥) → b ≡ false
test_false true h = absurd (h refl)
test_false false h = refl

module _ (p : Ptr OperationKind) where
  pub uses_by-append : (us vs : List PendingUse) → uses_by p (us ++ vs) ≡ uses_by p us ++ uses_by p vs
  uses_by-append [] vs = refl
  uses_by-append (u ∷ us) vs = at (same_ptr u.op p) (uses_by-append us vs)
    where
      at : (t : Bool) → uses_by p (us ++ vs) ≡ uses_by p us ++ uses_by p vs →
          cond t (noted_use u ∷ uses_by p (us ++ vs)) (uses_by p (us ++ vs)) ≡
          cond t (noted_use u ∷ uses_by p us) (uses_by p us) ++ uses_by p vs
      at true h = ap (λ (l : List NotedUse). noted_use u ∷ l) h
      at false h = h

  -- uses of others
  pub uses_by_others : (us : List PendingUse) → All (λ (u : PendingUse). u.op ≡ p → ⊥) us → uses_by p us ≡ []
  uses_by_others [] h = refl
  uses_by_others (u ∷ us) h =
      ap (λ t. cond t (noted_use u ∷ uses_by p us) (uses_by p us))
      (test_false (same_ptr u.op p) (λ e. All-head (λ (x : PendingUse). x.op ≡ p → ⊥) u us h ((ptr-exact u.op p).0 e))) ∙
      uses_by_others us (All-tail (λ (x : PendingUse). x.op ≡ p → ⊥) u us h)

  -- uses of its own
  pub uses_by_itself : (us : List PendingUse) → All (λ (u : PendingUse). u.op ≡ p) us → uses_by p us ≡ map noted_use us
  uses_by_itself [] h = refl
  uses_by_itself (u ∷ us) h =
      ap (λ t. cond t (noted_use u ∷ uses_by p us) (uses_by p us)) ((ptr-exact u.op p).1
      (All-head (λ (x : PendingUse). x.op ≡ p) u us h)) ∙
      ap (λ (l : List NotedUse). noted_use u ∷ l) (uses_by_itself us (All-tail (λ (x : PendingUse). x.op ≡ p) u us h))

module _ {K A T : Type 0} (s : ContextView K A T) where
  -- what was not there uses nothing of what was noted before
  pub no_old_uses : (p : Ptr OperationKind) (notes : Notes) → AreReady s notes → is_live s (Operation p) ≡ false →
      uses_by p notes.uses.items ≡ []
  no_old_uses p notes r e =
      uses_by_others p notes.uses.items (all_as (IsPending s) (λ (u : PendingUse). u.op ≡ p → ⊥) notes.uses.items
      (λ u h q. let z = sym h.live ∙ ap (λ x. is_live s (Operation x)) q ∙ e in cc) r.uses)

  -- what was there uses nothing of what was noted since
  no_new_uses : (p : Ptr OperationKind) (us : List PendingUse) → All (IsFresh s) us → IsLive s (Operation p) →
      uses_by p us ≡ []
  no_new_uses p us h live =
      uses_by_others p us (all_as (IsFresh s) (λ (u : PendingUse). u.op ≡ p → ⊥) us
      (λ u e q. let z = sym live ∙ ap (λ x. is_live s (Operation x)) (sym q) ∙ e in cc) h)

  pub uses_still : (t : ContextView K A T) (old new : Notes) (ms : List Mention) → IsNoted s t old new ms → (n : IRNode) → IsLive s n →
      uses_at n new.uses.items ≡ uses_at n old.uses.items
  uses_still t old new ms q (Operation p) live =
      ap (uses_by p) q.added ∙ uses_by-append p old.uses.items q.more ∙
      ap (λ (l : List NotedUse). uses_by p old.uses.items ++ l) (no_new_uses p q.more q.fresh live) ∙
      append-nil (uses_by p old.uses.items)
  uses_still t old new ms q (Region p) live = refl
  uses_still t old new ms q (BasicBlock p) live = refl
