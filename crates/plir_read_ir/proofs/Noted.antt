-- What is noted goes on standing while a text is read.
use Rattle.std.proofs.Common.{◌≡◌, ◌&&◌, ◌++◌, ℕ, Bool, true, false, cond, nat_lt, List, [], ◌∷◌, length, Option}
use Rattle.std.proofs.Common.{Some, None, option_map, refl, sym, ap, subst, ◌∙◌, append_assoc, append-nil, arith}
use Rattle.std.specs.Prelude.{All}
use Rattle.std.proofs.lemmas.List.{length-replicate}
use Rattle.std.proofs.lemmas.List.Elements.{All-nil, All-cons, All-head, All-tail, All-append}
use Rattle.plir_names.specs.Meanings.{Says, bearers, meaning_by}
use Rattle.plir_names.specs.Tables.{meanings}
use Rattle.plir_names.specs.declared.names.Meaning.TheVariants.{Only}
use Rattle.plir_names.specs.declared.names.NameTable.{NameTable}
use Rattle.plir_core.specs.ContextView.{ContextView, IsLive, IsValueLive, is_live, successors_of, types_from}
use Rattle.plir_core.specs.ContextView.{entity_node}
use Rattle.plir_core.specs.ContextView.{results_in, successors_in, arguments_in, op_at, block_at}
use Rattle.plir_core.specs.Placed.{IsPlaced, MovesOnly}
use Rattle.plir_store.specs.Table.{content_at, is_live_at}
use Rattle.plir_core.specs.Made.{KeepsLive}
use Rattle.plir_core.specs.declared.ptr.Ptr.{Ptr}
use Rattle.plir_core.specs.declared.ptr.Operation.{Operation as OperationKind}
use Rattle.plir_core.specs.declared.ptr.Region.{Region as RegionKind}
use Rattle.plir_core.specs.declared.ptr.BasicBlock.{BasicBlock as BlockKind}
use Rattle.plir_core.specs.declared.ptr.IRNode.{IRNode}
use Rattle.plir_core.specs.declared.ptr.IRNode.TheVariants.{Operation, Region, BasicBlock}
use Rattle.plir_core.specs.declared.value.Value.{Value}
use Rattle.plir_core.specs.declared.value.DefiningEntity.{DefiningEntity}
use Rattle.plir_core.specs.declared.value.DefiningEntity.TheVariants.{Op, Block}
use Rattle.plir_read.specs.laws.Kept.{KeepsLive-on}
use Rattle.plir_read_ir.specs.Noting.{AddsUses, AreNew, AreReady, BearAll, Bears, IsBlockLive, IsPending, IsPlaceOf}
use Rattle.plir_read_ir.specs.Noting.{IsUseOf, LabelInRegion, NameInBody, NotesOn, places, same_label, same_name}
use Rattle.plir_read_ir.specs.OwnOps.{times}
use Rattle.plir_read_ir.specs.declared.notes.Notes.{Notes}
use Rattle.plir_read_ir.specs.declared.notes.PendingUse.{PendingUse}
use Rattle.plir_read_ir.specs.declared.notes.Wanted.{Wanted}
use Rattle.plir_read_ir.specs.declared.notes.Wanted.TheVariants.{Operand, Successor, Nothing}

-- ---- lists and tests

pub all_as : {X : Type 0} (P Q : X → Type 0) (xs : List X) → ((x : X) → P x → Q x) → All P xs → All Q xs
all_as P Q [] f h = All-nil Q
all_as P Q (x ∷ xs) f h = All-cons Q x xs (f x (All-head P x xs h)) (all_as P Q xs f (All-tail P x xs h))

pub all_and : (a b : Bool) → (a && b) ≡ true → (a ≡ true) × (b ≡ true)
all_and true b e = (refl, e)
all_and false b e = absurd cc

pub both_true : (a b : Bool) → a ≡ true → b ≡ true → (a && b) ≡ true
both_true a b p q = rw (p, q) refl

pub dead_before : {K A T : Type 0} (first s : ContextView K A T) (n : IRNode) → KeepsLive first.nodes s.nodes →
    is_live s n ≡ false → is_live first n ≡ false
dead_before first s n k e = at (is_live first n) refl
  where
    at : (b : Bool) → is_live first n ≡ b → is_live first n ≡ false
    at true h = let z = sym (k.live n h) ∙ e in absurd cc
    at false h = h

-- ---- tables

module _ {N V : Type 0} (same : N → N → Bool) (P : V → Type 0) where
  pub bear_one : (old new : NameTable N V) (n : N) (v : V) → Bears same old new ((n, v) ∷ []) → P v →
      BearAll same P old → BearAll same P new
  bear_one old new n v f p b = (
    b.0 ++ (n, v) ∷ [],
    f b.0 b.1,
    All-append (λ (x : N × V). P x.1) b.0 ((n, v) ∷ []) b.2
        (All-cons (λ (x : N × V). P x.1) (n, v) [] p (All-nil (λ (x : N × V). P x.1))),
  )

  one_more_passes : (v : V) (vs : List V) → P v → All P vs → (b : Bool) → All P (cond b (v ∷ vs) vs)
  one_more_passes v vs p h true = All-cons P v vs p h
  one_more_passes v vs p h false = h

  bearers_pass : (n : N) (bs : List (N × V)) → All (λ (b : N × V). P b.1) bs → All P (bearers same bs n)
  bearers_pass n [] h = All-nil P
  bearers_pass n (b ∷ bs) h =
      one_more_passes b.1 (bearers same bs n) (All-head (λ (x : N × V). P x.1) b bs h)
      (bearers_pass n bs (All-tail (λ (x : N × V). P x.1) b bs h)) (same b.0 n)

  only_passes : (v : V) (vs : List V) → All P vs → meaning_by vs ≡ Only v → P v
  only_passes v [] h e = absurd cc
  only_passes v (w ∷ []) h e = let same : w ≡ v = cc in subst P same (All-head P w [] h)
  only_passes v (w ∷ x ∷ vs) h e = absurd cc

  -- what a name means passes
  pub meant_passes : (table : NameTable N V) (n : N) (v : V) → BearAll same P table → meanings same table n ≡ Only v →
      P v
  meant_passes table n v b e = only_passes v (bearers same b.0 n) (bearers_pass n b.0 b.2) (sym (b.1 n) ∙ e)

pub bear_as : {N V : Type 0} (same : N → N → Bool) (P Q : V → Type 0) (table : NameTable N V) →
    ((v : V) → P v → Q v) → BearAll same P table → BearAll same Q table
bear_as {N} {V} same P Q table f b =
    (b.0, b.1, all_as (λ (x : N × V). P x.1) (λ (x : N × V). Q x.1) b.0 (λ x h. f x.1 h) b.2)

-- ---- as a context grows, or nodes come under others

module _ {K A T : Type 0} where
  -- what was live is live, and holds what it held
  pub record HoldsOn (s t : ContextView K A T) : Type 0 where
    pub live : (m : IRNode) → IsLive s m → IsLive t m
    pub ops : (p : Ptr OperationKind) → IsLive s (Operation p) → op_at t p ≡ op_at s p
    pub blocks : (p : Ptr BlockKind) → IsLive s (BasicBlock p) → block_at t p ≡ block_at s p

  pub holds_itself : (s : ContextView K A T) → HoldsOn s s
  holds_itself s = record { live = λ m e. e; ops = λ p e. refl; blocks = λ p e. refl }

  pub holds_on : (s t u : ContextView K A T) → HoldsOn s t → HoldsOn t u → HoldsOn s u
  holds_on s t u p q = record {
    live = λ m e. q.live m (p.live m e);
    ops = λ o e. q.ops o (p.live (Operation o) e) ∙ p.ops o e;
    blocks = λ b e. q.blocks b (p.live (BasicBlock b) e) ∙ p.blocks b e;
  }

  pub holds_kept : (s t : ContextView K A T) → KeepsLive s.nodes t.nodes → HoldsOn s t
  holds_kept s t k = record { live = k.live; ops = k.ops; blocks = k.blocks }

  live_moved : (s t : ContextView K A T) (n : IRNode) → MovesOnly s.nodes t.nodes n → (m : IRNode) →
      is_live t m ≡ is_live s m
  live_moved s t n o (Operation p) = ap (λ z. is_live_at z p.slot p.version) o.ops
  live_moved s t n o (Region p) = ap (λ z. is_live_at z p.slot p.version) o.regions
  live_moved s t n o (BasicBlock p) = ap (λ z. is_live_at z p.slot p.version) o.blocks

  pub holds_placed : (s t : ContextView K A T) (n over : IRNode) (ks : List IRNode) →
      IsPlaced s.nodes t.nodes n over ks → HoldsOn s t
  holds_placed s t n over ks p = record {
    live = λ m e. live_moved s t n p.moved m ∙ e;
    ops = λ o e. ap (λ z. content_at z o.slot) p.moved.ops;
    blocks = λ b e. ap (λ z. content_at z b.slot) p.moved.blocks;
  }

module _ {K A T : Type 0} (s t : ContextView K A T) (k : HoldsOn s t) where
  types_still : (e : DefiningEntity) → IsLive s (entity_node e) → types_from t e ≡ types_from s e
  types_still (Op p) h = ap results_in (k.ops p h)
  types_still (Block p) h = ap arguments_in (k.blocks p h)

  pub value_still : (v : Value) → IsValueLive s v → IsValueLive t v
  value_still v h =
      let p = all_and (is_live s (entity_node v.entity)) (nat_lt v.index (length (types_from s v.entity))) h in
      both_true (is_live t (entity_node v.entity)) (nat_lt v.index (length (types_from t v.entity)))
      (k.live (entity_node v.entity) p.0)
      (subst (λ (l : List ℕ). nat_lt v.index (length l) ≡ true) (sym (types_still v.entity p.0)) p.1)

  pub pending_still : (u : PendingUse) → IsPending s u → IsPending t u
  pending_still u h = record {
    live = k.live (Operation u.op) h.live;
    place = subst (λ n. IsPlaceOf n u.wanted) (sym (ap (λ o. length (successors_in o)) (k.ops u.op h.live))) h.place;
  }

  pub ready_still : (notes : Notes) → AreReady s notes → AreReady t notes
  ready_still notes r = record {
    values = bear_as same_name (IsValueLive s) (IsValueLive t) notes.values value_still r.values;
    labels = bear_as same_label (λ b. IsLive s (BasicBlock b)) (λ b. IsLive t (BasicBlock b)) notes.labels
        (λ b h. k.live (BasicBlock b) h) r.labels;
    uses = all_as (IsPending s) (IsPending t) notes.uses.items pending_still r.uses;
  }

  pub block_still : (block : Option (Ptr RegionKind × Ptr BlockKind)) → IsBlockLive s block → IsBlockLive t block
  block_still None h = tt
  block_still (Some around) h = k.live (BasicBlock around.1) h

-- ---- as more is noted

module _ {K A T : Type 0} (s : ContextView K A T) (old new : Notes) (r : AreReady s old) where
  -- values bear names
  pub ready_borne : (BearAll same_name (IsValueLive s) old.values → BearAll same_name (IsValueLive s) new.values) →
      new.labels ≡ old.labels → new.uses ≡ old.uses → AreReady s new
  ready_borne f e h = record {
    values = f r.values;
    labels = subst (λ z. BearAll same_label (λ b. IsLive s (BasicBlock b)) z) (sym e) r.labels;
    uses = subst (λ z. All (IsPending s) z.items) (sym h) r.uses;
  }

  -- a block bears a label
  pub ready_labelled : (n : LabelInRegion) (block : Ptr BlockKind) → Bears same_label old.labels new.labels
      ((n, block) ∷ []) → IsLive s (BasicBlock block) → new.values ≡ old.values → new.uses ≡ old.uses →
      AreReady s new
  ready_labelled n block f live e h = record {
    values = subst (λ z. BearAll same_name (IsValueLive s) z) (sym e) r.values;
    labels = bear_one same_label (λ b. IsLive s (BasicBlock b)) old.labels new.labels n block f live r.labels;
    uses = subst (λ z. All (IsPending s) z.items) (sym h) r.uses;
  }

  -- an operation uses more
  pub ready_used : (p : Ptr OperationKind) (n : ℕ) → AddsUses p n old.uses.items new.uses.items →
      IsLive s (Operation p) → n ≡ length (successors_of s p) → new.values ≡ old.values → new.labels ≡ old.labels →
      AreReady s new
  ready_used p n a live many e h = record {
    values = subst (λ z. BearAll same_name (IsValueLive s) z) (sym e) r.values;
    labels = subst (λ z. BearAll same_label (λ b. IsLive s (BasicBlock b)) z) (sym h) r.labels;
    uses = subst (All (IsPending s)) (sym a.1)
        (All-append (IsPending s) old.uses.items a.0 r.uses (all_as (IsUseOf p n) (IsPending s) a.0 pending a.2));
  }
    where
      pending : (u : PendingUse) → IsUseOf p n u → IsPending s u
      pending u i = record {
        live = subst (λ z. IsLive s (Operation z)) (sym i.op) live;
        place = subst (λ z. IsPlaceOf (length (successors_of s z)) u.wanted) (sym i.op)
            (subst (λ m. IsPlaceOf m u.wanted) many i.place);
      }

module _ {K A T : Type 0} (first : ContextView K A T) (old new : Notes) (h : AreNew first old) where
  pub new_same : new.uses ≡ old.uses → AreNew first new
  new_same e = subst (λ z. All (λ (u : PendingUse). is_live first (Operation u.op) ≡ false) z.items) (sym e) h

  pub new_added : (p : Ptr OperationKind) (n : ℕ) → AddsUses p n old.uses.items new.uses.items →
      is_live first (Operation p) ≡ false → AreNew first new
  new_added p n a e =
      subst (All (λ (u : PendingUse). is_live first (Operation u.op) ≡ false)) (sym a.1)
      (All-append (λ (u : PendingUse). is_live first (Operation u.op) ≡ false) old.uses.items a.0 h
      (all_as (IsUseOf p n) (λ (u : PendingUse). is_live first (Operation u.op) ≡ false) a.0
      (λ u i. subst (λ z. is_live first (Operation z) ≡ false) (sym i.op) e) a.2))

-- as many places as there are blocks that stand for successors
pub as_many_places : (block : Option (Ptr RegionKind × Ptr BlockKind)) (n : ℕ) →
    places block n ≡ length (times (option_map (λ (b : Ptr RegionKind × Ptr BlockKind). b.1) block) n)
as_many_places None n = refl
as_many_places (Some b) n = sym (length-replicate n b.1)

-- ---- uses that are noted one after the other

pub adds_none : (p : Ptr OperationKind) (n : ℕ) (old : List PendingUse) → AddsUses p n old old
adds_none p n old = ([], sym (append-nil old), All-nil (IsUseOf p n))

pub adds_push : (p : Ptr OperationKind) (n : ℕ) (old mid new : List PendingUse) (u : PendingUse) →
    AddsUses p n old mid → new ≡ mid ++ u ∷ [] → IsUseOf p n u → AddsUses p n old new
adds_push p n old mid new u a e h = (
  a.0 ++ u ∷ [],
  e ∙ ap (λ (z : List PendingUse). z ++ u ∷ []) a.1 ∙ append_assoc old a.0 (u ∷ []),
  All-append (IsUseOf p n) a.0 (u ∷ []) a.2 (All-cons (IsUseOf p n) u [] h (All-nil (IsUseOf p n))),
)

no_place : (n : ℕ) (w : Wanted) → IsPlaceOf 0 w → IsPlaceOf n w
no_place n (Operand body ty left) h = tt
no_place n (Successor region place) h = absurd (omega (arith, h))
no_place n Nothing h = tt

-- operands, and then successors
pub adds_on : (p : Ptr OperationKind) (n : ℕ) (old mid new : List PendingUse) → AddsUses p 0 old mid →
    AddsUses p n mid new → AddsUses p n old new
adds_on p n old mid new a b = (
  a.0 ++ b.0,
  b.1 ∙ ap (λ (z : List PendingUse). z ++ b.0) a.1 ∙ append_assoc old a.0 b.0,
  All-append (IsUseOf p n) a.0 b.0
      (all_as (IsUseOf p 0) (IsUseOf p n) a.0 (λ u i. record { op = i.op; place = no_place n u.wanted i.place }) a.2) b.2,
)

-- ---- as reading goes on

module _ {K A T : Type 0} where
  pub notes_itself : (s : ContextView K A T) (n : Notes) → NotesOn s n s n
  notes_itself s n = record { ready = λ h. h; fresh = λ first k h. h }

  -- more is noted from s to t, and then nodes come under others
  pub notes_next : (i s t u : ContextView K A T) (old mid new : Notes) → KeepsLive i.nodes s.nodes →
      NotesOn i old s mid → NotesOn s mid t new → HoldsOn t u → NotesOn i old u new
  notes_next i s t u old mid new k p q h = record {
    ready = λ r. ready_still t u h new (q.ready (p.ready r));
    fresh = λ first e a. q.fresh first (KeepsLive-on first i s e k) (p.fresh first e a);
  }

  -- nodes come, and then more is noted
  pub notes_grown : (s t u : ContextView K A T) (old new : Notes) → KeepsLive s.nodes t.nodes → NotesOn t old u new →
      NotesOn s old u new
  notes_grown s t u old new k q = record {
    ready = λ r. q.ready (ready_still s t (holds_kept s t k) old r);
    fresh = λ first e a. q.fresh first (KeepsLive-on first s t e k) a;
  }

  -- a block, its label and its arguments
  pub notes_block : (s t : ContextView K A T) (n0 n1 n2 : Notes) (name : LabelInRegion) (block : Ptr BlockKind) →
      KeepsLive s.nodes t.nodes → IsLive t (BasicBlock block) →
      Bears same_label n0.labels n1.labels ((name, block) ∷ []) → n1.values ≡ n0.values → n1.uses ≡ n0.uses →
      (BearAll same_name (IsValueLive t) n1.values → BearAll same_name (IsValueLive t) n2.values) →
      n2.labels ≡ n1.labels → n2.uses ≡ n1.uses → NotesOn s n0 t n2
  notes_block s t n0 n1 n2 name block k live b v0 u0 a l1 u1 = record {
    ready = λ r. ready_borne t n1 n2 (ready_labelled t n0 n1 (ready_still s t (holds_kept s t k) n0 r) name block b live
        v0 u0) a l1 u1;
    fresh = λ first e h. new_same first n1 n2 (new_same first n0 n1 h u0) u1;
  }

  -- an operation and its results
  pub notes_results : (s t : ContextView K A T) (old new : Notes) → KeepsLive s.nodes t.nodes →
      (BearAll same_name (IsValueLive t) old.values → BearAll same_name (IsValueLive t) new.values) →
      new.labels ≡ old.labels → new.uses ≡ old.uses → NotesOn s old t new
  notes_results s t old new k a l u = record {
    ready = λ r. ready_borne t old new (ready_still s t (holds_kept s t k) old r) a l u;
    fresh = λ first e h. new_same first old new h u;
  }

  -- an operation, its results and its uses
  pub notes_own : (s t : ContextView K A T) (n0 n1 n2 : Notes) (p : Ptr OperationKind) (n : ℕ) →
      KeepsLive s.nodes t.nodes → is_live s (Operation p) ≡ false → IsLive t (Operation p) →
      n ≡ length (successors_of t p) →
      (BearAll same_name (IsValueLive t) n0.values → BearAll same_name (IsValueLive t) n1.values) →
      n1.labels ≡ n0.labels → n1.uses ≡ n0.uses → AddsUses p n n1.uses.items n2.uses.items →
      n2.values ≡ n1.values → n2.labels ≡ n1.labels → NotesOn s n0 t n2
  notes_own s t n0 n1 n2 p n k new live many a l0 u0 adds v1 l1 = record {
    ready = λ r. ready_used t n1 n2 (ready_borne t n0 n1 (ready_still s t (holds_kept s t k) n0 r) a l0 u0) p n adds
        live many v1 l1;
    fresh = λ first e h. new_added first n1 n2 (new_same first n0 n1 h u0) p n adds (dead_before first s (Operation p) e
        new);
  }

  -- before anything is noted
  pub none_noted : (s : ContextView K A T) (n : Notes) → Says same_name (meanings same_name n.values) [] →
      Says same_label (meanings same_label n.labels) [] → n.uses.items ≡ [] → AreReady s n
  none_noted s n v l u = record {
    values = ([], v, All-nil (λ (b : NameInBody × Value). IsValueLive s b.1));
    labels = ([], l, All-nil (λ (b : LabelInRegion × Ptr BlockKind). IsLive s (BasicBlock b.1)));
    uses = subst (All (IsPending s)) (sym u) (All-nil (IsPending s));
  }

  pub none_new : (first : ContextView K A T) (n : Notes) → n.uses.items ≡ [] → AreNew first n
  none_new first n u =
      subst (All (λ (x : PendingUse). is_live first (Operation x.op) ≡ false)) (sym u)
      (All-nil (λ (x : PendingUse). is_live first (Operation x.op) ≡ false))
