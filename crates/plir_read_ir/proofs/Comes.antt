-- Parts that are read one after the other, and stand under one node, as a loop makes them.
use Rattle.std.proofs.Common.{◌≡◌, ◌++◌, ℕ, List, [], ◌∷◌, Option, Some, refl, sym, ap, subst, ◌∙◌}
use Rattle.std.proofs.Common.{Bool, arith}
use Rattle.plir_store.specs.Members.{Has}
use Rattle.plir_core.specs.Above.{Reaches}
use Rattle.plir_core.specs.ContextView.{ContextView, IsLive, children, parent_of}
use Rattle.plir_core.specs.Grown.{Growth}
use Rattle.plir_core.specs.Made.{IsMade, KeepsLive}
use Rattle.plir_core.specs.Placed.{IsPlaced}
use Rattle.plir_core.specs.Standing.{IsStanding}
use Rattle.plir_core.specs.declared.ptr.IRNode.{IRNode}
use Rattle.plir_attr_text.specs.Names.{Grows}
use Rattle.plir_attr_text.specs.Tokens.{sign, Begins}
use Rattle.plir_attr_text.specs.laws.Begun.{Begins-append}
use Rattle.plir_read.specs.Keeping.{KeepsBut}
use Rattle.plir_read.specs.laws.Frames.{IsFrame, child_below, frame_placed}
use Rattle.plir_read.specs.laws.Kept.{KeepsBut-grown}
use Rattle.plir_read_ir.specs.IrStanding.{AreOpsAt, IsIrAt}
use Rattle.plir_read_ir.specs.IrTerms.{IrOp, IrOps, no_ops}
use Rattle.plir_read_ir.specs.IrTerms.{ops_levels}
use Rattle.plir_read_ir.specs.Mentions.{Mention, Scope, op_mentions, ops_mentions}
use Rattle.plir_read_ir.specs.Readings.{IsFrontNoted, IsNoted, Reads, ReadsIr, ReadsOps}
use Rattle.plir_read_ir.specs.Readings.{uses_at}
use Rattle.plir_read_ir.specs.declared.notes.Notes.{Notes}
use Rattle.plir_read_ir.specs.declared.notes.PendingUse.{PendingUse}
use Rattle.plir_read_ir.proofs.Grammar.{SpellsFirstOps, first_push, ops_last, ops_within}
use Rattle.plir_read_ir.proofs.Says.{noted_as, noted_grown, noted_none, noted_on, noted_since, uses_still}
use Rattle.plir_read_ir.proofs.Standing.{frame_but, front_framed, head_framed}
use Rattle.plir_read_ir.proofs.Trees.{ir_kept, op_says, ops_kept, ops_push, ops_say}
use Rattle.plir_read_ir.proofs.Trees.{ops_say_same, ops_then}

-- X are parts that nodes stand for, one by one, and Y several of them.
module _ {K A T X Y : Type 0} (One : ContextView K A T → List PendingUse → IRNode → X → Type 0)
    (Many : ContextView K A T → List PendingUse → List IRNode → Y → Type 0)
    (one_says : ContextView K A T → IRNode → X → List Mention)
    (many_say : ContextView K A T → List IRNode → Y → List Mention) (snoc : Y → X → Y)
    (kept : (s t : ContextView K A T) (P : IRNode → Type 0) → IsFrame s t P → (us vs : List PendingUse) →
    ((n : IRNode) → P n → uses_at n vs ≡ uses_at n us) → (ns : List IRNode) (y : Y) →
    ((x : IRNode) → Has ns x → P x) → Many s us ns y → Many t vs ns y)
    (push : (s : ContextView K A T) (us : List PendingUse) (ns : List IRNode) (y : Y) (n : IRNode) (x : X) →
    Many s us ns y → One s us n x → Many s us (ns ++ n ∷ []) (snoc y x))
    (say_same : (s t : ContextView K A T) (P : IRNode → Type 0) → IsFrame s t P → (ns : List IRNode) (y : Y) →
    ((x : IRNode) → Has ns x → P x) → many_say t ns y ≡ many_say s ns y)
    (say_last : (s : ContextView K A T) (us : List PendingUse) (ns : List IRNode) (y : Y) (n : IRNode) (x : X) →
    Many s us ns y → many_say s (ns ++ n ∷ []) (snoc y x) ≡ many_say s ns y ++ one_says s n x) where
  -- from s to u one more stands under `over`
  module _ (first s u : ContextView K A T) (old mid new : Notes) (over n : IRNode) (y : Y) (x : X) (w : IsStanding s)
      (before : KeepsLive first.nodes s.nodes) (k : KeepsBut s u (Some over))
      (same : children u over ≡ children s over ++ n ∷ []) (many : Many s mid.uses.items (children s over) y)
      (one : One u new.uses.items n x) (q : IsNoted s u mid new (one_says u n x)) where
    abbrev Apart : IRNode → Type 0
    Apart m = IsLive s m × (Reaches (parent_of s) over m → ⊥)

    pub under : (m : IRNode) → Has (children s over) m → Apart m
    under m h = (w.forest.child_live over m h, child_below s w over m h)

    older : Many u new.uses.items (children s over) y
    older =
        kept s u Apart (frame_but s u over w k) mid.uses.items new.uses.items
        (λ m p. uses_still s u mid new (one_says u n x) q m p.0) (children s over) y under many

    pub come_stand : Many u new.uses.items (children u over) (snoc y x)
    come_stand =
        subst (λ z. Many u new.uses.items z (snoc y x)) (sym same)
        (push u new.uses.items (children s over) y n x older one)

    pub come_noted : IsNoted first s old mid (many_say s (children s over) y) →
        IsNoted first u old new (many_say u (children u over) (snoc y x))
    come_noted p =
        noted_as first u old new _ _
        (sym (ap (λ z. many_say u z (snoc y x)) same ∙ say_last u new.uses.items (children s over) y n x older ∙
        ap (λ (l : List Mention). l ++ one_says u n x)
        (say_same s u Apart (frame_but s u over w k) (children s over) y under)))
        (noted_on first u old mid new _ _ (noted_grown first s u old mid _ k.types p)
        (noted_since first s u mid new _ before q))

-- a node that is made and put under `over` changes nothing else
pub placed_but : {K A T : Type 0} (s t u : ContextView K A T) (n over : IRNode) (ks : List IRNode) → Growth s.nodes →
    IsMade s.nodes t.nodes n → IsPlaced t.nodes u.nodes n over ks → Grows s.types t.types → u.types ≡ t.types →
    KeepsBut s u (Some over)
placed_but s t u n over ks g m p grows types =
    KeepsBut-grown s u over (g.placed t.nodes u.nodes n over ks m p) (subst (Grows s.types) (sym types) grows)

module _ {K A T : Type 0} (find : List ℕ → Option K) (isolated : K → Bool) where
  -- ---- the operations of a block

  -- those read so far, each with a semicolon behind it
  abbrev pub OpsSoFar : (n : ℕ) → (bytes rest : List ℕ) → (first s : ContextView K A T) → (old now : Notes) → Scope →
      IRNode → Type 0
  OpsSoFar n bytes rest first s old now at over = Reads (SpellsFirstOps find) ops_levels
      (AreOpsAt isolated s (IsFrontNoted s now.uses.items) at (children s over))
      (ops_mentions isolated s at (children s over)) n bytes rest first s old now

  pub no_ops_yet : (n : ℕ) (bytes : List ℕ) (s : ContextView K A T) (notes : Notes) (at : Scope) (over : IRNode) →
      children s over ≡ [] → OpsSoFar n bytes bytes s s notes notes at over
  no_ops_yet n bytes s notes at over empty = record {
    part = no_ops;
    tokens = [];
    begins = refl;
    spelled = refl;
    within = omega arith;
    stands = empty;
    noted = noted_none s notes;
  }

  pub no_ops_read : (n : ℕ) (bytes : List ℕ) (s : ContextView K A T) (notes : Notes) (at : Scope) (over : IRNode) →
      children s over ≡ [] → ReadsOps find isolated n bytes bytes s s notes notes at over
  no_ops_read n bytes s notes at over empty = record {
    part = no_ops;
    tokens = [];
    begins = refl;
    spelled = refl;
    within = omega arith;
    stands = empty;
    noted = noted_none s notes;
  }

  -- from s to t one more is read, and from t to u it comes under `over`
  module _ (k : ℕ) (bytes rest after behind : List ℕ) (first s t u : ContextView K A T) (old mid new : Notes)
      (at : Scope) (over n : IRNode) (so : OpsSoFar k bytes rest first s old mid at over)
      (r : ReadsIr find isolated k rest after s t mid new at n) (ws : IsStanding s) (wt : IsStanding t)
      (before : KeepsLive first.nodes s.nodes) (live : IsLive s over) (kept : KeepsBut s u (Some over))
      (m : IsMade s.nodes t.nodes n) (placed : IsPlaced t.nodes u.nodes n over (children t over ++ n ∷ []))
      (types : u.types ≡ t.types) where
    abbrev OpApart : IRNode → Type 0
    OpApart x = Reaches (parent_of t) over x → ⊥

    op_frame : IsFrame t u OpApart
    op_frame = frame_placed t u n over (children t over ++ n ∷ []) wt placed types

    abbrev OpStands : ContextView K A T → List PendingUse → IRNode → IrOp K → Type 0
    OpStands c us x o = IsIrAt isolated c (IsFrontNoted c us) at x o

    abbrev OpsStand : ContextView K A T → List PendingUse → List IRNode → IrOps K → Type 0
    OpsStand c us xs os = AreOpsAt isolated c (IsFrontNoted c us) at xs os

    one_op : OpStands u new.uses.items n r.part
    one_op =
        ir_kept isolated t u OpApart op_frame.same op_frame.down (IsFrontNoted t new.uses.items)
        (IsFrontNoted u new.uses.items)
        (front_framed t u OpApart op_frame new.uses.items new.uses.items (λ x p. refl)) (head_framed t u OpApart op_frame)
        at n r.part (λ q. m.apart over live q) r.stands

    op_noted : IsNoted s u mid new (op_mentions isolated u at n r.part)
    op_noted =
        noted_as s u mid new _ _
        (sym (op_says isolated t u OpApart op_frame.same op_frame.down at n r.part (λ q. m.apart over live q)))
        (noted_grown s t u mid new _ op_frame.types r.noted)

    ops_frame_kept : (a b : ContextView K A T) (P : IRNode → Type 0) → IsFrame a b P → (us vs : List PendingUse) →
        ((x : IRNode) → P x → uses_at x vs ≡ uses_at x us) → (xs : List IRNode) (os : IrOps K) →
        ((x : IRNode) → Has xs x → P x) → OpsStand a us xs os → OpsStand b vs xs os
    ops_frame_kept a b P f us vs e xs os all h =
        ops_kept isolated a b P f.same f.down (IsFrontNoted a us) (IsFrontNoted b vs) (front_framed a b P f us vs e)
        (head_framed a b P f) at xs os all h

    same_children : children u over ≡ children s over ++ n ∷ []
    same_children = placed.children_over ∙ ap (λ (l : List IRNode). l ++ n ∷ []) (m.children over live)

    ops_stand : OpsStand u new.uses.items (children u over) (ops_then so.part r.part)
    ops_stand =
        come_stand OpStands OpsStand (λ c x o. op_mentions isolated c at x o) (λ c xs os. ops_mentions isolated c at xs os)
        ops_then ops_frame_kept (λ c us xs os x o h i. ops_push isolated c (IsFrontNoted c us) at xs os x o h i)
        (λ a b P f xs os all. ops_say_same isolated a b P f.same f.down at xs os all)
        (λ c us xs os x o h. ops_say isolated c (IsFrontNoted c us) at xs os x o h) first s u old mid new over n so.part
        r.part ws before kept same_children so.stands one_op op_noted

    ops_noted : IsNoted first u old new (ops_mentions isolated u at (children u over) (ops_then so.part r.part))
    ops_noted =
        come_noted OpStands OpsStand (λ c x o. op_mentions isolated c at x o) (λ c xs os. ops_mentions isolated c at xs os)
        ops_then ops_frame_kept (λ c us xs os x o h i. ops_push isolated c (IsFrontNoted c us) at xs os x o h i)
        (λ a b P f xs os all. ops_say_same isolated a b P f.same f.down at xs os all)
        (λ c us xs os x o h. ops_say isolated c (IsFrontNoted c us) at xs os x o h) first s u old mid new over n so.part
        r.part ws before kept same_children so.stands one_op op_noted so.noted

    -- a semicolon comes next, or none
    pub ops_go_on : Begins after (sign 59 ∷ []) behind → OpsSoFar k bytes behind first u old new at over
    ops_go_on b = record {
      part = ops_then so.part r.part;
      tokens = so.tokens ++ (r.tokens ++ sign 59 ∷ []);
      begins = Begins-append so.tokens (r.tokens ++ sign 59 ∷ []) bytes rest behind so.begins
          (Begins-append r.tokens (sign 59 ∷ []) rest after behind r.begins b);
      spelled = first_push find so.part r.part so.tokens r.tokens so.spelled r.spelled;
      within = ops_within k so.part r.part so.within r.within;
      stands = ops_stand;
      noted = ops_noted;
    }

    pub ops_end : Begins after [] behind → ReadsOps find isolated k bytes behind first u old new at over
    ops_end b = record {
      part = ops_then so.part r.part;
      tokens = so.tokens ++ r.tokens;
      begins = Begins-append so.tokens r.tokens bytes rest behind so.begins
          (subst (λ z. Begins rest r.tokens z) b r.begins);
      spelled = ops_last find so.part r.part so.tokens r.tokens so.spelled r.spelled;
      within = ops_within k so.part r.part so.within r.within;
      stands = ops_stand;
      noted = ops_noted;
    }
