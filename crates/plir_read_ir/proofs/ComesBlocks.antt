-- Blocks that come into a region, and regions that come into an operation, as they are read.
use Rattle.std.proofs.Common.{◌≡◌, ◌++◌, ℕ, List, [], ◌∷◌, Option, Some, refl, sym, ap, subst, ◌∙◌}
use Rattle.std.proofs.Common.{Bool, append_assoc, arith}
use Rattle.plir_store.specs.Members.{Has}
use Rattle.plir_core.specs.Above.{Reaches}
use Rattle.plir_core.specs.ContextView.{ContextView, IsLive, children, parent_of}
use Rattle.plir_core.specs.Made.{IsMade, KeepsLive}
use Rattle.plir_core.specs.Placed.{IsPlaced}
use Rattle.plir_core.specs.Standing.{IsStanding}
use Rattle.plir_core.specs.declared.ptr.Ptr.{Ptr}
use Rattle.plir_core.specs.declared.ptr.Operation.{Operation as OperationKind}
use Rattle.plir_core.specs.declared.ptr.Region.{Region as RegionKind}
use Rattle.plir_core.specs.declared.ptr.IRNode.{IRNode}
use Rattle.plir_core.specs.declared.ptr.IRNode.TheVariants.{Region}
use Rattle.plir_attr_text.specs.Tokens.{Token, sign, Begins}
use Rattle.plir_attr_text.specs.TypeGrammar.{enclosed}
use Rattle.plir_attr_text.specs.laws.Begun.{Begins-append}
use Rattle.plir_read.specs.Keeping.{KeepsBut}
use Rattle.plir_read.specs.OpTerms.{BlockHead}
use Rattle.plir_read.specs.laws.Frames.{IsFrame, frame_placed}
use Rattle.plir_read_ir.specs.IrGrammar.{SpellsBlocks}
use Rattle.plir_read_ir.specs.IrStanding.{AreBlocksAt, AreOpsAt, AreRegionsAt}
use Rattle.plir_read_ir.specs.IrTerms.{IrBlocks, IrOps, IrRegions, no_blocks, no_regions}
use Rattle.plir_read_ir.specs.IrTerms.{blocks_levels}
use Rattle.plir_read_ir.specs.Mentions.{Mention, Scope, blocks_mentions, head_mentions, ops_mentions}
use Rattle.plir_read_ir.specs.Mentions.{regions_mentions}
use Rattle.plir_read_ir.specs.Readings.{IsFrontNoted, IsNoted, Reads, ReadsBlock, ReadsBody}
use Rattle.plir_read_ir.specs.Readings.{ReadsRegions, uses_at}
use Rattle.plir_read_ir.specs.declared.notes.Notes.{Notes}
use Rattle.plir_read_ir.specs.declared.notes.PendingUse.{PendingUse}
use Rattle.plir_read_ir.proofs.Grammar.{blocks_last, blocks_within}
use Rattle.plir_read_ir.proofs.Grammar.{regions_last, regions_within}
use Rattle.plir_read_ir.proofs.Says.{noted_as, noted_grown, noted_none, noted_since}
use Rattle.plir_read_ir.proofs.Standing.{front_framed, head_framed}
use Rattle.plir_read_ir.proofs.Trees.{IsBlockAt, IsRegionAt, block_mentions, blocks_kept, blocks_push, blocks_say}
use Rattle.plir_read_ir.proofs.Trees.{blocks_say_same, blocks_then, ops_kept}
use Rattle.plir_read_ir.proofs.Trees.{ops_say_same, region_mentions, regions_kept, regions_push}
use Rattle.plir_read_ir.proofs.Trees.{regions_say, regions_say_same, regions_then}
use Rattle.plir_read_ir.proofs.Comes.{come_noted, come_stand}

-- a brace, and blocks
abbrev pub SpellsOpen : {K : Type 0} → (find : List ℕ → Option K) → IrBlocks K → List Token → Type 0
SpellsOpen find bs ts = (inner : List Token) × SpellsBlocks find bs inner × (ts ≡ sign 123 ∷ inner)

module _ {K A T : Type 0} (find : List ℕ → Option K) (isolated : K → Bool) where
  -- ---- the blocks of a region

  -- those read so far
  abbrev pub BlocksSoFar : (n : ℕ) → (bytes rest : List ℕ) → (first s : ContextView K A T) → (old now : Notes) → Scope →
      IRNode → Type 0
  BlocksSoFar n bytes rest first s old now at over = Reads (SpellsOpen find) blocks_levels
      (AreBlocksAt isolated s (IsFrontNoted s now.uses.items) at (children s over))
      (blocks_mentions isolated s at (children s over)) n bytes rest first s old now

  pub no_blocks_yet : (n : ℕ) (bytes rest : List ℕ) (s : ContextView K A T) (notes : Notes) (at : Scope)
      (over : IRNode) → children s over ≡ [] → Begins bytes (sign 123 ∷ []) rest →
      BlocksSoFar n bytes rest s s notes notes at over
  no_blocks_yet n bytes rest s notes at over empty b = record {
    part = no_blocks;
    tokens = sign 123 ∷ [];
    begins = b;
    spelled = ([], refl, refl);
    within = omega arith;
    stands = empty;
    noted = noted_none s notes;
  }

  pub no_blocks_read : (n : ℕ) (bytes start rest : List ℕ) (s : ContextView K A T) (notes : Notes) (at : Scope)
      (over : IRNode) → children s over ≡ [] → Begins bytes (sign 123 ∷ []) start → Begins start (sign 125 ∷ []) rest →
      ReadsBody find isolated n bytes rest s s notes notes at over
  no_blocks_read n bytes start rest s notes at over empty b c = record {
    part = no_blocks;
    tokens = enclosed 123 [] 125;
    begins = Begins-append (sign 123 ∷ []) (sign 125 ∷ []) bytes start rest b c;
    spelled = ([], refl, refl);
    within = omega arith;
    stands = empty;
    noted = noted_none s notes;
  }

  -- from s to t one more is read, and from t to u it comes under `over`
  module _ (k : ℕ) (bytes rest after behind : List ℕ) (first s t u : ContextView K A T) (old mid new : Notes)
      (at : Scope) (over n : IRNode) (so : BlocksSoFar k bytes rest first s old mid at over)
      (r : ReadsBlock find isolated k rest after s t mid new at n) (ws : IsStanding s) (wt : IsStanding t)
      (before : KeepsLive first.nodes s.nodes) (live : IsLive s over) (kept : KeepsBut s u (Some over))
      (m : IsMade s.nodes t.nodes n) (placed : IsPlaced t.nodes u.nodes n over (children t over ++ n ∷ []))
      (types : u.types ≡ t.types) where
    abbrev BlockApart : IRNode → Type 0
    BlockApart x = Reaches (parent_of t) over x → ⊥

    block_frame : IsFrame t u BlockApart
    block_frame = frame_placed t u n over (children t over ++ n ∷ []) wt placed types

    abbrev BlockStands : ContextView K A T → List PendingUse → IRNode → BlockHead × IrOps K → Type 0
    BlockStands c us x b = IsBlockAt isolated c (IsFrontNoted c us) at x b

    abbrev BlocksStand : ContextView K A T → List PendingUse → List IRNode → IrBlocks K → Type 0
    BlocksStand c us xs bs = AreBlocksAt isolated c (IsFrontNoted c us) at xs bs

    apart : BlockApart n
    apart q = m.apart over live q

    one_block : BlockStands u new.uses.items n r.part
    one_block = (
      head_framed t u BlockApart block_frame n r.part.0 apart r.stands.0,
      subst (λ z. AreOpsAt isolated u (IsFrontNoted u new.uses.items) at z r.part.1) (sym (block_frame.same n apart))
          (ops_kept isolated t u BlockApart block_frame.same block_frame.down (IsFrontNoted t new.uses.items)
          (IsFrontNoted u new.uses.items)
          (front_framed t u BlockApart block_frame new.uses.items new.uses.items (λ x p. refl))
          (head_framed t u BlockApart block_frame) at (children t n) r.part.1 (λ x. block_frame.down n x apart)
          r.stands.1),
    )

    block_noted : IsNoted s u mid new (block_mentions isolated u at n r.part)
    block_noted =
        noted_as s u mid new _ _
        (sym (ap (λ (l : List Mention). head_mentions isolated at n r.part.0 ++ l)
        (ap (λ (l : List IRNode). ops_mentions isolated u at l r.part.1) (block_frame.same n apart) ∙
        ops_say_same isolated t u BlockApart block_frame.same block_frame.down at (children t n) r.part.1
        (λ x. block_frame.down n x apart)))) (noted_grown s t u mid new _ block_frame.types r.noted)

    blocks_frame_kept : (a b : ContextView K A T) (P : IRNode → Type 0) → IsFrame a b P → (us vs : List PendingUse) →
        ((x : IRNode) → P x → uses_at x vs ≡ uses_at x us) → (xs : List IRNode) (bs : IrBlocks K) →
        ((x : IRNode) → Has xs x → P x) → BlocksStand a us xs bs → BlocksStand b vs xs bs
    blocks_frame_kept a b P f us vs e xs bs all h =
        blocks_kept isolated a b P f.same f.down (IsFrontNoted a us) (IsFrontNoted b vs) (front_framed a b P f us vs e)
        (head_framed a b P f) at xs bs all h

    same_blocks : children u over ≡ children s over ++ n ∷ []
    same_blocks = placed.children_over ∙ ap (λ (l : List IRNode). l ++ n ∷ []) (m.children over live)

    blocks_stand : BlocksStand u new.uses.items (children u over) (blocks_then so.part r.part)
    blocks_stand =
        come_stand BlockStands BlocksStand (λ c x b. block_mentions isolated c at x b)
        (λ c xs bs. blocks_mentions isolated c at xs bs) blocks_then blocks_frame_kept
        (λ c us xs bs x b h i. blocks_push isolated c (IsFrontNoted c us) at xs bs x b h i)
        (λ a b P f xs bs all. blocks_say_same isolated a b P f.same f.down at xs bs all)
        (λ c us xs bs x b h. blocks_say isolated c (IsFrontNoted c us) at xs bs x b h) first s u old mid new over n
        so.part r.part ws before kept same_blocks so.stands one_block block_noted

    blocks_noted : IsNoted first u old new (blocks_mentions isolated u at (children u over) (blocks_then so.part r.part))
    blocks_noted =
        come_noted BlockStands BlocksStand (λ c x b. block_mentions isolated c at x b)
        (λ c xs bs. blocks_mentions isolated c at xs bs) blocks_then blocks_frame_kept
        (λ c us xs bs x b h i. blocks_push isolated c (IsFrontNoted c us) at xs bs x b h i)
        (λ a b P f xs bs all. blocks_say_same isolated a b P f.same f.down at xs bs all)
        (λ c us xs bs x b h. blocks_say isolated c (IsFrontNoted c us) at xs bs x b h) first s u old mid new over n
        so.part r.part ws before kept same_blocks so.stands one_block block_noted so.noted

    inner_spelled : SpellsBlocks find (blocks_then so.part r.part) (so.spelled.0 ++ r.tokens)
    inner_spelled = blocks_last find so.part r.part so.spelled.0 r.tokens so.spelled.1 r.spelled

    -- another block comes next, or the closing brace
    pub blocks_go_on : Begins after [] behind → BlocksSoFar k bytes behind first u old new at over
    blocks_go_on b = record {
      part = blocks_then so.part r.part;
      tokens = so.tokens ++ r.tokens;
      begins = Begins-append so.tokens r.tokens bytes rest behind so.begins
          (subst (λ z. Begins rest r.tokens z) b r.begins);
      spelled = (
        so.spelled.0 ++ r.tokens,
        inner_spelled,
        ap (λ (l : List Token). l ++ r.tokens) so.spelled.2,
      );
      within = blocks_within k so.part r.part so.within r.within;
      stands = blocks_stand;
      noted = blocks_noted;
    }

    pub blocks_end : Begins after (sign 125 ∷ []) behind → ReadsBody find isolated k bytes behind first u old new at over
    blocks_end b = record {
      part = blocks_then so.part r.part;
      tokens = so.tokens ++ (r.tokens ++ sign 125 ∷ []);
      begins = Begins-append so.tokens (r.tokens ++ sign 125 ∷ []) bytes rest behind so.begins
          (Begins-append r.tokens (sign 125 ∷ []) rest after behind r.begins b);
      spelled = (
        so.spelled.0 ++ r.tokens,
        inner_spelled,
        ap (λ (l : List Token). l ++ (r.tokens ++ sign 125 ∷ [])) so.spelled.2 ∙
            ap (λ (l : List Token). sign 123 ∷ l) (sym (append_assoc so.spelled.0 r.tokens (sign 125 ∷ []))),
      );
      within = blocks_within k so.part r.part so.within r.within;
      stands = blocks_stand;
      noted = blocks_noted;
    }

  -- ---- the regions of an operation

  pub no_regions_yet : (n : ℕ) (bytes : List ℕ) (s : ContextView K A T) (notes : Notes)
      (body : Option (Ptr OperationKind)) (over : IRNode) → children s over ≡ [] →
      ReadsRegions find isolated n bytes bytes s s notes notes body over
  no_regions_yet n bytes s notes body over empty = record {
    part = no_regions;
    tokens = [];
    begins = refl;
    spelled = refl;
    within = omega arith;
    stands = empty;
    noted = noted_none s notes;
  }

  -- from s to t a region comes under `over`, and from t to u its blocks are read
  module _ (k : ℕ) (bytes rest behind : List ℕ) (first s t u : ContextView K A T) (old mid new : Notes)
      (body : Option (Ptr OperationKind)) (over : IRNode) (region : Ptr RegionKind)
      (so : ReadsRegions find isolated k bytes rest first s old mid body over)
      (r : ReadsBody find isolated k rest behind t u mid new (record { body = body; region = Some region })
      (Region region)) (ws : IsStanding s) (before : KeepsLive first.nodes s.nodes) (since : KeepsLive s.nodes t.nodes)
      (kept : KeepsBut s u (Some over)) (same : children u over ≡ children s over ++ Region region ∷ []) where
    abbrev RegionStands : ContextView K A T → List PendingUse → IRNode → IrBlocks K → Type 0
    RegionStands c us x bs = IsRegionAt isolated c (IsFrontNoted c us) body x bs

    abbrev RegionsStand : ContextView K A T → List PendingUse → List IRNode → IrRegions K → Type 0
    RegionsStand c us xs rs = AreRegionsAt isolated c (IsFrontNoted c us) body xs rs

    one_region : RegionStands u new.uses.items (Region region) r.part
    one_region = (region, refl, r.stands)

    region_noted : IsNoted s u mid new (region_mentions isolated u body (Region region) r.part)
    region_noted = noted_since s t u mid new _ since r.noted

    regions_frame_kept : (a b : ContextView K A T) (P : IRNode → Type 0) → IsFrame a b P → (us vs : List PendingUse) →
        ((x : IRNode) → P x → uses_at x vs ≡ uses_at x us) → (xs : List IRNode) (rs : IrRegions K) →
        ((x : IRNode) → Has xs x → P x) → RegionsStand a us xs rs → RegionsStand b vs xs rs
    regions_frame_kept a b P f us vs e xs rs all h =
        regions_kept isolated a b P f.same f.down (IsFrontNoted a us) (IsFrontNoted b vs) (front_framed a b P f us vs e)
        (head_framed a b P f) body xs rs all h

    regions_stand : RegionsStand u new.uses.items (children u over) (regions_then so.part r.part)
    regions_stand =
        come_stand RegionStands RegionsStand (λ c x bs. region_mentions isolated c body x bs)
        (λ c xs rs. regions_mentions isolated c body xs rs) regions_then regions_frame_kept
        (λ c us xs rs x bs h i. regions_push isolated c (IsFrontNoted c us) body xs rs x bs h i)
        (λ a b P f xs rs all. regions_say_same isolated a b P f.same f.down body xs rs all)
        (λ c us xs rs x bs h. regions_say isolated c (IsFrontNoted c us) body xs rs x bs h) first s u old mid new over
        (Region region) so.part r.part ws before kept same so.stands one_region region_noted

    regions_noted : IsNoted first u old new
        (regions_mentions isolated u body (children u over) (regions_then so.part r.part))
    regions_noted =
        come_noted RegionStands RegionsStand (λ c x bs. region_mentions isolated c body x bs)
        (λ c xs rs. regions_mentions isolated c body xs rs) regions_then regions_frame_kept
        (λ c us xs rs x bs h i. regions_push isolated c (IsFrontNoted c us) body xs rs x bs h i)
        (λ a b P f xs rs all. regions_say_same isolated a b P f.same f.down body xs rs all)
        (λ c us xs rs x bs h. regions_say isolated c (IsFrontNoted c us) body xs rs x bs h) first s u old mid new over
        (Region region) so.part r.part ws before kept same so.stands one_region region_noted so.noted

    pub regions_go_on : ReadsRegions find isolated k bytes behind first u old new body over
    regions_go_on = record {
      part = regions_then so.part r.part;
      tokens = so.tokens ++ r.tokens;
      begins = Begins-append so.tokens r.tokens bytes rest behind so.begins r.begins;
      spelled = regions_last find so.part r.part so.tokens r.tokens so.spelled r.spelled;
      within = regions_within k so.part r.part so.within r.within;
      stands = regions_stand;
      noted = regions_noted;
    }
