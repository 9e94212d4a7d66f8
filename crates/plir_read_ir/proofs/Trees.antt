-- Written operations go on standing where nodes are as they were, and so do the mentions of names in them.
use Rattle.std.proofs.Common.{◌≡◌, ◌++◌, Bool, List, [], ◌∷◌, Option, Some, inl, inr, refl, sym, ap, ap₂, subst, ◌∙◌}
use Rattle.std.proofs.Common.{append-nil, append_assoc}
use Rattle.plir_store.specs.Members.{Has}
use Rattle.plir_core.specs.ContextView.{ContextView, children}
use Rattle.plir_core.specs.declared.ptr.Ptr.{Ptr}
use Rattle.plir_core.specs.declared.ptr.Operation.{Operation as OperationKind}
use Rattle.plir_core.specs.declared.ptr.Region.{Region as RegionKind}
use Rattle.plir_core.specs.declared.ptr.IRNode.{IRNode}
use Rattle.plir_core.specs.declared.ptr.IRNode.TheVariants.{Region}
use Rattle.plir_read.specs.OpTerms.{BlockHead}
use Rattle.plir_read.specs.OpsStanding.{IsBlockHeadAt}
use Rattle.plir_read_ir.specs.IrStanding.{AreBlocksAt, AreOpsAt, AreRegionsAt, IsIrAt}
use Rattle.plir_read_ir.specs.IrTerms.{Front, IrOp, ir_op, IrRegions, no_regions, region_before, IrBlocks, no_blocks}
use Rattle.plir_read_ir.specs.IrTerms.{block_before, IrOps, no_ops, op_before}
use Rattle.plir_read_ir.specs.Mentions.{Mention, Scope, blocks_mentions, body_in, front_mentions, head_mentions}
use Rattle.plir_read_ir.specs.Mentions.{op_mentions, ops_mentions, region_of, regions_mentions}

-- ---- one more at the end

module _ {K : Type 0} where
  abbrev pub ops_then : IrOps K → IrOp K → IrOps K
  ops_then no_ops o = op_before o no_ops
  ops_then (op_before x os) o = op_before x (ops_then os o)

  abbrev pub blocks_then : IrBlocks K → BlockHead × IrOps K → IrBlocks K
  blocks_then no_blocks b = block_before b.0 b.1 no_blocks
  blocks_then (block_before h os bs) b = block_before h os (blocks_then bs b)

  abbrev pub regions_then : IrRegions K → IrBlocks K → IrRegions K
  regions_then no_regions bs = region_before bs no_regions
  regions_then (region_before x rs) bs = region_before x (regions_then rs bs)

module _ {K A T : Type 0} (isolated : K → Bool) (s : ContextView K A T) where
  -- what a region, and a block, says
  abbrev pub region_mentions : Option (Ptr OperationKind) → IRNode → IrBlocks K → List Mention
  region_mentions body n bs = blocks_mentions isolated s (record { body = body; region = region_of n }) (children s n) bs

  abbrev pub block_mentions : Scope → IRNode → BlockHead × IrOps K → List Mention
  block_mentions at n b = head_mentions isolated at n b.0 ++ ops_mentions isolated s at (children s n) b.1

  module _ (F : Scope → IRNode → Front K → Type 0) where
    -- a region, and a block, stands there
    abbrev pub IsRegionAt : Option (Ptr OperationKind) → IRNode → IrBlocks K → Type 0
    IsRegionAt body n bs = (r : Ptr RegionKind) × (n ≡ Region r) ×
        AreBlocksAt isolated s F (record { body = body; region = Some r }) (children s (Region r)) bs

    abbrev pub IsBlockAt : Scope → IRNode → BlockHead × IrOps K → Type 0
    IsBlockAt at n b = IsBlockHeadAt s n b.0 × AreOpsAt isolated s F at (children s n) b.1

    pub ops_push : (at : Scope) (ns : List IRNode) (os : IrOps K) (n : IRNode) (o : IrOp K) →
        AreOpsAt isolated s F at ns os → IsIrAt isolated s F at n o →
        AreOpsAt isolated s F at (ns ++ n ∷ []) (ops_then os o)
    ops_push at ns no_ops n o e h = (n, [], ap (λ (l : List IRNode). l ++ n ∷ []) e, h, refl)
    ops_push at ns (op_before x os) n o e h =
        (e.0, e.1 ++ n ∷ [], ap (λ (l : List IRNode). l ++ n ∷ []) e.2, e.3, ops_push at e.1 os n o e.4 h)

    pub blocks_push : (at : Scope) (ns : List IRNode) (bs : IrBlocks K) (n : IRNode) (b : BlockHead × IrOps K) →
        AreBlocksAt isolated s F at ns bs → IsBlockAt at n b →
        AreBlocksAt isolated s F at (ns ++ n ∷ []) (blocks_then bs b)
    blocks_push at ns no_blocks n b e h = (n, [], ap (λ (l : List IRNode). l ++ n ∷ []) e, h.0, h.1, refl)
    blocks_push at ns (block_before x os bs) n b e h = (
      e.0,
      e.1 ++ n ∷ [],
      ap (λ (l : List IRNode). l ++ n ∷ []) e.2,
      e.3,
      e.4,
      blocks_push at e.1 bs n b e.5 h,
    )

    pub regions_push : (body : Option (Ptr OperationKind)) (ns : List IRNode) (rs : IrRegions K) (n : IRNode)
        (bs : IrBlocks K) → AreRegionsAt isolated s F body ns rs → IsRegionAt body n bs →
        AreRegionsAt isolated s F body (ns ++ n ∷ []) (regions_then rs bs)
    regions_push body ns no_regions n bs e h = (
      h.0,
      [],
      ap (λ (l : List IRNode). l ++ n ∷ []) e ∙ ap (λ (m : IRNode). m ∷ []) h.1,
      h.2,
      refl,
    )
    regions_push body ns (region_before x rs) n bs e h = (
      e.0,
      e.1 ++ n ∷ [],
      ap (λ (l : List IRNode). l ++ n ∷ []) e.2,
      e.3,
      regions_push body e.1 rs n bs e.4 h,
    )

    -- what it says comes last
    pub ops_say : (at : Scope) (ns : List IRNode) (os : IrOps K) (n : IRNode) (o : IrOp K) →
        AreOpsAt isolated s F at ns os → ops_mentions isolated s at (ns ++ n ∷ []) (ops_then os o) ≡
        ops_mentions isolated s at ns os ++ op_mentions isolated s at n o
    ops_say at ns no_ops n o e =
        ap (λ (l : List IRNode). ops_mentions isolated s at (l ++ n ∷ []) (op_before o no_ops)) e ∙
        append-nil (op_mentions isolated s at n o)
    ops_say at ns (op_before x os) n o e =
        ap (λ (l : List IRNode). ops_mentions isolated s at (l ++ n ∷ []) (op_before x (ops_then os o))) e.2 ∙
        ap (λ (l : List Mention). op_mentions isolated s at e.0 x ++ l) (ops_say at e.1 os n o e.4) ∙
        sym (append_assoc (op_mentions isolated s at e.0 x) (ops_mentions isolated s at e.1 os)
        (op_mentions isolated s at n o)) ∙
        ap (λ (l : List IRNode). ops_mentions isolated s at l (op_before x os) ++ op_mentions isolated s at n o) (sym e.2)

    pub blocks_say : (at : Scope) (ns : List IRNode) (bs : IrBlocks K) (n : IRNode) (b : BlockHead × IrOps K) →
        AreBlocksAt isolated s F at ns bs → blocks_mentions isolated s at (ns ++ n ∷ []) (blocks_then bs b) ≡
        blocks_mentions isolated s at ns bs ++ block_mentions at n b
    blocks_say at ns no_blocks n b e =
        ap (λ (l : List IRNode). blocks_mentions isolated s at (l ++ n ∷ []) (block_before b.0 b.1 no_blocks)) e ∙
        ap (λ (l : List Mention). head_mentions isolated at n b.0 ++ l)
        (append-nil (ops_mentions isolated s at (children s n) b.1))
    blocks_say at ns (block_before x os bs) n b e =
        let front = head_mentions isolated at e.0 x in
        let inside = ops_mentions isolated s at (children s e.0) os in
        let before = blocks_mentions isolated s at e.1 bs in
        let last = block_mentions at n b in
        ap (λ (l : List IRNode). blocks_mentions isolated s at (l ++ n ∷ []) (block_before x os (blocks_then bs b))) e.2 ∙
        ap (λ (l : List Mention). front ++ (inside ++ l)) (blocks_say at e.1 bs n b e.5) ∙
        ap (λ (l : List Mention). front ++ l) (sym (append_assoc inside before last)) ∙
        sym (append_assoc front (inside ++ before) last) ∙
        ap (λ (l : List IRNode). blocks_mentions isolated s at l (block_before x os bs) ++ last) (sym e.2)

    pub regions_say : (body : Option (Ptr OperationKind)) (ns : List IRNode) (rs : IrRegions K) (n : IRNode)
        (bs : IrBlocks K) → AreRegionsAt isolated s F body ns rs →
        regions_mentions isolated s body (ns ++ n ∷ []) (regions_then rs bs) ≡
        regions_mentions isolated s body ns rs ++ region_mentions body n bs
    regions_say body ns no_regions n bs e =
        ap (λ (l : List IRNode). regions_mentions isolated s body (l ++ n ∷ []) (region_before bs no_regions)) e ∙
        append-nil (region_mentions body n bs)
    regions_say body ns (region_before x rs) n bs e =
        let first = region_mentions body (Region e.0) x in
        let before = regions_mentions isolated s body e.1 rs in
        ap (λ (l : List IRNode). regions_mentions isolated s body (l ++ n ∷ []) (region_before x (regions_then rs bs)))
        e.2 ∙
        ap (λ (l : List Mention). first ++ l) (regions_say body e.1 rs n bs e.4) ∙
        sym (append_assoc first before (region_mentions body n bs)) ∙
        ap (λ (l : List IRNode). regions_mentions isolated s body l (region_before x rs) ++ region_mentions body n bs)
        (sym e.2)

-- ---- what goes on standing

-- The nodes that pass have the children that they had, and their children pass.
module _ {K A T : Type 0} (isolated : K → Bool) (s t : ContextView K A T) (P : IRNode → Type 0)
    (same : (m : IRNode) → P m → children t m ≡ children s m)
    (down : (m x : IRNode) → P m → Has (children s m) x → P x) where
  module _ (F G : Scope → IRNode → Front K → Type 0)
      (front : (at : Scope) (n : IRNode) (f : Front K) → P n → F at n f → G at n f)
      (head : (n : IRNode) (b : BlockHead) → P n → IsBlockHeadAt s n b → IsBlockHeadAt t n b) where
    mutual
      pub ir_kept : (at : Scope) (n : IRNode) (o : IrOp K) → P n → IsIrAt isolated s F at n o →
          IsIrAt isolated t G at n o
      ir_kept at n (ir_op f rs) p e = (
        front at n f p e.0,
        subst (λ z. AreRegionsAt isolated t G (body_in isolated at.body n f) z rs) (sym (same n p))
            (regions_kept (body_in isolated at.body n f) (children s n) rs (λ x. down n x p) e.1),
      )

      pub regions_kept : (body : Option (Ptr OperationKind)) (ns : List IRNode) (rs : IrRegions K) →
          ((x : IRNode) → Has ns x → P x) → AreRegionsAt isolated s F body ns rs → AreRegionsAt isolated t G body ns rs
      regions_kept body ns no_regions all e = e
      regions_kept body ns (region_before bs rs) all e =
          let here : P (Region e.0) = all (Region e.0) (subst (λ z. Has z (Region e.0)) (sym e.2) (inl refl)) in
          let at : Scope = record { body = body; region = Some e.0 } in (
            e.0,
            e.1,
            e.2,
            subst (λ z. AreBlocksAt isolated t G at z bs) (sym (same (Region e.0) here))
                (blocks_kept at (children s (Region e.0)) bs (λ x. down (Region e.0) x here) e.3),
            regions_kept body e.1 rs (λ x h. all x (subst (λ z. Has z x) (sym e.2) (inr h))) e.4,
          )

      pub blocks_kept : (at : Scope) (ns : List IRNode) (bs : IrBlocks K) → ((x : IRNode) → Has ns x → P x) →
          AreBlocksAt isolated s F at ns bs → AreBlocksAt isolated t G at ns bs
      blocks_kept at ns no_blocks all e = e
      blocks_kept at ns (block_before b os bs) all e =
          let here : P e.0 = all e.0 (subst (λ z. Has z e.0) (sym e.2) (inl refl)) in (
            e.0,
            e.1,
            e.2,
            head e.0 b here e.3,
            subst (λ z. AreOpsAt isolated t G at z os) (sym (same e.0 here))
                (ops_kept at (children s e.0) os (λ x. down e.0 x here) e.4),
            blocks_kept at e.1 bs (λ x h. all x (subst (λ z. Has z x) (sym e.2) (inr h))) e.5,
          )

      pub ops_kept : (at : Scope) (ns : List IRNode) (os : IrOps K) → ((x : IRNode) → Has ns x → P x) →
          AreOpsAt isolated s F at ns os → AreOpsAt isolated t G at ns os
      ops_kept at ns no_ops all e = e
      ops_kept at ns (op_before o os) all e =
          let here : P e.0 = all e.0 (subst (λ z. Has z e.0) (sym e.2) (inl refl)) in (
            e.0,
            e.1,
            e.2,
            ir_kept at e.0 o here e.3,
            ops_kept at e.1 os (λ x h. all x (subst (λ z. Has z x) (sym e.2) (inr h))) e.4,
          )

  mutual
    pub op_says : (at : Scope) (n : IRNode) (o : IrOp K) → P n →
        op_mentions isolated t at n o ≡ op_mentions isolated s at n o
    op_says at n (ir_op f rs) p = ap (λ (l : List Mention). front_mentions isolated at n f ++ l)
        (ap (λ (l : List IRNode). regions_mentions isolated t (body_in isolated at.body n f) l rs) (same n p) ∙
        regions_say_same (body_in isolated at.body n f) (children s n) rs (λ x. down n x p))

    pub regions_say_same : (body : Option (Ptr OperationKind)) (ns : List IRNode) (rs : IrRegions K) →
        ((x : IRNode) → Has ns x → P x) →
        regions_mentions isolated t body ns rs ≡ regions_mentions isolated s body ns rs
    regions_say_same body ns no_regions all = refl
    regions_say_same body [] (region_before bs rs) all = refl
    regions_say_same body (n ∷ ns) (region_before bs rs) all =
        let here : P n = all n (inl refl) in
        let at : Scope = record { body = body; region = region_of n } in
        ap₂ (λ (a b : List Mention). a ++ b)
        (ap (λ (l : List IRNode). blocks_mentions isolated t at l bs) (same n here) ∙
        blocks_say_same at (children s n) bs (λ x. down n x here))
        (regions_say_same body ns rs (λ x h. all x (inr h)))

    pub blocks_say_same : (at : Scope) (ns : List IRNode) (bs : IrBlocks K) → ((x : IRNode) → Has ns x → P x) →
        blocks_mentions isolated t at ns bs ≡ blocks_mentions isolated s at ns bs
    blocks_say_same at ns no_blocks all = refl
    blocks_say_same at [] (block_before b os bs) all = refl
    blocks_say_same at (n ∷ ns) (block_before b os bs) all =
        let here : P n = all n (inl refl) in
        ap₂ (λ (x y : List Mention). head_mentions isolated at n b ++ (x ++ y))
        (ap (λ (l : List IRNode). ops_mentions isolated t at l os) (same n here) ∙
        ops_say_same at (children s n) os (λ x. down n x here))
        (blocks_say_same at ns bs (λ x h. all x (inr h)))

    pub ops_say_same : (at : Scope) (ns : List IRNode) (os : IrOps K) → ((x : IRNode) → Has ns x → P x) →
        ops_mentions isolated t at ns os ≡ ops_mentions isolated s at ns os
    ops_say_same at ns no_ops all = refl
    ops_say_same at [] (op_before o os) all = refl
    ops_say_same at (n ∷ ns) (op_before o os) all =
        ap₂ (λ (a b : List Mention). a ++ b) (op_says at n o (all n (inl refl)))
        (ops_say_same at ns os (λ x h. all x (inr h)))
