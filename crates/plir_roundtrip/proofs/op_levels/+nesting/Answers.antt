use Rattle.std.proofs.Common.{◌≡◌, ◌-◌, ◌<◌, ◌≤◌, true, refl, sym, ap, subst, ◌∙◌, arith}
use Rattle.std.specs.Prelude.{option_map}
use Rattle.plir_core.specs.ContextView.{children}
use Rattle.plir_core.specs.declared.ptr.IRNode.TheVariants.{Operation, Region, BasicBlock}
use Rattle.plir_read_ir.specs.IrTerms.{op_levels}
use Rattle.plir_roundtrip.specs.IrWritten.{ir_term_of}
use Rattle.plir_roundtrip.specs.WrittenLevels.{nested_blocks, nested_ops, nested_regions}
use Rattle.plir_roundtrip.proofs.Asked.{drop_none, low_passed, low_failed}
use Rattle.plir_roundtrip.proofs.TermLevels.{else_first, first_block, first_op, first_region, levels_are, some_level}
use Rattle.plir_roundtrip.proofs.TermLevels.{then_second}
use Rattle.plir_roundtrip.proofs.op_levels.+nesting.Goals as goal

pub is_op_within-returns-then-left-eq0 : goal.is_op_within-returns-then-left-eq0
is_op_within-returns-then-left-eq0 g t c =
    let x = ir_term_of g.D.OpSet c.args.ctx.now c.args.op in
    (λ e. absurd (let f : ⊥ = cc in f), λ h. absurd (some_level x (subst (λ n. op_levels x ≤ n) c.if-left-eq0.true h)))

pub is_op_within-returns-then-is_front_below : goal.is_op_within-returns-then-is_front_below
is_op_within-returns-then-is_front_below g t c =
    let o = g.D.OpSet in
    let s = c.args.ctx.now in
    then_second _ _ _ c.args.left c.are_regions_below.result (levels_are o s c.stands.ensures.standing c.args.op)
    (c.is_front_below.ensures.0 c.if-is_front_below.true) c.are_regions_below.ensures

pub is_op_within-returns-else-is_front_below : goal.is_op_within-returns-else-is_front_below
is_op_within-returns-else-is_front_below g t c =
    let o = g.D.OpSet in
    let s = c.args.ctx.now in
    else_first _ _ _ c.args.left c.is_front_below.result (levels_are o s c.stands.ensures.standing c.args.op)
    c.if-is_front_below.false c.is_front_below.ensures

pub are_regions_below-regions-preserved : goal.are_regions_below-regions-preserved
are_regions_below-regions-preserved g t c =
    let o = g.D.OpSet in
    let s = c.args.ctx.now in
    let passed : c.are_blocks_below.result ≡ true = cc in
    record {
      at = c.get_next-next.ensures.value ∙ c.child_there.ensures.next;
      low =
          low_passed _ _ _ _ c.args.left
          (first_region o s c.child_there.ensures.standing c.in-Some.region _ _ c.child_there.ensures.left)
          (c.are_blocks_below.ensures.0 passed) c.regions.invariant.low;
    }

pub are_regions_below-returns-then-not-are_blocks_below : goal.are_regions_below-returns-then-not-are_blocks_below
are_regions_below-returns-then-not-are_blocks_below g t c =
    let o = g.D.OpSet in
    let s = c.args.ctx.now in (
      λ h. absurd (let f : ⊥ = cc in f),
      λ all. absurd (low_failed _ _ _ _ c.args.left
          (first_region o s c.child_there.ensures.standing c.in-Some.region _ _ c.child_there.ensures.left) (λ h.
          let passed : c.are_blocks_below.result ≡ true = c.are_blocks_below.ensures.1 h in
          let f : ⊥ = cc in f) c.regions.invariant.low all),
    )

pub are_regions_below-returns : goal.are_regions_below-returns
are_regions_below-returns g t c =
    let ks = children c.args.ctx.now (Operation c.args.op) in
    let none = drop_none ks c.regions.place (sym c.regions.invariant.at ∙ ap (option_map Region) c.in_default.is) in (
      λ _. c.regions.invariant.low.0
          (subst (λ l. nested_regions g.D.OpSet c.args.ctx.now l < c.args.left) (sym none) c.requires.some),
      λ _. refl,
    )

pub are_blocks_below-inner-preserved : goal.are_blocks_below-inner-preserved
are_blocks_below-inner-preserved g t c =
    let o = g.D.OpSet in
    let s = c.args.ctx.now in
    let passed : c.is_block_below.result ≡ true = cc in
    record {
      at = c.get_next-next.ensures.value ∙ c.child_there.ensures.next;
      low =
          low_passed _ _ _ _ c.args.left
          (first_block o s c.child_there.ensures.standing c.in-Some.block _ _ c.child_there.ensures.left)
          (c.is_block_below.ensures.0 passed) c.inner.invariant.low;
    }

pub are_blocks_below-returns-then-not-is_block_below : goal.are_blocks_below-returns-then-not-is_block_below
are_blocks_below-returns-then-not-is_block_below g t c =
    let o = g.D.OpSet in
    let s = c.args.ctx.now in (
      λ h. absurd (let f : ⊥ = cc in f),
      λ all. absurd (low_failed _ _ _ _ c.args.left
          (first_block o s c.child_there.ensures.standing c.in-Some.block _ _ c.child_there.ensures.left) (λ h.
          let passed : c.is_block_below.result ≡ true = c.is_block_below.ensures.1 h in
          let f : ⊥ = cc in f) c.inner.invariant.low all),
    )

pub are_blocks_below-returns : goal.are_blocks_below-returns
are_blocks_below-returns g t c =
    let ks = children c.args.ctx.now (Region c.args.region) in
    let none = drop_none ks c.inner.place (sym c.inner.invariant.at ∙ ap (option_map BasicBlock) c.in_default.is) in (
      λ _. c.inner.invariant.low.0
          (subst (λ l. nested_blocks g.D.OpSet c.args.ctx.now l < c.args.left) (sym none) c.requires.some),
      λ _. refl,
    )

pub are_ops_below-ops-preserved : goal.are_ops_below-ops-preserved
are_ops_below-ops-preserved g t c =
    let o = g.D.OpSet in
    let s = c.args.ctx.now in
    let passed : c.is_op_within.result ≡ true = cc in
    let within : op_levels (ir_term_of o s c.in-Some.op) ≤ c.args.left - 1 = c.is_op_within.ensures.0 passed in
    let low : op_levels (ir_term_of o s c.in-Some.op) < c.args.left = omega (arith, within, c.requires.some) in
    record {
      at = c.get_next-next.ensures.value ∙ c.child_there.ensures.next;
      low =
          low_passed _ _ _ _ c.args.left
          (first_op o s c.child_there.ensures.standing c.in-Some.op _ _ c.child_there.ensures.left) low
          c.ops.invariant.low;
    }

pub are_ops_below-returns-then-not-is_op_within : goal.are_ops_below-returns-then-not-is_op_within
are_ops_below-returns-then-not-is_op_within g t c =
    let o = g.D.OpSet in
    let s = c.args.ctx.now in (
      λ h. absurd (let f : ⊥ = cc in f),
      λ all. absurd (low_failed _ _ _ _ c.args.left
          (first_op o s c.child_there.ensures.standing c.in-Some.op _ _ c.child_there.ensures.left)
          (λ (h : op_levels (ir_term_of o s c.in-Some.op) < c.args.left).
          let within : op_levels (ir_term_of o s c.in-Some.op) ≤ c.args.left - 1 = omega (arith, h) in
          let passed : c.is_op_within.result ≡ true = c.is_op_within.ensures.1 within in
          let f : ⊥ = cc in f) c.ops.invariant.low all),
    )

pub are_ops_below-returns : goal.are_ops_below-returns
are_ops_below-returns g t c =
    let ks = children c.args.ctx.now (BasicBlock c.args.block) in
    let none = drop_none ks c.ops.place (sym c.ops.invariant.at ∙ ap (option_map Operation) c.in_default.is) in (
      λ _. c.ops.invariant.low.0
          (subst (λ l. nested_ops g.D.OpSet c.args.ctx.now l < c.args.left) (sym none) c.requires.some),
      λ _. refl,
    )
