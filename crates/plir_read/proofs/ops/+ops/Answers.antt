use Rattle.std.proofs.Common.{◌≡◌, ◌-◌, ◌∙◌, length, [], ◌∷◌, None, Ok, refl, sym, ap, subst, arith, inl, inr, ℕ, List}
use Rattle.std.proofs.lemmas.Result.{err_from_is_err_and}
use Rattle.plir_core.specs.declared.ptr.IRNode.TheVariants.{Operation, Region, BasicBlock}
use Rattle.plir_core.specs.Room.{IsFullFor, HaveCome, one_block}
use Rattle.plir_core.specs.RoomLaws.{come_itself, come_on}
use Rattle.plir_attr_text.specs.Tokens.{sign}
use Rattle.plir_attr_text.specs.laws.Begun.{sign_found}
use Rattle.plir_attr_text.specs.laws.Growth.{Grows-itself}
use Rattle.plir_attr_text.specs.laws.Meanings.{IsDictMeant-live}
use Rattle.plir_attr_text.specs.laws.TypeSteps.{behind_is}
use Rattle.plir_read.specs.HeldTypes.{IsHeldByHeader, IsHeldByBlockHead, IsHeldByBlock, IsHeldByBlocks}
use Rattle.plir_read.specs.HeldTypes.{IsHeldByConstant, IsHeldByOp, IsHeldByOps}
use Rattle.plir_read.specs.OpTerms.{op_term, constant_term, ops_of, blocks_of, OpTerm, BlockTerm}
use Rattle.plir_read.specs.OpReading.{op_at, first_name, bodied_at, block_at, semicolon_at, brace_at}
use Rattle.plir_read.specs.OpGrammar.{OpWithin, BlockWithin}
use Rattle.plir_read.specs.OpsRead.{list_count, body_count}
use Rattle.plir_read.specs.Room.{one_with_region, op_count, block_count}
use Rattle.plir_read.specs.Slots.{IsMadeInOrder}
use Rattle.plir_read.proofs.Gathered as gathered
use Rattle.plir_read.specs.laws.Kept.{IsGrown-itself, KeepsBut-itself}
use Rattle.plir_read.specs.laws.OpFound.{op_at-shorter, block_at-shorter, semicolon_at-shorter, brace_at-shorter}
use Rattle.plir_read.specs.laws.OpFound.{by_semicolon, semicolon_found, by_brace, brace_found, op_found, block_found}
use Rattle.plir_read.proofs.Beginnings.{Ends-map, room_begins, room_next, room_all, ops_lack_room, block_lacks_room}
use Rattle.plir_read.proofs.Beginnings.{inside_lacks_room, blocks_lack_room, bodied_lacks_room, body_lacks_room}
use Rattle.plir_read.proofs.Beginnings.{op_lacks_room}
use Rattle.plir_read.proofs.RoomLaws.{ops_counted, blocks_counted}
use Rattle.plir_read.specs.laws.StartFound.{named_is}
use Rattle.plir_read.specs.laws.OpMade.{arguments_live, block_kept, block_made, block_stands, op_kept, op_made, body_kept}
use Rattle.plir_read.specs.laws.OpMade.{op_stands, head_live, KeepsOlder-typed, KeepsOlder-on}
use Rattle.plir_attr_text.specs.laws.Ends.{end_itself, end_on, sign_end}
use Rattle.plir_read.specs.laws.OpEnds.{block_head_end, header_end, start_end, op_end, block_end, semicolon_end, brace_end}
use Rattle.plir_read.proofs.OpSteps.{from_start, ReadsOn-as, as_many, Ends-refused, refused_as, bodied_behind}
use Rattle.plir_read.proofs.OpSteps.{constant_at_id, constant_reads, no_start}
use Rattle.plir_read.proofs.OpSteps.{no_level, no_head, no_body, bodied_read, no_operations, operations, no_block_head}
use Rattle.plir_read.proofs.OpSteps.{no_block, block_read, no_brace, no_blocks_inside, blocks}
use Rattle.plir_read.specs.laws.TreesInOrder.{none_in_order, root_in_order, op_in_order}
use Rattle.plir_read.specs.laws.TypesNamed.{named_itself, named_still, behind_named, inside_named, so_far_on, so_far_next}
use Rattle.plir_read.proofs.Held.{none_come, both_come, come_still, held_is, HoldsNew-from, HoldsNew-made, ops_front}
use Rattle.plir_read.proofs.Held.{ops_last, blocks_front, blocks_last, held_begins, held_next, held_all}
use Rattle.plir_read.proofs.ops.+ops.Goals as goal

-- ---- a block

pub read_block-returns-in_err-head-clause-read : goal.read_block-returns-in_err-head-clause-read
read_block-returns-in_err-head-clause-read g t c =
    let p = err_from_is_err_and c.from_residual.result c.from_residual.ensures.1 in
    rw (p.1, p.2) (no_block_head (op_at c.args.levels) _ c.args.levels c.in_err-head.field-0.0 c.args.bytes.now
    c.in_err-head.ensures.read)

pub read_block-make_block-requires : goal.read_block-make_block-requires
read_block-make_block-requires g t c =
    let y = c.in_ok-head.ensures.read in
    arguments_live _ _ y.0.0 y.2.0

pub read_block-returns-in_err-block-clause-kept : goal.read_block-returns-in_err-block-clause-kept
read_block-returns-in_err-block-clause-kept g t c =
    KeepsOlder-on _ _ _ (KeepsOlder-typed c.args.ctx.now c.read_block_head-read.new.ctx c.in_ok-head.ensures.rest
    c.in_ok-head.ensures.grown) c.in_err-block.ensures.kept

pub read_block-returns-in_err-block-clause-read : goal.read_block-returns-in_err-block-clause-read
read_block-returns-in_err-block-clause-read g t c =
    let p = err_from_is_err_and c.from_residual-in_err-block.result c.from_residual-in_err-block.ensures.1 in
    let h = c.in_ok-head.ensures.read in
    let s = c.args.ctx.now.nodes in
    rw (p.1, p.2) (Ends-refused _ c.in_err-block.field-0.0 _
    (refused_as _ _ c.in_err-block.field-0.0
    (λ full. block_lacks_room c.args.levels s s _ c.in_ok-head.rest.now h.0.0
    (behind_is _ h.0 c.in_ok-head.rest.now h.1 h.2.1)
    (subst (λ z. IsFullFor z one_block) c.in_ok-head.ensures.rest full)) c.in_err-block.ensures.refused))

pub read_block-returns-in-Ok-clause-read : goal.read_block-returns-in-Ok-clause-read
read_block-returns-in-Ok-clause-read g t c =
    let h = c.in_ok-head.ensures.read in
    let y = c.in-Ok.ensures.read in (
      ((h.0.0, y.0.0), c.in-Ok.end.now),
      block_read (op_at c.args.levels) c.args.levels _ h.0.0 _ _ y.0.0 (behind_is _ h.0 c.in_ok-head.rest.now h.1 h.2.1)
          (behind_is _ y.0 c.in-Ok.end.now y.1 y.2.1),
      (
        (
          record {
            head = block_stands c.args.ctx.now c.read_block_head-read.new.ctx c.make_block.new.ctx
                c.read_ops.new.ctx c.in_ok-block.block c.in_ok-head.head c.in_ok-head.ensures.rest
                c.in_ok-head.ensures.grown c.in_ok-block.ensures.made h.0.0 h.2.0 c.in-Ok.ensures.kept;
            ops = y.2.0.0;
          },
          come_on c.args.ctx.now.nodes c.make_block.new.ctx.nodes c.read_ops.new.ctx.nodes one_block
              (list_count y.0.0)
              (subst (λ z. HaveCome z c.make_block.new.ctx.nodes one_block) c.in_ok-head.ensures.rest
              c.in_ok-block.ensures.come) y.2.0.1,
        ),
        refl,
      ),
    )

pub read_block-returns-in-Ok-clause-made : goal.read_block-returns-in-Ok-clause-made
read_block-returns-in-Ok-clause-made g t c =
    block_made c.args.ctx.now c.read_block_head-read.new.ctx c.make_block.new.ctx c.read_ops.new.ctx c.in_ok-block.block
    c.in_ok-head.head c.in_ok-head.ensures.rest c.in_ok-head.ensures.grown c.in_ok-block.ensures.made c.growth.ensures
    c.in_ok-block.ensures.whole.stored c.in-Ok.ensures.grown

pub read_block-returns-in-Ok-clause-kept : goal.read_block-returns-in-Ok-clause-kept
read_block-returns-in-Ok-clause-kept g t c =
    block_kept c.args.ctx.now c.read_block_head-read.new.ctx c.make_block.new.ctx c.read_ops.new.ctx c.in_ok-block.block
    c.in_ok-head.head c.in_ok-head.ensures.rest c.in_ok-head.ensures.grown c.in_ok-block.ensures.made
    c.in-Ok.ensures.kept

pub read_block-returns-in-Ok-clause-slots : goal.read_block-returns-in-Ok-clause-slots
read_block-returns-in-Ok-clause-slots g t c =
    let u = c.read_ops.new.ctx in
    subst (λ z. IsMadeInOrder z u.nodes (BasicBlock c.in_ok-block.block)) c.in_ok-head.ensures.rest
    (root_in_order c.read_block_head-read.new.ctx c.make_block.new.ctx u (BasicBlock c.in_ok-block.block)
    (c.contexts_stand.ensures _ c.in-Ok.ensures.whole) c.in_ok-block.ensures.slots c.in-Ok.ensures.slots)

pub read_block-returns-in-Err-clause-kept : goal.read_block-returns-in-Err-clause-kept
read_block-returns-in-Err-clause-kept g t c =
    block_kept c.args.ctx.now c.read_block_head-read.new.ctx c.make_block.new.ctx c.read_ops.new.ctx c.in_ok-block.block
    c.in_ok-head.head c.in_ok-head.ensures.rest c.in_ok-head.ensures.grown c.in_ok-block.ensures.made
    c.in-Err.ensures.kept

pub read_block-returns-in-Err-clause-read : goal.read_block-returns-in-Err-clause-read
read_block-returns-in-Err-clause-read g t c =
    let h = c.in_ok-head.ensures.read in
    let head = behind_is _ h.0 c.in_ok-head.rest.now h.1 h.2.1 in
    Ends-map _ _ c.in-Err.stop _
    (inside_lacks_room c.args.levels c.args.ctx.now.nodes c.make_block.new.ctx.nodes _ c.in_ok-head.rest.now h.0.0 head
    (subst (λ z. HaveCome z c.make_block.new.ctx.nodes one_block) c.in_ok-head.ensures.rest
    c.in_ok-block.ensures.come))
    (no_block (op_at c.args.levels) _ c.args.levels c.in-Err.stop _ h.0.0 _ head c.in-Err.ensures.read)

pub read_block-returns-in_err-block-clause-named : goal.read_block-returns-in_err-block-clause-named
read_block-returns-in_err-block-clause-named g t c =
    named_still _ _ _ _ c.in_err-block.ensures.types c.in_ok-head.ensures.named

pub read_block-returns-in-Ok-clause-named : goal.read_block-returns-in-Ok-clause-named
read_block-returns-in-Ok-clause-named g t c =
    let h = c.in_ok-head.ensures.read in
    inside_named _ _ _ _ _ _
    (block_head_end c.args.levels c.args.bytes.now h.0.0 c.in_ok-head.rest.now
    (behind_is _ h.0 c.in_ok-head.rest.now h.1 h.2.1)) c.in_ok-head.ensures.named c.in_ok-block.ensures.made.types
    c.in-Ok.ensures.kept.types c.in-Ok.ensures.named

pub read_block-returns-in-Ok-clause-held : goal.read_block-returns-in-Ok-clause-held
read_block-returns-in-Ok-clause-held g t c =
    let h = c.in_ok-head.ensures.read in
    let y = c.in-Ok.ensures.read in
    let z : BlockTerm × List ℕ = ((h.0.0, y.0.0), c.in-Ok.end.now) in
    let whole : block_at (op_at c.args.levels) c.args.levels c.args.bytes.now ≡ Ok z =
    block_read (op_at c.args.levels) c.args.levels _ h.0.0 _ _ y.0.0 (behind_is _ h.0 c.in_ok-head.rest.now h.1 h.2.1)
    (behind_is _ y.0 c.in-Ok.end.now y.1 y.2.1) in
    let head = come_still (λ v. IsHeldByBlockHead v h.0.0) _ _ _ c.in_ok-block.ensures.made.types
    (c.in_ok-head.ensures.held h.0 h.1) in
    λ x e. held_is IsHeldByBlock _ z x _ _ whole e
    (both_come (λ v. IsHeldByBlockHead v h.0.0) (λ v. IsHeldByOps v (ops_of y.0.0))
    (λ v. IsHeldByBlock v (h.0.0, y.0.0)) (λ v p. inl p) (λ v p. inr p) _ _ _ c.in-Ok.ensures.kept.types head
    (c.in-Ok.ensures.held y.0 y.1))

pub read_block-returns-in-Err-clause-named : goal.read_block-returns-in-Err-clause-named
read_block-returns-in-Err-clause-named g t c =
    let h = c.in_ok-head.ensures.read in
    inside_named _ _ _ _ _ _
    (block_head_end c.args.levels c.args.bytes.now h.0.0 c.in_ok-head.rest.now
    (behind_is _ h.0 c.in_ok-head.rest.now h.1 h.2.1)) c.in_ok-head.ensures.named c.in_ok-block.ensures.made.types
    c.in-Err.ensures.kept.types c.in-Err.ensures.named

-- ---- the blocks of a region

pub read_body-returns-in_err-start-clause-read : goal.read_body-returns-in_err-start-clause-read
read_body-returns-in_err-start-clause-read g t c =
    let p = err_from_is_err_and c.from_residual.result c.from_residual.ensures.1 in
    rw (p.1, p.2) (no_brace (op_at c.args.levels) _ c.args.levels c.in_err-start.field-0.0 c.args.bytes.now
    c.in_err-start.ensures)

pub read_body-returns-in_err-start-clause-kept : goal.read_body-returns-in_err-start-clause-kept
read_body-returns-in_err-start-clause-kept g t c = KeepsBut-itself _ _

pub read_body-returns-in-Some-clause-read : goal.read_body-returns-in-Some-clause-read
read_body-returns-in-Some-clause-read g t c = (
  ([], c.in-Some.rest.now),
  no_blocks_inside (op_at c.args.levels) c.args.levels _ _ _ c.in_ok-start.ensures (sym c.in-Some.ensures),
  ((c.requires.empty, come_itself c.args.ctx.now.nodes), refl),
)

pub read_body-returns-in-Some-clause-slots : goal.read_body-returns-in-Some-clause-slots
read_body-returns-in-Some-clause-slots g t c = none_in_order c.args.ctx.now (Region c.args.region) c.requires.empty

pub read_body-returns-in-Some-clause-kept : goal.read_body-returns-in-Some-clause-kept
read_body-returns-in-Some-clause-kept g t c = KeepsBut-itself _ _

pub read_body-returns-in-Some-clause-held : goal.read_body-returns-in-Some-clause-held
read_body-returns-in-Some-clause-held g t c = λ y e. none_come (λ v. IsHeldByBlocks v (blocks_of y.0)) _

pub read_body-inner-init : goal.read_body-inner-init
read_body-inner-init g t c = (
  record {
    live = c.requires.live;
    grown = IsGrown-itself _ _;
    types = Grows-itself _;
    whole = c.stands.ensures.whole;
    in_order = none_in_order c.args.ctx.now (Region c.args.region) c.requires.empty;
    front = [];
    stand = c.requires.empty;
    turns = from_start brace_at (block_at (op_at c.args.levels) c.args.levels) c.in_ok-start.start.now _
        (blocks (op_at c.args.levels) c.args.levels _ _ c.in_ok-start.ensures (sym c.in_default.ensures));
  },
  record { named = named_itself _ _; behind = sign_end 123 _ _ c.in_ok-start.ensures },
  held_begins IsHeldByBlock (λ t bs. IsHeldByBlocks t (blocks_of bs)) brace_at
      (block_at (op_at c.args.levels) c.args.levels) _ _ _
      (from_start brace_at (block_at (op_at c.args.levels) c.args.levels) c.in_ok-start.start.now _
      (blocks (op_at c.args.levels) c.args.levels _ _ c.in_ok-start.ensures (sym c.in_default.ensures))),
  room_begins (BlockWithin c.args.levels) by_brace block_count brace_at (block_at (op_at c.args.levels) c.args.levels)
      (sign 123 ∷ []) c.args.ctx.now.nodes c.args.bytes.now c.in_ok-start.start.now _
      (c.in_ok-start.start.now, sign_found 123 _ _ c.in_ok-start.ensures, refl)
      (from_start brace_at (block_at (op_at c.args.levels) c.args.levels) c.in_ok-start.start.now _
      (blocks (op_at c.args.levels) c.args.levels _ _ c.in_ok-start.ensures (sym c.in_default.ensures))),
)

pub read_body-returns-in-Err-clause-read : goal.read_body-returns-in-Err-clause-read
read_body-returns-in-Err-clause-read g t c =
    Ends-map _ _ c.in-Err.stop _
    (blocks_lack_room c.args.levels c.args.ctx.now.nodes c.inner.ctx.nodes c.args.bytes.now c.inner.rest.now
    c.inner.invariant.3)
    (gathered.not_read _ _ _ _ _ _ _ _ _ _ _ _ _ _ c.in-Err.stop c.inner.invariant.0 c.in-Err.ensures.read)

pub read_body-returns-in-Err-clause-named : goal.read_body-returns-in-Err-clause-named
read_body-returns-in-Err-clause-named g t c =
    so_far_on _ _ _ _ _ c.inner.invariant.1 c.in-Err.ensures.kept.types c.in-Err.ensures.named

pub read_body-returns-in-Err-clause-kept : goal.read_body-returns-in-Err-clause-kept
read_body-returns-in-Err-clause-kept g t c =
    gathered.not_one _ _ _ _ _ _ _ _ _ _ _ _ _ _ c.inner.invariant.0 c.in-Err.ensures.kept

pub read_body-insert_at_back-requires-clause-target_live : goal.read_body-insert_at_back-requires-clause-target_live
read_body-insert_at_back-requires-clause-target_live g t c =
    let i = c.inner.invariant.0 in
    c.in-Ok.ensures.kept.keeps.live (Region c.args.region) (i.grown.keeps.live (Region c.args.region) i.live)

pub read_body-insert_at_back-requires-clause-not_above : goal.read_body-insert_at_back-requires-clause-not_above
read_body-insert_at_back-requires-clause-not_above g t c =
    gathered.unlinked_apart _ _ _ _ _ _ _ _ c.args.ctx.now c.inner.ctx c.read_block.new.ctx (Region c.args.region)
    (BasicBlock c.in-Ok.read.0) _ _ c.inner.invariant.0 c.in-Ok.ensures.made

pub read_body-inner-smaller : goal.read_body-inner-smaller
read_body-inner-smaller g t c =
    let y = c.in-Ok.ensures.read in
    omega (
      arith,
      block_at-shorter c.args.levels c.inner.rest.now y.0 y.1,
      ap length y.2.1,
      brace_at-shorter c.in-Ok.read.1.now _ c.past_brace-goes_on.ensures,
    )

pub read_body-inner-preserved : goal.read_body-inner-preserved
read_body-inner-preserved g t c =
    let y = c.in-Ok.ensures.read in
    let gathers = gathered.one_more _ _ _ _ _ _ _ _ c.contexts_stand.ensures c.args.ctx.now c.inner.ctx
    c.read_block.new.ctx c.insert_at_back.new.ctx (Region c.args.region) (BasicBlock c.in-Ok.read.0) y.0.0
    c.inner.rest.now c.in-Ok.read.1.now c.past_brace-goes_on.result.1.now _ c.growth.ensures
    c.growth-in-inner.ensures c.inner.invariant.0
    (record {
      made = c.in-Ok.ensures.made;
      in_order = c.in-Ok.ensures.slots;
      kept = c.in-Ok.ensures.kept;
      stands =
          y.2.0.0;
      there = c.in-Ok.ensures.whole;
      placed = c.insert_at_back.ensures.placed;
      types =
          ap (λ z. z.types) c.insert_at_back.ensures.after;
    })
    c.insert_at_back.ensures.whole (behind_is _ y.0 c.in-Ok.read.1.now y.1 y.2.1)
    (c.past_brace-goes_on.ensures ∙ ap (λ b. Ok (b, c.past_brace-goes_on.result.1.now)) c.if-goes_on.true)
    (read_body-inner-smaller g t c) in (
      gathers,
      so_far_next _ _ _ _ _ _ _ c.inner.invariant.1 c.in-Ok.ensures.kept.types c.in-Ok.ensures.named
          (ap (λ z. z.types) c.insert_at_back.ensures.after)
          (end_on _ _ _ (block_end c.args.levels c.inner.rest.now y.0.0 c.in-Ok.read.1.now
          (behind_is _ y.0 c.in-Ok.read.1.now y.1 y.2.1)) (brace_end _ _ _ c.past_brace-goes_on.ensures)),
      held_next IsHeldByBlock (λ t bs. IsHeldByBlocks t (blocks_of bs)) brace_at
          (block_at (op_at c.args.levels) c.args.levels) blocks_front blocks_last _ _ _ _ _ _ c.inner.invariant.2 y.0.0
          c.in-Ok.read.1.now c.past_brace-goes_on.result.1.now (behind_is _ y.0 c.in-Ok.read.1.now y.1 y.2.1)
          c.in-Ok.ensures.kept.types (c.in-Ok.ensures.held y.0 y.1) (ap (λ z. z.types) c.insert_at_back.ensures.after)
          (c.past_brace-goes_on.ensures ∙ ap (λ b. Ok (b, c.past_brace-goes_on.result.1.now)) c.if-goes_on.true)
          (read_body-inner-smaller g t c),
      room_next (BlockWithin c.args.levels) by_brace block_count brace_at
          (block_at (op_at c.args.levels) c.args.levels) (sign 123 ∷ []) brace_found
          (block_found c.args.levels (op_at c.args.levels) (op_found c.args.levels)) _ _ _ _ _ c.inner.invariant.3 _ _ _
          y.0.0 c.in-Ok.read.1.now (behind_is _ y.0 c.in-Ok.read.1.now y.1 y.2.1) y.2.0.1
          c.insert_at_back.ensures.placed.moved c.past_brace-goes_on.result.1.now
          (c.past_brace-goes_on.ensures ∙ ap (λ b. Ok (b, c.past_brace-goes_on.result.1.now)) c.if-goes_on.true)
          (read_body-inner-smaller g t c),
    )

pub read_body-returns-else-goes_on : goal.read_body-returns-else-goes_on
read_body-returns-else-goes_on g t c =
    let y = c.in-Ok.ensures.read in
    let r = gathered.last_one _ _ _ _ _ _ _ _ c.contexts_stand.ensures c.args.ctx.now c.inner.ctx c.read_block.new.ctx
    c.insert_at_back.new.ctx (Region c.args.region) (BasicBlock c.in-Ok.read.0) y.0.0 c.inner.rest.now
    c.in-Ok.read.1.now c.past_brace-goes_on.result.1.now _ c.growth.ensures c.growth-in-inner.ensures
    c.inner.invariant.0
    (record {
      made = c.in-Ok.ensures.made;
      in_order = c.in-Ok.ensures.slots;
      kept = c.in-Ok.ensures.kept;
      stands =
          y.2.0.0;
      there = c.in-Ok.ensures.whole;
      placed = c.insert_at_back.ensures.placed;
      types =
          ap (λ z. z.types) c.insert_at_back.ensures.after;
    })
    (behind_is _ y.0 c.in-Ok.read.1.now y.1 y.2.1)
    (c.past_brace-goes_on.ensures ∙ ap (λ b. Ok (b, c.past_brace-goes_on.result.1.now)) c.if-goes_on.false) in
    record {
      read = (
        (r.all, c.past_brace-goes_on.result.1.now),
        r.gives,
        (
          (
            r.stand,
            subst (HaveCome c.args.ctx.now.nodes c.insert_at_back.new.ctx.nodes) (sym (blocks_counted r.all))
                (room_all (BlockWithin c.args.levels) by_brace block_count brace_at
                (block_at (op_at c.args.levels) c.args.levels) (sign 123 ∷ []) brace_found
                (block_found c.args.levels (op_at c.args.levels) (op_found c.args.levels)) _ _ _ _ _
                c.inner.invariant.3 _ _ _ y.0.0 c.in-Ok.read.1.now
                (behind_is _ y.0 c.in-Ok.read.1.now y.1 y.2.1) y.2.0.1 c.insert_at_back.ensures.placed.moved
                c.past_brace-goes_on.result.1.now
                (c.past_brace-goes_on.ensures ∙
                ap (λ b. Ok (b, c.past_brace-goes_on.result.1.now)) c.if-goes_on.false) r.all
                c.past_brace-goes_on.result.1.now r.gives),
          ),
          refl,
        ),
      );
      grown = r.grown;
      slots = r.in_order;
      kept = r.kept;
      named = named_still _ _ _ _ (ap (λ z. z.types) c.insert_at_back.ensures.after)
          (so_far_on _ _ _ _ _ c.inner.invariant.1 c.in-Ok.ensures.kept.types c.in-Ok.ensures.named);
      held = λ z e. held_all IsHeldByBlock (λ t bs. IsHeldByBlocks t (blocks_of bs)) brace_at
          (block_at (op_at c.args.levels) c.args.levels) blocks_front blocks_last _ _ _ _ _ _ c.inner.invariant.2 y.0.0
          c.in-Ok.read.1.now c.past_brace-goes_on.result.1.now (behind_is _ y.0 c.in-Ok.read.1.now y.1 y.2.1)
          c.in-Ok.ensures.kept.types (c.in-Ok.ensures.held y.0 y.1) (ap (λ z. z.types) c.insert_at_back.ensures.after)
          (c.past_brace-goes_on.ensures ∙ ap (λ b. Ok (b, c.past_brace-goes_on.result.1.now)) c.if-goes_on.false) z e;
      whole = c.insert_at_back.ensures.whole;
    }

-- ---- the operations of a block

pub read_ops-returns-then-ends_block-clause-read : goal.read_ops-returns-then-ends_block-clause-read
read_ops-returns-then-ends_block-clause-read g t c = (
  ([], c.args.bytes.now),
  no_operations (op_at c.args.levels) _ (sym c.ends_block.ensures ∙ c.if-ends_block.true),
  ((c.requires.empty, come_itself c.args.ctx.now.nodes), refl),
)

pub read_ops-returns-then-ends_block-clause-slots : goal.read_ops-returns-then-ends_block-clause-slots
read_ops-returns-then-ends_block-clause-slots g t c =
    none_in_order c.args.ctx.now (BasicBlock c.args.block) c.requires.empty

pub read_ops-returns-then-ends_block-clause-kept : goal.read_ops-returns-then-ends_block-clause-kept
read_ops-returns-then-ends_block-clause-kept g t c = KeepsBut-itself _ _

pub read_ops-returns-then-ends_block-clause-held : goal.read_ops-returns-then-ends_block-clause-held
read_ops-returns-then-ends_block-clause-held g t c = λ y e. none_come (λ v. IsHeldByOps v (ops_of y.0)) _

pub read_ops-ops-init : goal.read_ops-ops-init
read_ops-ops-init g t c = (
  record {
    live = c.requires.live;
    grown = IsGrown-itself _ _;
    types = Grows-itself _;
    whole = c.stands.ensures.whole;
    in_order = none_in_order c.args.ctx.now (BasicBlock c.args.block) c.requires.empty;
    front = [];
    stand = c.requires.empty;
    turns = from_start semicolon_at (op_at c.args.levels) c.args.bytes.now _
        (operations (op_at c.args.levels) _ (sym c.ends_block.ensures ∙ c.if-ends_block.false));
  },
  record { named = named_itself _ _; behind = end_itself _ },
  held_begins IsHeldByOp (λ t os. IsHeldByOps t (ops_of os)) semicolon_at (op_at c.args.levels) _ _ _
      (from_start semicolon_at (op_at c.args.levels) c.args.bytes.now _
      (operations (op_at c.args.levels) _ (sym c.ends_block.ensures ∙ c.if-ends_block.false))),
  room_begins (OpWithin c.args.levels) by_semicolon op_count semicolon_at (op_at c.args.levels) []
      c.args.ctx.now.nodes c.args.bytes.now c.args.bytes.now _ refl
      (from_start semicolon_at (op_at c.args.levels) c.args.bytes.now _
      (operations (op_at c.args.levels) _ (sym c.ends_block.ensures ∙ c.if-ends_block.false))),
)

pub read_ops-returns-in-Err-clause-read : goal.read_ops-returns-in-Err-clause-read
read_ops-returns-in-Err-clause-read g t c =
    Ends-map _ _ c.in-Err.stop _
    (ops_lack_room c.args.levels c.args.ctx.now.nodes c.ops.ctx.nodes c.args.bytes.now c.ops.rest.now c.ops.invariant.3)
    (gathered.not_read _ _ _ _ _ _ _ _ _ _ _ _ _ _ c.in-Err.stop c.ops.invariant.0 c.in-Err.ensures.read)

pub read_ops-returns-in-Err-clause-named : goal.read_ops-returns-in-Err-clause-named
read_ops-returns-in-Err-clause-named g t c =
    so_far_on _ _ _ _ _ c.ops.invariant.1 c.in-Err.ensures.kept.types c.in-Err.ensures.named

pub read_ops-returns-in-Err-clause-kept : goal.read_ops-returns-in-Err-clause-kept
read_ops-returns-in-Err-clause-kept g t c =
    gathered.not_one _ _ _ _ _ _ _ _ _ _ _ _ _ _ c.ops.invariant.0 c.in-Err.ensures.kept

pub read_ops-insert_at_back-requires-clause-target_live : goal.read_ops-insert_at_back-requires-clause-target_live
read_ops-insert_at_back-requires-clause-target_live g t c =
    let i = c.ops.invariant.0 in
    c.in-Ok.ensures.kept.keeps.live (BasicBlock c.args.block) (i.grown.keeps.live (BasicBlock c.args.block) i.live)

pub read_ops-insert_at_back-requires-clause-not_above : goal.read_ops-insert_at_back-requires-clause-not_above
read_ops-insert_at_back-requires-clause-not_above g t c =
    gathered.unlinked_apart _ _ _ _ _ _ _ _ c.args.ctx.now c.ops.ctx c.read_op_at.new.ctx (BasicBlock c.args.block)
    (Operation c.in-Ok.read.0) _ _ c.ops.invariant.0 c.in-Ok.ensures.made

pub read_ops-ops-smaller : goal.read_ops-ops-smaller
read_ops-ops-smaller g t c =
    let y = c.in-Ok.ensures.read in
    omega (
      arith,
      op_at-shorter c.args.levels c.ops.rest.now y.0 y.1,
      ap length y.2.1,
      semicolon_at-shorter c.in-Ok.read.1.now _ c.past_semicolon-goes_on.ensures,
    )

pub read_ops-ops-preserved : goal.read_ops-ops-preserved
read_ops-ops-preserved g t c =
    let y = c.in-Ok.ensures.read in
    let gathers = gathered.one_more _ _ _ _ _ _ _ _ c.contexts_stand.ensures c.args.ctx.now c.ops.ctx
    c.read_op_at.new.ctx c.insert_at_back.new.ctx (BasicBlock c.args.block) (Operation c.in-Ok.read.0) y.0.0
    c.ops.rest.now c.in-Ok.read.1.now c.past_semicolon-goes_on.result.1.now _ c.growth.ensures
    c.growth-in-ops.ensures c.ops.invariant.0
    (record {
      made = c.in-Ok.ensures.made;
      in_order = c.in-Ok.ensures.slots;
      kept = c.in-Ok.ensures.kept;
      stands =
          y.2.0.0;
      there = c.in-Ok.ensures.whole;
      placed = c.insert_at_back.ensures.placed;
      types =
          ap (λ z. z.types) c.insert_at_back.ensures.after;
    })
    c.insert_at_back.ensures.whole (behind_is _ y.0 c.in-Ok.read.1.now y.1 y.2.1)
    (c.past_semicolon-goes_on.ensures ∙ ap (λ b. Ok (b, c.past_semicolon-goes_on.result.1.now)) c.if-goes_on.true)
    (read_ops-ops-smaller g t c) in (
      gathers,
      so_far_next _ _ _ _ _ _ _ c.ops.invariant.1 c.in-Ok.ensures.kept.types c.in-Ok.ensures.named
          (ap (λ z. z.types) c.insert_at_back.ensures.after)
          (end_on _ _ _ (op_end c.args.levels c.ops.rest.now y.0.0 c.in-Ok.read.1.now
          (behind_is _ y.0 c.in-Ok.read.1.now y.1 y.2.1)) (semicolon_end _ _ _ c.past_semicolon-goes_on.ensures)),
      held_next IsHeldByOp (λ t os. IsHeldByOps t (ops_of os)) semicolon_at (op_at c.args.levels) ops_front ops_last _ _
          _ _ _ _ c.ops.invariant.2 y.0.0 c.in-Ok.read.1.now c.past_semicolon-goes_on.result.1.now
          (behind_is _ y.0 c.in-Ok.read.1.now y.1 y.2.1) c.in-Ok.ensures.kept.types (c.in-Ok.ensures.held y.0 y.1)
          (ap (λ z. z.types) c.insert_at_back.ensures.after)
          (c.past_semicolon-goes_on.ensures ∙ ap (λ b. Ok (b, c.past_semicolon-goes_on.result.1.now)) c.if-goes_on.true)
          (read_ops-ops-smaller g t c),
      room_next (OpWithin c.args.levels) by_semicolon op_count semicolon_at (op_at c.args.levels) [] semicolon_found
          (op_found c.args.levels) _ _ _ _ _ c.ops.invariant.3 _ _ _ y.0.0 c.in-Ok.read.1.now
          (behind_is _ y.0 c.in-Ok.read.1.now y.1 y.2.1) y.2.0.1 c.insert_at_back.ensures.placed.moved
          c.past_semicolon-goes_on.result.1.now
          (c.past_semicolon-goes_on.ensures ∙ ap (λ b. Ok (b, c.past_semicolon-goes_on.result.1.now)) c.if-goes_on.true)
          (read_ops-ops-smaller g t c),
    )

pub read_ops-returns-else-goes_on : goal.read_ops-returns-else-goes_on
read_ops-returns-else-goes_on g t c =
    let y = c.in-Ok.ensures.read in
    let r = gathered.last_one _ _ _ _ _ _ _ _ c.contexts_stand.ensures c.args.ctx.now c.ops.ctx c.read_op_at.new.ctx
    c.insert_at_back.new.ctx (BasicBlock c.args.block) (Operation c.in-Ok.read.0) y.0.0 c.ops.rest.now
    c.in-Ok.read.1.now c.past_semicolon-goes_on.result.1.now _ c.growth.ensures c.growth-in-ops.ensures
    c.ops.invariant.0
    (record {
      made = c.in-Ok.ensures.made;
      in_order = c.in-Ok.ensures.slots;
      kept = c.in-Ok.ensures.kept;
      stands =
          y.2.0.0;
      there = c.in-Ok.ensures.whole;
      placed = c.insert_at_back.ensures.placed;
      types =
          ap (λ z. z.types) c.insert_at_back.ensures.after;
    })
    (behind_is _ y.0 c.in-Ok.read.1.now y.1 y.2.1)
    (c.past_semicolon-goes_on.ensures ∙ ap (λ b. Ok (b, c.past_semicolon-goes_on.result.1.now)) c.if-goes_on.false)
    in
    record {
      read = (
        (r.all, c.past_semicolon-goes_on.result.1.now),
        r.gives,
        (
          (
            r.stand,
            subst (HaveCome c.args.ctx.now.nodes c.insert_at_back.new.ctx.nodes) (sym (ops_counted r.all))
                (room_all (OpWithin c.args.levels) by_semicolon op_count semicolon_at (op_at c.args.levels) []
                semicolon_found (op_found c.args.levels) _ _ _ _ _ c.ops.invariant.3 _ _ _ y.0.0 c.in-Ok.read.1.now
                (behind_is _ y.0 c.in-Ok.read.1.now y.1 y.2.1) y.2.0.1 c.insert_at_back.ensures.placed.moved
                c.past_semicolon-goes_on.result.1.now
                (c.past_semicolon-goes_on.ensures ∙
                ap (λ b. Ok (b, c.past_semicolon-goes_on.result.1.now)) c.if-goes_on.false) r.all
                c.past_semicolon-goes_on.result.1.now r.gives),
          ),
          refl,
        ),
      );
      grown = r.grown;
      slots = r.in_order;
      kept = r.kept;
      named = named_still _ _ _ _ (ap (λ z. z.types) c.insert_at_back.ensures.after)
          (so_far_on _ _ _ _ _ c.ops.invariant.1 c.in-Ok.ensures.kept.types c.in-Ok.ensures.named);
      held = λ z e. held_all IsHeldByOp (λ t os. IsHeldByOps t (ops_of os)) semicolon_at (op_at c.args.levels) ops_front
          ops_last _ _ _ _ _ _ c.ops.invariant.2 y.0.0 c.in-Ok.read.1.now c.past_semicolon-goes_on.result.1.now
          (behind_is _ y.0 c.in-Ok.read.1.now y.1 y.2.1) c.in-Ok.ensures.kept.types (c.in-Ok.ensures.held y.0 y.1)
          (ap (λ z. z.types) c.insert_at_back.ensures.after)
          (c.past_semicolon-goes_on.ensures ∙
          ap (λ b. Ok (b, c.past_semicolon-goes_on.result.1.now)) c.if-goes_on.false) z e;
      whole = c.insert_at_back.ensures.whole;
    }

-- ---- a module or a function

pub read_bodied-returns-in_err-expect_names-clause-kept : goal.read_bodied-returns-in_err-expect_names-clause-kept
read_bodied-returns-in_err-expect_names-clause-kept g t c = KeepsBut-itself _ None

pub read_bodied-make_op-requires-clause-head_live : goal.read_bodied-make_op-requires-clause-head_live
read_bodied-make_op-requires-clause-head_live g t c =
    let y = c.in_ok-header.ensures.read in
    head_live _ _ y.0.0.0 y.2.0.head_is

pub read_bodied-make_op-requires-clause-entries_live : goal.read_bodied-make_op-requires-clause-entries_live
read_bodied-make_op-requires-clause-entries_live g t c =
    let y = c.in_ok-header.ensures.read in
    IsDictMeant-live _ _ y.0.0.1 _ y.2.0.dictionary

pub read_bodied-returns-in_err-header-clause-read : goal.read_bodied-returns-in_err-header-clause-read
read_bodied-returns-in_err-header-clause-read g t c =
    let p = err_from_is_err_and c.from_residual-in_err-header.result c.from_residual-in_err-header.ensures.1 in
    rw (p.1, p.2) (no_head (op_at c.args.levels) c.args.levels c.args.kind c.args.names _ c.in_err-header.field-0.0 _
    c.args.bytes.now c.in_ok-expect_names.ensures c.in_err-header.ensures.read)

pub read_bodied-returns-in_err-op-clause-kept : goal.read_bodied-returns-in_err-op-clause-kept
read_bodied-returns-in_err-op-clause-kept g t c =
    KeepsOlder-on _ _ _ (KeepsOlder-typed c.args.ctx.now c.read_header-read.new.ctx c.in_ok-header.ensures.rest
    c.in_ok-header.ensures.grown) c.in_err-op.ensures.kept

pub read_bodied-returns-in_err-op-clause-read : goal.read_bodied-returns-in_err-op-clause-read
read_bodied-returns-in_err-op-clause-read g t c =
    let p = err_from_is_err_and c.from_residual-in_err-op.result c.from_residual-in_err-op.ensures.1 in
    let h = c.in_ok-header.ensures.read in
    let s = c.args.ctx.now.nodes in
    rw (p.1, p.2) (Ends-refused _ c.in_err-op.field-0.0 _
    (refused_as _ _ c.in_err-op.field-0.0
    (λ full. bodied_lacks_room c.args.levels c.args.kind c.args.names s s c.args.bytes.now c.in_ok-header.behind.now
    h.0.0 (named_is 0 c.args.names _ c.in_ok-expect_names.ensures)
    (behind_is _ h.0 c.in_ok-header.behind.now h.1 h.2.1)
    (subst (λ z. IsFullFor z one_with_region) c.in_ok-header.ensures.rest full)) c.in_err-op.ensures.refused))

pub read_bodied-returns-in-Ok-clause-read : goal.read_bodied-returns-in-Ok-clause-read
read_bodied-returns-in-Ok-clause-read g t c =
    let h = c.in_ok-header.ensures.read in
    let y = c.in-Ok.ensures.read in (
      (op_term h.0.0 (blocks_of y.0.0), c.in-Ok.end.now),
      bodied_read (op_at c.args.levels) c.args.levels c.args.kind c.args.names _ c.args.bytes.now _ _ h.0.0 y.0.0
          c.in_ok-expect_names.ensures (behind_is _ h.0 c.in_ok-header.behind.now h.1 h.2.1)
          (behind_is _ y.0 c.in-Ok.end.now y.1 y.2.1),
      (
        (
          op_stands c.args.ctx.now c.read_header-read.new.ctx c.make_op.new.ctx c.read_body.new.ctx c.in_ok-op.op
              c.in_ok-op.region _ (c.contexts_stand.ensures _ c.in_ok-op.ensures.whole) c.in_ok-header.ensures.rest
              c.in_ok-header.ensures.grown c.in_ok-op.ensures.made c.in_ok-header.header.head
              c.in_ok-header.header.entries h.0.0 y.0.0 h.2.0 refl c.in-Ok.ensures.kept y.2.0.0,
          come_on c.args.ctx.now.nodes c.make_op.new.ctx.nodes c.read_body.new.ctx.nodes one_with_region (body_count
              y.0.0)
              (subst (λ z. HaveCome z c.make_op.new.ctx.nodes one_with_region) c.in_ok-header.ensures.rest
              c.in_ok-op.ensures.come) y.2.0.1,
        ),
        refl,
      ),
    )

pub read_bodied-returns-in-Ok-clause-made : goal.read_bodied-returns-in-Ok-clause-made
read_bodied-returns-in-Ok-clause-made g t c =
    op_made c.args.ctx.now c.read_header-read.new.ctx c.make_op.new.ctx c.read_body.new.ctx c.in_ok-op.op
    c.in_ok-op.region _ (c.contexts_stand.ensures _ c.in_ok-op.ensures.whole) c.in_ok-header.ensures.rest
    c.in_ok-header.ensures.grown c.in_ok-op.ensures.made c.growth.ensures c.in_ok-op.ensures.whole.stored
    c.in-Ok.ensures.grown

pub read_bodied-returns-in-Ok-clause-kept : goal.read_bodied-returns-in-Ok-clause-kept
read_bodied-returns-in-Ok-clause-kept g t c =
    op_kept c.args.ctx.now c.read_header-read.new.ctx c.make_op.new.ctx c.read_body.new.ctx c.in_ok-op.op
    c.in_ok-op.region _ (c.contexts_stand.ensures _ c.in_ok-op.ensures.whole) c.in_ok-header.ensures.rest
    c.in_ok-header.ensures.grown c.in_ok-op.ensures.made c.in-Ok.ensures.kept

pub read_bodied-returns-in-Ok-clause-slots : goal.read_bodied-returns-in-Ok-clause-slots
read_bodied-returns-in-Ok-clause-slots g t c =
    let s = c.read_header-read.new.ctx in
    let m = c.make_op.new.ctx in
    let u = c.read_body.new.ctx in
    let body = body_kept c.args.ctx.now s m u c.in_ok-op.op c.in_ok-op.region _
    (c.contexts_stand.ensures _ c.in_ok-op.ensures.whole) c.in_ok-header.ensures.rest c.in_ok-header.ensures.grown
    c.in_ok-op.ensures.made c.in-Ok.ensures.kept in
    subst (λ z. IsMadeInOrder z u.nodes (Operation c.in_ok-op.op)) c.in_ok-header.ensures.rest
    (op_in_order s m u c.in_ok-op.op c.in_ok-op.region (c.contexts_stand.ensures _ c.in-Ok.ensures.whole) body
    c.in_ok-op.ensures.slots c.in-Ok.ensures.slots)

pub read_bodied-returns-in-Err-clause-kept : goal.read_bodied-returns-in-Err-clause-kept
read_bodied-returns-in-Err-clause-kept g t c =
    op_kept c.args.ctx.now c.read_header-read.new.ctx c.make_op.new.ctx c.read_body.new.ctx c.in_ok-op.op
    c.in_ok-op.region _ (c.contexts_stand.ensures _ c.in_ok-op.ensures.whole) c.in_ok-header.ensures.rest
    c.in_ok-header.ensures.grown c.in_ok-op.ensures.made c.in-Err.ensures.kept

pub read_bodied-returns-in-Err-clause-read : goal.read_bodied-returns-in-Err-clause-read
read_bodied-returns-in-Err-clause-read g t c =
    let h = c.in_ok-header.ensures.read in
    let head = behind_is _ h.0 c.in_ok-header.behind.now h.1 h.2.1 in
    Ends-map _ _ c.in-Err.stop _
    (body_lacks_room c.args.levels c.args.kind c.args.names c.args.ctx.now.nodes c.make_op.new.ctx.nodes
    c.args.bytes.now c.in_ok-header.behind.now h.0.0 (named_is 0 c.args.names _ c.in_ok-expect_names.ensures) head
    (subst (λ z. HaveCome z c.make_op.new.ctx.nodes one_with_region) c.in_ok-header.ensures.rest
    c.in_ok-op.ensures.come))
    (no_body (op_at c.args.levels) c.args.levels c.args.kind c.args.names _ c.in-Err.stop _ c.args.bytes.now _ h.0.0
    c.in_ok-expect_names.ensures head c.in-Err.ensures.read)

pub read_bodied-returns-in_err-op-clause-named : goal.read_bodied-returns-in_err-op-clause-named
read_bodied-returns-in_err-op-clause-named g t c =
    named_still _ _ _ _ c.in_err-op.ensures.types c.in_ok-header.ensures.named

pub read_bodied-returns-in-Ok-clause-named : goal.read_bodied-returns-in-Ok-clause-named
read_bodied-returns-in-Ok-clause-named g t c =
    let h = c.in_ok-header.ensures.read in
    inside_named _ _ _ _ _ _
    (header_end c.args.levels c.args.kind c.args.bytes.now h.0.0 c.in_ok-header.behind.now
    (behind_is _ h.0 c.in_ok-header.behind.now h.1 h.2.1)) c.in_ok-header.ensures.named
    c.in_ok-op.ensures.made.types c.in-Ok.ensures.kept.types c.in-Ok.ensures.named

pub read_bodied-returns-in-Ok-clause-held : goal.read_bodied-returns-in-Ok-clause-held
read_bodied-returns-in-Ok-clause-held g t c =
    let h = c.in_ok-header.ensures.read in
    let y = c.in-Ok.ensures.read in
    let z : OpTerm × List ℕ = (op_term h.0.0 (blocks_of y.0.0), c.in-Ok.end.now) in
    let whole : bodied_at (op_at c.args.levels) c.args.levels c.args.kind c.args.names c.args.bytes.now ≡ Ok z =
    bodied_read (op_at c.args.levels) c.args.levels c.args.kind c.args.names _ c.args.bytes.now _ _ h.0.0 y.0.0
    c.in_ok-expect_names.ensures (behind_is _ h.0 c.in_ok-header.behind.now h.1 h.2.1)
    (behind_is _ y.0 c.in-Ok.end.now y.1 y.2.1) in
    let head = come_still (λ v. IsHeldByHeader v h.0.0) _ _ _ c.in_ok-op.ensures.made.types
    (c.in_ok-header.ensures.held h.0 h.1) in
    λ x e. held_is IsHeldByOp _ z x _ _ whole e
    (both_come (λ v. IsHeldByHeader v h.0.0) (λ v. IsHeldByBlocks v (blocks_of y.0.0))
    (λ v. IsHeldByOp v (op_term h.0.0 (blocks_of y.0.0))) (λ v p. inl p) (λ v p. inr p) _ _ _
    c.in-Ok.ensures.kept.types head (c.in-Ok.ensures.held y.0 y.1))

pub read_bodied-returns-in-Err-clause-named : goal.read_bodied-returns-in-Err-clause-named
read_bodied-returns-in-Err-clause-named g t c =
    let h = c.in_ok-header.ensures.read in
    inside_named _ _ _ _ _ _
    (header_end c.args.levels c.args.kind c.args.bytes.now h.0.0 c.in_ok-header.behind.now
    (behind_is _ h.0 c.in_ok-header.behind.now h.1 h.2.1)) c.in_ok-header.ensures.named
    c.in_ok-op.ensures.made.types c.in-Err.ensures.kept.types c.in-Err.ensures.named

-- ---- an operation

pub read_op_at-returns-in_err-opening-clause-kept : goal.read_op_at-returns-in_err-opening-clause-kept
read_op_at-returns-in_err-opening-clause-kept g t c = KeepsBut-itself _ None

pub read_op_at-returns-in_err-begin_level-clause-kept : goal.read_op_at-returns-in_err-begin_level-clause-kept
read_op_at-returns-in_err-begin_level-clause-kept g t c = KeepsBut-itself _ None

pub read_op_at-returns-in_err-begin_level-clause-read : goal.read_op_at-returns-in_err-begin_level-clause-read
read_op_at-returns-in_err-begin_level-clause-read g t c =
    let p = err_from_is_err_and c.from_residual.result c.from_residual.ensures.1 in
    rw (p.1, p.2) (no_level _ c.args.levels c.in_err-begin_level.field-0.0 c.args.bytes.now
    c.in_err-begin_level.ensures.read)

pub read_op_at-returns-in_err-opening-clause-read : goal.read_op_at-returns-in_err-opening-clause-read
read_op_at-returns-in_err-opening-clause-read g t c =
    let p = err_from_is_err_and c.from_residual-in_err-opening.result c.from_residual-in_err-opening.ensures.1 in
    rw (p.1, p.2) (no_start _ c.args.levels c.in_err-opening.field-0.0 c.args.bytes.now
    (omega (arith, c.in_ok-begin_level.ensures.some)) c.in_err-opening.ensures)

pub read_op_at-returns-in-Bodied-clause-read : goal.read_op_at-returns-in-Bodied-clause-read
read_op_at-returns-in-Bodied-clause-read g t c =
    let y = c.in_ok-opening.ensures in
    let start = behind_is _ y.0 c.in_ok-opening.rest.now y.1 y.2.1 in
    let behind = bodied_behind c.args.levels c.args.bytes.now c.in_ok-opening.rest.now y.0.0.0
    c.in_ok-opening.opening.names.items y.0.0.1 c.in-Bodied.body (omega (arith, c.in_ok-begin_level.ensures.some))
    start (sym y.2.0.kind ∙ c.in-Bodied.is) y.2.0.names in
    let many = sym (c.len.ensures ∙ c.in_ok-opening.opening.names.ok.0) in
    let same = ap (λ m. bodied_at (op_at (c.args.levels - 1)) (c.args.levels - 1) c.in-Bodied.body m
    c.in_ok-opening.rest.now) many in
    ReadsOn-as _ _ _ c.read_bodied.result _ _ (behind ∙ same)
    (λ h. (
      op_lacks_room c.args.ctx.now.nodes c.args.levels c.in-Bodied.body y.0.0.0 _ c.args.bytes.now
          c.in_ok-opening.rest.now (omega (arith, c.in_ok-begin_level.ensures.some))
          (start ∙ ap (λ k. Ok ((y.0.0.0, k), c.in_ok-opening.rest.now)) (sym y.2.0.kind ∙ c.in-Bodied.is))
          (as_many y.0.0.0 c.in_ok-opening.opening.names.items y.2.0.names ∙ many) h.0,
      λ x e. h.1 x (sym (behind ∙ same) ∙ e),
    )) c.read_bodied.ensures.read

pub read_op_at-returns-in-Constant-clause-read : goal.read_op_at-returns-in-Constant-clause-read
read_op_at-returns-in-Constant-clause-read g t c =
    let y = c.in_ok-opening.ensures in
    let start = behind_is _ y.0 c.in_ok-opening.rest.now y.1 y.2.1 in
    constant_reads c.args.ctx.now c.read_constant.new.ctx (λ x. Operation x.0) (λ x. x.1.now) c.args.levels
    c.args.bytes.now c.in_ok-opening.rest.now y.0.0.0
    c.in_ok-opening.opening.names.items y.2.0.names c.read_constant.result y.0.0.1
    (omega (arith, c.in_ok-begin_level.ensures.some)) start (sym y.2.0.kind ∙ c.in-Constant.is)
    c.read_constant.ensures.read

pub read_op_at-returns-in-Bodied-clause-named : goal.read_op_at-returns-in-Bodied-clause-named
read_op_at-returns-in-Bodied-clause-named g t c =
    let y = c.in_ok-opening.ensures in
    behind_named _ _ _ _ (start_end c.args.bytes.now y.0.0 c.in_ok-opening.rest.now
    (behind_is _ y.0 c.in_ok-opening.rest.now y.1 y.2.1)) c.read_bodied.ensures.named

pub read_op_at-returns-in-Constant-clause-named : goal.read_op_at-returns-in-Constant-clause-named
read_op_at-returns-in-Constant-clause-named g t c =
    let y = c.in_ok-opening.ensures in
    behind_named _ _ _ _ (start_end c.args.bytes.now y.0.0 c.in_ok-opening.rest.now
    (behind_is _ y.0 c.in_ok-opening.rest.now y.1 y.2.1)) c.read_constant.ensures.named

pub read_op_at-returns-in-Bodied-clause-held : goal.read_op_at-returns-in-Bodied-clause-held
read_op_at-returns-in-Bodied-clause-held g t c =
    let y = c.in_ok-opening.ensures in
    let start = behind_is _ y.0 c.in_ok-opening.rest.now y.1 y.2.1 in
    let behind = bodied_behind c.args.levels c.args.bytes.now c.in_ok-opening.rest.now y.0.0.0
    c.in_ok-opening.opening.names.items y.0.0.1 c.in-Bodied.body (omega (arith, c.in_ok-begin_level.ensures.some))
    start (sym y.2.0.kind ∙ c.in-Bodied.is) y.2.0.names in
    let same = ap (λ m. bodied_at (op_at (c.args.levels - 1)) (c.args.levels - 1) c.in-Bodied.body m
    c.in_ok-opening.rest.now) (sym (c.len.ensures ∙ c.in_ok-opening.opening.names.ok.0)) in
    HoldsNew-from IsHeldByOp c.read_bodied.result _ _ _ _ (behind ∙ same) c.read_bodied.ensures.held

pub read_op_at-returns-in-Constant-clause-held : goal.read_op_at-returns-in-Constant-clause-held
read_op_at-returns-in-Constant-clause-held g t c =
    let y = c.in_ok-opening.ensures in
    let start = behind_is _ y.0 c.in_ok-opening.rest.now y.1 y.2.1 in
    HoldsNew-made IsHeldByConstant IsHeldByOp (λ k. (constant_term (first_name y.0.0.0) k.0.0 k.0.1, k.1)) (λ v k h. h)
    c.read_constant.result _ _ _ _
    (constant_at_id c.args.levels c.args.bytes.now c.in_ok-opening.rest.now y.0.0.0 c.in_ok-opening.opening.names.items
    y.0.0.1 (omega (arith, c.in_ok-begin_level.ensures.some)) start (sym y.2.0.kind ∙ c.in-Constant.is) y.2.0.names)
    c.read_constant.ensures.held

pub read_op_at-returns-clause-kept : goal.read_op_at-returns-clause-kept
read_op_at-returns-clause-kept g t c = KeepsBut-itself _ None
