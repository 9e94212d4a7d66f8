use Rattle.std.proofs.Common.{[], None, Ok, Some, refl, sym, ap, subst, ◌∙◌, length, arith}
use Rattle.std.proofs.lemmas.Result.{err_from_is_err_and}
use Rattle.std.proofs.lemmas.List.{length-map}
use Rattle.plir_core.specs.declared.ptr.IRNode.TheVariants.{Operation, Region, BasicBlock}
use Rattle.plir_attr_text.specs.laws.Ends.{end_itself, sign_end}
use Rattle.plir_attr_text.specs.laws.TypeSteps.{behind_is}
use Rattle.plir_read.specs.laws.OpEnds.{brace_end, header_end, semicolon_end}
use Rattle.plir_attr_text.specs.Tokens.{Begins}
use Rattle.plir_read.specs.laws.OpFound.{brace_at-shorter, brace_found, by_brace, by_semicolon, semicolon_at-shorter}
use Rattle.plir_read.specs.laws.OpFound.{semicolon_found}
use Rattle.plir_read.specs.laws.OpMade.{body_kept, head_live}
use Rattle.plir_read.specs.laws.StartFound.{named_is}
use Rattle.plir_attr_text.specs.laws.Meanings.{IsDictMeant-live}
use Rattle.plir_read_ir.proofs.Children.{child_comes, gathers_none, live_still, reads_on, stands_apart}
use Rattle.plir_read_ir.specs.Noting.{AreReady}
use Rattle.plir_read.specs.OpReading.{brace_at, semicolon_at}
use Rattle.plir_read.specs.Suffixes.{given_name}
use Rattle.plir_read.specs.declared.names.Suffix.TheVariants as Suffix
use Rattle.plir_read_ir.specs.IrOpReading.{another_at}
use Rattle.plir_read_ir.specs.Readings.{scope_of}
use Rattle.plir_read_ir.specs.Spelling.{word_of}
use Rattle.plir_read_ir.proofs.IrSteps.{block_is, blocks_inside, bodied_met, bodied_read, constant_met, first_region}
use Rattle.plir_read_ir.proofs.IrSteps.{first_turn, forward_met, last_turn, made_of, next_region, next_turn}
use Rattle.plir_read_ir.proofs.IrSteps.{no_block_head, no_blocks_inside, no_brace, no_header, no_level, no_opening}
use Rattle.plir_read_ir.proofs.IrSteps.{no_operations, no_parts, no_region, no_regions_read, opens_as, operations}
use Rattle.plir_read_ir.proofs.IrSteps.{own_met, own_read, stops_of_it, stops_refused, turn_stops, wrong_names}
use Rattle.plir_read_ir.proofs.Comes.{no_ops_read, no_ops_yet}
use Rattle.plir_read_ir.proofs.ComesBlocks.{blocks_end, blocks_go_on, no_blocks_read, no_blocks_yet}
use Rattle.plir_read_ir.proofs.Comes.{ops_end, ops_go_on, placed_but}
use Rattle.plir_read_ir.proofs.ComesBlocks.{no_regions_yet, regions_go_on}
use Rattle.plir_read_ir.proofs.Fronts.{block_reads, bodied_opened, bodied_reads, constant_opened, named_opened}
use Rattle.plir_read_ir.proofs.Fronts.{one_past, one_sign, own_reads}
use Rattle.plir_read_ir.proofs.Lefts.{opening_left}
use Rattle.plir_read_ir.proofs.Noted.{block_still, holds_itself, holds_kept, holds_placed, notes_grown}
use Rattle.plir_read_ir.proofs.Noted.{notes_itself, notes_next, ready_still}
use Rattle.plir_read_ir.proofs.RegionSteps.{region_comes, region_reading}
use Rattle.plir_read_ir.specs.Progress.{IsReading}
use Rattle.plir_read_ir.proofs.Regions.{region_given, region_kept}
use Rattle.plir_read_ir.proofs.Steps.{behind_length, braces_end, braces_shorter, left_behind, op_read, op_reading}
use Rattle.plir_read_ir.proofs.Steps.{read_behind}
use Rattle.plir_read_ir.proofs.Steps.{reading_behind, reading_inside, reading_itself, reading_kept, reading_made}
use Rattle.plir_read_ir.proofs.Steps.{reading_typed, root_read, sign_shorter}
use Rattle.plir_read_ir.proofs.ops.+ops.Goals as goal

-- ---- a block

pub read_block-returns-in-Ok-read_ops-clause-read : goal.read_block-returns-in-Ok-read_ops-clause-read
read_block-returns-in-Ok-read_ops-clause-read g t c =
    let f = c.in-Ok.ensures in
    root_read _ _ _ _ c.args.ctx.now c.read_block_front.new.ctx c.read_ops.new.ctx (BasicBlock c.in-Ok.read.0) refl
    c.growth.ensures f.whole.stored (c.contexts_stand.ensures _ c.in-Ok-read_ops.ensures.whole) f.read.made
    f.read.slots f.read.behind c.in-Ok-read_ops.ensures.grown

pub read_block-returns-in-Ok-read_ops-clause-shorter : goal.read_block-returns-in-Ok-read_ops-clause-shorter
read_block-returns-in-Ok-read_ops-clause-shorter g t c =
    omega (
      arith,
      c.in-Ok.ensures.shorter,
      behind_length c.in-Ok.read.1.now c.in-Ok-read_ops.end.now c.in-Ok-read_ops.ensures.grown.behind,
    )

pub read_block-returns-in-Ok-read_ops-clause-kept : goal.read_block-returns-in-Ok-read_ops-clause-kept
read_block-returns-in-Ok-read_ops-clause-kept g t c =
    let f = c.in-Ok.ensures in
    reading_inside _ _ c.args.ctx.now c.read_block_front.new.ctx c.read_ops.new.ctx (BasicBlock c.in-Ok.read.0)
    f.read.made.new f.read.behind f.kept c.in-Ok-read_ops.ensures.kept

pub read_block-returns-in-Err-read_ops-clause-kept : goal.read_block-returns-in-Err-read_ops-clause-kept
read_block-returns-in-Err-read_ops-clause-kept g t c =
    let f = c.in-Ok.ensures in
    reading_inside _ _ c.args.ctx.now c.read_block_front.new.ctx c.read_ops.new.ctx (BasicBlock c.in-Ok.read.0)
    f.read.made.new f.read.behind f.kept c.in-Err-read_ops.ensures.kept

pub read_block-returns-in-Ok-read_ops-clause-noted : goal.read_block-returns-in-Ok-read_ops-clause-noted
read_block-returns-in-Ok-read_ops-clause-noted g t c =
    let f = c.in-Ok.ensures in
    notes_next _ c.read_block_front.new.ctx c.read_ops.new.ctx c.read_ops.new.ctx _ _ _ f.read.made.keeps f.noted
    c.in-Ok-read_ops.ensures.noted (holds_itself _)

pub read_block-returns-in-Ok-read_ops-clause-stands : goal.read_block-returns-in-Ok-read_ops-clause-stands
read_block-returns-in-Ok-read_ops-clause-stands g t c =
    let f = c.in-Ok.ensures in
    λ ready. block_reads g.D.ReadSet.find_kind g.D.ReadSet.is_isolated c.args.levels c.args.bytes.now c.in-Ok.read.1.now
    c.in-Ok-read_ops.end.now c.args.ctx.now c.read_block_front.new.ctx c.read_ops.new.ctx c.args.notes.now
    c.read_block_front.new.notes c.read_ops.new.notes (record { body = c.args.body; region = Some c.args.region })
    c.in-Ok.read.0 f.stands f.read.made.keeps f.read.made.root c.in-Ok-read_ops.ensures.kept.kept
    (c.in-Ok-read_ops.ensures.stands (f.noted.ready ready))

pub read_block-returns-in-Err-clause-met : goal.read_block-returns-in-Err-clause-met
read_block-returns-in-Err-clause-met g t c =
    no_block_head _ c.args.levels c.in-Err.stop c.args.bytes.now c.in-Err.ensures.met

pub read_block-returns-in-Ok-read_ops-clause-met : goal.read_block-returns-in-Ok-read_ops-clause-met
read_block-returns-in-Ok-read_ops-clause-met g t c =
    let h = c.in-Ok.ensures.met in
    let y = c.in-Ok-read_ops.ensures.met in (
      (h.0, y.0),
      made_of (λ os. (h.0, os)) _ _ y.0 c.in-Ok-read_ops.end.now
          (block_is _ c.args.levels c.args.bytes.now c.in-Ok.read.1.now h.0 h.1) y.1,
    )

pub read_block-returns-in-Err-read_ops-clause-met : goal.read_block-returns-in-Err-read_ops-clause-met
read_block-returns-in-Err-read_ops-clause-met g t c =
    let h = c.in-Ok.ensures.met in
    stops_of_it (λ os. (h.0, os)) _ _ c.in-Err-read_ops.stop
    (block_is _ c.args.levels c.args.bytes.now c.in-Ok.read.1.now h.0 h.1) c.in-Err-read_ops.ensures.met

-- ---- the blocks of a region

pub read_body-returns-in_err-start-clause-kept : goal.read_body-returns-in_err-start-clause-kept
read_body-returns-in_err-start-clause-kept g t c = reading_itself _ _ _

pub read_body-returns-in-Some-clause-grown : goal.read_body-returns-in-Some-clause-grown
read_body-returns-in-Some-clause-grown g t c =
    (gathers_none _ c.args.bytes.now c.in-Some.rest.now c.args.ctx.now (Region c.args.region) c.requires.live
    c.requires.empty c.stands.ensures.whole
    (braces_end c.args.bytes.now _ _ c.in_ok-start.ensures (sym c.in-Some.ensures))).has

pub read_body-returns-in-Some-clause-shorter : goal.read_body-returns-in-Some-clause-shorter
read_body-returns-in-Some-clause-shorter g t c =
    braces_shorter c.args.bytes.now _ _ c.in_ok-start.ensures (sym c.in-Some.ensures)

pub read_body-returns-in-Some-clause-kept : goal.read_body-returns-in-Some-clause-kept
read_body-returns-in-Some-clause-kept g t c = reading_itself _ _ _

pub read_body-returns-in-Some-clause-noted : goal.read_body-returns-in-Some-clause-noted
read_body-returns-in-Some-clause-noted g t c = notes_itself _ _

pub read_body-returns-in-Some-clause-stands : goal.read_body-returns-in-Some-clause-stands
read_body-returns-in-Some-clause-stands g t c =
    λ ready. no_blocks_read g.D.ReadSet.find_kind g.D.ReadSet.is_isolated c.args.levels c.args.bytes.now
    c.in_ok-start.start.now c.in-Some.rest.now c.args.ctx.now c.args.notes.now
    (record { body = c.args.body; region = Some c.args.region }) (Region c.args.region) c.requires.empty
    (one_sign 123 c.args.bytes.now c.in_ok-start.start.now c.in_ok-start.ensures)
    (one_past 125 c.in_ok-start.start.now c.in-Some.rest.now (sym c.in-Some.ensures))

pub read_body-returns-in_err-start-clause-met : goal.read_body-returns-in_err-start-clause-met
read_body-returns-in_err-start-clause-met g t c =
    let p = err_from_is_err_and c.from_residual.result c.from_residual.ensures.1 in
    rw (p.1, p.2) (no_brace _ c.args.levels c.in_err-start.field-0.0 c.args.bytes.now c.in_err-start.ensures)

pub read_body-returns-in-Some-clause-met : goal.read_body-returns-in-Some-clause-met
read_body-returns-in-Some-clause-met g t c =
    ([], no_blocks_inside _ c.args.levels _ _ _ c.in_ok-start.ensures (sym c.in-Some.ensures))

pub read_body-returns-in-Err-clause-met : goal.read_body-returns-in-Err-clause-met
read_body-returns-in-Err-clause-met g t c =
    turn_stops brace_at _ c.inner.rest.now _ c.inner.invariant.turns c.in-Err.stop c.in-Err.ensures.met

pub read_body-inner-init : goal.read_body-inner-init
read_body-inner-init g t c =
    record {
      stands = λ ready. no_blocks_yet g.D.ReadSet.find_kind g.D.ReadSet.is_isolated c.args.levels c.args.bytes.now
          c.in_ok-start.start.now c.args.ctx.now c.args.notes.now
          (record { body = c.args.body; region = Some c.args.region }) (Region c.args.region) c.requires.empty
          (one_sign 123 c.args.bytes.now c.in_ok-start.start.now c.in_ok-start.ensures);
      gathers = gathers_none _ c.args.bytes.now c.in_ok-start.start.now c.args.ctx.now (Region c.args.region)
          c.requires.live c.requires.empty c.stands.ensures.whole (sign_end 123 _ _ c.in_ok-start.ensures);
      noted = notes_itself _ _;
      shorter = sign_shorter 123 c.args.bytes.now c.in_ok-start.start.now c.in_ok-start.ensures;
      turns = first_turn brace_at _ c.in_ok-start.start.now _
          (blocks_inside _ c.args.levels _ _ c.in_ok-start.ensures (sym c.in_default.ensures));
    }

pub read_body-insert_at_back-requires-clause-target_live : goal.read_body-insert_at_back-requires-clause-target_live
read_body-insert_at_back-requires-clause-target_live g t c =
    c.in-Ok.ensures.read.made.keeps.live (Region c.args.region) (live_still _ _ _ _ _ _ c.inner.invariant.gathers)

pub read_body-insert_at_back-requires-clause-not_above : goal.read_body-insert_at_back-requires-clause-not_above
read_body-insert_at_back-requires-clause-not_above g t c =
    stands_apart _ _ _ _ _ _ c.inner.invariant.gathers c.read_block.new.ctx (BasicBlock c.in-Ok.read.0)
    c.in-Ok.ensures.read.made

pub read_body-returns-in-Err-clause-kept : goal.read_body-returns-in-Err-clause-kept
read_body-returns-in-Err-clause-kept g t c =
    reads_on _ _ _ _ _ _ c.inner.invariant.gathers c.read_block.new.ctx c.in-Err.ensures.kept

pub read_body-inner-smaller : goal.read_body-inner-smaller
read_body-inner-smaller g t c =
    omega (
      arith,
      c.in-Ok.ensures.shorter,
      brace_at-shorter c.in-Ok.read.1.now _ c.past_brace-goes_on.ensures,
    )

pub read_body-inner-preserved : goal.read_body-inner-preserved
read_body-inner-preserved g t c =
    let i = c.inner.invariant in
    let p = c.insert_at_back.ensures in
    record {
      gathers = child_comes _ _ _ _ _ _ i.gathers c.contexts_stand.ensures c.read_block.new.ctx
          c.insert_at_back.new.ctx (BasicBlock c.in-Ok.read.0) _ _ c.growth.ensures c.growth-in-inner.ensures
          c.in-Ok.ensures.read c.in-Ok.ensures.kept c.in-Ok.ensures.whole p.whole p.placed (ap (λ z. z.types) p.after)
          (brace_end _ _ _ c.past_brace-goes_on.ensures);
      noted = notes_next _ _ c.read_block.new.ctx _ _ _ _ i.gathers.has.grown.keeps i.noted c.in-Ok.ensures.noted
          (holds_placed _ _ _ _ _ p.placed);
      shorter = omega (arith, i.shorter, read_body-inner-smaller g t c);
      stands = λ ready. blocks_go_on g.D.ReadSet.find_kind g.D.ReadSet.is_isolated c.args.levels c.args.bytes.now
          c.inner.rest.now c.in-Ok.read.1.now c.past_brace-goes_on.result.1.now c.args.ctx.now c.inner.ctx
          c.read_block.new.ctx c.insert_at_back.new.ctx c.args.notes.now c.inner.notes c.read_block.new.notes
          (record { body = c.args.body; region = Some c.args.region }) (Region c.args.region) (BasicBlock c.in-Ok.read.0)
          (i.stands ready) (c.in-Ok.ensures.stands (i.noted.ready ready)) (c.contexts_stand.ensures _ i.gathers.whole)
          (c.contexts_stand.ensures _ c.in-Ok.ensures.whole) i.gathers.has.grown.keeps
          (live_still _ _ _ _ _ _ i.gathers)
          (placed_but c.inner.ctx c.read_block.new.ctx c.insert_at_back.new.ctx (BasicBlock c.in-Ok.read.0)
          (Region c.args.region) _ c.growth-in-inner.ensures c.in-Ok.ensures.read.made p.placed
          c.in-Ok.ensures.kept.kept.types (ap (λ z. z.types) p.after)) c.in-Ok.ensures.read.made p.placed
          (ap (λ z. z.types) p.after)
          (subst (λ b. Begins c.in-Ok.read.1.now (by_brace b) c.past_brace-goes_on.result.1.now) c.if-goes_on.true
          (brace_found c.in-Ok.read.1.now (c.past_brace-goes_on.result.0, c.past_brace-goes_on.result.1.now)
          c.past_brace-goes_on.ensures));
      turns = next_turn brace_at _ c.inner.rest.now _ i.turns c.in-Ok.ensures.met.0 c.in-Ok.read.1.now
          c.past_brace-goes_on.result.1.now c.in-Ok.ensures.met.1
          (c.past_brace-goes_on.ensures ∙ ap (λ b. Ok (b, c.past_brace-goes_on.result.1.now)) c.if-goes_on.true)
          (read_body-inner-smaller g t c);
    }

pub read_body-returns-else-goes_on : goal.read_body-returns-else-goes_on
read_body-returns-else-goes_on g t c =
    let i = c.inner.invariant in
    let p = c.insert_at_back.ensures in
    let all = child_comes _ _ _ _ _ _ i.gathers c.contexts_stand.ensures c.read_block.new.ctx
    c.insert_at_back.new.ctx (BasicBlock c.in-Ok.read.0) _ _ c.growth.ensures c.growth-in-inner.ensures
    c.in-Ok.ensures.read c.in-Ok.ensures.kept c.in-Ok.ensures.whole p.whole p.placed (ap (λ z. z.types) p.after)
    (brace_end _ _ _ c.past_brace-goes_on.ensures) in
    record {
      grown = all.has;
      shorter = omega (
        arith,
        i.shorter,
        c.in-Ok.ensures.shorter,
        brace_at-shorter c.in-Ok.read.1.now _ c.past_brace-goes_on.ensures,
      );
      kept = all.reading;
      noted = notes_next _ _ c.read_block.new.ctx _ _ _ _ i.gathers.has.grown.keeps i.noted c.in-Ok.ensures.noted
          (holds_placed _ _ _ _ _ p.placed);
      stands = λ ready. blocks_end g.D.ReadSet.find_kind g.D.ReadSet.is_isolated c.args.levels c.args.bytes.now
          c.inner.rest.now c.in-Ok.read.1.now c.past_brace-goes_on.result.1.now c.args.ctx.now c.inner.ctx
          c.read_block.new.ctx c.insert_at_back.new.ctx c.args.notes.now c.inner.notes c.read_block.new.notes
          (record { body = c.args.body; region = Some c.args.region }) (Region c.args.region) (BasicBlock c.in-Ok.read.0)
          (i.stands ready) (c.in-Ok.ensures.stands (i.noted.ready ready)) (c.contexts_stand.ensures _ i.gathers.whole)
          (c.contexts_stand.ensures _ c.in-Ok.ensures.whole) i.gathers.has.grown.keeps
          (live_still _ _ _ _ _ _ i.gathers)
          (placed_but c.inner.ctx c.read_block.new.ctx c.insert_at_back.new.ctx (BasicBlock c.in-Ok.read.0)
          (Region c.args.region) _ c.growth-in-inner.ensures c.in-Ok.ensures.read.made p.placed
          c.in-Ok.ensures.kept.kept.types (ap (λ z. z.types) p.after)) c.in-Ok.ensures.read.made p.placed
          (ap (λ z. z.types) p.after)
          (subst (λ b. Begins c.in-Ok.read.1.now (by_brace b) c.past_brace-goes_on.result.1.now) c.if-goes_on.false
          (brace_found c.in-Ok.read.1.now (c.past_brace-goes_on.result.0, c.past_brace-goes_on.result.1.now)
          c.past_brace-goes_on.ensures));
      met = last_turn brace_at _ c.inner.rest.now _ i.turns c.in-Ok.ensures.met.0 c.in-Ok.read.1.now
          c.past_brace-goes_on.result.1.now c.in-Ok.ensures.met.1
          (c.past_brace-goes_on.ensures ∙ ap (λ b. Ok (b, c.past_brace-goes_on.result.1.now)) c.if-goes_on.false);
      whole = p.whole;
    }

-- ---- the operations of a block

pub read_ops-returns-then-ends_block-clause-grown : goal.read_ops-returns-then-ends_block-clause-grown
read_ops-returns-then-ends_block-clause-grown g t c =
    (gathers_none _ c.args.bytes.now c.args.bytes.now c.args.ctx.now (BasicBlock c.args.block) c.requires.live
    c.requires.empty c.stands.ensures.whole (end_itself _)).has

pub read_ops-returns-then-ends_block-clause-kept : goal.read_ops-returns-then-ends_block-clause-kept
read_ops-returns-then-ends_block-clause-kept g t c = reading_itself _ _ _

pub read_ops-returns-then-ends_block-clause-noted : goal.read_ops-returns-then-ends_block-clause-noted
read_ops-returns-then-ends_block-clause-noted g t c = notes_itself _ _

pub read_ops-returns-then-ends_block-clause-stands : goal.read_ops-returns-then-ends_block-clause-stands
read_ops-returns-then-ends_block-clause-stands g t c =
    λ ready. no_ops_read g.D.ReadSet.find_kind g.D.ReadSet.is_isolated c.args.levels c.args.bytes.now c.args.ctx.now
    c.args.notes.now (scope_of c.args.at) (BasicBlock c.args.block) c.requires.empty

pub read_ops-returns-then-ends_block-clause-met : goal.read_ops-returns-then-ends_block-clause-met
read_ops-returns-then-ends_block-clause-met g t c =
    ([], no_operations _ c.args.bytes.now (sym c.ends_block.ensures ∙ c.if-ends_block.true))

pub read_ops-returns-in-Err-clause-met : goal.read_ops-returns-in-Err-clause-met
read_ops-returns-in-Err-clause-met g t c =
    turn_stops semicolon_at _ c.ops.rest.now _ c.ops.invariant.turns c.in-Err.stop c.in-Err.ensures.met

pub read_ops-ops-init : goal.read_ops-ops-init
read_ops-ops-init g t c =
    record {
      stands = λ ready. no_ops_yet g.D.ReadSet.find_kind g.D.ReadSet.is_isolated c.args.levels c.args.bytes.now
          c.args.ctx.now c.args.notes.now (scope_of c.args.at) (BasicBlock c.args.block) c.requires.empty;
      gathers = gathers_none _ c.args.bytes.now c.args.bytes.now c.args.ctx.now (BasicBlock c.args.block)
          c.requires.live c.requires.empty c.stands.ensures.whole (end_itself _);
      noted = notes_itself _ _;
      at_live = c.requires.at_live;
      turns = first_turn semicolon_at _ c.args.bytes.now _
          (operations _ c.args.bytes.now (sym c.ends_block.ensures ∙ c.if-ends_block.false));
    }

pub read_ops-insert_at_back-requires-clause-target_live : goal.read_ops-insert_at_back-requires-clause-target_live
read_ops-insert_at_back-requires-clause-target_live g t c =
    c.in-Ok.ensures.read.made.keeps.live (BasicBlock c.args.block) (live_still _ _ _ _ _ _ c.ops.invariant.gathers)

pub read_ops-insert_at_back-requires-clause-not_above : goal.read_ops-insert_at_back-requires-clause-not_above
read_ops-insert_at_back-requires-clause-not_above g t c =
    stands_apart _ _ _ _ _ _ c.ops.invariant.gathers c.read_ir_op.new.ctx (Operation c.in-Ok.read.0)
    c.in-Ok.ensures.read.made

pub read_ops-returns-in-Err-clause-kept : goal.read_ops-returns-in-Err-clause-kept
read_ops-returns-in-Err-clause-kept g t c =
    reads_on _ _ _ _ _ _ c.ops.invariant.gathers c.read_ir_op.new.ctx c.in-Err.ensures.kept

pub read_ops-ops-smaller : goal.read_ops-ops-smaller
read_ops-ops-smaller g t c =
    omega (
      arith,
      c.in-Ok.ensures.shorter,
      semicolon_at-shorter c.in-Ok.read.1.now _ c.past_semicolon-goes_on.ensures,
    )

pub read_ops-ops-preserved : goal.read_ops-ops-preserved
read_ops-ops-preserved g t c =
    let i = c.ops.invariant in
    let p = c.insert_at_back.ensures in
    let all = child_comes _ _ _ _ _ _ i.gathers c.contexts_stand.ensures c.read_ir_op.new.ctx
    c.insert_at_back.new.ctx (Operation c.in-Ok.read.0) _ _ c.growth.ensures c.growth-in-ops.ensures
    c.in-Ok.ensures.read c.in-Ok.ensures.kept c.in-Ok.ensures.whole p.whole p.placed (ap (λ z. z.types) p.after)
    (semicolon_end _ _ _ c.past_semicolon-goes_on.ensures) in
    record {
      gathers = all;
      noted = notes_next _ _ c.read_ir_op.new.ctx _ _ _ _ i.gathers.has.grown.keeps i.noted c.in-Ok.ensures.noted
          (holds_placed _ _ _ _ _ p.placed);
      stands = λ ready. ops_go_on g.D.ReadSet.find_kind g.D.ReadSet.is_isolated c.args.levels c.args.bytes.now
          c.ops.rest.now c.in-Ok.read.1.now c.past_semicolon-goes_on.result.1.now c.args.ctx.now c.ops.ctx
          c.read_ir_op.new.ctx c.insert_at_back.new.ctx c.args.notes.now c.ops.notes c.read_ir_op.new.notes
          (scope_of c.args.at) (BasicBlock c.args.block) (Operation c.in-Ok.read.0) (i.stands ready)
          (c.in-Ok.ensures.stands (i.noted.ready ready)) (c.contexts_stand.ensures _ i.gathers.whole)
          (c.contexts_stand.ensures _ c.in-Ok.ensures.whole) i.gathers.has.grown.keeps
          (live_still _ _ _ _ _ _ i.gathers)
          (placed_but c.ops.ctx c.read_ir_op.new.ctx c.insert_at_back.new.ctx (Operation c.in-Ok.read.0)
          (BasicBlock c.args.block) _ c.growth-in-ops.ensures c.in-Ok.ensures.read.made p.placed
          c.in-Ok.ensures.kept.kept.types (ap (λ z. z.types) p.after)) c.in-Ok.ensures.read.made p.placed
          (ap (λ z. z.types) p.after)
          (subst (λ b. Begins c.in-Ok.read.1.now (by_semicolon b) c.past_semicolon-goes_on.result.1.now)
          c.if-goes_on.true
          (semicolon_found c.in-Ok.read.1.now
          (c.past_semicolon-goes_on.result.0, c.past_semicolon-goes_on.result.1.now)
          c.past_semicolon-goes_on.ensures));
      at_live = block_still c.args.ctx.now c.insert_at_back.new.ctx
          (holds_kept c.args.ctx.now c.insert_at_back.new.ctx all.has.grown.keeps) c.args.at.block c.requires.at_live;
      turns = next_turn semicolon_at _ c.ops.rest.now _ i.turns c.in-Ok.ensures.met.0 c.in-Ok.read.1.now
          c.past_semicolon-goes_on.result.1.now c.in-Ok.ensures.met.1
          (c.past_semicolon-goes_on.ensures ∙
          ap (λ b. Ok (b, c.past_semicolon-goes_on.result.1.now)) c.if-goes_on.true) (read_ops-ops-smaller g t c);
    }

pub read_ops-returns-else-goes_on : goal.read_ops-returns-else-goes_on
read_ops-returns-else-goes_on g t c =
    let i = c.ops.invariant in
    let p = c.insert_at_back.ensures in
    let all = child_comes _ _ _ _ _ _ i.gathers c.contexts_stand.ensures c.read_ir_op.new.ctx
    c.insert_at_back.new.ctx (Operation c.in-Ok.read.0) _ _ c.growth.ensures c.growth-in-ops.ensures
    c.in-Ok.ensures.read c.in-Ok.ensures.kept c.in-Ok.ensures.whole p.whole p.placed (ap (λ z. z.types) p.after)
    (semicolon_end _ _ _ c.past_semicolon-goes_on.ensures) in
    record {
      grown = all.has;
      kept = all.reading;
      noted = notes_next _ _ c.read_ir_op.new.ctx _ _ _ _ i.gathers.has.grown.keeps i.noted c.in-Ok.ensures.noted
          (holds_placed _ _ _ _ _ p.placed);
      stands = λ ready. ops_end g.D.ReadSet.find_kind g.D.ReadSet.is_isolated c.args.levels c.args.bytes.now
          c.ops.rest.now c.in-Ok.read.1.now c.past_semicolon-goes_on.result.1.now c.args.ctx.now c.ops.ctx
          c.read_ir_op.new.ctx c.insert_at_back.new.ctx c.args.notes.now c.ops.notes c.read_ir_op.new.notes
          (scope_of c.args.at) (BasicBlock c.args.block) (Operation c.in-Ok.read.0) (i.stands ready)
          (c.in-Ok.ensures.stands (i.noted.ready ready)) (c.contexts_stand.ensures _ i.gathers.whole)
          (c.contexts_stand.ensures _ c.in-Ok.ensures.whole) i.gathers.has.grown.keeps
          (live_still _ _ _ _ _ _ i.gathers)
          (placed_but c.ops.ctx c.read_ir_op.new.ctx c.insert_at_back.new.ctx (Operation c.in-Ok.read.0)
          (BasicBlock c.args.block) _ c.growth-in-ops.ensures c.in-Ok.ensures.read.made p.placed
          c.in-Ok.ensures.kept.kept.types (ap (λ z. z.types) p.after)) c.in-Ok.ensures.read.made p.placed
          (ap (λ z. z.types) p.after)
          (subst (λ b. Begins c.in-Ok.read.1.now (by_semicolon b) c.past_semicolon-goes_on.result.1.now)
          c.if-goes_on.false
          (semicolon_found c.in-Ok.read.1.now
          (c.past_semicolon-goes_on.result.0, c.past_semicolon-goes_on.result.1.now)
          c.past_semicolon-goes_on.ensures));
      met = last_turn semicolon_at _ c.ops.rest.now _ i.turns c.in-Ok.ensures.met.0 c.in-Ok.read.1.now
          c.past_semicolon-goes_on.result.1.now c.in-Ok.ensures.met.1
          (c.past_semicolon-goes_on.ensures ∙
          ap (λ b. Ok (b, c.past_semicolon-goes_on.result.1.now)) c.if-goes_on.false);
      whole = p.whole;
    }

-- ---- the regions of an operation

pub read_regions-regions-init : goal.read_regions-regions-init
read_regions-regions-init g t c =
    record {
      stands = λ ready. no_regions_yet g.D.ReadSet.find_kind g.D.ReadSet.is_isolated c.args.levels c.args.bytes.now
          c.args.ctx.now c.args.notes.now c.args.body (Operation c.args.op) c.requires.empty;
      gathers = gathers_none _ c.args.bytes.now c.args.bytes.now c.args.ctx.now (Operation c.args.op) c.requires.live
          c.requires.empty c.stands.ensures.whole (end_itself _);
      noted = notes_itself _ _;
      turns = first_region _ c.args.levels c.args.bytes.now;
    }

pub read_regions-add_region-requires : goal.read_regions-add_region-requires
read_regions-add_region-requires g t c = live_still _ _ _ _ _ _ c.regions.invariant.gathers

pub read_regions-returns-in-Err-clause-kept : goal.read_regions-returns-in-Err-clause-kept
read_regions-returns-in-Err-clause-kept g t c =
    subst (λ z. IsReading c.args.bytes.now (Some (Operation c.args.op)) c.args.ctx.now z) (sym c.in-Err.ensures.err)
    c.regions.invariant.gathers.reading

pub read_regions-returns-in-Err-read_body-clause-kept : goal.read_regions-returns-in-Err-read_body-clause-kept
read_regions-returns-in-Err-read_body-clause-kept g t c =
    region_reading _ _ _ _ c.regions.ctx c.add_region.new.ctx c.read_body.new.ctx (Operation c.args.op)
    (Region c.in-Ok.region) c.regions.invariant.gathers c.in-Ok.ensures.added (ap (λ z. z.types) c.in-Ok.ensures.ok)
    c.in-Err-read_body.ensures.kept

pub read_regions-returns-in-Err-clause-met : goal.read_regions-returns-in-Err-clause-met
read_regions-returns-in-Err-clause-met g t c = stops_refused _ c.stop_of.result _ c.stop_of.ensures

pub read_regions-returns-in-Err-read_body-clause-met : goal.read_regions-returns-in-Err-read_body-clause-met
read_regions-returns-in-Err-read_body-clause-met g t c =
    let opens = opens_as _ c.past_sign.result _ _ c.is_some.ensures c.past_sign.ensures in
    turn_stops another_at _ c.regions.rest.now _ (c.regions.invariant.turns.more (opens ∙ c.regions-test.true))
    c.in-Err-read_body.stop c.in-Err-read_body.ensures.met

pub read_regions-returns-clause-met : goal.read_regions-returns-clause-met
read_regions-returns-clause-met g t c =
    let opens = opens_as _ c.past_sign.result _ _ c.is_some.ensures c.past_sign.ensures in
    c.regions.invariant.turns.all (opens ∙ c.regions-test.false)

pub read_regions-regions-preserved : goal.read_regions-regions-preserved
read_regions-regions-preserved g t c =
    let i = c.regions.invariant in
    let opens = opens_as _ c.past_sign.result _ _ c.is_some.ensures c.past_sign.ensures in
    let s = c.regions.ctx in
    let a = c.in-Ok.ensures in
    let b = c.in-Ok-read_body.ensures in
    record {
      gathers = region_comes _ _ _ _ s c.add_region.new.ctx c.read_body.new.ctx (Operation c.args.op)
          (Region c.in-Ok.region) i.gathers a.added (ap (λ z. z.types) a.ok) b.kept c.contexts_stand.ensures
          c.in-Ok-read_body.behind.now c.growth.ensures b.whole
          (region_given s c.add_region.new.ctx i.gathers.whole.stored c.args.op c.in-Ok.region a.ok a.added.added.new
          a.live) b.grown;
      stands = λ ready. regions_go_on g.D.ReadSet.find_kind g.D.ReadSet.is_isolated c.args.levels c.args.bytes.now
          c.regions.rest.now c.in-Ok-read_body.behind.now c.args.ctx.now s c.add_region.new.ctx c.read_body.new.ctx
          c.args.notes.now c.regions.notes c.read_body.new.notes c.args.body (Operation c.args.op) c.in-Ok.region
          (i.stands ready)
          (b.stands (ready_still s c.add_region.new.ctx (holds_kept s c.add_region.new.ctx a.added.added.keeps)
          c.regions.notes (i.noted.ready ready))) (c.contexts_stand.ensures _ i.gathers.whole)
          i.gathers.has.grown.keeps a.added.added.keeps
          (region_kept s c.add_region.new.ctx c.read_body.new.ctx (Operation c.args.op) (Region c.in-Ok.region) a.added
          (ap (λ z. z.types) a.ok) b.kept.kept)
          (b.grown.grown.children (Operation c.args.op)
          (a.added.added.keeps.live (Operation c.args.op) (live_still _ _ _ _ _ _ i.gathers)) (λ q. cc) ∙ a.added.last);
      noted = notes_next _ s c.read_body.new.ctx c.read_body.new.ctx _ _ _ i.gathers.has.grown.keeps i.noted
          (notes_grown s c.add_region.new.ctx c.read_body.new.ctx _ _ a.added.added.keeps b.noted) (holds_itself _);
      turns = next_region _ c.args.levels c.regions.rest.now c.in-Ok-read_body.behind.now _ b.met.0 i.turns
          (opens ∙ c.regions-test.true) b.met.1 b.shorter;
    }

-- ---- a module or a function

pub read_bodied-make_op-requires-clause-head_live : goal.read_bodied-make_op-requires-clause-head_live
read_bodied-make_op-requires-clause-head_live g t c =
    let y = c.in_ok-header.ensures.read in
    head_live _ _ y.0.0.0 y.2.0.head_is

pub read_bodied-make_op-requires-clause-entries_live : goal.read_bodied-make_op-requires-clause-entries_live
read_bodied-make_op-requires-clause-entries_live g t c =
    let y = c.in_ok-header.ensures.read in
    IsDictMeant-live _ _ y.0.0.1 _ y.2.0.dictionary

pub read_bodied-returns-in_err-expect_names-clause-kept : goal.read_bodied-returns-in_err-expect_names-clause-kept
read_bodied-returns-in_err-expect_names-clause-kept g t c = reading_itself _ _ _

pub read_bodied-returns-in_err-header-clause-kept : goal.read_bodied-returns-in_err-header-clause-kept
read_bodied-returns-in_err-header-clause-kept g t c =
    let k = c.in_err-header.ensures in
    reading_typed _ _ _ k.rest k.grown k.named

pub read_bodied-returns-in_err-op-clause-kept : goal.read_bodied-returns-in_err-op-clause-kept
read_bodied-returns-in_err-op-clause-kept g t c =
    let k = c.in_ok-header.ensures in
    reading_kept _ _ c.read_header-read.new.ctx _ (reading_typed _ _ _ k.rest k.grown k.named)
    c.in_err-op.ensures.kept c.in_err-op.ensures.types

pub read_bodied-returns-in-Ok-clause-read : goal.read_bodied-returns-in-Ok-clause-read
read_bodied-returns-in-Ok-clause-read g t c =
    let h = c.in_ok-header.ensures.read in
    let k = c.in_ok-header.ensures in
    let o = c.in_ok-op.ensures in
    op_read _ _ _ c.args.ctx.now c.read_header-read.new.ctx c.make_op.new.ctx c.read_body.new.ctx c.in_ok-op.op
    c.in_ok-op.region _ k.rest k.grown c.growth.ensures o.whole.stored (c.contexts_stand.ensures _ o.whole)
    (c.contexts_stand.ensures _ c.in-Ok.ensures.whole) o.made o.slots
    (header_end c.args.levels c.args.kind _ h.0.0 _ (behind_is _ h.0 c.in_ok-header.behind.now h.1 h.2.1))
    c.in-Ok.ensures.kept.kept c.in-Ok.ensures.grown

pub read_bodied-returns-in-Ok-clause-kept : goal.read_bodied-returns-in-Ok-clause-kept
read_bodied-returns-in-Ok-clause-kept g t c =
    let h = c.in_ok-header.ensures.read in
    let k = c.in_ok-header.ensures in
    let o = c.in_ok-op.ensures in
    op_reading _ _ c.args.ctx.now c.read_header-read.new.ctx c.make_op.new.ctx c.read_body.new.ctx c.in_ok-op.op
    c.in_ok-op.region _ k.rest k.grown k.named (c.contexts_stand.ensures _ o.whole) o.made
    (header_end c.args.levels c.args.kind _ h.0.0 _ (behind_is _ h.0 c.in_ok-header.behind.now h.1 h.2.1))
    c.in-Ok.ensures.kept

pub read_bodied-returns-in-Err-clause-kept : goal.read_bodied-returns-in-Err-clause-kept
read_bodied-returns-in-Err-clause-kept g t c =
    let h = c.in_ok-header.ensures.read in
    let k = c.in_ok-header.ensures in
    let o = c.in_ok-op.ensures in
    op_reading _ _ c.args.ctx.now c.read_header-read.new.ctx c.make_op.new.ctx c.read_body.new.ctx c.in_ok-op.op
    c.in_ok-op.region _ k.rest k.grown k.named (c.contexts_stand.ensures _ o.whole) o.made
    (header_end c.args.levels c.args.kind _ h.0.0 _ (behind_is _ h.0 c.in_ok-header.behind.now h.1 h.2.1))
    c.in-Err.ensures.kept

pub read_bodied-returns-in-Ok-clause-noted : goal.read_bodied-returns-in-Ok-clause-noted
read_bodied-returns-in-Ok-clause-noted g t c =
    let k = c.in_ok-header.ensures in
    let o = c.in_ok-op.ensures in
    let r = reading_made c.args.bytes.now c.args.ctx.now c.read_header-read.new.ctx c.make_op.new.ctx
    (Operation c.in_ok-op.op) (reading_typed _ _ _ k.rest k.grown k.named) o.made.made o.made.types in
    notes_grown c.args.ctx.now c.make_op.new.ctx c.read_body.new.ctx _ _ r.kept.keeps c.in-Ok.ensures.noted

pub read_bodied-returns-in-Ok-clause-stands : goal.read_bodied-returns-in-Ok-clause-stands
read_bodied-returns-in-Ok-clause-stands g t c =
    let h = c.in_ok-header.ensures.read in
    let k = c.in_ok-header.ensures in
    let o = c.in_ok-op.ensures in
    let r = reading_made c.args.bytes.now c.args.ctx.now c.read_header-read.new.ctx c.make_op.new.ctx
    (Operation c.in_ok-op.op) (reading_typed _ _ _ k.rest k.grown k.named) o.made.made o.made.types in
    λ ready ws many at. bodied_reads g.D.ReadSet.find_kind g.D.ReadSet.is_isolated c.args.levels ws c.args.bytes.now
    c.in_ok-header.behind.now c.in-Ok.end.now c.args.ctx.now c.read_header-read.new.ctx c.make_op.new.ctx
    c.read_body.new.ctx c.args.notes.now c.read_body.new.notes c.args.kind at c.in_ok-op.op c.in_ok-op.region
    c.in_ok-header.header.head c.in_ok-header.header.entries h.0.0 k.rest ready
    (named_is 0 c.args.names _ c.in_ok-expect_names.ensures ∙ sym many)
    (behind_is _ h.0 c.in_ok-header.behind.now h.1 h.2.1) h.2.0 o.made c.in-Ok.ensures.kept.kept
    (c.in-Ok.ensures.stands
    (ready_still c.args.ctx.now c.make_op.new.ctx (holds_kept c.args.ctx.now c.make_op.new.ctx r.kept.keeps)
    c.args.notes.now ready))
    (body_kept c.args.ctx.now c.read_header-read.new.ctx c.make_op.new.ctx c.read_body.new.ctx c.in_ok-op.op
    c.in_ok-op.region _ (c.contexts_stand.ensures _ o.whole) k.rest k.grown o.made c.in-Ok.ensures.kept.kept)

pub read_bodied-returns-in_err-expect_names-clause-met : goal.read_bodied-returns-in_err-expect_names-clause-met
read_bodied-returns-in_err-expect_names-clause-met g t c =
    let p = err_from_is_err_and c.from_residual.result c.from_residual.ensures.1 in
    rw (p.1, p.2) (wrong_names _ c.args.levels c.in_err-expect_names.field-0.0 c.args.kind c.args.names
    c.args.bytes.now c.in_err-expect_names.ensures)

pub read_bodied-returns-in_err-header-clause-met : goal.read_bodied-returns-in_err-header-clause-met
read_bodied-returns-in_err-header-clause-met g t c =
    let p = err_from_is_err_and c.from_residual-in_err-header.result c.from_residual-in_err-header.ensures.1 in
    rw (p.1, p.2) (no_header _ c.args.levels c.in_err-header.field-0.0 c.args.kind c.args.names c.args.bytes.now _
    c.in_ok-expect_names.ensures c.in_err-header.ensures.read)

pub read_bodied-returns-in_err-op-clause-met : goal.read_bodied-returns-in_err-op-clause-met
read_bodied-returns-in_err-op-clause-met g t c =
    let p = err_from_is_err_and c.from_residual-in_err-op.result c.from_residual-in_err-op.ensures.1 in
    rw (p.1, p.2) (stops_refused _ c.in_err-op.field-0.0 _ c.in_err-op.ensures.refused)

pub read_bodied-returns-in-Ok-clause-met : goal.read_bodied-returns-in-Ok-clause-met
read_bodied-returns-in-Ok-clause-met g t c =
    let h = c.in_ok-header.ensures.read in
    let y = c.in-Ok.ensures.met in (
      _,
      bodied_read _ c.args.levels c.args.kind c.args.names c.args.bytes.now c.in_ok-header.behind.now c.in-Ok.end.now
          _ h.0.0 y.0 c.in_ok-expect_names.ensures (behind_is _ h.0 c.in_ok-header.behind.now h.1 h.2.1) y.1,
    )

pub read_bodied-returns-in-Err-clause-met : goal.read_bodied-returns-in-Err-clause-met
read_bodied-returns-in-Err-clause-met g t c =
    let h = c.in_ok-header.ensures.read in
    no_region _ c.args.levels c.in-Err.stop c.args.kind c.args.names c.args.bytes.now c.in_ok-header.behind.now _ h.0.0
    c.in_ok-expect_names.ensures (behind_is _ h.0 c.in_ok-header.behind.now h.1 h.2.1) c.in-Err.ensures.met

-- ---- an own operation

pub read_own-returns-in-Ok-read_regions-clause-stands : goal.read_own-returns-in-Ok-read_regions-clause-stands
read_own-returns-in-Ok-read_regions-clause-stands g t c =
    let f = c.in-Ok.ensures in
    λ ready ws names. own_reads g.D.ReadSet.find_kind g.D.ReadSet.is_isolated c.args.levels ws c.args.bytes.now
    c.in-Ok.read.1.now c.in-Ok-read_regions.end.now c.args.ctx.now c.read_own_front.new.ctx c.read_regions.new.ctx
    c.args.notes.now c.read_own_front.new.notes c.read_regions.new.notes c.args.kind (scope_of c.args.at)
    c.in-Ok.read.0 c.body_in-body.result (f.stands ready ws names) f.read.made.keeps f.read.made.root
    c.in-Ok-read_regions.ensures.kept.kept c.body_in-body.ensures
    (c.in-Ok-read_regions.ensures.stands (f.noted.ready ready))

pub read_own-returns-in-Ok-read_regions-clause-read : goal.read_own-returns-in-Ok-read_regions-clause-read
read_own-returns-in-Ok-read_regions-clause-read g t c =
    let f = c.in-Ok.ensures in
    root_read _ _ _ _ c.args.ctx.now c.read_own_front.new.ctx c.read_regions.new.ctx (Operation c.in-Ok.read.0) refl
    c.growth.ensures f.whole.stored (c.contexts_stand.ensures _ c.in-Ok-read_regions.ensures.whole) f.read.made
    f.read.slots f.read.behind c.in-Ok-read_regions.ensures.grown

pub read_own-returns-in-Ok-read_regions-clause-kept : goal.read_own-returns-in-Ok-read_regions-clause-kept
read_own-returns-in-Ok-read_regions-clause-kept g t c =
    let f = c.in-Ok.ensures in
    reading_inside _ _ c.args.ctx.now c.read_own_front.new.ctx c.read_regions.new.ctx (Operation c.in-Ok.read.0)
    f.read.made.new f.read.behind f.kept c.in-Ok-read_regions.ensures.kept

pub read_own-returns-in-Err-read_regions-clause-kept : goal.read_own-returns-in-Err-read_regions-clause-kept
read_own-returns-in-Err-read_regions-clause-kept g t c =
    let f = c.in-Ok.ensures in
    reading_inside _ _ c.args.ctx.now c.read_own_front.new.ctx c.read_regions.new.ctx (Operation c.in-Ok.read.0)
    f.read.made.new f.read.behind f.kept c.in-Err-read_regions.ensures.kept

pub read_own-returns-in-Ok-read_regions-clause-noted : goal.read_own-returns-in-Ok-read_regions-clause-noted
read_own-returns-in-Ok-read_regions-clause-noted g t c =
    let f = c.in-Ok.ensures in
    notes_next _ c.read_own_front.new.ctx c.read_regions.new.ctx c.read_regions.new.ctx _ _ _ f.read.made.keeps f.noted
    c.in-Ok-read_regions.ensures.noted (holds_itself _)

pub read_own-returns-in-Err-clause-met : goal.read_own-returns-in-Err-clause-met
read_own-returns-in-Err-clause-met g t c =
    no_parts _ c.args.levels c.in-Err.stop c.args.names.spelled.items c.args.kind c.args.bytes.now c.in-Err.ensures.met

pub read_own-returns-in-Ok-read_regions-clause-met : goal.read_own-returns-in-Ok-read_regions-clause-met
read_own-returns-in-Ok-read_regions-clause-met g t c =
    let p = c.in-Ok.ensures.met in
    let y = c.in-Ok-read_regions.ensures.met in (
      _,
      own_read _ c.args.levels c.args.names.spelled.items c.args.kind c.args.bytes.now c.in-Ok.read.1.now
          c.in-Ok-read_regions.end.now p.0 y.0 p.1 y.1,
    )

pub read_own-returns-in-Err-read_regions-clause-met : goal.read_own-returns-in-Err-read_regions-clause-met
read_own-returns-in-Err-read_regions-clause-met g t c =
    no_regions_read _ c.args.levels c.in-Err-read_regions.stop c.args.names.spelled.items c.args.kind c.args.bytes.now
    c.in-Ok.read.1.now c.in-Ok.ensures.met.0 c.in-Ok.ensures.met.1 c.in-Err-read_regions.ensures.met

-- ---- an operation

pub read_ir_op-returns-in_err-begin_level-clause-kept : goal.read_ir_op-returns-in_err-begin_level-clause-kept
read_ir_op-returns-in_err-begin_level-clause-kept g t c = reading_itself _ _ _

pub read_ir_op-returns-in_err-opening-clause-kept : goal.read_ir_op-returns-in_err-opening-clause-kept
read_ir_op-returns-in_err-opening-clause-kept g t c = reading_itself _ _ _

pub read_ir_op-returns-in-Builtin-Bodied-clause-read : goal.read_ir_op-returns-in-Builtin-Bodied-clause-read
read_ir_op-returns-in-Builtin-Bodied-clause-read g t c =
    let y = c.in_ok-opening.ensures in
    let l = opening_left g.D.ReadSet.find_kind c.args.bytes.now (y.0.0, c.in_ok-opening.rest.now)
    (behind_is _ y.0 c.in_ok-opening.rest.now y.1 y.2.1) in
    read_behind c.args.bytes.now c.in_ok-opening.rest.now c.args.ctx.now c.read_bodied.new.ctx c.read_bodied.result l
    c.read_bodied.ensures.read

pub read_ir_op-returns-in-Builtin-Bodied-clause-stands : goal.read_ir_op-returns-in-Builtin-Bodied-clause-stands
read_ir_op-returns-in-Builtin-Bodied-clause-stands g t c =
    let y = c.in_ok-opening.ensures in
    bodied_opened g.D.ReadSet.find_kind g.D.ReadSet.is_isolated c.args.levels c.args.bytes.now c.in_ok-opening.rest.now
    y.0.0.0 y.0.0.1 c.in-Builtin-Bodied.body c.args.ctx.now c.read_bodied.new.ctx c.args.notes.now
    c.read_bodied.new.notes (scope_of c.args.at) c.read_bodied.result (omega (arith, c.in_ok-begin_level.ensures.some))
    (behind_is _ y.0 c.in_ok-opening.rest.now y.1 y.2.1) c.in-Builtin-Bodied.field-0
    (sym y.2.0.kind ∙ c.in-Builtin-Bodied.is)
    (rw c.in-Builtin-Bodied.is at c.in-Builtin-Bodied.field-0-is)
    (AreReady c.args.ctx.now c.args.notes.now) _
    (sym (ap length y.2.0.names.spelled) ∙ length-map _ word_of ∙ sym (c.len-count.ensures ∙ c.in_ok-opening.opening.names.spelled.ok.0))
    c.read_bodied.ensures.stands

pub read_ir_op-returns-in-Builtin-Constant-clause-stands : goal.read_ir_op-returns-in-Builtin-Constant-clause-stands
read_ir_op-returns-in-Builtin-Constant-clause-stands g t c =
    let y = c.in_ok-opening.ensures in
    constant_opened g.D.ReadSet.find_kind g.D.ReadSet.is_isolated c.args.levels c.args.bytes.now
    c.in_ok-opening.rest.now y.0.0.0 y.0.0.1 c.args.ctx.now c.read_named_constant.new.ctx c.args.notes.now c.read_named_constant.new.notes
    (scope_of c.args.at) c.read_named_constant.result (omega (arith, c.in_ok-begin_level.ensures.some))
    (behind_is _ y.0 c.in_ok-opening.rest.now y.1 y.2.1) c.in-Builtin-Constant.field-0
    (sym y.2.0.kind ∙ c.in-Builtin-Constant.is)
    (rw c.in-Builtin-Constant.is at c.in-Builtin-Constant.field-0-is)
    (AreReady c.args.ctx.now c.args.notes.now) c.in_ok-opening.opening.names y.2.0.names
    c.read_named_constant.ensures.stands

pub read_ir_op-returns-clause-stands : goal.read_ir_op-returns-clause-stands
read_ir_op-returns-clause-stands g t c =
    let y = c.in_ok-opening.ensures in
    named_opened g.D.ReadSet.find_kind g.D.ReadSet.is_isolated c.args.levels c.args.bytes.now c.in_ok-opening.rest.now
    y.0.0.0 y.0.0.1 _ c.args.ctx.now c.read_own.new.ctx c.args.notes.now c.read_own.new.notes
    (scope_of c.args.at) c.read_own.result (omega (arith, c.in_ok-begin_level.ensures.some))
    (behind_is _ y.0 c.in_ok-opening.rest.now y.1 y.2.1) (sym y.2.0.kind ∙ c.in-Own.is)
    (AreReady c.args.ctx.now c.args.notes.now) c.in_ok-opening.opening.names y.2.0.names
    c.read_own.ensures.stands

pub read_ir_op-returns-in-Builtin-Bodied-clause-shorter : goal.read_ir_op-returns-in-Builtin-Bodied-clause-shorter
read_ir_op-returns-in-Builtin-Bodied-clause-shorter g t c =
    let y = c.in_ok-opening.ensures in
    let l = opening_left g.D.ReadSet.find_kind c.args.bytes.now (y.0.0, c.in_ok-opening.rest.now)
    (behind_is _ y.0 c.in_ok-opening.rest.now y.1 y.2.1) in
    left_behind c.args.bytes.now c.in_ok-opening.rest.now c.args.ctx.now c.read_bodied.new.ctx c.read_bodied.result l
    c.read_bodied.ensures.read

pub read_ir_op-returns-in-Builtin-Bodied-clause-kept : goal.read_ir_op-returns-in-Builtin-Bodied-clause-kept
read_ir_op-returns-in-Builtin-Bodied-clause-kept g t c =
    let y = c.in_ok-opening.ensures in
    let l = opening_left g.D.ReadSet.find_kind c.args.bytes.now (y.0.0, c.in_ok-opening.rest.now)
    (behind_is _ y.0 c.in_ok-opening.rest.now y.1 y.2.1) in
    reading_behind _ _ None c.args.ctx.now c.read_bodied.new.ctx l.behind c.read_bodied.ensures.kept

pub read_ir_op-returns-in-Builtin-Constant-clause-read : goal.read_ir_op-returns-in-Builtin-Constant-clause-read
read_ir_op-returns-in-Builtin-Constant-clause-read g t c =
    let y = c.in_ok-opening.ensures in
    let l = opening_left g.D.ReadSet.find_kind c.args.bytes.now (y.0.0, c.in_ok-opening.rest.now)
    (behind_is _ y.0 c.in_ok-opening.rest.now y.1 y.2.1) in
    read_behind c.args.bytes.now c.in_ok-opening.rest.now c.args.ctx.now c.read_named_constant.new.ctx
    c.read_named_constant.result l c.read_named_constant.ensures.read

pub read_ir_op-returns-in-Builtin-Constant-clause-shorter : goal.read_ir_op-returns-in-Builtin-Constant-clause-shorter
read_ir_op-returns-in-Builtin-Constant-clause-shorter g t c =
    let y = c.in_ok-opening.ensures in
    let l = opening_left g.D.ReadSet.find_kind c.args.bytes.now (y.0.0, c.in_ok-opening.rest.now)
    (behind_is _ y.0 c.in_ok-opening.rest.now y.1 y.2.1) in
    left_behind c.args.bytes.now c.in_ok-opening.rest.now c.args.ctx.now c.read_named_constant.new.ctx
    c.read_named_constant.result l c.read_named_constant.ensures.read

pub read_ir_op-returns-in-Builtin-Constant-clause-kept : goal.read_ir_op-returns-in-Builtin-Constant-clause-kept
read_ir_op-returns-in-Builtin-Constant-clause-kept g t c =
    let y = c.in_ok-opening.ensures in
    let l = opening_left g.D.ReadSet.find_kind c.args.bytes.now (y.0.0, c.in_ok-opening.rest.now)
    (behind_is _ y.0 c.in_ok-opening.rest.now y.1 y.2.1) in
    reading_behind _ _ None c.args.ctx.now c.read_named_constant.new.ctx l.behind c.read_named_constant.ensures.kept

pub read_ir_op-returns-clause-read : goal.read_ir_op-returns-clause-read
read_ir_op-returns-clause-read g t c =
    let y = c.in_ok-opening.ensures in
    let l = opening_left g.D.ReadSet.find_kind c.args.bytes.now (y.0.0, c.in_ok-opening.rest.now)
    (behind_is _ y.0 c.in_ok-opening.rest.now y.1 y.2.1) in
    read_behind c.args.bytes.now c.in_ok-opening.rest.now c.args.ctx.now c.read_own.new.ctx c.read_own.result l
    c.read_own.ensures.read

pub read_ir_op-returns-clause-shorter : goal.read_ir_op-returns-clause-shorter
read_ir_op-returns-clause-shorter g t c =
    let y = c.in_ok-opening.ensures in
    let l = opening_left g.D.ReadSet.find_kind c.args.bytes.now (y.0.0, c.in_ok-opening.rest.now)
    (behind_is _ y.0 c.in_ok-opening.rest.now y.1 y.2.1) in
    left_behind c.args.bytes.now c.in_ok-opening.rest.now c.args.ctx.now c.read_own.new.ctx c.read_own.result l
    c.read_own.ensures.read

pub read_ir_op-returns-clause-kept : goal.read_ir_op-returns-clause-kept
read_ir_op-returns-clause-kept g t c =
    let y = c.in_ok-opening.ensures in
    let l = opening_left g.D.ReadSet.find_kind c.args.bytes.now (y.0.0, c.in_ok-opening.rest.now)
    (behind_is _ y.0 c.in_ok-opening.rest.now y.1 y.2.1) in
    reading_behind _ _ None c.args.ctx.now c.read_own.new.ctx l.behind c.read_own.ensures.kept

pub read_ir_op-returns-in-Builtin-ForwardRef-clause-kept : goal.read_ir_op-returns-in-Builtin-ForwardRef-clause-kept
read_ir_op-returns-in-Builtin-ForwardRef-clause-kept g t c = reading_itself _ _ _

pub read_ir_op-returns-in_err-begin_level-clause-met : goal.read_ir_op-returns-in_err-begin_level-clause-met
read_ir_op-returns-in_err-begin_level-clause-met g t c =
    let p = err_from_is_err_and c.from_residual.result c.from_residual.ensures.1 in
    rw (p.1, p.2) (no_level g.D.ReadSet.find_kind c.args.levels c.in_err-begin_level.field-0.0 c.args.bytes.now
    c.in_err-begin_level.ensures.read)

pub read_ir_op-returns-in_err-opening-clause-met : goal.read_ir_op-returns-in_err-opening-clause-met
read_ir_op-returns-in_err-opening-clause-met g t c =
    let p = err_from_is_err_and c.from_residual-in_err-opening.result c.from_residual-in_err-opening.ensures.1 in
    rw (p.1, p.2) (no_opening g.D.ReadSet.find_kind c.args.levels c.in_err-opening.field-0.0 c.args.bytes.now (omega (arith, c.in_ok-begin_level.ensures.some))
    c.in_err-opening.ensures)

pub read_ir_op-returns-in-Builtin-Bodied-clause-met : goal.read_ir_op-returns-in-Builtin-Bodied-clause-met
read_ir_op-returns-in-Builtin-Bodied-clause-met g t c =
    let y = c.in_ok-opening.ensures in
    bodied_met g.D.ReadSet.find_kind (λ x. x.1.now) c.read_bodied.result c.args.levels c.args.bytes.now c.in_ok-opening.rest.now y.0.0.0
    y.0.0.1 (omega (arith, c.in_ok-begin_level.ensures.some))
    (behind_is _ y.0 c.in_ok-opening.rest.now y.1 y.2.1) c.in-Builtin-Bodied.field-0 c.in-Builtin-Bodied.body _
    (sym y.2.0.kind ∙ c.in-Builtin-Bodied.is)
    (rw c.in-Builtin-Bodied.is at c.in-Builtin-Bodied.field-0-is)
    (sym (ap length y.2.0.names.spelled) ∙ length-map _ word_of ∙
    sym (c.len-count.ensures ∙ c.in_ok-opening.opening.names.spelled.ok.0)) c.read_bodied.ensures.met

pub read_ir_op-returns-in-Builtin-Constant-clause-met : goal.read_ir_op-returns-in-Builtin-Constant-clause-met
read_ir_op-returns-in-Builtin-Constant-clause-met g t c =
    let y = c.in_ok-opening.ensures in
    constant_met g.D.ReadSet.find_kind (λ x. x.1.now) c.read_named_constant.result c.args.levels c.args.bytes.now
    c.in_ok-opening.rest.now y.0.0.0 y.0.0.1 (omega (arith, c.in_ok-begin_level.ensures.some))
    (behind_is _ y.0 c.in_ok-opening.rest.now y.1 y.2.1) c.in-Builtin-Constant.field-0 _
    (sym y.2.0.kind ∙ c.in-Builtin-Constant.is)
    (rw c.in-Builtin-Constant.is at c.in-Builtin-Constant.field-0-is)
    (sym (length-map y.0.0.0 (given_name Suffix.OpResult)) ∙ sym (ap length y.2.0.names.given))
    c.read_named_constant.ensures.met

pub read_ir_op-returns-in-Builtin-ForwardRef-clause-met : goal.read_ir_op-returns-in-Builtin-ForwardRef-clause-met
read_ir_op-returns-in-Builtin-ForwardRef-clause-met g t c =
    let y = c.in_ok-opening.ensures in (
      forward_met g.D.ReadSet.find_kind c.args.levels c.args.bytes.now c.in_ok-opening.rest.now y.0.0.0 y.0.0.1
          c.in-Builtin-ForwardRef.field-0 (omega (arith, c.in_ok-begin_level.ensures.some))
          (behind_is _ y.0 c.in_ok-opening.rest.now y.1 y.2.1) (sym y.2.0.kind ∙ c.in-Builtin-ForwardRef.is)
          (rw c.in-Builtin-ForwardRef.is at c.in-Builtin-ForwardRef.field-0-is),
      refl,
    )

pub read_ir_op-returns-clause-met : goal.read_ir_op-returns-clause-met
read_ir_op-returns-clause-met g t c =
    let y = c.in_ok-opening.ensures in
    own_met g.D.ReadSet.find_kind (λ x. x.1.now) c.read_own.result c.args.levels c.args.bytes.now c.in_ok-opening.rest.now y.0.0.0
    y.0.0.1 (omega (arith, c.in_ok-begin_level.ensures.some))
    (behind_is _ y.0 c.in_ok-opening.rest.now y.1 y.2.1) _ _ (sym y.2.0.kind ∙ c.in-Own.is) y.2.0.names.spelled c.read_own.ensures.met
