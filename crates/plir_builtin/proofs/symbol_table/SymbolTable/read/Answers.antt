use Rattle.std.proofs.Common.{◌∙◌, refl}
use Rattle.plir_builtin.specs.Refusals.{reported}
use Rattle.plir_builtin.proofs.ReadLoop.{reading-start, reading-live, reading-refused, reading-more, reading-falls}
use Rattle.plir_builtin.proofs.symbol_table.SymbolTable.read.Goals as goal

pub ops-init : goal.ops-init
ops-init g c =
    record {
      op = refl;
      reading =
          reading-start g.D.OpSet.is_symbol c.args.ctx.now c.args.block c.get_head-at.result c.args.self.now
          c.get_head-at.ensures.value c.first_child_is_front.ensures.front c.requires.read;
    }

pub read_op-requires : goal.read_op-requires
read_op-requires g c =
    reading-live g.D.OpSet.is_symbol c.args.ctx.now c.args.block c.stands.ensures.standing c.ops.at c.ops.self
    c.ops.invariant.reading c.in-Some.op c.in-Some.is

pub returns-in-Err-clause-refused : goal.returns-in-Err-clause-refused
returns-in-Err-clause-refused g c =
    reading-refused g.D.OpSet.is_symbol c.args.ctx.now c.args.block c.stands.ensures.standing c.ops.at c.ops.self
    c.ops.invariant.reading c.in-Some.op c.in-Some.is (reported c.in-Err.why) c.in-Err.ensures.refused

pub returns-in-Err-clause-live : goal.returns-in-Err-clause-live
returns-in-Err-clause-live g c =
    reading-live g.D.OpSet.is_symbol c.args.ctx.now c.args.block c.stands.ensures.standing c.ops.at c.ops.self
    c.ops.invariant.reading c.in-Some.op c.in-Some.is

pub get_next-at-requires : goal.get_next-at-requires
get_next-at-requires g c =
    reading-live g.D.OpSet.is_symbol c.args.ctx.now c.args.block c.stands.ensures.standing c.ops.at c.ops.self
    c.ops.invariant.reading c.in-Some.op c.in-Some.is

pub ops-smaller : goal.ops-smaller
ops-smaller g c =
    reading-falls g.D.OpSet.is_symbol c.args.ctx.now c.args.block c.stands.ensures.standing c.ops.at c.ops.self
    c.ops.invariant.reading c.in-Some.op c.in-Some.is c.get_next-at.result c.get_next-at.ensures.value
    c.next_is_behind.ensures

pub ops-preserved : goal.ops-preserved
ops-preserved g c = record {
  op = c.read_op.ensures.op ∙ c.ops.invariant.op;
  reading =
      reading-more g.D.OpSet.is_symbol c.args.ctx.now c.args.block c.stands.ensures.standing c.ops.at c.ops.self
      c.ops.invariant.reading c.in-Some.op c.in-Some.is c.get_next-at.result c.get_next-at.ensures.value
      c.next_is_behind.ensures c.read_op.new.self c.in_default-read_op.ensures.read;
}
