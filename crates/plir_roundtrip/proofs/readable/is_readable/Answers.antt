use Rattle.std.proofs.Common.{◌≡◌, ◌≤◌, true, sym, subst, arith}
use Rattle.plir_core.specs.declared.ptr.IRNode.TheVariants.{Operation}
use Rattle.plir_print.specs.OpText.{room}
use Rattle.plir_roundtrip.specs.ReadableParts.{AllReadable}
use Rattle.plir_roundtrip.proofs.BuiltinTexts.{same_levels}
use Rattle.plir_roundtrip.proofs.Children.{HasRoom}
use Rattle.plir_roundtrip.proofs.readable.is_readable.Goals as goal

pub returns-then-not-are_all_readable-clause-value : goal.returns-then-not-are_all_readable-clause-value
returns-then-not-are_all_readable-clause-value g c = (
  λ t. absurd (let f : ⊥ = cc in f),
  λ r.
      let all : AllReadable c.args.ctx.now (Operation c.args.op) = record { ops = r.ops; blocks = r.blocks } in
      let yes : c.are_all_readable.result ≡ true = c.are_all_readable.ensures.1 all in
      absurd (let f : ⊥ = cc in f),
)

pub returns-clause-value : goal.returns-clause-value
returns-clause-value g c =
    let s = c.args.ctx.now in
    let p = c.args.op in
    let yes : c.are_all_readable.result ≡ true = cc in
    let all : AllReadable s (Operation p) = c.are_all_readable.ensures.0 yes in
    let enough : HasRoom s (Operation p) (room s (Operation p)) = omega arith in
    let same = same_levels g.D.OpSet s c.stands.ensures.standing (room s (Operation p)) p enough all in (
      λ t. record {
        ops = all.ops;
        blocks = all.blocks;
        levels = subst (λ n. n ≤ 200) same (c.is_op_within.ensures.0 t);
      },
      λ r. c.is_op_within.ensures.1 (subst (λ n. n ≤ 200) (sym same) r.levels),
    )
