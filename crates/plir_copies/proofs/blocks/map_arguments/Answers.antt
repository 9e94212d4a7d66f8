use Rattle.std.proofs.Common.{◌≡◌, ◌∙◌, ap, sym, length, arith}
use Rattle.plir_core.specs.ContextView.{arg_types_of}
use Rattle.plir_core.specs.declared.value.DefiningEntity.TheVariants.{Block}
use Rattle.plir_copies.specs.Images.{images, with_value}
use Rattle.plir_copies.specs.Copied.{with_values_of}
use Rattle.plir_copies.proofs.Values.{values-none, values-more}
use Rattle.plir_copies.proofs.blocks.map_arguments.Goals as goal

pub loop-i-init : goal.loop-i-init
loop-i-init g c = sym (values-none (images c.args.map.now) (Block c.args.block) (Block c.args.copy))

pub loop-i-preserved : goal.loop-i-preserved
loop-i-preserved g c =
    let m = images c.args.map.now in
    c.in_ok-map_value.ensures.ok ∙ (λ j. with_value (c.loop-i.invariant j) (c.get_argument.ensures.value j)
    (c.get_argument-in-loop-i.ensures.value j)) ∙ values-more m (Block c.args.block) (Block c.args.copy) c.loop-i.i

pub returns : goal.returns
returns g c =
    let all : c.loop-i.i ≡ length (arg_types_of c.args.ctx.now c.args.block) =
    omega (arith, c.loop-i.auto.i-end, c.loop-i-test.false, c.get_num_arguments-i-end.ensures.value) in
    c.loop-i.invariant ∙ ap (with_values_of (images c.args.map.now) (Block c.args.block) (Block c.args.copy)) all
