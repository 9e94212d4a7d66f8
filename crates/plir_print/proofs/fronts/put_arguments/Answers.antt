use Rattle.std.proofs.Common.{◌+◌, codes, drop, arith}
use Rattle.std.proofs.lemmas.List.{drop_all}
use Rattle.plir_print.specs.OpText.{argument_text}
use Rattle.plir_print.specs.ValueNames.{arguments_of}
use Rattle.plir_data.specs.TextLaws.{turn, ended}
use Rattle.plir_print.proofs.Pieces.{drop_at}
use Rattle.plir_print.proofs.fronts.put_arguments.Goals as goal

pub arguments-preserved : goal.arguments-preserved
arguments-preserved g c =
    let vs = arguments_of c.args.ctx.now c.args.block in
    let place = c.arguments.place in
    turn (codes ", ") (argument_text g.D.OpSet c.args.ctx.now) c.arguments.is_first _ _ _ _ c.value_at.result
    (drop place vs) (drop (place + 1) vs) c.in_ok-put_between.ensures.ok c.in_ok-put_argument.ensures
    (drop_at vs place c.value_at.result c.value_at.ensures.value) c.arguments.invariant

pub returns : goal.returns
returns g c =
    let vs = arguments_of c.args.ctx.now c.args.block in
    ended (codes ", ") (argument_text g.D.OpSet c.args.ctx.now) c.arguments.is_first _ _ (drop c.arguments.place vs)
    (drop_all c.arguments.place vs (omega arith)) c.arguments.invariant
