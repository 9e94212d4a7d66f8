use Rattle.std.proofs.Common.{◌+◌, codes, drop, arith}
use Rattle.std.proofs.lemmas.List.{drop_all}
use Rattle.plir_data.specs.TextLaws.{turn, ended}
use Rattle.plir_print.specs.OpText.{argument_text}
use Rattle.plir_print.specs.ValueNames.{arguments_of}
use Rattle.plir_pictures.proofs.Pieces.{argument-there, drop_at, length-arguments}
use Rattle.plir_pictures.proofs.fronts.put_arguments.Goals as goal

pub arguments-preserved : goal.arguments-preserved
arguments-preserved g c =
    let s = c.args.ctx.now in
    let vs = arguments_of s c.args.block in
    let place = c.arguments.place in
    turn (codes ", ") (argument_text g.D.OpSet s) c.arguments.is_first _ _ _ _ _
    (drop place vs) (drop (place + 1) vs) c.in_ok-put_between.ensures.ok c.in_ok-put_argument.ensures
    (drop_at vs place _ (argument-there s c.args.block place (omega arith))) c.arguments.invariant

pub returns : goal.returns
returns g c =
    let s = c.args.ctx.now in
    let vs = arguments_of s c.args.block in
    let e = length-arguments s c.args.block in
    ended (codes ", ") (argument_text g.D.OpSet s) c.arguments.is_first _ _ (drop c.arguments.place vs)
    (drop_all c.arguments.place vs (omega (arith, e))) c.arguments.invariant
