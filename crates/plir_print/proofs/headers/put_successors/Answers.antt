use Rattle.std.proofs.Common.{◌+◌, codes, drop, arith}
use Rattle.std.proofs.lemmas.List.{drop_all}
use Rattle.plir_core.specs.ContextView.{successors_of}
use Rattle.plir_print.specs.Headers.{successor_text}
use Rattle.plir_data.specs.TextLaws.{turn, ended}
use Rattle.plir_print.proofs.Pieces.{drop_at}
use Rattle.plir_print.proofs.headers.put_successors.Goals as goal

pub successors-preserved : goal.successors-preserved
successors-preserved g c =
    let bs = successors_of c.args.ctx.now c.args.op in
    let place = c.successors.place in
    turn (codes ", ") (successor_text c.args.ctx.now) c.successors.is_first _ _ _ _ c.get_successor.result
    (drop place bs) (drop (place + 1) bs) c.in_ok-put_between.ensures.ok c.in_ok-put_successor.ensures
    (drop_at bs place c.get_successor.result c.get_successor.ensures.value) c.successors.invariant

pub returns : goal.returns
returns g c =
    let bs = successors_of c.args.ctx.now c.args.op in
    ended (codes ", ") (successor_text c.args.ctx.now) c.successors.is_first _ _ (drop c.successors.place bs)
    (drop_all c.successors.place bs (omega arith)) c.successors.invariant
