use Rattle.std.proofs.Common.{◌≡◌, subst, ◌++◌, ◌<◌, arith, take, length, List}
use Rattle.std.proofs.lemmas.List.{take_all}
use Rattle.plir_flow.specs.Taken.{IsOnceEach}
use Rattle.plir_flow.proofs.TakenLists.{grown}
use Rattle.plir_flow.proofs.once.Once.add_all.Goals as goal

pub loop-value-preserved : goal.loop-value-preserved
loop-value-preserved g c xs w =
    let i = c.loop-value.value-index in
    let vs = c.args.values.now in
    let x = c.value-item.result in
    let below : i < length vs = omega arith in
    rw (← grown xs vs i x below c.value-item.is)
    (c.in_ok-add.ensures.once (xs ++ take i vs) (c.loop-value.invariant xs w))

pub returns : goal.returns
returns g c xs w =
    let n : length c.args.values.now ≡ c.loop-value.value-index = omega arith in
    subst (λ (l : List g.row.T.Denot). IsOnceEach (xs ++ l) c.loop-value.self)
    (take_all _ c.args.values.now (omega arith)) (c.loop-value.invariant xs w)
