use Rattle.std.proofs.Common.{arith}
use Rattle.std.proofs.lemmas.Option.{slice_get_within}
use Rattle.plir_core.specs.ContextView.{children}
use Rattle.plir_roundtrip.proofs.Asked.{drop_at}
use Rattle.plir_roundtrip.proofs.below.child_there.Goals as goal

pub returns-clause-within : goal.returns-clause-within
returns-clause-within g c =
    slice_get_within (children c.args.ctx.now c.args.over) c.args.place c.args.child c.requires

pub returns-clause-few : goal.returns-clause-few
returns-clause-few g c =
    let st = c.stands.ensures.standing in
    let n =
    st.measured.counted (children c.args.ctx.now c.args.over) (st.forest.once c.args.over)
    (λ x h. st.forest.child_live c.args.over x h) in
    let w = st.within in
    let f = st.limit_fits in
    omega arith

pub returns-clause-left : goal.returns-clause-left
returns-clause-left g c = drop_at (children c.args.ctx.now c.args.over) c.args.place c.args.child c.requires
