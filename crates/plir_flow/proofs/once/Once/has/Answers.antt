use Rattle.std.proofs.Common.{◌∙◌}
use Rattle.plir_flow.proofs.TakenLists.{any-has}
use Rattle.plir_flow.proofs.once.Once.has.Goals as goal

pub returns : goal.returns
returns g c =
    let d = any-has g.T.PartialEq.eq c.requires c.args.value c.self.inside.values.items in
    rw (← c.self.view_is, c.contains.ensures ∙ c.self.invariant c.args.value) (d.0, d.1)
