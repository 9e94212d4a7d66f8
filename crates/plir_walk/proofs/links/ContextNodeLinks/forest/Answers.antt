use Rattle.plir_walk.proofs.links.ContextNodeLinks.forest.Goals as goal

pub returns : goal.returns
returns g c = (c.contexts_stand.ensures c.args.self.now c.stands.ensures.whole).forest
