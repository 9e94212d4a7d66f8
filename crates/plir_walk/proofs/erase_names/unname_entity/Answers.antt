use Rattle.std.proofs.Common.{sym, subst}
use Rattle.plir_data.specs.Dictionary.{dict_without}
use Rattle.plir_data.specs.Keys.{names_key}
use Rattle.plir_core.specs.ContextView.{IsLive, entity_node}
use Rattle.plir_walk.proofs.NamedStores.{attributes-live}
use Rattle.plir_walk.proofs.erase_names.unname_entity.Goals as goal

pub returns-then-not-has_other-clause-live : goal.returns-then-not-has_other-clause-live
returns-then-not-has_other-clause-live g c = subst (λ z. IsLive z (entity_node c.args.entity))
    (sym c.remove_attr.ensures.after) (attributes-live c.args.ctx.now c.args.entity (λ es. dict_without es names_key)
    c.requires)
