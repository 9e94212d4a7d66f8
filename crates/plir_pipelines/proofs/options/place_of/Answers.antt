use Rattle.std.proofs.Common.{rules, tests, sym, ◌∙◌, bytes_eq}
use Rattle.std.proofs.lemmas.Iterator.{YieldsList-from_slice}
use Rattle.std.proofs.lemmas.Iterator.Search.{position_from_yields_List}
use Rattle.plir_pipelines.specs.Options.{rule_of}
use Rattle.plir_pipelines.proofs.Sets.{position-map}
use Rattle.plir_pipelines.proofs.options.place_of.Goals as goal

pub returns : goal.returns
returns c =
    position_from_yields_List (λ o. bytes_eq o.name.now c.args.name.now) _ _ c.position.result c.position.ensures.ran
    (YieldsList-from_slice _ c.iter.ensures.rest) (λ x b q k. search (rules, tests))
    ∙ sym (position-map (λ r. bytes_eq r.name c.args.name.now) rule_of c.args.options.now)
