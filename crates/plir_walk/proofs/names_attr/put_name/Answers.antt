use Rattle.std.proofs.Common.{sym, ap, ◌∙◌}
use Rattle.plir_data.specs.AttrView.{leaf, given_names}
use Rattle.plir_data.specs.Dictionary.{dict_put}
use Rattle.plir_data.specs.Keys.{names_key}
use Rattle.plir_walk.specs.GivenNames.{with_attributes, with_names}
use Rattle.plir_walk.specs.Placing.{placed_name}
use Rattle.plir_walk.proofs.NamesTaken.{taken-live, taken-present, taken-names, names-put, names-restored}
use Rattle.plir_walk.proofs.names_attr.put_name.Goals as goal

pub put_back-requires-clause-live : goal.put_back-requires-clause-live
put_back-requires-clause-live g c =
    taken-live c.args.ctx.now c.take_names.new.ctx c.args.entity c.in-Some.names c.in-Some.is
    c.in_ok-names.ensures.taken c.in_ok-names.ensures.after c.requires

pub put_back-requires-clause-present : goal.put_back-requires-clause-present
put_back-requires-clause-present g c =
    taken-present c.args.ctx.now c.take_names.new.ctx c.args.entity c.in-Some.names c.in-Some.is
    c.in_ok-names.ensures.taken c.in_ok-names.ensures.after

pub restore_names-requires-clause-live : goal.restore_names-requires-clause-live
restore_names-requires-clause-live g c =
    taken-live c.args.ctx.now c.take_names.new.ctx c.args.entity c.in-Some.names c.in-Some.is
    c.in_ok-names.ensures.taken c.in_ok-names.ensures.after c.requires

pub restore_names-requires-clause-present : goal.restore_names-requires-clause-present
restore_names-requires-clause-present g c =
    taken-present c.args.ctx.now c.take_names.new.ctx c.args.entity c.in-Some.names c.in-Some.is
    c.in_ok-names.ensures.taken c.in_ok-names.ensures.after

pub returns-in-Ok-clause-ok : goal.returns-in-Ok-clause-ok
returns-in-Ok-clause-ok g c =
    let placed = c.in-Ok.ensures.ok ∙ ap (λ z. placed_name c.args.placing z c.args.i c.args.name)
    (c.names_mut.ensures.names ∙ sym (taken-names c.args.ctx.now c.take_names.new.ctx c.args.entity c.in-Some.names
    c.in-Some.is
    c.in_ok-names.ensures.taken c.in_ok-names.ensures.after)) in
    c.put_back.ensures.after ∙ names-put c.args.ctx.now c.take_names.new.ctx c.args.entity c.in-Some.names c.in-Some.is
    c.in_ok-names.ensures.taken c.in_ok-names.ensures.after
    c.take_names.ensures.ascending c.place_name.new.names.items ∙ ap (with_names c.args.ctx.now c.args.entity)
    placed

pub returns-in-Err-clause-err : goal.returns-in-Err-clause-err
returns-in-Err-clause-err g c =
    let same = c.in-Err.ensures.err ∙ c.names_mut.ensures.names in
    c.restore_names.ensures.after ∙ ap (λ z. with_attributes c.take_names.new.ctx c.args.entity
    (λ es. dict_put es names_key (leaf (given_names z)))) same ∙ names-restored c.args.ctx.now c.take_names.new.ctx
    c.args.entity c.in-Some.names c.in-Some.is
    c.in_ok-names.ensures.taken c.in_ok-names.ensures.after c.take_names.ensures.ascending
