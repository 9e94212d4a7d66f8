use Rattle.std.proofs.Common.{[], Ok, arith, sym, ap, ◌∙◌}
use Rattle.std.specs.Prelude.{option_map}
use Rattle.plir_data.specs.AttrView.{leaf, given_names}
use Rattle.plir_walk.specs.GivenNames.{all_unset, names_at, with_names, remove_name}
use Rattle.plir_walk.proofs.NameLists.{remove-past}
use Rattle.plir_walk.proofs.NamesTaken.{taken-live, taken-present, taken-names, names-put, no-names, names-unset}
use Rattle.plir_walk.proofs.names_attr.take_name.Goals as goal

pub put_back-requires-clause-live : goal.put_back-requires-clause-live
put_back-requires-clause-live g c =
    taken-live c.args.ctx.now c.take_names.new.ctx c.args.entity c.in-Some.names c.in-Some.is
    c.in_ok-names.ensures.taken c.in_ok-names.ensures.after c.requires

pub put_back-requires-clause-present : goal.put_back-requires-clause-present
put_back-requires-clause-present g c =
    taken-present c.args.ctx.now c.take_names.new.ctx c.args.entity c.in-Some.names c.in-Some.is
    c.in_ok-names.ensures.taken c.in_ok-names.ensures.after

pub returns-in-Some-clause-ok : goal.returns-in-Some-clause-ok
returns-in-Some-clause-ok g c =
    let removed = c.remove_from.ensures ∙ ap (λ z. remove_name z c.args.i) (c.names_mut.ensures.names ∙ sym
    (taken-names c.args.ctx.now c.take_names.new.ctx c.args.entity c.in-Some.names c.in-Some.is
    c.in_ok-names.ensures.taken c.in_ok-names.ensures.after)) in
    c.put_back.ensures.after ∙ names-put c.args.ctx.now c.take_names.new.ctx c.args.entity c.in-Some.names c.in-Some.is
    c.in_ok-names.ensures.taken c.in_ok-names.ensures.after
    c.take_names.ensures.ascending c.remove_from.new.names.items ∙ ap (with_names c.args.ctx.now c.args.entity)
    removed

pub returns-in_default-clause-ok : goal.returns-in_default-clause-ok
returns-in_default-clause-ok g c =
    let absent = sym c.in_ok-names.ensures.taken ∙ ap (option_map (λ ns. leaf (given_names ns))) c.in_default.is in
    let none = ap (λ z. remove_name z c.args.i) (no-names c.args.ctx.now c.args.entity absent) ∙ remove-past [] c.args.i
    (omega arith) in
    c.take_names.ensures.absent (c.in_ok-names.was ∙ ap (λ z. Ok z) c.in_default.is) ∙ sym
    (names-unset c.args.ctx.now c.args.entity absent (remove_name (names_at c.args.ctx.now c.args.entity) c.args.i)
    (ap all_unset none))
