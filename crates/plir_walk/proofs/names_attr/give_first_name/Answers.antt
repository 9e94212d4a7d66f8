use Rattle.std.proofs.Common.{◌≡◌, OnOk, sym, ap, subst, ◌∙◌}
use Rattle.plir_walk.specs.Placing.{placed_name}
use Rattle.plir_walk.proofs.NamesTaken.{first-unset, first-set}
use Rattle.plir_walk.proofs.names_attr.give_first_name.Goals as goal

pub returns-then-is_none-clause-ok : goal.returns-then-is_none-clause-ok
returns-then-is_none-clause-ok g c = sym (first-unset c.args.ctx.now c.args.entity c.requires.absent c.args.placing
    c.args.i c.args.name c.if-is_none.ensures)

pub returns-clause-ok : goal.returns-clause-ok
returns-clause-ok g c =
    let placed = c.in_ok-place_name.ensures.ok ∙ ap (λ z. placed_name c.args.placing z c.args.i c.args.name)
    c.new-names.ensures.items in
    subst (λ z. OnOk c.add_names.result (c.add_names.new.ctx ≡ z)) (first-set c.args.ctx.now c.args.entity
    c.requires.absent c.args.placing c.args.i c.args.name c.place_name.new.names.items c.if-is_none.ensures placed)
    c.add_names.ensures.ok
