use Rattle.std.proofs.Common.{◌≡◌, ◌⊎◌, ◌≤◌, length, inl, inr, arith, ◌∙◌}
use Rattle.plir_walk.specs.declared.name_list.Placing.TheVariants.{Shifting}
use Rattle.plir_walk.proofs.NameLists.{placed-in}
use Rattle.plir_walk.proofs.name_list.pad_and_place.Goals.{in_default-via-in-Replacing+else-i-len}
use Rattle.plir_walk.proofs.name_list.pad_and_place.Goals.{in_default-via-in_default}
use Rattle.plir_walk.proofs.name_list.pad_and_place.Goals as goal

pub returns-in_ok-insert-in_default-clause-ok : goal.returns-in_ok-insert-in_default-clause-ok
returns-in_ok-insert-in_default-clause-ok c =
    let h : (c.args.placing ≡ Shifting) ⊎ (length c.pad.new.names.items ≤ c.args.i) = elim c.in_default.branch [
      | in_default-via-in-Replacing+else-i-len w ↦ inr (let l = w.len.ensures in let past = w.if-i-len.false in omega
          arith)
      | in_default-via-in_default w ↦ inl w.in_default.is
    ] in
    c.in_ok-insert-in_default.ensures.items ∙ placed-in c.args.placing c.args.names.now.items c.pad.new.names.items
    c.args.i c.args.name c.in_ok-pad.ensures.ok h
