use Rattle.std.proofs.Common.{◌≡◌, ◌∷◌, [], subst, sym, refl}
use Rattle.plir_core.specs.Room.{no_node, HaveCome}
use Rattle.plir_core.specs.RoomLaws.{come_still}
use Rattle.plir_copies.specs.Images.{images}
use Rattle.plir_copies.specs.Copied.{located_in, with_operands_in, with_successors_in}
use Rattle.plir_copies.specs.Twins.{AreChanged}
use Rattle.plir_copies.proofs.Changing.{changed-op}
use Rattle.plir_copies.proofs.Keeping.{images-edited}
use Rattle.plir_copies.proofs.trees.change_copy.Goals as goal

pub change_successors-requires-clause-images_live : goal.change_successors-requires-clause-images_live
change_successors-requires-clause-images_live g c =
    let m = images c.args.map.now in
    images-edited c.args.ctx.now c.change_operands.new.ctx c.in-Operation.op (with_operands_in m)
    c.change_operands.ensures.edited (λ o. refl) m c.requires.images_live

pub returns-in-Operation-clause-changed : goal.returns-in-Operation-clause-changed
returns-in-Operation-clause-changed g c =
    let m = images c.args.map.now in
    let s = c.args.ctx.now in
    let t = c.change_operands.new.ctx in
    let u = c.change_successors.new.ctx in
    let v = c.change_location.new.ctx in
    let come = come_still s.nodes u.nodes v.nodes no_node (come_still s.nodes t.nodes u.nodes no_node
    c.change_operands.ensures.none_come c.change_successors.ensures.none_come) c.change_location.ensures.none_come in
    subst (λ n. AreChanged s v m (n ∷ [])) (sym c.in-Operation.is) (changed-op m s t u v c.in-Operation.op
    c.change_operands.ensures.edited c.change_successors.ensures.edited c.change_location.ensures.edited come)

pub returns-in-Operation-clause-images_live : goal.returns-in-Operation-clause-images_live
returns-in-Operation-clause-images_live g c =
    let m = images c.args.map.now in
    let t = c.change_operands.new.ctx in
    let u = c.change_successors.new.ctx in
    let p = c.in-Operation.op in
    images-edited u c.change_location.new.ctx p (located_in m) c.change_location.ensures.edited (λ o. refl) m
    (images-edited t u p (with_successors_in m) c.change_successors.ensures.edited (λ o. refl) m
    (images-edited c.args.ctx.now t p (with_operands_in m) c.change_operands.ensures.edited (λ o. refl) m
    c.requires.images_live))
