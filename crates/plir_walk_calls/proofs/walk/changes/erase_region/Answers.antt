use Rattle.std.proofs.Common.{zero, refl, sym, subst}
use Rattle.plir_core.specs.declared.ptr.IRNode.TheVariants.{Operation, Region}
use Rattle.plir_core.specs.Erase.{IsErased}
use Rattle.plir_core.specs.Unused.{IsUnusedOutside}
use Rattle.plir_walk_calls.proofs.walk.changes.erase_region.Goals as goal

pub erase_region-requires-clause-unused : goal.erase_region-requires-clause-unused
erase_region-requires-clause-unused g c = subst (IsUnusedOutside c.args.ctx.now) c.get_region-region.ensures.child
    (c.if-not-is_unused_outside.ensures.value.0 refl)

pub returns : goal.returns
returns g c =
    let s = c.args.ctx.now in
    let t = c.erase_region.new.ctx in
    let region = Region c.get_region-region.result in
    let erased = subst (IsErased s.nodes t.nodes) (sym c.get_region-region.ensures.child) c.erase_region.ensures.tree in
    c.lawful_changes.ensures.erased s t (Operation c.args.op) region (zero, c.child_at.ensures.parent) erased
