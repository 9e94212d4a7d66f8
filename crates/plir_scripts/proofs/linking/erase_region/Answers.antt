use Rattle.std.proofs.Common.{refl, subst}
use Rattle.plir_core.specs.Unused.{IsUnusedOutside}
use Rattle.plir_scripts.proofs.linking.erase_region.Goals as goal

pub erase_region-requires-clause-unused : goal.erase_region-requires-clause-unused
erase_region-requires-clause-unused g c =
    subst (IsUnusedOutside c.args.ctx.now) c.get_region.ensures.child (c.if-not-is_unused_outside.ensures.value.0 refl)
