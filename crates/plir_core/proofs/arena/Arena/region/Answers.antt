use Rattle.std.proofs.Common.{◌∙◌}
use Rattle.plir_core.proofs.arena.Arena.region.Goals as goal
use Rattle.plir_core.proofs.Moves.{region_within, region_at}

pub version-requires : goal.version-requires
version-requires g c = region_within c.self.view_is c.self.invariant c.args.op c.args.place
    c.child_at-slot.result c.child_at-slot.ensures

pub returns : goal.returns
returns g c =
    region_at c.self.view_is c.self.invariant c.args.op c.args.place c.child_at-slot.result
    c.new.result c.requires.live c.child_at-slot.ensures c.new.ensures.slot (c.new.ensures.version ∙
    c.version.ensures.value)
