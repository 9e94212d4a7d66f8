use Rattle.std.proofs.Common.{◌≡◌, ◌∙◌, arith, ap, sym, subst, true, false}
use Rattle.plir_store.specs.Table.{next_slot, version_at}
use Rattle.plir_core.specs.Nodes.{Nodes, num_nodes, is_given_out, was_given_out}
use Rattle.plir_core.proofs.arena.Arena.make_region.Goals as goal
use Rattle.plir_core.proofs.Listing.{loose, parent_at-room_child}
use Rattle.plir_core.proofs.Fresh.{never_given, given_with_region}
use Rattle.plir_core.proofs.Moves.{region_made}

pub push_back-requires-clause-loose : goal.push_back-requires-clause-loose
push_back-requires-clause-loose g c =
    rw (c.in_ok-slot.ensures.beside, c.in_ok-slot.ensures.slot, parent_at-room_child)
    (loose c.self.inside.regions_in_op c.self.inside.regions c.self.inside.ops c.self.invariant.regions_listed
    (next_slot c.self.inside.regions) c.in_ok-slot.ensures.filled.vacant)

pub invariant_of-self-2 : goal.invariant_of-self-2
invariant_of-self-2 g c =
    region_made c.self.view_is c.self.invariant _ _ _ _ c.args.op c.in_ok-slot.slot c.requires
    c.in_ok-slot.ensures.slot c.in_ok-slot.ensures.filled c.in_ok-slot.ensures.below c.in_ok-slot.ensures.beside
    c.push_back.ensures.after c.in_ok-slot.ensures.below_agreed c.in_ok-slot.ensures.beside_agreed
    c.push_back.ensures.agreed
    (omega (arith, c.self.invariant.within, c.num_live.ensures.value, ap num_nodes c.self.view_is))

pub returns-clause-stored : goal.returns-clause-stored
returns-clause-stored g c = invariant_of-self-2 g c

pub returns-clause-fresh : goal.returns-clause-fresh
returns-clause-fresh g c =
    subst (λ (z : Nodes g.row.O.Denot g.row.B.Denot). is_given_out z.regions c.new.result ≡ false) c.self.view_is
    (never_given c.self.inside.regions c.fill.new.table _ c.in_ok-slot.ensures.filled c.new.result
    (c.new.ensures.slot ∙ c.in_ok-slot.ensures.slot) (c.new.ensures.version ∙ c.version.ensures.value ∙ ap
    (version_at c.fill.new.table) c.in_ok-slot.ensures.slot))

pub returns-clause-given : goal.returns-clause-given
returns-clause-given g c =
    λ n e. given_with_region (record {
      ops = c.self.inside.ops;
      regions = c.self.inside.regions;
      blocks =
          c.self.inside.blocks;
      regions_in_op = c.self.inside.regions_in_op;
      blocks_in_region =
          c.self.inside.blocks_in_region;
      ops_in_block = c.self.inside.ops_in_block;
      limit = c.self.inside.limit;
    })
    c.fill.new.table c.fill.new.below c.push_back.new.self c.in_ok-slot.ensures.filled n
    (subst (λ (z : Nodes g.row.O.Denot g.row.B.Denot). was_given_out z n ≡ true) (sym c.self.view_is) e)
