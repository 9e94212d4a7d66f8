use Rattle.std.proofs.Common.{sym, subst}
use Rattle.plir_core.specs.Unused.{IsUnusedOutside}
use Rattle.plir_core.proofs.erasing.erase_tree.Goals as goal
use Rattle.plir_core.proofs.CountFacts.{IsWellFormed-erased}

pub invariant_of-ctx : goal.invariant_of-ctx
invariant_of-ctx g c =
    record {
      whole = IsWellFormed-erased g.D.OpSet.attr_handles _ c.erase_nodes.new.nodes c.args.node c.ctx.invariant.whole
          (subst (λ z. IsUnusedOutside z c.args.node) (sym c.ctx.view_is) c.requires.unused) c.erase_nodes.ensures.tree;
      counted = c.erase_nodes.ensures.counted c.ctx.invariant.counted;
    }

pub returns-clause-whole : goal.returns-clause-whole
returns-clause-whole g c = (invariant_of-ctx g c).whole
