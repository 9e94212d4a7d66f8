use Rattle.std.proofs.Common.{sym, ap, arith, ◌∙◌}
use Rattle.plir_core.specs.declared.ptr.IRNode.TheVariants.{Operation}
use Rattle.plir_walk.specs.Unnamed.{without_names}
use Rattle.plir_walk.proofs.Unnaming.{unnamed-lawful, walk-unnamed}
use Rattle.plir_walk.proofs.erase_names.erase_given_names.Goals as goal

pub walk_op-to_its_end-requires-clause-lawful : goal.walk_op-to_its_end-requires-clause-lawful
walk_op-to_its_end-requires-clause-lawful g c = λ d t n a d' t' p. unnamed-lawful d d' n n
    (sym p.made.1.leaves.0 ∙ p.made.1.met.1 ∙ ap (λ z. without_names z n) p.made.1.shows.0)

pub returns : goal.returns
returns g c =
    let most = c.from.ensures in
    walk-unnamed _ _ c.args.ctx.now _ (Operation c.args.op) c.walk_op-to_its_end.new.ctx _ _ c.walk_op-to_its_end.result
    c.walk_op-to_its_end.ensures (λ d t n a d' t' p. (
      p.0,
      sym p.1.leaves.0 ∙ p.1.met.1 ∙ ap
          (λ z. without_names z n) p.1.shows.0,
    )) (omega arith) (c.contexts_stand.ensures c.args.ctx.now
    c.num_live-at_most_the_limit.ensures.whole) c.requires
