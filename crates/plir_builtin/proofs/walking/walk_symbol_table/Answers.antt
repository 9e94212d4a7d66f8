use Rattle.std.proofs.Common.{inl, refl, sym, ap, subst, ◌∙◌}
use Rattle.plir_store.specs.Members.{Has}
use Rattle.plir_core.specs.declared.ptr.IRNode.TheVariants.{Operation, Region}
use Rattle.plir_walk.specs.Lawful.{StandsUnder}
use Rattle.plir_walk.specs.Calls.{ReadsBack}
use Rattle.plir_builtin.proofs.TableWalking.{under-region, passes-again, handed-over}
use Rattle.plir_builtin.proofs.walking.walk_symbol_table.Goals as goal

pub walk_region-requires-clause-root_live : goal.walk_region-requires-clause-root_live
walk_region-requires-clause-root_live g c =
    c.forest.ensures.child_live (Operation c.args.op) _
    (subst (λ z. Has z (Region c.one_region-region.result)) (sym c.one_region-region.ensures) (inl refl))

pub walk_region-requires-clause-callable : goal.walk_region-requires-clause-callable
walk_region-requires-clause-callable g c = λ d s n e u. (
  ap (λ z. (g.C.NodeLinks.look z).live n) e ∙ u.live,
  λ f t p is same. c.requires.callable f t p (same ∙ e)
      (subst (λ z. StandsUnder (g.C.NodeLinks.look c.args.ctx.now) (Operation c.args.op) z) is
      (under-region (g.C.NodeLinks.look c.args.ctx.now) c.args.op c.one_region-region.result n
      c.one_region-region.ensures u)),
)

pub returns : goal.returns
returns g c = handed-over g.C.NodeLinks.look g.C.TableLinks.is_table_of (ReadsBack g.F.Fn c.args.callback) _
    (λ d s n a d' s' p.
    passes-again g.C.TableLinks.is_table_of (ReadsBack g.F.Fn c.args.callback) n a p.stays p.shows p.leaves p.met.1)
    c.args.ctx.now c.args.state.now c.args.op c.one_region-region.result c.walk_region.result c.walk_region.new.state
    c.one_region-region.ensures c.walk_region.ensures
