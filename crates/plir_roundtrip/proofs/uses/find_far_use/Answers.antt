use Rattle.std.proofs.Common.{sym, subst}
use Rattle.plir_core.specs.ContextView.{IsLive, children}
use Rattle.plir_core.specs.Forest.{look}
use Rattle.plir_core.specs.declared.ptr.IRNode.TheVariants.{Operation}
use Rattle.plir_walk.specs.Tree.{IsUnder}
use Rattle.plir_walk.specs.TreeLaws.{reached-under}
use Rattle.plir_roundtrip.specs.Obstacles.{IsFarAt, IsUsing}
use Rattle.plir_roundtrip.specs.ReadableParts.{IsLookAnswer}
use Rattle.plir_roundtrip.proofs.ReadableCalls.{broke_off, went_on}
use Rattle.plir_roundtrip.proofs.uses.find_far_use.Goals as goal

pub walk_op-requires-clause-callable : goal.walk_op-requires-clause-callable
walk_op-requires-clause-callable g c = λ d s n e st. (
  subst (λ z. IsLive z n) (sym e) st.live,
  subst (λ z. IsUnder (children z) (Operation c.args.op) n) (sym e)
      (reached-under (look c.args.ctx.now) st.forest st.under_root.0 n (Operation c.args.op) st.under_root.1),
)

pub returns-in-Break : goal.returns-in-Break
returns-in-Break g c =
    let i = g.D.ReadSet.is_isolated in
    let root = Operation c.args.op in
    let found =
    broke_off _ _ (λ s n. IsUsing i s root n) (λ s n b. IsFarAt i s root n b)
    (λ d s n a d' s' h. (h.stays, subst (λ z. IsLookAnswer (IsUsing i z root n) (IsFarAt i z root n) a) h.shows.0 h.met.1))
    c.args.ctx.now c.args.op _ _ _ _ c.in-Break.is c.walk_op.ensures in
    record { node = found.node; within = found.under; far = found.found; others = found.others }

pub returns-in-Continue : goal.returns-in-Continue
returns-in-Continue g c =
    let i = g.D.ReadSet.is_isolated in
    let root = Operation c.args.op in
    let ended =
    went_on _ _ (λ s n. IsUsing i s root n) (λ s n b. IsFarAt i s root n b)
    (λ d s n a d' s' h. (h.stays, subst (λ z. IsLookAnswer (IsUsing i z root n) (IsFarAt i z root n) a) h.shows.0 h.met.1))
    c.args.ctx.now c.args.op _ _ _ _ c.in-Continue.is c.walk_op.ensures in
    record { operands = λ p u. (ended (Operation p) u).0; successors = λ p u. (ended (Operation p) u).1 }
