use Rattle.std.proofs.Common.{◌≡◌, ◌∙◌, false, take, sym, subst, arith}
use Rattle.std.proofs.lemmas.List.{take_all, take_more}
use Rattle.std.specs.Prelude.{All}
use Rattle.plir_core.specs.ContextView.{is_live}
use Rattle.plir_core.specs.declared.ptr.IRNode.TheVariants.{Operation}
use Rattle.std.proofs.lemmas.Result.{err_from_is_err_and}
use Rattle.plir_read_ir.specs.Linking.{AreUsesLinked, FailsUses, LinksUses}
use Rattle.plir_read_ir.proofs.Unmeant.{fails_uses}
use Rattle.plir_read_ir.specs.Noting.{IsPending}
use Rattle.plir_read_ir.specs.declared.notes.PendingUse.{PendingUse}
use Rattle.plir_read_ir.proofs.Links.{uses_more, uses_none}
use Rattle.plir_read_ir.proofs.Shapes.{IsLinked-itself, IsLinked-on, KeepsShape-itself, KeepsShape-on, ready_shaped}
use Rattle.plir_read_ir.proofs.linking.link_uses.Goals as goal

pub uses-init : goal.uses-init
uses-init g c =
    record {
      shape = KeepsShape-itself _;
      linked = λ first h. IsLinked-itself first _;
      meant = λ values labels a b. uses_none values labels c.args.ctx.now;
      whole = c.stands.ensures.whole;
    }

pub link_use-requires-clause-pending : goal.link_use-requires-clause-pending
link_use-requires-clause-pending g c =
    let r = ready_shaped c.args.ctx.now c.uses.ctx c.uses.invariant.shape c.args.notes.now c.requires in
    let all = subst (All (IsPending c.uses.ctx)) (sym c.as_slice-pending-items.ensures.value) r.uses in
    all c.uses.pending-index _ (omega (arith, c.uses-test.true))

pub link_use-requires-clause-labels : goal.link_use-requires-clause-labels
link_use-requires-clause-labels g c =
    (ready_shaped c.args.ctx.now c.uses.ctx c.uses.invariant.shape c.args.notes.now c.requires).labels

pub returns-in_err-link_use-clause-linked : goal.returns-in_err-link_use-clause-linked
returns-in_err-link_use-clause-linked g c =
    λ first h. let all = subst (All (λ (u : PendingUse). is_live first (Operation u.op) ≡ false))
    (sym c.as_slice-pending-items.ensures.value) h in
    IsLinked-on first c.args.ctx.now c.uses.ctx c.link_use.new.ctx _ (c.uses.invariant.linked first h)
    c.in_err-link_use.ensures.linked (all c.uses.pending-index _ (omega (arith, c.uses-test.true)))

pub uses-preserved : goal.uses-preserved
uses-preserved g c =
    let l = c.in_ok-link_use.ensures.linked in
    record {
      shape = KeepsShape-on _ _ _ c.uses.invariant.shape l.shape;
      linked = λ first h. let all = subst (All (λ (u : PendingUse). is_live first (Operation u.op) ≡ false))
          (sym c.as_slice-pending-items.ensures.value) h in
          IsLinked-on first c.args.ctx.now c.uses.ctx c.link_use.new.ctx _ (c.uses.invariant.linked first h) l
          (all c.uses.pending-index _ (omega (arith, c.uses-test.true)));
      meant = λ values labels a b.
          subst (AreUsesLinked values labels c.args.ctx.now c.link_use.new.ctx)
          (sym (take_more c.as_slice-pending-items.result.now c.uses.pending-index _ (omega (arith, c.uses-test.true))))
          (uses_more values labels c.args.ctx.now c.uses.ctx c.link_use.new.ctx
          (take c.uses.pending-index c.as_slice-pending-items.result.now) _ c.uses.invariant.shape
          (c.uses.invariant.meant values labels a b) l (c.in_ok-link_use.ensures.meant values labels a b));
      whole = c.in_ok-link_use.ensures.whole;
    }

pub returns-clause-meant : goal.returns-clause-meant
returns-clause-meant g c =
    subst (LinksUses c.args.notes.now c.args.ctx.now c.uses.ctx)
    (take_all c.uses.pending-index _ (omega (arith, c.uses-test.false)) ∙ c.as_slice-pending-items.ensures.value)
    c.uses.invariant.meant

pub returns-in_err-link_use-clause-unmeant : goal.returns-in_err-link_use-clause-unmeant
returns-in_err-link_use-clause-unmeant g c =
    let p = err_from_is_err_and c.from_residual.result c.from_residual.ensures.1 in
    let failed = fails_uses c.args.notes.now c.args.ctx.now c.uses.ctx c.link_use.new.ctx
    c.as_slice-pending-items.result.now c.uses.pending-index _ c.in_err-link_use.field-0.0
    c.in_err-link_use.ensures.same c.uses.invariant.shape (omega (arith, c.uses-test.true)) c.uses.invariant.meant
    c.in_err-link_use.ensures.unmeant in
    rw (p.1, p.2) (subst (λ l. FailsUses c.args.notes.now c.args.ctx.now c.link_use.new.ctx l
    c.in_err-link_use.field-0.0) c.as_slice-pending-items.ensures.value failed)
