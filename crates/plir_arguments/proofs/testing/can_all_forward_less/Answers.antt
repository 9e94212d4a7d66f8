use Rattle.std.proofs.Common.{◌≡◌, ◌≤◌, ◌+◌, ◌∙◌, suc, inl, inr, arith, length, refl, sym, subst, take}
use Rattle.std.specs.Prelude.{slice_index_or}
use Rattle.std.proofs.lemmas.Bool.{false≢true}
use Rattle.std.proofs.lemmas.List.{take_all}
use Rattle.std.proofs.lemmas.Option.{slice_get-get_or}
use Rattle.plir_store.specs.Members.{Has}
use Rattle.plir_store.specs.MemberLaws.{Has-at}
use Rattle.plir_core.specs.declared.ptr.BasicBlock.{BasicBlock as BlockKind}
use Rattle.plir_core.specs.declared.ptr.Ptr.{Ptr}
use Rattle.plir_core.specs.declared.uses.Use.{Use}
use Rattle.plir_arguments.specs.Dropped.{CanForwardLess}
use Rattle.plir_arguments.proofs.Members.{next-cases}
use Rattle.plir_arguments.proofs.Uses.{no_use}
use Rattle.plir_arguments.proofs.testing.can_all_forward_less.Goals as goal

pub can_use_forward_less-requires-clause-live : goal.can_use_forward_less-requires-clause-live
can_use_forward_less-requires-clause-live g c =
    let removes = g.D.BranchEditSet.removes in
    let forwards = g.D.BranchSet.forwards in
    let s = c.args.ctx.now in
    let b = c.args.block in
    let us = c.args.uses.now in
    let n = c.loop-used.used-index in
    let u = slice_index_or us n no_use in
    let at = slice_get-get_or us n no_use c.loop-used-test.true in
    let each = c.requires.uses.each u (Has-at us n u at) in
    each.0

pub can_use_forward_less-requires-clause-goes : goal.can_use_forward_less-requires-clause-goes
can_use_forward_less-requires-clause-goes g c =
    let removes = g.D.BranchEditSet.removes in
    let forwards = g.D.BranchSet.forwards in
    let s = c.args.ctx.now in
    let b = c.args.block in
    let us = c.args.uses.now in
    let n = c.loop-used.used-index in
    let u = slice_index_or us n no_use in
    let at = slice_get-get_or us n no_use c.loop-used-test.true in
    let each = c.requires.uses.each u (Has-at us n u at) in
    each.1

pub returns-then-not-can_use_forward_less : goal.returns-then-not-can_use_forward_less
returns-then-not-can_use_forward_less g c =
    let removes = g.D.BranchEditSet.removes in
    let forwards = g.D.BranchSet.forwards in
    let s = c.args.ctx.now in
    let b = c.args.block in
    let us = c.args.uses.now in
    let n = c.loop-used.used-index in
    let u = slice_index_or us n no_use in
    let at = slice_get-get_or us n no_use c.loop-used-test.true in
    let each = c.requires.uses.each u (Has-at us n u at) in (
      λ yes. absurd (false≢true yes),
      λ h. absurd (false≢true (sym c.if-not-can_use_forward_less.true
          ∙ c.can_use_forward_less.ensures.1 (h u.op u.index each.0 each.1))),
    )

pub loop-used-preserved : goal.loop-used-preserved
loop-used-preserved g c =
    let removes = g.D.BranchEditSet.removes in
    let forwards = g.D.BranchSet.forwards in
    let s = c.args.ctx.now in
    let b = c.args.block in
    let us = c.args.uses.now in
    let n = c.loop-used.used-index in
    let u = slice_index_or us n no_use in
    let at = slice_get-get_or us n no_use c.loop-used-test.true in
    let each = c.requires.uses.each u (Has-at us n u at) in
    let next : n + 1 ≡ suc n = omega arith in
    λ v has. elim (next-cases us n u v at (subst (λ k. Has (take k us) v) next has)) [
      | inl before ↦ c.loop-used.invariant v before
      | inr same ↦
          subst (λ (z : Use (Ptr BlockKind)). CanForwardLess removes forwards s b z.op z.index) same
          (c.can_use_forward_less.ensures.0 c.if-not-can_use_forward_less.false)
    ]

pub returns : goal.returns
returns g c =
    let us = c.args.uses.now in
    let past : length us ≤ c.loop-used.used-index = omega arith in (
      λ _ p k l goes.
          let u : Use (Ptr BlockKind) = record { op = p; index = k; kind = record {} } in
          c.loop-used.invariant u (subst (λ xs. Has xs u) (sym (take_all c.loop-used.used-index us past))
          (c.requires.uses.all p k l goes)),
      λ _. refl,
    )
