use Rattle.std.proofs.Common.{arith, sym, subst, ◌∙◌}
use Rattle.plir_store.specs.FilterLaws.{not-both}
use Rattle.plir_store.specs.Members.{Has}
use Rattle.plir_inliner.specs.Plain.{ReturnsAll}
use Rattle.plir_inliner.proofs.Plainness.{listed-live, plain-each, plain-last, plain-some, plain-told}
use Rattle.plir_inliner.proofs.plain.plain_cost.Goals as goal

pub returns-in_default : goal.returns-in_default
returns-in_default g c =
    plain-some g.D.OpSet.is_symbol g.D.CallSet.call g.D.CallSet.returned c.args.ctx.now c.args.block
    (sym (c.in_default.ensures.value ∙ c.last_child_is_back.ensures))

pub returns-then-not-returns_all : goal.returns-then-not-returns_all
returns-then-not-returns_all g c = λ h.
    let same = plain-last g.D.OpSet.is_symbol g.D.CallSet.call g.D.CallSet.returned c.args.ctx.now c.args.block h
    c.in-Some.last (sym (c.in-Some.ensures.value ∙ c.last_child_is_back.ensures)) in
    not-both c.returns_all.result
    (c.returns_all.ensures.1
    (subst (ReturnsAll g.D.OpSet.is_symbol g.D.CallSet.call g.D.CallSet.returned c.args.ctx.now) same h.returns_all))
    c.if-not-returns_all.true

pub may_all_stand-requires : goal.may_all_stand-requires
may_all_stand-requires g c = λ p h.
    listed-live g.D.OpSet.is_symbol g.D.CallSet.call g.D.CallSet.returned c.args.ctx.now c.args.block
    c.stands.ensures.standing.forest c.in_ok-ops.ops.items c.in_ok-ops.ensures c.requires p
    (subst (λ xs. Has xs p) c.deref.ensures.value h)

pub returns-then-not-may_all_stand : goal.returns-then-not-may_all_stand
returns-then-not-may_all_stand g c = λ h.
    let same = plain-last g.D.OpSet.is_symbol g.D.CallSet.call g.D.CallSet.returned c.args.ctx.now c.args.block h
    c.in-Some.last (sym (c.in-Some.ensures.value ∙ c.last_child_is_back.ensures)) in
    not-both c.may_all_stand.result
    (c.may_all_stand.ensures.1 (λ p has.
    plain-each g.D.OpSet.is_symbol g.D.CallSet.call g.D.CallSet.returned c.args.ctx.now c.args.block
    c.stands.ensures.standing.forest c.in_ok-ops.ops.items c.in_ok-ops.ensures h c.in-Some.last same p
    (subst (λ xs. Has xs p) c.deref.ensures.value has)))
    c.if-not-may_all_stand.true

pub returns : goal.returns
returns g c =
    plain-told g.D.OpSet.is_symbol g.D.CallSet.call g.D.CallSet.returned c.args.ctx.now c.args.block
    c.stands.ensures.standing.forest c.in_ok-ops.ops.items c.in_ok-ops.ensures c.in-Some.last
    (sym (c.in-Some.ensures.value ∙ c.last_child_is_back.ensures))
    (c.returns_all.ensures.0 c.if-not-returns_all.false) (λ p has.
    c.may_all_stand.ensures.0 c.if-not-may_all_stand.false p
    (subst (λ xs. Has xs p) (sym c.deref.ensures.value) has)) c.len.result (omega arith)
