use Rattle.std.proofs.Common.{◌≡◌, Some, rules, sym, ap, subst, ◌∙◌}
use Rattle.std.specs.Prelude.{◌≢◌}
use Rattle.plir_data.specs.AttrLive.{HandlesLive}
use Rattle.plir_data.specs.AttrSeen.{attr_view}
use Rattle.plir_data.specs.Dictionary.{dict_get}
use Rattle.plir_data.specs.Keys.{value_key}
use Rattle.plir_builtin.proofs.ConstantRefusals.{told_wider, untyped_fault, mismatch_fault}
use Rattle.plir_builtin.proofs.ConstantRefusals.{untyped_broken, mismatch_broken, value_there}
use Rattle.plir_builtin.proofs.constant_op.ConstantOp.verify.Goals as goal

pub returns-in_default-typed-clause-refused : goal.returns-in_default-typed-clause-refused
returns-in_default-typed-clause-refused g c =
    let s = c.args.ctx.now in
    let op = c.args.self.now.op in
    let there = ap (λ es. dict_get es value_key) (sym c.attributes.ensures.value) ∙ sym c.in-Some.ensures.value in
    told_wider s op _ _ (untyped_fault g.D.OpSet.attr_id g.D.OpSet.attr_type g.D.OpSet.type_id g.D.OpSet.type_body_text
    s op (attr_view c.in-Some.value.now) there (sym c.in_default-typed.ensures.value)) c.untyped.result
    c.untyped.ensures.reported

pub returns-then-eq-clause-ok : goal.returns-then-eq-clause-ok
returns-then-eq-clause-ok g c =
    let same : c.in-Some-typed.given ≡ c.get_type-wanted.result = search rules in
    record {
      value = attr_view c.in-Some.value.now;
      type = c.in-Some-typed.given;
      there = ap (λ es. dict_get es value_key) (sym c.attributes.ensures.value) ∙ sym c.in-Some.ensures.value;
      typed = sym c.in-Some-typed.ensures.value;
      result = c.get_type-wanted.ensures.value ∙ ap Some (sym same);
    }

pub mismatched-requires-clause-given_live : goal.mismatched-requires-clause-given_live
mismatched-requires-clause-given_live g c =
    let own = g.D.OpSet.attr_handles in
    let types = c.args.ctx.now.types in
    let handles = subst (HandlesLive own types) (sym c.attributes.ensures.value) c.attributes.ensures.live in
    c.in-Some-typed.ensures.live types (c.in-Some.ensures.live own types handles)

pub returns-clause-refused : goal.returns-clause-refused
returns-clause-refused g c =
    let s = c.args.ctx.now in
    let op = c.args.self.now.op in
    let there = ap (λ es. dict_get es value_key) (sym c.attributes.ensures.value) ∙ sym c.in-Some.ensures.value in
    let other : c.in-Some-typed.given ≢ c.get_type-wanted.result = search rules in
    told_wider s op _ _ (mismatch_fault g.D.OpSet.attr_id g.D.OpSet.attr_type g.D.OpSet.type_id g.D.OpSet.type_body_text
    s op (attr_view c.in-Some.value.now) there c.in-Some-typed.given c.get_type-wanted.result
    (sym c.in-Some-typed.ensures.value) c.get_type-wanted.ensures.value other) c.mismatched.result
    c.mismatched.ensures.reported

pub returns-in_default-typed-clause-accepted : goal.returns-in_default-typed-clause-accepted
returns-in_default-typed-clause-accepted g c = λ h.
    (let there = ap (λ es. dict_get es value_key) (sym c.attributes.ensures.value) ∙ sym c.in-Some.ensures.value in
    absurd (untyped_broken g.D.OpSet.attr_type c.args.ctx.now c.args.self.now.op (attr_view c.in-Some.value.now) there
    (sym c.in_default-typed.ensures.value) h))

pub returns-in_default-typed-clause-memory : goal.returns-in_default-typed-clause-memory
returns-in_default-typed-clause-memory g c = λ e.
    (let there = ap (λ es. dict_get es value_key) (sym c.attributes.ensures.value) ∙ sym c.in-Some.ensures.value in
    value_there g.D.OpSet.attr_type c.args.ctx.now c.args.self.now.op (attr_view c.in-Some.value.now) there)

pub returns-clause-accepted : goal.returns-clause-accepted
returns-clause-accepted g c = λ h.
    (let there = ap (λ es. dict_get es value_key) (sym c.attributes.ensures.value) ∙ sym c.in-Some.ensures.value in
    let other : c.in-Some-typed.given ≢ c.get_type-wanted.result = search rules in
    absurd (mismatch_broken g.D.OpSet.attr_type c.args.ctx.now c.args.self.now.op (attr_view c.in-Some.value.now) there
    c.in-Some-typed.given c.get_type-wanted.result (sym c.in-Some-typed.ensures.value) c.get_type-wanted.ensures.value
    other h))

pub returns-clause-memory : goal.returns-clause-memory
returns-clause-memory g c = λ e.
    (let there = ap (λ es. dict_get es value_key) (sym c.attributes.ensures.value) ∙ sym c.in-Some.ensures.value in
    value_there g.D.OpSet.attr_type c.args.ctx.now c.args.self.now.op (attr_view c.in-Some.value.now) there)
