use Rattle.std.proofs.Common.{◌≡◌, List, [], ◌∷◌, length, Some, refl, sym, subst, ap, ◌∙◌, Result, Ok, Err, OnErr}
use Rattle.std.proofs.Common.{arith}
use Rattle.std.specs.Prelude.{All}
use Rattle.std.proofs.lemmas.List.Elements.{All-nil, All-cons}
use Rattle.plir_data.specs.Types.{AllLive, IsLive as IsTypeLive}
use Rattle.plir_data.specs.declared.op_set.OpKind.TheVariants as kinds
use Rattle.plir_core.specs.Contents.{op_view}
use Rattle.plir_core.specs.ContextView.{IsLive, IsValueLive}
use Rattle.plir_core.specs.declared.ptr.IRNode.TheVariants.{BasicBlock}
use Rattle.plir_core.specs.RoomLaws.{op_full, op_comes}
use Rattle.plir_attr_text.specs.laws.Growth.{Grows-itself}
use Rattle.plir_read.specs.laws.OpMade.{KeepsOlder-same, KeepsOlder-typed}
use Rattle.plir_read.proofs.OpSteps.{refused_as}
use Rattle.plir_read.specs.laws.SlotLaws.{leaf_given}
use Rattle.plir_read.proofs.making.make_constant.Goals as goal

on-err : {T E P : Type 0} (r : Result T E) → P → OnErr r P
on-err (Ok x) p = tt
on-err (Err x) p = p

none : {X : Type 0} (xs : List X) → length xs ≡ 0 → xs ≡ []
none [] e = refl
none (x ∷ xs) e = absurd (omega (arith, e))

pub same-attributes : goal.same-attributes
same-attributes g c = refl

pub with_attributes-requires-clause-types_live : goal.with_attributes-requires-clause-types_live
with_attributes-requires-clause-types_live g c =
    let types = c.args.ctx.now.types in
    subst (AllLive types) (sym c.in_ok-results.ensures.value)
    (All-cons (IsTypeLive types) c.args.constant.ty [] c.requires.type_live (All-nil (IsTypeLive types)))

pub with_attributes-requires-clause-operands_live : goal.with_attributes-requires-clause-operands_live
with_attributes-requires-clause-operands_live g c =
    subst (All (IsValueLive c.args.ctx.now)) (sym c.new-operands.ensures.items) (All-nil (IsValueLive c.args.ctx.now))

pub with_attributes-requires-clause-successors_live : goal.with_attributes-requires-clause-successors_live
with_attributes-requires-clause-successors_live g c =
    subst (All (λ b. IsLive c.args.ctx.now (BasicBlock b))) (sym c.new-successors.ensures.items)
    (All-nil (λ b. IsLive c.args.ctx.now (BasicBlock b)))

pub with_attributes-requires-clause-handles_live : goal.with_attributes-requires-clause-handles_live
with_attributes-requires-clause-handles_live g c = c.in_ok-attributes.ensures.live _ c.requires.value_live

pub returns-in-Ok-clause-slots : goal.returns-in-Ok-clause-slots
returns-in-Ok-clause-slots g c =
    let o = c.in-Ok.ensures.made in
    let v = op_view kinds.Constant c.in_ok-results.results.items c.new-operands.result.items
    c.new-successors.result.items c.in_ok-attributes.attributes in
    leaf_given c.args.ctx.now c.with_attributes.new.ctx c.stands.ensures.whole.stored v c.in-Ok.op o.after o.made.new
    o.made.root

pub returns-in-Err-clause-refused : goal.returns-in-Err-clause-refused
returns-in-Err-clause-refused g c =
    let o = c.in-Err.ensures in
    refused_as _ _ c.stop_of.result
    (λ e. op_full c.args.ctx.now.nodes 0 c.stands.ensures.whole.stored
    (o.too_many_only (ap (λ x. Err x) e))) c.stop_of.ensures

pub returns-in-Ok-clause-come : goal.returns-in-Ok-clause-come
returns-in-Ok-clause-come g c =
    op_comes c.args.ctx.now c.stands.ensures.whole.stored c.with_attributes.new.ctx _ c.in-Ok.ensures.made.after

pub returns-in_err-results-clause-kept : goal.returns-in_err-results-clause-kept
returns-in_err-results-clause-kept g c =
    let s = c.args.ctx.now in
    on-err c.from_residual-in_err-results.result (KeepsOlder-typed s s refl (Grows-itself s.types))

pub returns-in-Ok-clause-made : goal.returns-in-Ok-clause-made
returns-in-Ok-clause-made g c =
    let o = c.in-Ok.ensures.made in
    record {
      made = o.made;
      held = o.held ∙ (λ i. Some
          (op_view kinds.Constant (c.in_ok-results.ensures.value i) (c.new-operands.ensures.items i)
          (c.new-successors.ensures.items i) (c.in_ok-attributes.ensures.value i)));
      empty = none _ o.regions.count;
      types = ap (λ z. z.types) o.after;
    }

pub returns-in-Err-clause-kept : goal.returns-in-Err-clause-kept
returns-in-Err-clause-kept g c =
    KeepsOlder-same c.args.ctx.now c.with_attributes.new.ctx c.in-Err.ensures.unmade.same c.in-Err.ensures.given
