use Rattle.std.proofs.Common.{IsSome, refl, sym, subst, ◌∙◌}
use Rattle.plir_core.specs.declared.ptr.IRNode.TheVariants.{Operation}
use Rattle.plir_passes.specs.Kept.{same-types}
use Rattle.plir_passes_calls.specs.EffectKinds.{is_old}
use Rattle.plir_passes_calls.proofs.passes.renewing.RenewConversionKindSetToyKind.rewrite.Goals as goal

pub insert_before-requires-clause-mark_live : goal.insert_before-requires-clause-mark_live
insert_before-requires-clause-mark_live c = c.in_ok-new.ensures.made.keeps.live (Operation c.args.op) c.requires.live

pub insert_before-requires-clause-linked : goal.insert_before-requires-clause-linked
insert_before-requires-clause-linked c = subst IsSome (sym (c.in_ok-new.ensures.made.keeps.parents (Operation c.args.op)
    c.requires.live ∙ c.requires.here)) refl

pub insert_before-requires-clause-not_above : goal.insert_before-requires-clause-not_above
insert_before-requires-clause-not_above c = c.in_ok-new.ensures.made.apart (Operation c.args.op) c.requires.live

pub erase-requires-clause-live : goal.erase-requires-clause-live
erase-requires-clause-live c =
    let s = c.args.ctx.now in
    let t = c.make_new.new.ctx in
    let u = c.insert_before.new.ctx in
    let made = c.in_ok-new.ensures.made in
    let types = same-types s t c.in_ok-new.ensures.types in
    let legal = c.in_ok-new.ensures.legal in
    (c.replacements.ensures.added is_old s t u c.args._block c.args.op c.in_ok-new.new c.stands.ensures.whole
    c.insert_before.ensures.whole c.requires.here made types legal c.insert_before.ensures.placed
    c.insert_before.ensures.after).1

pub erase-requires-clause-unused : goal.erase-requires-clause-unused
erase-requires-clause-unused c = c.if-not-is_unused_outside.ensures.value.0 refl

pub returns-in_err-new-clause-rewriting : goal.returns-in_err-new-clause-rewriting
returns-in_err-new-clause-rewriting c =
    c.replacements.ensures.refused is_old c.args.ctx.now c.make_new.new.ctx c.args._block c.args.op
    c.stands.ensures.whole c.in_err-new.ensures.refused c.in_err-new.ensures.given

pub returns-then-not-is_unused_outside-clause-rewriting : goal.returns-then-not-is_unused_outside-clause-rewriting
returns-then-not-is_unused_outside-clause-rewriting c =
    let s = c.args.ctx.now in
    let t = c.make_new.new.ctx in
    let u = c.insert_before.new.ctx in
    let made = c.in_ok-new.ensures.made in
    let types = same-types s t c.in_ok-new.ensures.types in
    let legal = c.in_ok-new.ensures.legal in
    (c.replacements.ensures.added is_old s t u c.args._block c.args.op c.in_ok-new.new c.stands.ensures.whole
    c.insert_before.ensures.whole c.requires.here made types legal c.insert_before.ensures.placed
    c.insert_before.ensures.after).0

pub returns-clause-rewriting : goal.returns-clause-rewriting
returns-clause-rewriting c =
    let s = c.args.ctx.now in
    let t = c.make_new.new.ctx in
    let u = c.insert_before.new.ctx in
    let made = c.in_ok-new.ensures.made in
    let types = same-types s t c.in_ok-new.ensures.types in
    let legal = c.in_ok-new.ensures.legal in
    (c.replacements.ensures.replaced is_old s t u c.erase.new.ctx c.args._block c.args.op c.in_ok-new.new
    c.stands.ensures.whole c.insert_before.ensures.whole c.erase.ensures.whole c.requires.here made types legal
    c.insert_before.ensures.placed c.insert_before.ensures.after c.erase.ensures.tree c.erase.ensures.after).0

pub returns-clause-done : goal.returns-clause-done
returns-clause-done c =
    let s = c.args.ctx.now in
    let t = c.make_new.new.ctx in
    let u = c.insert_before.new.ctx in
    let made = c.in_ok-new.ensures.made in
    let types = same-types s t c.in_ok-new.ensures.types in
    let legal = c.in_ok-new.ensures.legal in
    (c.replacements.ensures.replaced is_old s t u c.erase.new.ctx c.args._block c.args.op c.in_ok-new.new
    c.stands.ensures.whole c.insert_before.ensures.whole c.erase.ensures.whole c.requires.here made types legal
    c.insert_before.ensures.placed c.insert_before.ensures.after c.erase.ensures.tree c.erase.ensures.after).1

pub returns-clause-told : goal.returns-clause-told
returns-clause-told c = record {
  new = c.in_ok-new.new;
  with_new = c.make_new.new.ctx;
  with_both = c.insert_before.new.ctx;
  made = c.in_ok-new.ensures.made;
  placed = c.insert_before.ensures.placed;
  erased = c.erase.ensures.tree;
}
