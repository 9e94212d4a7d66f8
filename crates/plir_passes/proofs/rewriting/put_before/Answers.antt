use Rattle.std.proofs.Common.{IsSome, ℕ, Result, Ok, Err, ap, lit<, refl, sym, subst, ◌<◌, length, inl, [], ◌∙◌}
use Rattle.std.specs.Prelude.{OnErr}
use Rattle.plir_store.specs.FilterLaws.{not-both}
use Rattle.plir_core.specs.declared.ptr.IRNode.TheVariants.{Operation, BasicBlock}
use Rattle.plir_core.specs.Changes.{SameLive}
use Rattle.plir_core.specs.Contents.{OpView, op_view}
use Rattle.plir_core.specs.ContextView.{ContextView, IsLive, entity_node, is_live, results_in}
use Rattle.plir_core.specs.NewOps.{IsOpMade, IsOpUnmade}
use Rattle.plir_passes.proofs.Linked.{linked-live, new-before-linked}
use Rattle.plir_passes.proofs.rewriting.put_before.Goals as goal

-- where nothing was done no live node has changed
same-live : {K A T : Type 0} (s : ContextView K A T) → SameLive s s
same-live s = record {
  nodes = record {
    live = λ n. refl;
    children = λ n. refl;
    parents = λ n. refl;
    ops = λ p l. refl;
    blocks = λ p l. refl;
    limit = refl;
  };
  types = refl;
}

-- and no operation was made
none-unmade : {K A T : Type 0} (s : ContextView K A T) (v : OpView K A) (n : ℕ) → IsOpUnmade s s v n
none-unmade s v n = record { same = same-live s; slots = inl refl }

on-err : {X E : Type 0} (r : Result X E) (P : Type 0) → P → OnErr r P
on-err (Ok x) P p = tt
on-err (Err e) P p = p

pub insert_before-requires-clause-mark_live : goal.insert_before-requires-clause-mark_live
insert_before-requires-clause-mark_live g c =
    c.in_ok-new.ensures.made.made.keeps.live (Operation c.args.mark)
    (linked-live c.args.ctx.now (Operation c.args.mark) c.stands.ensures.standing.forest c.requires.linked)

pub insert_before-requires-clause-linked : goal.insert_before-requires-clause-linked
insert_before-requires-clause-linked g c =
    subst IsSome (sym (c.in_ok-new.ensures.made.made.keeps.parents (Operation c.args.mark)
    (linked-live c.args.ctx.now (Operation c.args.mark) c.stands.ensures.standing.forest c.requires.linked)))
    c.requires.linked

pub insert_before-requires-clause-not_above : goal.insert_before-requires-clause-not_above
insert_before-requires-clause-not_above g c =
    c.in_ok-new.ensures.made.made.apart (Operation c.args.mark)
    (linked-live c.args.ctx.now (Operation c.args.mark) c.stands.ensures.standing.forest c.requires.linked)

pub get_result-requires-clause-live : goal.get_result-requires-clause-live
get_result-requires-clause-live g c =
    (new-before-linked c.args.ctx.now (Operation c.args.mark) c.new.new.ctx c.insert_before.new.ctx
    (Operation c.in_ok-new.new) c.requires.linked c.stands.ensures.standing.forest c.in_ok-new.ensures.made.made
    c.insert_before.ensures.placed).root

pub get_result-requires-clause-below : goal.get_result-requires-clause-below
get_result-requires-clause-below g c =
    (let at =
    new-before-linked c.args.ctx.now (Operation c.args.mark) c.new.new.ctx c.insert_before.new.ctx
    (Operation c.in_ok-new.new) c.requires.linked c.stands.ensures.standing.forest c.in_ok-new.ensures.made.made
    c.insert_before.ensures.placed in
    subst (λ z. 0 < length (results_in z)) (sym (at.held c.in_ok-new.new ∙ c.in_ok-new.ensures.made.held))
    (subst (λ z. 0 < length z) (sym c.in_ok-types.ensures.one) (lit< tt)))

pub returns-clause-given : goal.returns-clause-given
returns-clause-given g c =
    (new-before-linked c.args.ctx.now (Operation c.args.mark) c.new.new.ctx c.insert_before.new.ctx
    (Operation c.in_ok-new.new) c.requires.linked c.stands.ensures.standing.forest c.in_ok-new.ensures.made.made
    c.insert_before.ensures.placed).keeps.given

pub returns-in_err-types-clause-unmade : goal.returns-in_err-types-clause-unmade
returns-in_err-types-clause-unmade g c = on-err _ _ (none-unmade c.args.ctx.now _ 0)

pub returns-in_err-types-clause-prepared : goal.returns-in_err-types-clause-prepared
returns-in_err-types-clause-prepared g c = λ illegal begun block whole here legal so_far. so_far

pub returns-in_err-list-clause-unmade : goal.returns-in_err-list-clause-unmade
returns-in_err-list-clause-unmade g c = on-err _ _ (none-unmade c.args.ctx.now _ 0)

pub returns-in_err-list-clause-prepared : goal.returns-in_err-list-clause-prepared
returns-in_err-list-clause-prepared g c = λ illegal begun block whole here legal so_far. so_far

pub returns-in_err-new-clause-unmade : goal.returns-in_err-new-clause-unmade
returns-in_err-new-clause-unmade g c =
    on-err _ _
    (subst (λ z. IsOpUnmade c.args.ctx.now c.new.new.ctx (op_view c.args.kind z c.args.operands.now [] []) 0)
    c.in_ok-types.ensures.one
    (subst (λ z. IsOpUnmade c.args.ctx.now c.new.new.ctx (op_view c.args.kind c.in_ok-types.types.items z [] []) 0)
    c.in_ok-list.ensures.same
    (subst (λ z. IsOpUnmade c.args.ctx.now c.new.new.ctx
    (op_view c.args.kind c.in_ok-types.types.items c.in_ok-list.list.items z []) 0) c.new-successors.ensures.items
    c.in_err-new.ensures.unmade)))

pub returns-in_err-new-clause-prepared : goal.returns-in_err-new-clause-prepared
returns-in_err-new-clause-prepared g c = λ illegal begun block whole here legal so_far.
    c.replacements.ensures.then illegal begun c.args.ctx.now c.new.new.ctx block c.args.mark whole so_far
    (c.replacements.ensures.unmade illegal c.args.ctx.now c.new.new.ctx block c.args.mark c.stands.ensures.whole
    c.in_err-new.ensures.unmade.same c.in_err-new.ensures.given)

pub returns-clause-put : goal.returns-clause-put
returns-clause-put g c = record {
  new = c.in_ok-new.new;
  value_is = c.get_result.ensures.value;
  put = record {
    with_new = c.new.new.ctx;
    made = subst (λ z. IsOpMade c.args.ctx.now c.new.new.ctx (op_view c.args.kind z c.args.operands.now [] []) 0
        c.in_ok-new.new) c.in_ok-types.ensures.one
        (subst (λ z. IsOpMade c.args.ctx.now c.new.new.ctx (op_view c.args.kind c.in_ok-types.types.items z [] []) 0
        c.in_ok-new.new) c.in_ok-list.ensures.same
        (subst (λ z. IsOpMade c.args.ctx.now c.new.new.ctx
        (op_view c.args.kind c.in_ok-types.types.items c.in_ok-list.list.items z []) 0 c.in_ok-new.new)
        c.new-successors.ensures.items c.in_ok-new.ensures.made));
    placed = c.insert_before.ensures.placed;
    after = c.insert_before.ensures.after;
  };
}

pub returns-clause-fresh : goal.returns-clause-fresh
returns-clause-fresh g c = λ l.
    not-both (is_live c.args.ctx.now (Operation c.in_ok-new.new))
    (subst (λ z. IsLive c.args.ctx.now (entity_node z.entity)) c.get_result.ensures.value l)
    c.in_ok-new.ensures.made.made.new

pub returns-clause-prepared : goal.returns-clause-prepared
returns-clause-prepared g c = λ illegal begun block whole here legal so_far.
    (let forest = (c.lawful_changes.ensures.forest begun whole) in
    let live = forest.child_live (BasicBlock block) (Operation c.args.mark)
    (forest.parent_child (BasicBlock block) (Operation c.args.mark) here) in
    let step = c.replacements.ensures.put illegal c.args.ctx.now c.insert_before.new.ctx block c.args.mark
    c.in_ok-new.new _ _ c.stands.ensures.whole c.insert_before.ensures.whole
    (so_far.parents (Operation c.args.mark) live ∙ here) legal (record {
      with_new = c.new.new.ctx;
      made = c.in_ok-new.ensures.made;
      placed = c.insert_before.ensures.placed;
      after = c.insert_before.ensures.after;
    }) in
    c.replacements.ensures.then illegal begun c.args.ctx.now c.insert_before.new.ctx block c.args.mark whole so_far
    step.0)

pub returns-clause-types : goal.returns-clause-types
returns-clause-types g c =
    ap (λ z. z.types) c.insert_before.ensures.after ∙ ap (λ z. z.types) c.in_ok-new.ensures.made.after
