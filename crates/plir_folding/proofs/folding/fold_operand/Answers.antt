use Rattle.std.proofs.Common.{◌≡◌, None, [], refl, sym, ap, subst, ◌∙◌, arith, inr, length, ◌<◌}
use Rattle.std.specs.Prelude.{IsSome}
use Rattle.std.proofs.lemmas.Option.{same_Some}
use Rattle.plir_core.specs.declared.ptr.IRNode.TheVariants.{Operation, BasicBlock}
use Rattle.plir_core.specs.Forest.{look}
use Rattle.plir_core.specs.Changes.{with_op_edit}
use Rattle.plir_core.specs.Held.{IsOpEdited}
use Rattle.plir_core.specs.ContextView.{IsLive, operands_in, results_in}
use Rattle.plir_walk.specs.Lawful.{Lawful}
use Rattle.plir_folding.specs.Worth.{integer_of, folded}
use Rattle.plir_folding.specs.Folded.{IsFolded, IsNewConstantOf, result_of}
use Rattle.plir_folding.specs.Folding.{IsFilledBefore}
use Rattle.plir_folding.proofs.Folds.{tells-none}
use Rattle.plir_folding.proofs.Below.{below-none, below-refused}
use Rattle.plir_folding.proofs.OneFold.{done, live-u, new-live-u, op-u, new-op-u, lawful-fold, replaced_in}
use Rattle.plir_folding.proofs.folding.fold_operand.Given.{Over}
use Rattle.plir_folding.proofs.folding.fold_operand.Goals.{After-insert_before, After-replace_operand}
use Rattle.plir_folding.proofs.folding.fold_operand.Goals as goal

-- the operation stays live
op-stays : (g : Over) (c : After-insert_before g) → IsLive c.insert_before.new.ctx (Operation c.args.op)
op-stays g c =
    live-u g.D.OpSet.attr_handles c.args.ctx.now c.new_constant.new.ctx c.insert_before.new.ctx c.args.block c.args.op
    c.in_ok-constant.constant c.stands.ensures.standing.forest
    c.requires.here c.in_ok-constant.ensures.made c.insert_before.ensures.placed (Operation c.args.op) c.requires.live

-- the constant takes the place of the operand
after : (g : Over) (c : After-replace_operand g) → c.replace_operand.new.ctx
    ≡ with_op_edit c.insert_before.new.ctx c.args.op (replaced_in c.args.place (result_of c.in_ok-constant.constant))
after g c =
    c.replace_operand.ensures.after
    ∙ ap (λ z. with_op_edit c.insert_before.new.ctx c.args.op (replaced_in c.args.place z)) c.get_result-result.ensures.value

-- the operand is folded by it, and it stands right before the operation
folded-here : (g : Over) (c : After-replace_operand g)
    → IsFolded g.D.FoldSet.fold c.args.ctx.now c.replace_operand.new.ctx
    × IsNewConstantOf c.args.ctx.now c.replace_operand.new.ctx c.in_ok-constant.constant (integer_of c.in-Some.integer)
    × IsFilledBefore c.args.ctx.now c.replace_operand.new.ctx c.args.block c.args.op
folded-here g c =
    let u = c.insert_before.new.ctx in
    let e = c.in_ok-constant.ensures in
    let f = replaced_in c.args.place (result_of c.in_ok-constant.constant) in
    let edited = subst (λ z. IsOpEdited u z c.args.op f) (sym (after g c)) (c.op_edits_keep_the_rest.ensures f) in
    done g.D.OpSet.attr_handles c.args.ctx.now c.new_constant.new.ctx u c.args.block c.args.op c.in_ok-constant.constant
    c.stands.ensures.standing.forest c.requires.here e.made c.insert_before.ensures.placed g.D.FoldSet.fold
    c.replace_operand.new.ctx c.args.place (integer_of c.in-Some.integer) c.written_at-location.result
    c.get_operand-value.result (c.lawful_changes.ensures.forest c.new_constant.new.ctx e.whole) e.held e.leaf
    c.written_at-location.ensures e.types (ap (λ z. z.types) c.insert_before.ensures.after) edited
    c.get_operand-value.ensures.value (sym c.in-Some.ensures.value) c.stands.ensures.whole

pub returns-in_default-clause-below : goal.returns-in_default-clause-below
returns-in_default-clause-below g c =
    below-none g.D.FoldSet.fold g.D.OpSet.attr_handles c.lawful_changes.ensures c.args.ctx.now (BasicBlock c.args.block)
    c.stands.ensures.whole

pub returns-in_default-clause-told : goal.returns-in_default-clause-told
returns-in_default-clause-told g c = record {
  tells = tells-none g.D.FoldSet.fold c.args.ctx.now c.args.before;
  settled = λ e v at.
      (let same = same_Some c.get_operand-value.result v (sym c.get_operand-value.ensures.value ∙ at) in
      subst (λ z. folded g.D.FoldSet.fold c.args.ctx.now z ≡ None) same (sym c.in_default.ensures.value));
}

pub returns-in_default-clause-filled : goal.returns-in_default-clause-filled
returns-in_default-clause-filled g c = λ xs ys e. ([], e)

pub insert_before-requires-clause-mark_live : goal.insert_before-requires-clause-mark_live
insert_before-requires-clause-mark_live g c =
    c.in_ok-constant.ensures.made.keeps.live (Operation c.args.op) c.requires.live

pub insert_before-requires-clause-linked : goal.insert_before-requires-clause-linked
insert_before-requires-clause-linked g c =
    subst IsSome
    (sym (c.in_ok-constant.ensures.made.keeps.parents (Operation c.args.op) c.requires.live ∙ c.requires.here)) refl

pub insert_before-requires-clause-not_above : goal.insert_before-requires-clause-not_above
insert_before-requires-clause-not_above g c = c.in_ok-constant.ensures.made.apart (Operation c.args.op) c.requires.live

pub op_edits_keep_the_rest-requires : goal.op_edits_keep_the_rest-requires
op_edits_keep_the_rest-requires g c = op-stays g (goal.at.op_edits_keep_the_rest-requires g c).After-insert_before

pub get_result-result-requires-clause-live : goal.get_result-result-requires-clause-live
get_result-result-requires-clause-live g c =
    new-live-u g.D.OpSet.attr_handles c.args.ctx.now c.new_constant.new.ctx c.insert_before.new.ctx c.args.block
    c.args.op c.in_ok-constant.constant c.stands.ensures.standing.forest
    c.requires.here c.in_ok-constant.ensures.made c.insert_before.ensures.placed

pub get_result-result-requires-clause-below : goal.get_result-result-requires-clause-below
get_result-result-requires-clause-below g c =
    let same =
    new-op-u g.D.OpSet.attr_handles c.args.ctx.now c.new_constant.new.ctx c.insert_before.new.ctx c.args.block
    c.args.op c.in_ok-constant.constant c.stands.ensures.standing.forest
    c.requires.here c.in_ok-constant.ensures.made c.insert_before.ensures.placed in
    subst (λ z. 0 < length (results_in z)) (sym (same ∙ c.in_ok-constant.ensures.held)) (omega arith)

pub replace_operand-requires-clause-live : goal.replace_operand-requires-clause-live
replace_operand-requires-clause-live g c = op-stays g (goal.at.replace_operand-requires-clause-live g c).After-insert_before

pub replace_operand-requires-clause-below : goal.replace_operand-requires-clause-below
replace_operand-requires-clause-below g c =
    let same =
    op-u g.D.OpSet.attr_handles c.args.ctx.now c.new_constant.new.ctx c.insert_before.new.ctx c.args.block c.args.op
    c.in_ok-constant.constant c.stands.ensures.standing.forest
    c.requires.here c.in_ok-constant.ensures.made c.insert_before.ensures.placed c.args.op c.requires.live in
    subst (λ z. c.args.place < length (operands_in z)) (sym same) c.requires.below

pub returns-in_err-constant-clause-below : goal.returns-in_err-constant-clause-below
returns-in_err-constant-clause-below g c =
    below-refused g.D.FoldSet.fold g.D.OpSet.attr_handles c.lawful_changes.ensures c.args.ctx.now c.new_constant.new.ctx
    (BasicBlock c.args.block) c.stands.ensures.whole
    c.in_err-constant.ensures.whole c.in_err-constant.ensures.err c.in_err-constant.ensures.given

pub returns-in_err-constant-clause-filled : goal.returns-in_err-constant-clause-filled
returns-in_err-constant-clause-filled g c =
    λ xs ys e. ([], c.in_err-constant.ensures.err.nodes.children (BasicBlock c.args.block) ∙ e)

pub returns-clause-below : goal.returns-clause-below
returns-clause-below g c =
    let own = g.D.OpSet.attr_handles in
    let laws = c.lawful_changes.ensures in
    let s = c.args.ctx.now in
    let u = c.insert_before.new.ctx in
    let b = c.args.block in
    let at = goal.at.returns-clause-below g c in
    let lawful =
    subst (λ z. Lawful (look u) (BasicBlock b) (look z)) (sym (after g at.After-replace_operand))
    (laws.op_edit u (BasicBlock b) c.args.op (replaced_in c.args.place (result_of c.in_ok-constant.constant))) in
    record {
      folded = (folded-here g at.After-replace_operand).0;
      lawful = lawful-fold own s c.new_constant.new.ctx u b c.args.op c.in_ok-constant.constant
          c.stands.ensures.standing.forest c.requires.here c.in_ok-constant.ensures.made c.insert_before.ensures.placed
          laws c.replace_operand.new.ctx lawful;
      whole = c.replace_operand.ensures.whole;
    }

pub returns-clause-told : goal.returns-clause-told
returns-clause-told g c =
    let made = (folded-here g (goal.at.returns-clause-told g c).After-replace_operand).1 in
    record {
      tells =
          record {
            clear = λ h. absurd (let z : ⊥ = cc h in z);
            set = λ h. inr (c.in_ok-constant.constant, (integer_of c.in-Some.integer, made));
          };
      settled = λ h. absurd (let z : ⊥ = cc h in z);
    }

pub returns-clause-filled : goal.returns-clause-filled
returns-clause-filled g c = (folded-here g (goal.at.returns-clause-filled g c).After-replace_operand).2
