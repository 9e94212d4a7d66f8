use Rattle.std.proofs.Common.{◌≡◌, ◌+◌, ◌<◌, ◌∙◌, ℕ, arith, ap, length, subst, sym}
use Rattle.plir_core.specs.declared.ptr.IRNode.TheVariants.{BasicBlock}
use Rattle.plir_core.specs.declared.value.DefiningEntity.TheVariants.{Block}
use Rattle.plir_core.specs.ContextView.{arg_types_of, arguments_in}
use Rattle.plir_core.specs.WellFormed.{IsWellFormed}
use Rattle.plir_copies.specs.Copied.{value_at}
use Rattle.plir_inline.specs.Given.{IsGiven}
use Rattle.plir_arguments.specs.Dropped.{moved, moved_down}
use Rattle.plir_arguments.proofs.Moving.{given-alike, given-next, given-same, moved-more, moved-none, moved-pass}
use Rattle.plir_arguments.proofs.giving.move_arguments.Goals.{then-place-gone, else-place-gone}
use Rattle.plir_arguments.proofs.giving.move_arguments.Goals as goal

down-below : (gone place n k : ℕ) → place < n → gone < n → (place ≡ gone → ⊥) → k + 1 ≡ n → moved_down gone place < k
down-below gone place n k below within off less = grind arith

pub loop-place-init : goal.loop-place-init
loop-place-init g c = record {
  given = given-same c.args.ctx.now (moved c.args.block c.args.other c.args.gone 0)
      (moved-none c.args.block c.args.other c.args.gone);
  whole = c.stands.ensures.whole;
}

pub move_argument-requires-clause-live : goal.move_argument-requires-clause-live
move_argument-requires-clause-live g c =
    c.loop-place.invariant.given.keeps.live (BasicBlock c.args.block) ∙ c.requires.live

pub move_argument-requires-clause-other_live : goal.move_argument-requires-clause-other_live
move_argument-requires-clause-other_live g c =
    c.loop-place.invariant.given.keeps.live (BasicBlock c.args.other) ∙ c.requires.other_live

pub move_argument-requires-clause-below : goal.move_argument-requires-clause-below
move_argument-requires-clause-below g c =
    let same = ap (λ x. length (arguments_in x)) (c.loop-place.invariant.given.blocks c.args.block) in
    omega (arith, same, c.loop-place-test.true, c.get_num_arguments-place-end.ensures.value)

pub move_argument-requires-clause-other_below : goal.move_argument-requires-clause-other_below
move_argument-requires-clause-other_below g c =
    let s = c.args.ctx.now in
    let same = ap (λ x. length (arguments_in x)) (c.loop-place.invariant.given.blocks c.args.other) in
    let n = length (arg_types_of s c.args.block) in
    let k = length (arg_types_of s c.args.other) in
    let below : c.loop-place.place < n = omega (arith, c.loop-place-test.true, c.get_num_arguments-place-end.ensures.value) in
    let less : moved_down c.args.gone c.loop-place.place < k =
    down-below c.args.gone c.loop-place.place n k below c.requires.gone_below c.if-place-gone.true c.requires.without in
    subst (λ z. moved_down c.args.gone c.loop-place.place < z) (sym same) less

pub loop-place-preserved : goal.loop-place-preserved
loop-place-preserved g c =
    let own = g.D.OpSet.attr_handles in
    let s = c.args.ctx.now in
    let t = c.loop-place.ctx in
    let b = c.args.block in
    let other = c.args.other in
    let gone = c.args.gone in
    let i = c.loop-place.place in
    let h = c.loop-place.invariant in
    elim c.if-place-gone.branch [
      | then-place-gone w ↦ record {
        given = subst (λ z. IsGiven s z (moved b other gone (i + 1))) (sym w.ctx-is)
            (given-next s t w.move_argument.new.ctx (moved b other gone i) (moved b other gone (i + 1))
            (value_at (Block b) i) (value_at (Block other) (moved_down gone i)) h.given w.move_argument.ensures.rewired
            (moved-more b other gone c.requires.apart i w.if-place-gone.true));
        whole = subst (IsWellFormed own) (sym w.ctx-is) w.move_argument.ensures.whole;
      }
      | else-place-gone w ↦ record {
        given = subst (λ z. IsGiven s z (moved b other gone (i + 1))) (sym w.ctx-is)
            (given-alike s t (moved b other gone i) (moved b other gone (i + 1))
            (moved-pass b other gone i w.if-place-gone.false) h.given);
        whole = subst (IsWellFormed own) (sym w.ctx-is) h.whole;
      }
    ]

pub returns-clause-moved : goal.returns-clause-moved
returns-clause-moved g c =
    let n = length (arg_types_of c.args.ctx.now c.args.block) in
    let all : c.loop-place.place ≡ n =
    omega (arith, c.loop-place.auto.place-end, c.loop-place-test.false, c.get_num_arguments-place-end.ensures.value) in
    subst (λ k. IsGiven c.args.ctx.now c.loop-place.ctx (moved c.args.block c.args.other c.args.gone k)) all
    c.loop-place.invariant.given

pub returns-clause-whole : goal.returns-clause-whole
returns-clause-whole g c = c.loop-place.invariant.whole
