use Rattle.std.proofs.Common.{◌+◌, ◌∙◌, arith, subst, sym, ◌≤◌, length}
use Rattle.std.proofs.lemmas.List.{take_all}
use Rattle.plir_store.specs.Members.{Has}
use Rattle.plir_store.specs.MemberLaws.{Has-at}
use Rattle.plir_core.specs.declared.ptr.IRNode.TheVariants.{Operation}
use Rattle.plir_passes.specs.Marked.{ops_of}
use Rattle.plir_passes.specs.Cutting.{IsCut, IsLoose}
use Rattle.plir_passes.proofs.Cuts.{CutUpTo, cut-one-more, up-to-cut, up-to-kept}
use Rattle.plir_passes.proofs.Freed.{cut-none}
use Rattle.plir_passes.proofs.unreached_code.cut_all.Goals.{then-not-contains, else-not-contains}
use Rattle.plir_passes.proofs.unreached_code.cut_all.Goals as goal

pub loop-place-init : goal.loop-place-init
loop-place-init g c = record { cut = cut-none c.args.ctx.now; none = λ q has no. absurd has }

pub cut_op-requires-clause-live : goal.cut_op-requires-clause-live
cut_op-requires-clause-live g c =
    c.loop-place.invariant.cut.keeps.live (Operation c.at-op.result)
    ∙ c.requires.live c.at-op.result (
      Has-at (ops_of c.args.under.now) c.loop-place.place c.at-op.result c.at-op.ensures,
      sym c.contains.ensures ∙ c.if-not-contains.true,
    )

pub cut_op-requires-clause-in_block : goal.cut_op-requires-clause-in_block
cut_op-requires-clause-in_block g c = λ none.
    c.requires.in_block c.at-op.result (
      Has-at (ops_of c.args.under.now) c.loop-place.place c.at-op.result c.at-op.ensures,
      sym c.contains.ensures ∙ c.if-not-contains.true,
    )
    (sym (c.loop-place.invariant.cut.keeps.parents (Operation c.at-op.result)) ∙ none)

pub loop-place-preserved : goal.loop-place-preserved
loop-place-preserved g c =
    let under = c.args.under.now in
    let reached = c.args.reached.now in
    let r = c.args.ctx.now in
    let s = c.loop-place.ctx in
    let i = c.loop-place.place in
    let p = c.at-op.result in
    let h = c.loop-place.invariant in
    elim c.if-not-contains.branch [
      | then-not-contains w ↦
          let off = sym c.contains.ensures ∙ w.if-not-contains.true in
          let cut = w.cut_op.ensures.cut in record {
            cut = subst (IsCut (IsLoose under reached) r) (sym w.ctx-is)
                (cut-one-more under reached r s i p c.at-op.ensures w.cut_op.new.ctx cut off h.cut);
            none = subst (CutUpTo under reached (i + 1)) (sym w.ctx-is)
                (up-to-cut under reached r s i p c.at-op.ensures w.cut_op.new.ctx cut off
                (λ q loose. h.cut.keeps.live (Operation q) ∙ c.requires.live q loose) w.cut_op.ensures.none h.none);
          }
      | else-not-contains w ↦
          let on = sym c.contains.ensures ∙ w.if-not-contains.false in record {
            cut = subst (IsCut (IsLoose under reached) r) (sym w.ctx-is) h.cut;
            none = subst (CutUpTo under reached (i + 1)) (sym w.ctx-is)
                (up-to-kept under reached r s i p c.at-op.ensures on h.none);
          }
    ]

pub returns-clause-cut : goal.returns-clause-cut
returns-clause-cut g c = c.loop-place.invariant.cut

pub returns-clause-none : goal.returns-clause-none
returns-clause-none g c = λ q loose.
    let past : length (ops_of c.args.under.now) ≤ c.loop-place.place = omega arith in
    c.loop-place.invariant.none q (subst (λ z. Has z q) (sym (take_all c.loop-place.place _ past)) loose.0) loose.1
