use Rattle.std.proofs.Common.{◌+◌, ◌∙◌, ◌≤◌, arith, take, length, subst, sym}
use Rattle.std.proofs.lemmas.List.{take_all}
use Rattle.plir_store.specs.Members.{Has}
use Rattle.plir_store.specs.MemberLaws.{Has-at}
use Rattle.plir_core.specs.declared.ptr.IRNode.TheVariants.{Operation}
use Rattle.plir_passes.specs.Cutting.{AreErased}
use Rattle.plir_passes.specs.Marked.{ops_of}
use Rattle.plir_passes.proofs.Erasures.{IsLooseIn, erase-kept, erase-next, erased-as, erased-none, unused-still}
use Rattle.plir_passes.proofs.unreached_code.erase_all.Goals.{then-not-contains, else-not-contains}
use Rattle.plir_passes.proofs.unreached_code.erase_all.Goals as goal

pub loop-place-init : goal.loop-place-init
loop-place-init g c = erased-none c.args.ctx.now c.stands.ensures.standing.forest (λ q f. absurd f.0)

pub erase_live-requires : goal.erase_live-requires
erase_live-requires g c = λ live.
    unused-still c.args.ctx.now c.loop-place.ctx c.loop-place.invariant.forest c.loop-place.invariant.thinned
    (Operation c.at-op.result) live
    (c.requires.unused c.at-op.result (
      Has-at (ops_of c.args.under.now) c.loop-place.place c.at-op.result c.at-op.ensures,
      sym c.contains.ensures ∙ c.if-not-contains.true,
    ))

pub loop-place-preserved : goal.loop-place-preserved
loop-place-preserved g c =
    let reached = c.args.reached.now in
    let ops = ops_of c.args.under.now in
    let r = c.args.ctx.now in
    let s = c.loop-place.ctx in
    let i = c.loop-place.place in
    let p = c.at-op.result in
    elim c.if-not-contains.branch [
      | then-not-contains w ↦
          subst (AreErased (IsLooseIn (take (i + 1) ops) reached) r) (sym w.ctx-is)
          (erase-next ops reached r s i p c.at-op.ensures w.erase_live.new.ctx
          (sym c.contains.ensures ∙ w.if-not-contains.true) c.loop-place.invariant w.erase_live.ensures)
      | else-not-contains w ↦
          subst (AreErased (IsLooseIn (take (i + 1) ops) reached) r) (sym w.ctx-is)
          (erase-kept ops reached r s i p c.at-op.ensures (sym c.contains.ensures ∙ w.if-not-contains.false)
          c.loop-place.invariant)
    ]

pub returns : goal.returns
returns g c =
    let past : length (ops_of c.args.under.now) ≤ c.loop-place.place = omega arith in
    let all = take_all c.loop-place.place (ops_of c.args.under.now) past in
    erased-as c.args.ctx.now c.loop-place.ctx (λ q f. (subst (λ z. Has z q) (sym all) f.0, f.1))
    (λ q f. (subst (λ z. Has z q) all f.0, f.1)) c.loop-place.invariant
