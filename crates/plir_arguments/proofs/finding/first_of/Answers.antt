use Rattle.std.proofs.Common.{◌≡◌, ◌≤◌, ◌+◌, ℕ, suc, inl, inr, arith, length, subst, sym, take}
use Rattle.std.specs.Prelude.{slice_index_or}
use Rattle.std.proofs.lemmas.List.{take_all}
use Rattle.std.proofs.lemmas.Option.{slice_get-get_or}
use Rattle.plir_store.specs.Members.{Has}
use Rattle.plir_store.specs.MemberLaws.{Has-at}
use Rattle.plir_arguments.specs.Dropped.{CanDrop}
use Rattle.plir_arguments.specs.Listed.{CanGo}
use Rattle.plir_arguments.proofs.Members.{next-cases}
use Rattle.plir_arguments.proofs.Putting.{no_block}
use Rattle.plir_arguments.proofs.finding.first_of.Goals as goal

pub first_to_go-requires : goal.first_to_go-requires
first_to_go-requires g c =
    let bs = c.args.list.now in
    let n = c.loop-at.at in
    let x = slice_index_or bs n no_block in
    c.requires x (Has-at bs n x (slice_get-get_or bs n no_block c.loop-at-test.true))

pub returns-in-Some : goal.returns-in-Some
returns-in-Some g c =
    let bs = c.args.list.now in
    let n = c.loop-at.at in
    let x = slice_index_or bs n no_block in
    record {
      at = slice_get-get_or bs n no_block c.loop-at-test.true;
      can = subst (CanGo g.D.BranchEditSet.removes g.D.BranchSet.forwards c.args.ctx.now x) c.in-Some.is
          c.in_ok-place.ensures;
    }

pub loop-at-preserved : goal.loop-at-preserved
loop-at-preserved g c =
    let removes = g.D.BranchEditSet.removes in
    let forwards = g.D.BranchSet.forwards in
    let bs = c.args.list.now in
    let n = c.loop-at.at in
    let x = slice_index_or bs n no_block in
    let at = slice_get-get_or bs n no_block c.loop-at-test.true in
    let none = subst (CanGo removes forwards c.args.ctx.now x) c.in_default.is c.in_ok-place.ensures in
    let next : n + 1 ≡ suc n = omega arith in
    λ b has. elim (next-cases bs n x b at (subst (λ k. Has (take k bs) b) next has)) [
      | inl before ↦ c.loop-at.invariant b before
      | inr same ↦ subst (λ z. (i : ℕ) → CanDrop removes forwards c.args.ctx.now z i → ⊥) same none
    ]

pub returns : goal.returns
returns g c =
    let bs = c.args.list.now in
    let past : length bs ≤ c.loop-at.at = omega (arith, c.loop-at-test.false) in
    λ b has. c.loop-at.invariant b (subst (λ xs. Has xs b) (sym (take_all c.loop-at.at bs past)) has)
