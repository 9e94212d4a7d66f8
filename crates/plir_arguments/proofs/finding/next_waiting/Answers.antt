use Rattle.std.proofs.Common.{◌≡◌, ◌<◌, ◌∙◌, Some, length, subst, sym}
use Rattle.std.specs.Prelude.{Vec, slice_get}
use Rattle.std.specs.declared.alloc.Global.{Global}
use Rattle.plir_store.specs.MemberLaws.{Has-at}
use Rattle.plir_core.specs.declared.ptr.BasicBlock.{BasicBlock as BlockKind}
use Rattle.plir_core.specs.declared.ptr.Ptr.{Ptr}
use Rattle.plir_arguments.specs.Listed.{CanGo}
use Rattle.plir_arguments.proofs.Putting.{read-at}
use Rattle.plir_arguments.proofs.finding.next_waiting.Goals as goal

pub first_to_go-requires : goal.first_to_go-requires
first_to_go-requires g c =
    let list = c.take.new.self.list in
    let x = c.index-block.result.now in
    let at = c.in-Some.at in
    let below = subst (λ (l : Vec (Ptr BlockKind) Global). at < length l.items) (sym c.take.ensures.list)
    c.in-Some.ensures.below in
    let here = subst (λ (l : Vec (Ptr BlockKind) Global). slice_get l.items at ≡ Some x)
    (c.take.ensures.list ∙ c.waiting.invariant) (read-at list.items at x below c.index-block.ensures) in
    c.requires x (Has-at c.args.blocks.now.list.items at x here)

pub returns-in-Some-2-clause-found : goal.returns-in-Some-2-clause-found
returns-in-Some-2-clause-found g c =
    let list = c.take.new.self.list in
    let x = c.index-block.result.now in
    let at = c.in-Some.at in
    let below = subst (λ (l : Vec (Ptr BlockKind) Global). at < length l.items) (sym c.take.ensures.list)
    c.in-Some.ensures.below in
    record {
      at = subst (λ (l : Vec (Ptr BlockKind) Global). slice_get l.items at ≡ Some x)
          (c.take.ensures.list ∙ c.waiting.invariant) (read-at list.items at x below c.index-block.ensures);
      can = subst (CanGo g.D.BranchEditSet.removes g.D.BranchSet.forwards c.args.ctx.now x) c.in-Some-2.is
          c.in_ok-place.ensures;
    }
