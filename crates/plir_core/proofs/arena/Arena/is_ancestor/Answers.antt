use Rattle.std.proofs.Common.{◌≡◌, subst, rules}
use Rattle.plir_core.specs.Stored.{IsStored}
use Rattle.plir_core.proofs.arena.Arena.is_ancestor.Goals as goal
use Rattle.plir_core.proofs.Ancestors.{IsClimbing-more, IsClimbing-end, levels-fall}

pub loop-at-smaller : goal.loop-at-smaller
loop-at-smaller g c =
    levels-fall c.args.self.now c.args.node c.args.ancestor (subst IsStored c.self.view_is c.self.invariant)
    c.in-Some.current c.loop-at.at c.parent-at.result c.in-Some.is c.parent-at.ensures

pub loop-at-preserved : goal.loop-at-preserved
loop-at-preserved g c =
    let other : c.in-Some.current ≡ c.args.ancestor → ⊥ = search rules in
    IsClimbing-more c.args.self.now c.args.node c.args.ancestor (subst IsStored c.self.view_is c.self.invariant)
    c.in-Some.current c.loop-at.at c.parent-at.result c.in-Some.is c.loop-at.invariant other c.parent-at.ensures

pub returns : goal.returns
returns g c = (
  λ t. absurd (let f : ⊥ = cc in f),
  λ r. absurd (IsClimbing-end c.args.self.now c.args.node
      c.args.ancestor c.loop-at.at c.in_default.is c.loop-at.invariant r),
)
