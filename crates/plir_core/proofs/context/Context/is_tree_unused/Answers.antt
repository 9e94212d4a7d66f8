use Rattle.std.proofs.Common.{◌≡◌, true, refl, subst, rules}
use Rattle.plir_core.specs.ContextView.{IsLive}
use Rattle.plir_core.specs.WellFormed.{IsWellFormed}
use Rattle.plir_core.proofs.Seen.{live_seen}
use Rattle.plir_core.proofs.TreeUses.{none-told, told-unused, unused-told}
use Rattle.plir_core.proofs.context.Context.is_tree_unused.Goals as goal

pub returns-then-uses-eq0 : goal.returns-then-uses-eq0
returns-then-uses-eq0 g c =
    let w = subst (IsWellFormed _) c.self.view_is c.self.invariant.whole in
    let yes : c.is_live.result ≡ true = search rules in
    let live : IsLive c.args.self.now c.args.root = live_seen c.self.view_is c.args.root _ c.is_live.ensures.value yes
    in
    let zero : c.in_ok-uses.uses ≡ 0 = search rules in
    (λ t. none-told _ c.args.self.now w c.args.root live c.in_ok-uses.uses c.in_ok-uses.ensures.sum zero, λ u. refl)

pub returns : goal.returns
returns g c =
    let w = subst (IsWellFormed _) c.self.view_is c.self.invariant.whole in
    let yes : c.is_live.result ≡ true = search rules in
    let live : IsLive c.args.self.now c.args.root = live_seen c.self.view_is c.args.root _ c.is_live.ensures.value yes
    in (
      λ e. told-unused _ c.args.self.now w c.args.root live c.in_ok-uses.uses c.in_ok-inside.inside
          c.in_ok-uses.ensures.sum c.in_ok-inside.ensures c.in_ok-uses.ensures.fits (search rules),
      λ u. let same_sums = unused-told _ c.args.self.now w c.args.root live c.in_ok-uses.uses c.in_ok-inside.inside
          c.in_ok-uses.ensures.sum c.in_ok-inside.ensures c.in_ok-uses.ensures.fits u in search rules,
    )
