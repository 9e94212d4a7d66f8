use Rattle.std.proofs.Common.{◌≡◌, Some, refl, sym, ◌∙◌, subst, rules}
use Rattle.plir_core.specs.Stored.{IsStored}
use Rattle.plir_core.specs.Walked.{IsBehind}
use Rattle.plir_core.proofs.Ancestors.{levels-fall}
use Rattle.plir_core.proofs.Facts.{parent-live}
use Rattle.plir_core.proofs.Walked.{IsCome-next, IsBehind-up, IsBehind-over, IsBehind-root}
use Rattle.plir_core.proofs.arena.Arena.next_after.Goals as goal

pub loop-root-init : goal.loop-root-init
loop-root-init g c = record { live = c.requires; behind = λ f before b. b }

pub loop-root-smaller : goal.loop-root-smaller
loop-root-smaller g c =
    levels-fall c.args.self.now c.args.node c.args.root (subst IsStored c.self.view_is c.self.invariant) c.loop-root.at
    (Some c.loop-root.at) (Some c.in-Some-parent.over) refl (sym c.in-Some-parent.is ∙ c.parent.ensures)

pub loop-root-preserved : goal.loop-root-preserved
loop-root-preserved g c =
    let w = subst IsStored c.self.view_is c.self.invariant in
    let below : c.loop-root.at ≡ c.args.root → ⊥ = search rules in
    let last = sym c.next.ensures ∙ c.in_default.is in
    let under = sym c.parent.ensures ∙ c.in-Some-parent.is in
    record {
      live = parent-live c.args.self.now w c.in-Some-parent.over c.loop-root.at under;
      behind = λ f before b. IsBehind-up c.args.self.now w c.args.root f c.loop-root.at c.in-Some-parent.over before
          (c.loop-root.invariant.behind f before b) below last under;
    }

pub returns-in-Some-clause-on : goal.returns-in-Some-clause-on
returns-in-Some-clause-on g c = λ f before b.
    let below : c.loop-root.at ≡ c.args.root → ⊥ = search rules in
    IsCome-next c.args.self.now (subst IsStored c.self.view_is c.self.invariant) c.args.root f c.loop-root.at
    c.in-Some.next before (c.loop-root.invariant.behind f before b) below (sym c.next.ensures ∙ c.in-Some.is)

pub returns-in-None-clause-done : goal.returns-in-None-clause-done
returns-in-None-clause-done g c = λ e f before b.
    let below : c.loop-root.at ≡ c.args.root → ⊥ = search rules in
    absurd (IsBehind-over c.args.self.now (subst IsStored c.self.view_is c.self.invariant) c.args.root f c.loop-root.at
    before (c.loop-root.invariant.behind f before b) below (sym c.parent.ensures ∙ c.in-None.is))

pub returns-clause-done : goal.returns-clause-done
returns-clause-done g c = λ e f before b.
    let at_root : c.loop-root.at ≡ c.args.root = search rules in
    IsBehind-root c.args.self.now (subst IsStored c.self.view_is c.self.invariant) c.args.root f before
    (subst (λ z. IsBehind f c.args.self.now c.args.root z before) at_root (c.loop-root.invariant.behind f before b))
