use Rattle.std.proofs.Common.{◌∙◌, subst, sym}
use Rattle.std.proofs.lemmas.Bool.{false≢true}
use Rattle.plir_core.specs.ValueUses.{HasUses}
use Rattle.plir_arguments.specs.Turned.{AreUses}
use Rattle.plir_arguments.proofs.Uses.{are-uses}
use Rattle.plir_arguments.proofs.testing.can_drop_argument.Goals as goal

pub returns-then-not-stands_behind : goal.returns-then-not-stands_behind
returns-then-not-stands_behind g c = (
  λ yes. absurd (false≢true yes),
  λ h. absurd (false≢true (sym c.if-not-stands_behind.true ∙ c.stands_behind.ensures.1 h.behind)),
)

pub returns-then-has_uses : goal.returns-then-has_uses
returns-then-has_uses g c = (
  λ yes. absurd (false≢true yes),
  λ h. absurd (h.unused (subst (HasUses c.args.ctx.now) c.get_argument.ensures.value
      (c.has_uses.ensures.value.0 c.if-has_uses.true))),
)

pub can_all_forward_less-requires-clause-uses : goal.can_all_forward_less-requires-clause-uses
can_all_forward_less-requires-clause-uses g c =
    subst (AreUses c.args.ctx.now c.args.block) (sym (c.deref.ensures.value ∙ c.in_ok-uses.ensures.uses)) (are-uses c.args.ctx.now c.args.block)

pub returns : goal.returns
returns g c = (
  λ yes. record {
    live = c.requires.live;
    below = c.requires.below;
    behind = c.stands_behind.ensures.0 c.if-not-stands_behind.false;
    unused = λ u. false≢true (sym c.if-has_uses.false
        ∙ c.has_uses.ensures.value.1 (subst (HasUses c.args.ctx.now) (sym c.get_argument.ensures.value) u));
    branches = c.can_all_forward_less.ensures.0 yes;
  },
  λ h. c.can_all_forward_less.ensures.1 h.branches,
)
