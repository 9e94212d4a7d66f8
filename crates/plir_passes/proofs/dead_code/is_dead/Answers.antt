use Rattle.std.proofs.Common.{◌≡◌, true, false, refl, sym}
use Rattle.plir_passes.proofs.dead_code.is_dead.Goals as goal

pub is_unused-requires-clause-leaf : goal.is_unused-requires-clause-leaf
is_unused-requires-clause-leaf g c = (c.if-not-may_go.ensures.0 refl).no_region

pub returns-then-not-may_go-clause-answer : goal.returns-then-not-may_go-clause-answer
returns-then-not-may_go-clause-answer g c = (
  λ h. let b : true ≡ false = sym h in cc,
  λ d. c.if-not-may_go.ensures.1 (record { removable = d.removable; no_region = d.no_region }),
)

pub returns-clause-answer : goal.returns-clause-answer
returns-clause-answer g c = (
  λ h. let m = c.if-not-may_go.ensures.0 refl in record {
    live = c.requires;
    removable = m.removable;
    no_region = m.no_region;
    users = c.is_unused.ensures.used.0 (c.is_unused.ensures.answer.0 h);
  },
  λ d. c.is_unused.ensures.answer.1 (c.is_unused.ensures.used.1 d.users),
)

pub returns-clause-unused : goal.returns-clause-unused
returns-clause-unused g c = c.is_unused.ensures.answer.0
