use Rattle.std.proofs.Common.{◌∙◌, sym, refl}
use Rattle.plir_store.proofs.Changes.{IsAgreed-seen, empty_done, filled_done}
use Rattle.plir_store.proofs.chains.Chains.is_empty.Goals as goal

pub returns-in-None-clause-value : goal.returns-in-None-clause-value
returns-in-None-clause-value c = (
  λ e. empty_done c.self.inside.ends.items c.self.inside.links.items c.args.self.now c.self.invariant c.self.view_is
      c.args.list _ c.requires c.index.ensures (sym c.get.ensures ∙ c.in-None.is),
  λ e. refl,
)

pub returns-in-None-clause-agreed : goal.returns-in-None-clause-agreed
returns-in-None-clause-agreed c = IsAgreed-seen c.self.inside.ends.items c.self.inside.links.items c.args.self.now
    c.self.invariant c.self.view_is

pub returns-in-Some-clause-value : goal.returns-in-Some-clause-value
returns-in-Some-clause-value c = (
  λ e. cc,
  λ e. absurd (filled_done c.self.inside.ends.items c.self.inside.links.items c.args.self.now c.self.invariant
      c.self.view_is c.args.list c.in-Some.field-0 _ c.requires c.index.ensures (sym c.get.ensures ∙ c.in-Some.is) e),
)

pub returns-in-Some-clause-agreed : goal.returns-in-Some-clause-agreed
returns-in-Some-clause-agreed c = IsAgreed-seen c.self.inside.ends.items c.self.inside.links.items c.args.self.now
    c.self.invariant c.self.view_is
