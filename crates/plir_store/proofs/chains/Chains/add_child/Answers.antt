use Rattle.std.proofs.Common.{◌∙◌, ap, arith}
use Rattle.plir_store.specs.Lists.{with_child}
use Rattle.plir_store.proofs.Changes.{IsAgreed-now, add_child_is, num_children_is}
use Rattle.plir_store.proofs.chains.Chains.add_child.Goals as goal

pub invariant_of-self-2 : goal.invariant_of-self-2
invariant_of-self-2 c = rw (c.in_ok-push.ensures.items, c.loose.ensures) ((add_child_is c.self.inside.ends.items
    c.self.inside.links.items c.self.invariant (omega (
      arith,
      c.requires,
      num_children_is c.self.inside.ends.items
          c.self.inside.links.items c.args.self.now c.self.invariant c.self.view_is,
    ))).sound)

pub returns-clause-ok : goal.returns-clause-ok
returns-clause-ok c =
    rw (c.in_ok-push.ensures.items, c.loose.ensures) ((add_child_is c.self.inside.ends.items c.self.inside.links.items
    c.self.invariant (omega (
      arith,
      c.requires,
      num_children_is c.self.inside.ends.items c.self.inside.links.items
          c.args.self.now c.self.invariant c.self.view_is,
    ))).view ∙ ap with_child c.self.view_is)

pub returns-clause-agreed : goal.returns-clause-agreed
returns-clause-agreed c =
    rw (c.in_ok-push.ensures.items, c.loose.ensures) (IsAgreed-now _ _ ((add_child_is c.self.inside.ends.items
    c.self.inside.links.items c.self.invariant (omega (
      arith,
      c.requires,
      num_children_is c.self.inside.ends.items
          c.self.inside.links.items c.args.self.now c.self.invariant c.self.view_is,
    ))).sound))

pub returns-in_err-push-clause-agreed : goal.returns-in_err-push-clause-agreed
returns-in_err-push-clause-agreed c = rw c.in_err-push.ensures.items (IsAgreed-now c.self.inside.ends.items
    c.self.inside.links.items c.self.invariant)
