use Rattle.std.proofs.Common.{◌+◌, sym, ◌∙◌, subst}
use Rattle.plir_core.specs.Stored.{IsStored}
use Rattle.plir_core.proofs.Walked.{IsCome-down, IsCome-after, IsBehind-leaf}
use Rattle.plir_core.proofs.arena.Arena.next_in_tree.Goals as goal

pub returns-in-Some-clause-on : goal.returns-in-Some-clause-on
returns-in-Some-clause-on g c = λ f before a.
    IsCome-down c.args.self.now (subst IsStored c.self.view_is c.self.invariant) c.args.root f c.args.node
    c.in-Some.child before a (sym c.first_child.ensures ∙ c.in-Some.is)

pub returns-in-None-clause-on : goal.returns-in-None-clause-on
returns-in-None-clause-on g c =
    IsCome-after c.args.self.now (subst IsStored c.self.view_is c.self.invariant) c.args.root c.args.node
    c.next_after.result (sym c.first_child.ensures ∙ c.in-None.is) c.next_after.ensures.on

pub returns-in-None-clause-done : goal.returns-in-None-clause-done
returns-in-None-clause-done g c = λ e f before a.
    c.next_after.ensures.done e f (before + f c.args.node)
    (IsBehind-leaf c.args.self.now (subst IsStored c.self.view_is c.self.invariant) c.args.root f c.args.node before
    a (sym c.first_child.ensures ∙ c.in-None.is))
