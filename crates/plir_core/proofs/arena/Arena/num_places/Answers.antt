use Rattle.std.proofs.Common.{sym, subst}
use Rattle.plir_core.specs.Stored.{IsStored}
use Rattle.plir_core.proofs.TreeUses.{hits-inside, hits-outside}
use Rattle.plir_core.proofs.arena.Arena.num_places.Goals as goal

pub returns-then-is_in_tree-clause-places : goal.returns-then-is_in_tree-clause-places
returns-then-is_in_tree-clause-places g c = λ used.
    sym (hits-inside c.args.self.now (subst IsStored c.self.view_is c.self.invariant) c.args.root c.requires.root
    c.args.node used c.requires.node (c.is_in_tree.ensures.0 c.if-is_in_tree.true))

pub returns-else-is_in_tree-clause-places : goal.returns-else-is_in_tree-clause-places
returns-else-is_in_tree-clause-places g c = λ used.
    sym (hits-outside c.args.self.now (subst IsStored c.self.view_is c.self.invariant) c.args.root c.requires.root
    c.args.node used c.requires.node (λ r. let t = c.is_in_tree.ensures.1 r in let f : ⊥ = cc in f))
