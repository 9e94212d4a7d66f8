use Rattle.std.proofs.Common.{◌≡◌, Some, None, sym, ◌∙◌, ap, subst, rules}
use Rattle.plir_store.specs.Members.{head}
use Rattle.plir_core.specs.Nodes.{node_children}
use Rattle.plir_core.specs.Stored.{IsStored}
use Rattle.plir_core.proofs.TreeUses.{alone}
use Rattle.plir_core.proofs.arena.Arena.is_in_tree.Goals as goal

pub returns-then-is_none : goal.returns-then-is_none
returns-then-is_none g c =
    let w = subst IsStored c.self.view_is c.self.invariant in
    let none : c.first_child.result ≡ None = search rules in
    let leaf : head (node_children c.args.self.now c.args.root) ≡ None = sym c.first_child.ensures ∙ none in (
      λ t. let same : c.args.node ≡ c.args.root = search rules in (0, ap (λ z. Some z) same),
      λ r.
          let same : c.args.node ≡ c.args.root = alone c.args.self.now w c.args.root leaf c.args.node r in
          search rules,
    )
