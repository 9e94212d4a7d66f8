use Rattle.std.proofs.Common.{◌≡◌, [], ◌++◌, sym, subst}
use Rattle.std.specs.List.{cons_option}
use Rattle.std.proofs.lemmas.List.{append-nil}
use Rattle.plir_symbols.proofs.call_edges.put_found.Goals as goal

pub returns-in-None : goal.returns-in-None
returns-in-None c =
    let xs = c.args.all.now.items in
    subst (λ o. xs ≡ xs ++ cons_option o []) (sym c.in-None.is) (sym (append-nil xs))
