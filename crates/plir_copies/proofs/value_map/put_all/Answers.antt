use Rattle.std.proofs.Common.{rules, ◌≡◌, ◌∙◌, ap, refl, map}
use Rattle.std.specs.HashMap.{get}
use Rattle.std.specs.Map.{update_all}
use Rattle.std.specs.Map.Iter.{deref_pair}
use Rattle.std.proofs.lemmas.Map.Iter.{iter_end}
use Rattle.std.proofs.lemmas.Map.Made.{update_all_distinct}
use Rattle.plir_copies.proofs.value_map.put_all.Goals as goal

pub returns : goal.returns
returns g c =
    let e : map deref_pair c.loop-key.yielded ≡ c.args.from.now.entries = search (rules, iter_end) in
    let f = get g.K.PartialEq.eq c.args.into.now in
    λ k. c.loop-key.invariant.0 k ∙ ap (λ xs. update_all g.K.PartialEq.eq f xs k) e
    ∙ update_all_distinct (search rules) g.K.PartialEq.eq (λ x y. refl) f c.args.from.now.entries k (search rules)
