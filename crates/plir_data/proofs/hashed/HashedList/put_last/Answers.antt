use Rattle.std.proofs.Common.{rules, ◌≡◌, nat_eq, length, ap}
use Rattle.std.specs.HashMap.{get}
use Rattle.std.specs.Map.{lookup}
use Rattle.plir_data.specs.Hashed.{hash_from}
use Rattle.plir_data.proofs.HashedLists.{hashed_same, hashed_put}
use Rattle.plir_data.proofs.hashed.HashedList.put_last.Goals as goal

pub invariant_of-self-in_err-before : goal.invariant_of-self-in_err-before
invariant_of-self-in_err-before g c =
    hashed_same (λ x. hash_from (g.T.Hash.hash_input x)) _ _ _ _ _ _ c.reserve.ensures.items c.reserve-2.ensures.items
    (λ w. ap (lookup (nat_eq w)) c.in_err-before.ensures.err) c.self.invariant

pub invariant_of-self-2 : goal.invariant_of-self-2
invariant_of-self-2 g c =
    let place : c.len-place.result ≡ length c.self.inside.values.items = search rules in
    hashed_put (λ x. hash_from (g.T.Hash.hash_input x)) c.self.inside.values.items c.args.value
    c.self.inside.earlier.items (get nat_eq c.self.inside.latest) (get nat_eq c.insert.new.self) c.args.hash
    c.len-place.result c.in_ok-before.before c.reserve.new.self.items c.push-2.new.self.items c.reserve-2.new.self.items
    c.push.new.self.items c.requires place c.in_ok-before.ensures.old (λ w. c.in_ok-before.ensures.updates.0 w)
    c.reserve.ensures.items c.in_ok-push-2.ensures.items c.reserve-2.ensures.items c.in_ok-push.ensures.items
    c.self.invariant
