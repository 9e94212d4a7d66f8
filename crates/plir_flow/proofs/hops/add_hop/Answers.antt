use Rattle.std.proofs.Common.{cond, Some, sym, ap, subst, ◌∙◌, length}
use Rattle.std.specs.HashMap.{get}
use Rattle.plir_flow.specs.declared.hops.Hop.{Hop}
use Rattle.plir_flow.specs.Hops.{IsLatest, same_region}
use Rattle.plir_flow.proofs.Exact.{same-region-exact}
use Rattle.plir_flow.proofs.Hopping.{linked-more, heads-more, hops-more}
use Rattle.plir_flow.proofs.hops.add_hop.Goals as goal

pub returns-clause-linked : goal.returns-clause-linked
returns-clause-linked c =
    let os = c.args.hops.now.items in
    let x : Hop = record { from = c.args.from; to = c.args.to; earlier = c.in_ok-earlier.earlier } in
    let latest =
    subst (IsLatest os (length os) c.args.from) (sym c.in_ok-earlier.ensures.old) (c.requires.heads c.args.from) in
    let w =
    linked-more os x same_region same-region-exact (get same_region c.args.heads.now) c.requires.linked latest in
    rw c.in_ok-push.ensures.items w

pub returns-clause-heads : goal.returns-clause-heads
returns-clause-heads c =
    let os = c.args.hops.now.items in
    let x : Hop = record { from = c.args.from; to = c.args.to; earlier = c.in_ok-earlier.earlier } in
    let w =
    heads-more os x same_region same-region-exact (get same_region c.args.heads.now) c.requires.heads
    (get same_region c.insert.new.self) (λ r. c.in_ok-earlier.ensures.updates.0 r ∙ ap
    (λ n. cond (same_region c.args.from r) (Some n) (get same_region c.args.heads.now r))
    (c.len-place.ensures ∙ c.args.hops.now.ok.0)) in
    rw c.in_ok-push.ensures.items w

pub returns-clause-more : goal.returns-clause-more
returns-clause-more c =
    let os = c.args.hops.now.items in
    let x : Hop = record { from = c.args.from; to = c.args.to; earlier = c.in_ok-earlier.earlier } in
    rw c.in_ok-push.ensures.items (hops-more os x)
