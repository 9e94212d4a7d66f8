use Rattle.std.proofs.Common.{◌≡◌, true, refl}
use Rattle.plir_roundtrip.proofs.own.obstacle_at.Goals as goal

pub returns-then-not-is_node_named : goal.returns-then-not-is_node_named
returns-then-not-is_node_named g c = (
  refl,
  λ named. let yes : c.is_node_named.result ≡ true = c.is_node_named.ensures.1 named in let f : ⊥ = cc in f,
)

pub returns-then-not-are_types_readable : goal.returns-then-not-are_types_readable
returns-then-not-are_types_readable g c =
    let named : c.is_node_named.result ≡ true = cc in (
      refl,
      c.is_node_named.ensures.0 named,
      λ types.
          let yes : c.are_types_readable.result ≡ true = c.are_types_readable.ensures.1 types in let f : ⊥ = cc in f,
    )

pub returns : goal.returns
returns g c =
    let named : c.is_node_named.result ≡ true = cc in
    let types : c.are_types_readable.result ≡ true = cc in (
      refl,
      c.is_node_named.ensures.0 named,
      c.are_types_readable.ensures.0 types,
      c.requires.unread,
    )
