use Rattle.std.proofs.Common.{◌≡◌, true, inl, inr, refl}
use Rattle.plir_roundtrip.proofs.ir_readable.look_at_node.Goals as goal

pub returns-then-is_ir_node_readable : goal.returns-then-is_ir_node_readable
returns-then-is_ir_node_readable g c =
    inl ((c.is_ir_node_readable.ensures.0 c.if-is_ir_node_readable.true, c.count-few.ensures), c.walk_advance.ensures)

pub returns-else-is_ir_node_readable : goal.returns-else-is_ir_node_readable
returns-else-is_ir_node_readable g c =
    inr (
      c.args.node,
      (
        refl,
        λ r.
            let yes : c.is_ir_node_readable.result ≡ true = c.is_ir_node_readable.ensures.1 r in
            let f : ⊥ = cc in f,
      ),
      c.walk_break.ensures,
    )
