use Rattle.std.proofs.Common.{◌+◌, ◌<◌, ◌∙◌, arith, sym, string_bytes}
use Rattle.plir_core.specs.ContextView.{parent_of}
use Rattle.plir_core.specs.Measures.{depth}
use Rattle.plir_driver.proofs.NodesPut.{climb-on, two-more}
use Rattle.plir_driver.proofs.listing.put_indent.Goals as goal

pub up-smaller : goal.up-smaller
up-smaller g c =
    let deeper = c.stands.ensures.standing.measured.deeper c.in-Some.over c.up.at
    (sym c.parent.ensures.value ∙ c.in-Some.is) in
    let less : depth c.args.ctx.now c.in-Some.over < depth c.args.ctx.now c.up.at = omega (arith, deeper) in less

pub up-preserved : goal.up-preserved
up-preserved g c =
    let k = c.up.invariant.1.0 in (
      c.in-Some.ensures.live,
      (
        k + 1,
        climb-on (parent_of c.args.ctx.now) k c.args.node c.up.at c.up.invariant.1.1
            ∙ sym c.parent.ensures.value ∙ c.in-Some.is,
        c.in_ok-push_str.ensures.bytes
            ∙ two-more (string_bytes c.up.text) (string_bytes c.args.text.now) k c.up.invariant.1.2,
      ),
    )
