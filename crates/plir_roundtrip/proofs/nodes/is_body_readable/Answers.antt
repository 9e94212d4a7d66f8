use Rattle.std.proofs.Common.{◌≡◌, length, arith}
use Rattle.plir_core.specs.declared.ptr.IRNode.TheVariants.{Operation}
use Rattle.plir_core.specs.ContextView.{children, result_types_of}
use Rattle.plir_roundtrip.proofs.NodesAsked.{body_when}
use Rattle.plir_roundtrip.proofs.nodes.is_body_readable.Goals as goal

pub returns : goal.returns
returns g c =
    let none : length (result_types_of c.args.ctx.now c.args.op) ≡ 0 = omega arith in
    let one : length (children c.args.ctx.now (Operation c.args.op)) ≡ 1 = omega arith in
    body_when c.args.ctx.now c.args.op c.attributes.result.now c.are_entries_readable.result none one
    c.attributes.ensures.value c.are_entries_readable.ensures.ascending c.are_entries_readable.ensures.value
