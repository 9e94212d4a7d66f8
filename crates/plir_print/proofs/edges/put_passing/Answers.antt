use Rattle.std.proofs.Common.{◌++◌, codes, string_bytes, ap, ◌∙◌}
use Rattle.plir_print.specs.EdgeText.{flow_text, use_text}
use Rattle.plir_data.specs.TextParts.{parted}
use Rattle.plir_data.specs.TextLaws.{on}
use Rattle.plir_print.proofs.edges.put_passing.Goals as goal

pub returns : goal.returns
returns g c =
    let flows = parted (codes ", ") (flow_text c.args.ctx.now) in
    let reads = parted (codes ", ") (use_text c.args.ctx.now) in
    let edge = c.args.edge.now in
    let flowing =
    c.in_ok-put_flows.ensures ∙ ap (λ fs. string_bytes c.put.new.out ++ flows fs)
    (c.as_slice.ensures.value ∙ ap (λ e. e.flows) c.edge.view_is) in
    let reading =
    c.in_ok-put_reads.ensures ∙ ap (λ us. string_bytes c.put-2.new.out ++ reads us)
    (c.as_slice-2.ensures.value ∙ ap (λ e. e.reads) c.edge.view_is) in
    on _ (codes ": [") _ _ _ c.in_ok-put.ensures.ok (on _ (flows edge.flows) _ _ _ flowing (on _ (codes "], reads: [") _
    _ _ c.in_ok-put-2.ensures.ok (on _ (reads edge.reads) (codes "]") _ _ reading c.in_ok-put-3.ensures.ok)))
