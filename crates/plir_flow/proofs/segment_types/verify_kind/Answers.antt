use Rattle.std.proofs.Common.{[], sym, ap, ◌∙◌, arith}
use Rattle.std.specs.Option.{option_map_or}
use Rattle.plir_data.specs.TypeText.{type_text}
use Rattle.plir_iface.specs.VerdictLaws.{refusal-aside}
use Rattle.plir_flow.proofs.segment_types.verify_kind.Goals as goal

pub returns-clause-refused : goal.returns-clause-refused
returns-clause-refused g c =
    let m = c.in-Some.ensures.some in
    let found =
    c.in-Ok.ensures ∙ sym (ap
    (λ t. option_map_or (type_text g.D.OpSet.type_id g.D.OpSet.type_body_text c.args.ctx.now.types) t [])
    (m.1.1 ∙ c.type_at.ensures.value)) in
    refusal-aside c.args.ctx.now c.args.op _ _
    (λ e h. rw h (
      omega (arith, c.count_of.ensures.value, c.if-count_of-seg.false),
      c.as_str.ensures ∙ c.NAME.ensures,
      (m.0, (m.1.0, found)),
    )) c.refusal-2.result c.refusal-2.ensures.refused
