use Rattle.std.proofs.Common.{[], refl, sym, ap, ◌∙◌, arith}
use Rattle.std.specs.Option.{option_map_or, option_and_then}
use Rattle.plir_data.specs.Types.{type_at, type_id}
use Rattle.plir_iface.specs.VerdictLaws.{refusal-weaker}
use Rattle.plir_flow.proofs.segment_types.verify_impls.Goals as goal

pub returns-clause-refused : goal.returns-clause-refused
returns-clause-refused g c =
    let m = c.in-Some.ensures.some in
    let found =
    c.id_at-found.ensures.value ∙ sym (ap
    (λ t. option_map_or (type_id g.D.OpSet.type_id) (option_and_then (type_at c.args.ctx.now.types) t) []) m.1.1) in
    refusal-weaker c.args.ctx.now c.args.op _ _
    (λ e h. rw h (
      omega (arith, c.count_of.ensures.value, c.if-count_of-seg.false),
      refl,
      c.as_str.ensures ∙ c.NAME.ensures,
      (m.0, (m.1.0, found)),
    )) c.refusal-2.result c.refusal-2.ensures.refused
