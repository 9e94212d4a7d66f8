use Rattle.std.proofs.Common.{◌≡◌, ◌↔◌, ◌<◌, Some, IsTrue, sym, ap, subst, ◌∙◌}
use Rattle.plir_core.specs.ContextView.{kind_of}
use Rattle.plir_attr_text.specs.Terms.{entries_levels}
use Rattle.plir_roundtrip.specs.Written.{dictionary_term}
use Rattle.plir_roundtrip.specs.WrittenLevels.{shown_levels}
use Rattle.plir_roundtrip.proofs.part_levels.is_dictionary_below.Goals as goal

pub returns : goal.returns
returns g c =
    let o = g.D.OpSet in
    let s = c.args.ctx.now in
    let same : shown_levels o s.types (Some c.kind.result) c.attributes.result.now ≡
    entries_levels (dictionary_term o s c.args.op) =
    ap (λ k. shown_levels o s.types k c.attributes.result.now) (sym c.kind.ensures.value)
    ∙ ap (shown_levels o s.types (kind_of s c.args.op)) c.attributes.ensures.value in
    subst (λ n. IsTrue c.are_shown_below.result ↔ (n < c.args.left)) same c.are_shown_below.ensures
