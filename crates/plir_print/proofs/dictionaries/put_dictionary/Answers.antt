use Rattle.std.proofs.Common.{◌≡◌, ◌++◌, Some, codes, string_bytes, sym, ap, ◌∙◌}
use Rattle.std.specs.List.{filter}
use Rattle.plir_core.specs.ContextView.{kind_of}
use Rattle.plir_attr_text.specs.AttrText.{entry_text}
use Rattle.plir_print.specs.Dictionaries.{is_shown, shown}
use Rattle.plir_data.specs.TextParts.{parted}
use Rattle.plir_data.specs.TextLaws.{on}
use Rattle.plir_print.proofs.dictionaries.put_dictionary.Goals as goal

pub returns : goal.returns
returns g c =
    let o = g.D.OpSet in
    let s = c.args.ctx.now in
    let write = parted (codes ", ") (entry_text o.attr_id o.attr_text o.type_id o.type_body_text s.types) in
    let same : filter (is_shown o (Some c.kind.result)) c.attributes.result.now ≡ shown o s c.args.op =
    ap (λ k. filter (is_shown o k) c.attributes.result.now) (sym c.kind.ensures.value)
    ∙ ap (filter (is_shown o (kind_of s c.args.op))) c.attributes.ensures.value in
    on _ (codes "[") _ _ _ c.in_ok-put.ensures.ok (on _ (write (shown o s c.args.op)) (codes "]") _ _
    (c.in_ok-put_entries.ensures ∙ ap (λ es. string_bytes c.put.new.out ++ write es) same) c.in_ok-put-2.ensures.ok)
