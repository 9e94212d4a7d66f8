use Rattle.std.proofs.Common.{◌≡◌, ◌++◌, ◌∷◌, true, false, cond, Some, codes, string_bytes, sym, ap, subst, ◌∙◌}
use Rattle.std.specs.List.{filter}
use Rattle.std.proofs.lemmas.List.Elements.{All-head, All-tail}
use Rattle.plir_data.specs.AttrLive.{IsAttrLive, HandlesLive}
use Rattle.plir_data.specs.AttrSeen.{attr_view}
use Rattle.plir_data.specs.DictSeen.{pairs_view}
use Rattle.plir_attr_text.specs.AttrText.{attr_text, entry_text}
use Rattle.plir_print.specs.Dictionaries.{is_shown}
use Rattle.plir_data.specs.TextParts.{parted_from}
use Rattle.plir_data.specs.TextLaws.{on, turn}
use Rattle.plir_print.proofs.dictionaries.put_entries.Goals as goal

pub put_attr-requires : goal.put_attr-requires
put_attr-requires g c =
    let own = g.D.OpSet.attr_handles in
    let types = c.args.ctx.now.types in
    let left = pairs_view c.next.new.self in
    let k = c.in-Some.key.now in
    let v = attr_view c.in-Some.value.now in
    let step : pairs_view c.entries.key-iterator ≡ (k, v) ∷ left = ap pairs_view c.in-Some.ensures.steps in
    All-head (λ x. IsAttrLive own types x.1) (k, v) left (subst (HandlesLive own types) step c.entries.invariant.live)

pub entries-preserved-then-is_shown : goal.entries-preserved-then-is_shown
entries-preserved-then-is_shown g c =
    let o = g.D.OpSet in
    let types = c.args.ctx.now.types in
    let l = c.entries in
    let shows = is_shown o (Some c.args.kind) in
    let write = entry_text o.attr_id o.attr_text o.type_id o.type_body_text types in
    let text = attr_text o.attr_id o.attr_text o.type_id o.type_body_text types in
    let k = c.in-Some.key.now in
    let v = attr_view c.in-Some.value.now in
    let left = pairs_view c.next.new.self in
    let step : pairs_view l.key-iterator ≡ (k, v) ∷ left = ap pairs_view c.in-Some.ensures.steps in
    let yes : shows (k, v) ≡ true =
    ap (λ w. shows (w, v)) (sym c.as_str.ensures.text) ∙ sym c.is_shown.ensures ∙ c.if-is_shown.true in
    let first : filter shows (pairs_view l.key-iterator) ≡ (k, v) ∷ filter shows left =
    ap (filter shows) step ∙ ap (λ b. cond b ((k, v) ∷ filter shows left) (filter shows left)) yes in
    let key : string_bytes c.put.new.out ≡ string_bytes c.put_between.new.out ++ k =
    c.in_ok-put.ensures.ok
    ∙ ap (λ w. string_bytes c.put_between.new.out ++ w) c.as_str-then-is_shown.ensures.text in
    let pair : string_bytes c.put_attr.new.out ≡ string_bytes c.put_between.new.out ++ write (k, v) =
    on _ k _ _ _ key (on _ (codes " = ") (text v) _ _ c.in_ok-put-2.ensures.ok c.in_ok-put_attr.ensures) in
    record {
      written =
          turn (codes ", ") write l.is_first _ _ _ _ (k, v) (filter shows (pairs_view l.key-iterator))
          (filter shows left) c.in_ok-put_between.ensures.ok pair first l.invariant.written;
      live =
          All-tail (λ x. IsAttrLive o.attr_handles types x.1) (k, v) left
          (subst (HandlesLive o.attr_handles types) step l.invariant.live);
    }

pub entries-preserved : goal.entries-preserved
entries-preserved g c =
    let o = g.D.OpSet in
    let types = c.args.ctx.now.types in
    let l = c.entries in
    let shows = is_shown o (Some c.args.kind) in
    let write = entry_text o.attr_id o.attr_text o.type_id o.type_body_text types in
    let k = c.in-Some.key.now in
    let v = attr_view c.in-Some.value.now in
    let left = pairs_view c.next.new.self in
    let step : pairs_view l.key-iterator ≡ (k, v) ∷ left = ap pairs_view c.in-Some.ensures.steps in
    let no : shows (k, v) ≡ false =
    ap (λ w. shows (w, v)) (sym c.as_str.ensures.text) ∙ sym c.is_shown.ensures ∙ c.if-is_shown.false in
    let none : filter shows (pairs_view l.key-iterator) ≡ filter shows left =
    ap (filter shows) step ∙ ap (λ b. cond b ((k, v) ∷ filter shows left) (filter shows left)) no in
    record {
      written =
          ap (λ es. string_bytes l.out ++ parted_from l.is_first (codes ", ") write es) (sym none)
          ∙ l.invariant.written;
      live =
          All-tail (λ x. IsAttrLive o.attr_handles types x.1) (k, v) left
          (subst (HandlesLive o.attr_handles types) step l.invariant.live);
    }
