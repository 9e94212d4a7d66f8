use Rattle.std.proofs.Common.{◌≡◌, ◌+◌, ◌*◌, ◌++◌, true, [], ◌∷◌, drop, map, string_bytes, codes}
use Rattle.plir_data.specs.OwnParts.{held_in, parts_text}
use Rattle.plir_data.specs.PartSeen.{part_view}
use Rattle.plir_data.specs.TextParts.{parted_from}
use Rattle.plir_data.specs.TypeText.{type_text, types_text}
use Rattle.plir_data.proofs.TypeTexts.{above_all}
use Rattle.plir_data.proofs.type_texts.+type_text.Given as goal

abbrev pub decreases-put_type : goal.decreases-put_type
decreases-put_type g l = 5 * l.handle + 4

abbrev pub decreases-put_function_type : goal.decreases-put_function_type
decreases-put_function_type g l = 5 * above_all (l.ty.now.0.0 ++ l.ty.now.0.1) + 3

abbrev pub decreases-put_types : goal.decreases-put_types
decreases-put_types g l = 5 * above_all l.handles.now + 1

abbrev pub decreases-put_own_type : goal.decreases-put_own_type
decreases-put_own_type g l = 5 * above_all (g.D.OpSet.type_handles l.ty.now) + 3

abbrev pub decreases-put_own_text : goal.decreases-put_own_text
decreases-put_own_text g l = 5 * above_all (held_in l.text.now) + 2

abbrev pub decreases-put_parts : goal.decreases-put_parts
decreases-put_parts g l = 5 * above_all (held_in (map part_view l.parts.now)) + 1

abbrev pub decreases-put_part : goal.decreases-put_part
decreases-put_part g l = 5 * above_all (held_in (part_view l.part.now ∷ []))

abbrev pub invariant-put_types-handles : goal.invariant-put_types-handles
invariant-put_types-handles g l =
    let text = type_text g.D.OpSet.type_id g.D.OpSet.type_body_text (g.C.TypeStore.types l.ctx) in
    string_bytes l.out ++ parted_from l.is_first (codes ", ") text (drop l.handle-index l.handles) ≡
    string_bytes l.fn.out ++ parted_from true (codes ", ") text l.handles

abbrev pub invariant-put_parts-parts : goal.invariant-put_parts-parts
invariant-put_parts-parts g l =
    let text = type_text g.D.OpSet.type_id g.D.OpSet.type_body_text (g.C.TypeStore.types l.ctx) in
    string_bytes l.out ++ parts_text text (map part_view (drop l.part-index l.parts)) ≡
    string_bytes l.fn.out ++ parts_text text (map part_view l.parts)
