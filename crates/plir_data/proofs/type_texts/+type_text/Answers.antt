use Rattle.std.proofs.Common.{◌+◌, ◌*◌, ◌++◌, ◌∷◌, [], ◌<◌, sym, ap, subst, ◌∙◌, arith, rules, string_bytes, map, codes}
use Rattle.std.proofs.lemmas.List.{drop_all}
use Rattle.std.proofs.lemmas.Result.{on_ok_weaker}
use Rattle.plir_data.specs.LiveLaws.{all_left, all_right}
use Rattle.plir_data.specs.OwnParts.{held_in}
use Rattle.plir_data.specs.PartSeen.{part_view}
use Rattle.plir_data.specs.TextLaws.{ended, five}
use Rattle.plir_data.specs.TypeText.{type_text, types_text}
use Rattle.plir_data.specs.Types.{IsLive, AllLive}
use Rattle.plir_data.specs.declared.types.TypeObj.TheVariants.{Integer, Function, Unit, Own}
use Rattle.plir_data.proofs.TypeTexts.{above_all, above_each, above_all_upto, above_left, above_right, read_text}
use Rattle.plir_data.proofs.TypeTexts.{above_at, above_held, held_at, read_below}
use Rattle.plir_data.proofs.TypeTrees.{all_included}
use Rattle.plir_data.proofs.type_texts.+type_text.Goals as goal

pub put_type-put_function_type-requires : goal.put_type-put_function_type-requires
put_type-put_function_type-requires g t c =
    let held = c.in-Function.ty.0.0 ++ c.in-Function.ty.0.1 in
    let below = read_below g.D.OpSet.type_handles
    (g.C.TypeStore.types c.args.ctx.now) c.types.result.now c.args.handle c.get.result.now
    (Function c.in-Function.ty) c.get.ensures.found c.get.ensures.whole c.in-Function.is in
    let live : AllLive (g.C.TypeStore.types c.args.ctx.now) held = λ k d p. omega (arith, below k d p, c.requires) in
    let smaller : 5 * above_all held + 3 < 5 * c.args.handle + 4 = omega (
      arith,
      above_all_upto held c.args.handle
          below,
    ) in
    search rules

pub put_type-put_own_type-requires : goal.put_type-put_own_type-requires
put_type-put_own_type-requires g t c =
    let held = g.D.OpSet.type_handles c.in-Own.ty in
    let below = read_below g.D.OpSet.type_handles (g.C.TypeStore.types c.args.ctx.now) c.types.result.now c.args.handle
    c.get.result.now (Own c.in-Own.ty) c.get.ensures.found c.get.ensures.whole c.in-Own.is in
    let live : AllLive (g.C.TypeStore.types c.args.ctx.now) held = λ k d p. omega (arith, below k d p, c.requires) in
    let smaller : 5 * above_all held + 3 < 5 * c.args.handle + 4 = omega (
      arith,
      above_all_upto held c.args.handle
          below,
    ) in
    search rules

pub put_type-returns-in-Integer : goal.put_type-returns-in-Integer
put_type-returns-in-Integer g t c =
    let text = read_text g.D.OpSet.type_handles
    (g.C.TypeStore.types c.args.ctx.now) c.types.result.now c.args.handle c.get.result.now
    (Integer c.in-Integer.ty) g.D.OpSet.type_id g.D.OpSet.type_body_text
    g.met.D.OpSet.type_body_text_held c.types.ensures.value c.get.ensures.found c.get.ensures.whole c.in-Integer.is in
    on_ok_weaker c.put_integer_type.result (λ e. e ∙ ap (λ bytes. string_bytes c.args.out.now ++ bytes) (sym text))
    c.put_integer_type.ensures

pub put_type-returns-in-Function : goal.put_type-returns-in-Function
put_type-returns-in-Function g t c =
    let text = read_text g.D.OpSet.type_handles
    (g.C.TypeStore.types c.args.ctx.now) c.types.result.now c.args.handle c.get.result.now
    (Function c.in-Function.ty) g.D.OpSet.type_id g.D.OpSet.type_body_text
    g.met.D.OpSet.type_body_text_held c.types.ensures.value c.get.ensures.found c.get.ensures.whole c.in-Function.is in
    on_ok_weaker c.put_function_type.result (λ e. e ∙ ap (λ bytes. string_bytes c.args.out.now ++ bytes) (sym text))
    c.put_function_type.ensures

pub put_type-returns-in-Unit : goal.put_type-returns-in-Unit
put_type-returns-in-Unit g t c =
    let text = read_text g.D.OpSet.type_handles
    (g.C.TypeStore.types c.args.ctx.now) c.types.result.now c.args.handle c.get.result.now
    (Unit c.in-Unit.field-0) g.D.OpSet.type_id g.D.OpSet.type_body_text
    g.met.D.OpSet.type_body_text_held c.types.ensures.value c.get.ensures.found c.get.ensures.whole c.in-Unit.is in
    on_ok_weaker c.put.result (λ e. e ∙ ap (λ bytes. string_bytes c.args.out.now ++ bytes) (sym text)) c.put.ensures.ok

pub put_type-returns-in-Own : goal.put_type-returns-in-Own
put_type-returns-in-Own g t c =
    let text = read_text g.D.OpSet.type_handles
    (g.C.TypeStore.types c.args.ctx.now) c.types.result.now c.args.handle c.get.result.now
    (Own c.in-Own.ty) g.D.OpSet.type_id g.D.OpSet.type_body_text
    g.met.D.OpSet.type_body_text_held c.types.ensures.value c.get.ensures.found c.get.ensures.whole c.in-Own.is in
    on_ok_weaker c.put_own_type.result (λ e. e ∙ ap (λ bytes. string_bytes c.args.out.now ++ bytes) (sym text))
    c.put_own_type.ensures

pub put_function_type-put_types-requires : goal.put_function_type-put_types-requires
put_function_type-put_types-requires g t c =
    let types = g.C.TypeStore.types c.args.ctx.now in
    let arguments = c.args.ty.now.0.0 in
    let results = c.args.ty.now.0.1 in
    let handles = c.arg_types.result.now in
    let live : AllLive types handles = subst (AllLive types) (sym c.arg_types.ensures)
    (all_left (IsLive types) arguments results c.requires) in
    let smaller : 5 * above_all handles + 1 < 5 * above_all (arguments ++ results) + 3 =
    subst (λ hs. 5 * above_all hs + 1 < 5 * above_all (arguments ++ results) + 3) (sym c.arg_types.ensures)
    (omega (arith, above_left arguments results)) in
    search rules

pub put_function_type-put_types-requires-2 : goal.put_function_type-put_types-requires-2
put_function_type-put_types-requires-2 g t c =
    let types = g.C.TypeStore.types c.args.ctx.now in
    let arguments = c.args.ty.now.0.0 in
    let results = c.args.ty.now.0.1 in
    let handles = c.res_types.result.now in
    let live : AllLive types handles = subst (AllLive types) (sym c.res_types.ensures)
    (all_right (IsLive types) arguments results c.requires) in
    let smaller : 5 * above_all handles + 1 < 5 * above_all (arguments ++ results) + 3 =
    subst (λ hs. 5 * above_all hs + 1 < 5 * above_all (arguments ++ results) + 3) (sym c.res_types.ensures)
    (omega (arith, above_right arguments results)) in
    search rules

pub put_function_type-returns : goal.put_function_type-returns
put_function_type-returns g t c =
    let text = types_text g.D.OpSet.type_id g.D.OpSet.type_body_text (g.C.TypeStore.types c.args.ctx.now) in
    let arguments = c.in_ok-put_types.ensures ∙ ap (λ hs. string_bytes c.put.new.out ++ text hs) c.arg_types.ensures in
    let results = c.in_ok-put_types-2.ensures ∙ ap (λ hs. string_bytes c.put-2.new.out ++ text hs) c.res_types.ensures
    in
    five _ _ _ _ _ _ c.in_ok-put.ensures.ok arguments c.in_ok-put-2.ensures.ok results c.in_ok-put-3.ensures.ok

pub put_types-put_type-requires : goal.put_types-put_type-requires
put_types-put_type-requires g t c =
    let types = g.C.TypeStore.types c.args.ctx.now in
    let handles = c.args.handles.now in
    let handle = c.handle-item.result in
    let i = c.handles.handle-index in
    let live : IsLive types handle = subst (IsLive types) (sym c.handle-item.is) (c.requires i handle (omega arith)) in
    let smaller : 5 * handle + 4 < 5 * above_all handles + 1 =
    subst (λ h. 5 * h + 4 < 5 * above_all handles + 1) (sym c.handle-item.is) (omega
    (arith, above_each handles i handle (omega arith))) in
    search rules

pub put_own_type-put_own_text-requires : goal.put_own_type-put_own_text-requires
put_own_type-put_own_text-requires g t c =
    let types = g.C.TypeStore.types c.args.ctx.now in
    let own = g.D.OpSet.type_handles c.args.ty.now in
    let included = g.met.D.OpSet.type_body_text_held c.args.ty.now in
    let parts = held_in (g.D.OpSet.type_body_text c.args.ty.now) in
    let live : AllLive types parts = all_included (IsLive types) parts own included c.requires in
    let smaller : 5 * above_all parts + 2 < 5 * above_all own + 3 = omega (arith, above_held parts own included) in
    search rules

pub put_types-returns : goal.put_types-returns
put_types-returns g t c =
    let text = type_text g.D.OpSet.type_id g.D.OpSet.type_body_text (g.C.TypeStore.types c.args.ctx.now) in
    ended (codes ", ") text c.handles.is_first _ _ _ (drop_all c.handles.handle-index c.args.handles.now (omega arith))
    c.handles.invariant

pub put_parts-put_part-requires : goal.put_parts-put_part-requires
put_parts-put_part-requires g t c =
    let types = g.C.TypeStore.types c.args.ctx.now in
    let parts = c.args.parts.now in
    let part = c.part-item.result in
    let i = c.parts.part-index in
    let all = above_all (held_in (map part_view parts)) in
    let live : AllLive types (held_in (part_view part ∷ [])) =
    subst (λ p. AllLive types (held_in (part_view p ∷ []))) (sym c.part-item.is)
    (held_at part_view (IsLive types) parts i part c.parts-test.true c.requires) in
    let smaller : 5 * above_all (held_in (part_view part ∷ [])) < 5 * all + 1 =
    subst (λ p. 5 * above_all (held_in (part_view p ∷ [])) < 5 * all + 1) (sym c.part-item.is)
    (omega (arith, above_at part_view parts i part c.parts-test.true)) in
    search rules
