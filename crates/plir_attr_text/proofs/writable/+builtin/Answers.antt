use Rattle.std.proofs.Common.{◌↔◌, ◌+◌, ◌*◌, ◌++◌, ◌<◌, List, ℕ, map, IsTrue, refl, sym, subst, arith, rules}
use Rattle.plir_data.specs.declared.types.TypeObj.TheVariants.{Integer, Function, Unit, Own}
use Rattle.plir_data.specs.{LiveLaws.all_left, LiveLaws.all_right, TypeTree.trees_of, TypeTree.tree_of, Types.IsLive}
use Rattle.plir_data.specs.{Types.AllLive}
use Rattle.plir_attr_text.specs.Writable.{IsBuiltin, AreBuiltin}
use Rattle.plir_attr_text.specs.laws.Handles.{above_all, above_each, above_all_upto, above_left, above_right}
use Rattle.plir_attr_text.specs.laws.Handles.{held_below}
use Rattle.plir_attr_text.proofs.Asked.{asked_as, both, not_both}
use Rattle.plir_attr_text.proofs.writable.+builtin.Goals as goal

pub are_builtin-is_builtin-requires : goal.are_builtin-is_builtin-requires
are_builtin-is_builtin-requires g t c =
    let types = c.args.types.now in
    let handles = c.args.handles.now in
    let handle = c.handle-item.result in
    let i = c.handles.handle-index in
    let live : IsLive types handle = subst (IsLive types) (sym c.handle-item.is) (c.requires i handle (omega arith)) in
    let smaller : 2 * handle + 1 < 2 * above_all handles =
    subst (λ h. 2 * h + 1 < 2 * above_all handles) (sym c.handle-item.is)
    (omega (arith, above_each handles i handle (omega arith))) in
    search rules

pub is_builtin-are_builtin-requires : goal.is_builtin-are_builtin-requires
is_builtin-are_builtin-requires g t c =
    let types = c.args.types.now in
    let arguments = c.in-Function.ty.0.0 in
    let results = c.in-Function.ty.0.1 in
    let handles = c.arg_types.result.now in
    let below = held_below g.D.OpSet.type_handles types c.args.handle c.get.result.now (Function c.in-Function.ty)
    c.get.ensures.found c.get.ensures.whole c.in-Function.is in
    let live : AllLive types handles =
    subst (AllLive types) (sym c.arg_types.ensures)
    (all_left (IsLive types) arguments results (λ k d p. omega (arith, below k d p, c.requires))) in
    let smaller : 2 * above_all handles < 2 * c.args.handle + 1 =
    subst (λ hs. 2 * above_all hs < 2 * c.args.handle + 1) (sym c.arg_types.ensures)
    (omega (arith, above_left arguments results, above_all_upto (arguments ++ results) c.args.handle below)) in
    search rules

pub is_builtin-are_builtin-requires-then-are_builtin : goal.is_builtin-are_builtin-requires-then-are_builtin
is_builtin-are_builtin-requires-then-are_builtin g t c =
    let types = c.args.types.now in
    let arguments = c.in-Function.ty.0.0 in
    let results = c.in-Function.ty.0.1 in
    let handles = c.res_types.result.now in
    let below = held_below g.D.OpSet.type_handles types c.args.handle c.get.result.now (Function c.in-Function.ty)
    c.get.ensures.found c.get.ensures.whole c.in-Function.is in
    let live : AllLive types handles =
    subst (AllLive types) (sym c.res_types.ensures)
    (all_right (IsLive types) arguments results (λ k d p. omega (arith, below k d p, c.requires))) in
    let smaller : 2 * above_all handles < 2 * c.args.handle + 1 =
    subst (λ hs. 2 * above_all hs < 2 * c.args.handle + 1) (sym c.res_types.ensures)
    (omega (arith, above_right arguments results, above_all_upto (arguments ++ results) c.args.handle below)) in
    search rules

pub is_builtin-returns-in-Integer : goal.is_builtin-returns-in-Integer
is_builtin-returns-in-Integer g t c =
    asked_as IsBuiltin c.args.types.now (c.tree_of_a_handle.ensures c.args.types.now c.get.ensures.whole) c.args.handle
    c.get.result.now (Integer c.in-Integer.ty) c.is_width.result c.get.ensures.found c.in-Integer.is
    c.is_width.ensures

pub is_builtin-returns-then-are_builtin : goal.is_builtin-returns-then-are_builtin
is_builtin-returns-then-are_builtin g t c =
    let are = λ (hs : List ℕ). AreBuiltin (trees_of (map (tree_of c.args.types.now) hs)) in
    let arguments = subst (λ hs. IsTrue c.are_builtin.result ↔ are hs) c.arg_types.ensures c.are_builtin.ensures in
    let results = subst (λ hs. IsTrue c.are_builtin-then-are_builtin.result ↔ are hs) c.res_types.ensures
    c.are_builtin-then-are_builtin.ensures in
    asked_as IsBuiltin c.args.types.now (c.tree_of_a_handle.ensures c.args.types.now c.get.ensures.whole) c.args.handle
    c.get.result.now (Function c.in-Function.ty) c.are_builtin-then-are_builtin.result c.get.ensures.found
    c.in-Function.is (both c.are_builtin.result c.are_builtin-then-are_builtin.result arguments results
    c.if-are_builtin.true)

pub is_builtin-returns-else-are_builtin : goal.is_builtin-returns-else-are_builtin
is_builtin-returns-else-are_builtin g t c =
    let are = λ (hs : List ℕ). AreBuiltin (trees_of (map (tree_of c.args.types.now) hs)) in
    let arguments = subst (λ hs. IsTrue c.are_builtin.result ↔ are hs) c.arg_types.ensures c.are_builtin.ensures in
    asked_as IsBuiltin c.args.types.now (c.tree_of_a_handle.ensures c.args.types.now c.get.ensures.whole) c.args.handle
    c.get.result.now (Function c.in-Function.ty) c.are_builtin.result c.get.ensures.found c.in-Function.is
    (not_both c.are_builtin.result arguments c.if-are_builtin.false)

pub is_builtin-returns-in-Unit : goal.is_builtin-returns-in-Unit
is_builtin-returns-in-Unit g t c =
    asked_as IsBuiltin c.args.types.now (c.tree_of_a_handle.ensures c.args.types.now c.get.ensures.whole) c.args.handle
    c.get.result.now (Unit c.in-Unit.field-0) _ c.get.ensures.found c.in-Unit.is (λ e. tt, λ u. refl)

pub is_builtin-returns-in-Own : goal.is_builtin-returns-in-Own
is_builtin-returns-in-Own g t c =
    asked_as IsBuiltin c.args.types.now (c.tree_of_a_handle.ensures c.args.types.now c.get.ensures.whole) c.args.handle
    c.get.result.now (Own c.in-Own.field-0) _ c.get.ensures.found c.in-Own.is
    (λ e. absurd (let f : ⊥ = cc in f), λ b. absurd b)
