use Rattle.std.proofs.Common.{◌++◌, ◌≤◌, refl, sym, subst, arith, rules}
use Rattle.plir_data.specs.declared.types.TypeObj.TheVariants.{Function}
use Rattle.plir_data.specs.{LiveLaws.all_right, TypeTree.tree_of, Types.IsLive, Types.AllLive}
use Rattle.plir_attr_text.specs.{Terms.type_levels, Writable.type_term, laws.Handles.held_below}
use Rattle.plir_attr_text.proofs.Asked.{asked_as}
use Rattle.plir_attr_text.proofs.TypeLevels.{some_level, one_level, function_levels}
use Rattle.plir_attr_text.proofs.levels.+types_within.Goals as goal

pub is_function_within-are_types_within-requires-then-are_types_within :
    goal.is_function_within-are_types_within-requires-then-are_types_within
is_function_within-are_types_within-requires-then-are_types_within g t c =
    let types = c.args.types.now in
    let live : AllLive types c.res_types.result.now =
    subst (AllLive types) (sym c.res_types.ensures)
    (all_right (IsLive types) c.args.ty.now.0.0 c.args.ty.now.0.1 c.requires) in
    search rules

pub is_type_within-returns-then-most-eq0 : goal.is_type_within-returns-then-most-eq0
is_type_within-returns-then-most-eq0 g t c =
    let tree = tree_of c.args.types.now c.args.handle in (
      λ e. absurd (let f : ⊥ = cc in f),
      λ h. absurd (some_level tree (subst (λ n. type_levels (type_term tree) ≤ n) c.if-most-eq0.true h)),
    )

pub is_type_within-is_function_within-requires : goal.is_type_within-is_function_within-requires
is_type_within-is_function_within-requires g t c =
    let types = c.args.types.now in
    let below = held_below g.D.OpSet.type_handles types c.args.handle c.get.result.now (Function c.in-Function.ty)
    c.get.ensures.found c.get.ensures.whole c.in-Function.is in
    let live : AllLive types (c.in-Function.ty.0.0 ++ c.in-Function.ty.0.1) =
    λ k d p. omega (arith, below k d p, c.requires) in
    search rules

pub is_type_within-returns-in-Function : goal.is_type_within-returns-in-Function
is_type_within-returns-in-Function g t c =
    let types = c.args.types.now in
    asked_as (λ x. type_levels (type_term x) ≤ c.args.most) types (c.tree_of_a_handle.ensures types c.get.ensures.whole)
    c.args.handle c.get.result.now (Function c.in-Function.ty) c.is_function_within.result c.get.ensures.found
    c.in-Function.is (function_levels _ _ c.args.most c.is_function_within.result c.if-most-eq0.false
    c.is_function_within.ensures)

pub is_type_within-returns-in_default : goal.is_type_within-returns-in_default
is_type_within-returns-in_default g t c =
    let types = c.args.types.now in
    let x = c.get.result.now in
    asked_as (λ y. type_levels (type_term y) ≤ c.args.most) types (c.tree_of_a_handle.ensures types c.get.ensures.whole)
    c.args.handle x x _ c.get.ensures.found refl
    (λ e. omega (arith, one_level (tree_of types) x c.in_default.not-Function, c.if-most-eq0.false), λ h. refl)
