-- How many levels types have as they are written.
use Rattle.std.proofs.Common.{◌≡◌, ◌↔◌, ℕ, suc, max, ◌-◌, ◌≤◌, Bool, IsTrue, refl, arith}
use Rattle.plir_data.specs.TypeTree.{TypeTree, integer_tree, function_tree, unit_tree, own_tree, tree_over}
use Rattle.plir_data.specs.declared.types.FunctionType.{FunctionType}
use Rattle.plir_data.specs.declared.types.TypeObj.TheVariants.{Integer, Function, Unit, Own}
use Rattle.plir_data.specs.{TypeSeen.type_view, declared.types.TypeObj.TypeObj}
use Rattle.plir_attr_text.specs.{Terms.type_levels, Writable.type_term}

-- the type itself is a level
pub some_level : {T : Type 0} (t : TypeTree T) → type_levels (type_term t) ≤ 0 → ⊥
some_level (integer_tree s w) h = omega arith
some_level (function_tree as_ rs) h = omega arith
some_level unit_tree h = omega arith
some_level (own_tree t) h = omega arith

-- and the only one where it is no type of functions
pub one_level : {D K A T E : Type 0} (grown : ℕ → TypeTree T) (x : TypeObj D K A T E) →
    ((f : FunctionType) → x ≡ Function f → ⊥) → type_levels (type_term (tree_over grown (type_view x))) ≡ 1
one_level grown (Integer i) other = refl
one_level grown (Function f) other = absurd (other f refl)
one_level grown (Unit u) other = refl
one_level grown (Own t) other = refl

-- a type of functions has one more than the types in it
pub function_levels : (a b most : ℕ) (r : Bool) → (most ≡ 0 → ⊥) → (IsTrue r ↔ ((a ≤ most - 1) × (b ≤ most - 1))) →
    IsTrue r ↔ (suc (max a b) ≤ most)
function_levels a b most r some inner = (
  λ t. let h = inner.0 t in let left : a ≤ most - 1 = h.0 in let right : b ≤ most - 1 = h.1 in omega arith,
  λ h. inner.1 (omega arith, omega arith),
)
