-- The types of what is forwarded, beside those of a block's arguments.
use Rattle.std.proofs.Common.{◌≡◌, ℕ, zero, suc, ◌+◌, ◌-◌, ◌<◌, ◌≤◌, List, [], ◌∷◌, length, take, drop, Option, Some}
use Rattle.std.proofs.Common.{inl, inr, true, false, not, eqb, refl, sym, ap, ◌∙◌, arith}
use Rattle.std.specs.Prelude.{slice_get, slice_index_or, slice_range, option_map, option_and_then}
use Rattle.std.proofs.lemmas.List.{length-map, same_lists}
use Rattle.std.proofs.lemmas.List.Edits.{length-between}
use Rattle.std.proofs.lemmas.Option.{slice_get-map, slice_get-get_or}
use Rattle.std.proofs.lemmas.Bool.{cases_eq}
use Rattle.plir_core.specs.declared.ptr.Ptr.{Ptr}
use Rattle.plir_core.specs.declared.ptr.Operation.{Operation as OperationKind}
use Rattle.plir_core.specs.declared.ptr.BasicBlock.{BasicBlock as BasicBlockKind}
use Rattle.plir_core.specs.declared.value.Value.{Value}
use Rattle.plir_core.specs.ContextView.{ContextView, operands_of, arg_types_of, type_of_value}
use Rattle.plir_iface.specs.Sides.{type_in}
use Rattle.plir_flow.specs.Branches.{operands_within, types_within, argument_types}

module _ {X : Type 0} where
  get-take : (n : ℕ) (xs : List X) (k : ℕ) → k < n → slice_get (take n xs) k ≡ slice_get xs k
  get-take zero xs k h = absurd (omega arith)
  get-take (suc n) [] k h = refl
  get-take (suc n) (x ∷ xs) zero h = refl
  get-take (suc n) (x ∷ xs) (suc k) h = get-take n xs k (omega arith)

  get-drop : (a : ℕ) (xs : List X) (k : ℕ) → slice_get (drop a xs) k ≡ slice_get xs (a + k)
  get-drop zero xs k = let e : k ≡ 0 + k = omega arith in ap (slice_get xs) e
  get-drop (suc a) [] k = refl
  get-drop (suc a) (x ∷ xs) k =
      let e : suc (a + k) ≡ suc a + k = omega arith in get-drop a xs k ∙ ap (slice_get (x ∷ xs)) e

  -- what stands in a range
  pub get-range : (xs : List X) (a b k : ℕ) → a + k < b → slice_get (slice_range xs a b) k ≡ slice_get xs (a + k)
  get-range xs a b k h = get-take (b - a) (drop a xs) k (omega arith) ∙ get-drop a xs k

module _ {K A T : Type 0} (s : ContextView K A T) where
  module _ (op : Ptr OperationKind) (a b : ℕ) where
    pub count-within : b ≤ length (operands_of s op) → length (types_within s op (a, b)) ≡ b - a
    count-within inside =
        length-map (operands_within s op (a, b)) (type_of_value s) ∙ length-between (operands_of s op) a b inside

    pub given-is : (k : ℕ) (v : Value) (t : ℕ) → a + k < b → slice_get (operands_of s op) (a + k) ≡ Some v
        → type_of_value s v ≡ Some t → type_in (types_within s op (a, b)) k ≡ Some t
    given-is k v t within at typed =
        ap (option_and_then (λ u. u)) (
        slice_get-map (type_of_value s) (operands_within s op (a, b)) k
        ∙ ap (option_map (type_of_value s)) (get-range (operands_of s op) a b k within ∙ at))
        ∙ typed

  module _ (b : Ptr BasicBlockKind) where
    pub count-arguments : length (argument_types s b) ≡ length (arg_types_of s b)
    count-arguments = length-map (arg_types_of s b) Some

    pub wanted-is : (k t : ℕ) → slice_get (arg_types_of s b) k ≡ Some t → type_in (argument_types s b) k ≡ Some t
    wanted-is k t at = ap (option_and_then (λ u. u)) (slice_get-map Some (arg_types_of s b) k ∙ ap (option_map Some) at)

type-there : (ts : List (Option ℕ)) (k : ℕ) (d : Option ℕ) → k < length ts → type_in ts k ≡ slice_index_or ts k d
type-there ts k d h = ap (option_and_then (λ u. u)) (slice_get-get_or ts k d h)

-- lists of types are the same where they are at each place
pub same-types : (given wanted : List (Option ℕ)) → length given ≡ length wanted
    → ((k : ℕ) → k < length wanted → type_in given k ≡ type_in wanted k) → given ≡ wanted
same-types given wanted len alike =
    same_lists given wanted len (λ k d h. let within : k < length wanted = omega (arith, len) in
    sym (type-there given k d h) ∙ alike k within ∙ type-there wanted k d within)

-- one more place where they are the same
pub next-alike : (given wanted : List (Option ℕ)) (i t u : ℕ) → ((k : ℕ) → k < i → type_in given k ≡ type_in wanted k)
    → type_in given i ≡ Some t → type_in wanted i ≡ Some u → t ≡ u
    → (k : ℕ) → k < i + 1 → type_in given k ≡ type_in wanted k
next-alike given wanted i t u before here there same k h = elim (cases_eq k i) [
  | inl e ↦ ap (type_in given) e ∙ here ∙ ap (λ n. Some n) same ∙ sym there ∙ ap (type_in wanted) (sym e)
  | inr n ↦ before k (omega arith)
]

-- what a test of two handles says
pub differ : (t u : ℕ) → true ≡ not (eqb t u) → t ≡ u → ⊥
differ t u h e = grind arith

pub alike : (t u : ℕ) → false ≡ not (eqb t u) → t ≡ u
alike t u h = grind arith
