-- An id is a word with a point in it.
use Rattle.std.proofs.Common.{◌≡◌, ◌||◌, ◌+◌, ◌<◌, ℕ, suc, Bool, true, false, eqb, List, [], ◌∷◌, ◌++◌, get_or, length}
use Rattle.std.proofs.Common.{take, drop, refl, sym, ap, ap₂, ◌∙◌, arith, add-one}
use Rattle.std.proofs.Math.Seq.{take-append_seam}
use Rattle.std.proofs.lemmas.Bool.{and_parts, eqb-true}
use Rattle.std.proofs.lemmas.Bool.Decides.{nat_tests}
use Rattle.std.proofs.lemmas.List.{length-append}
use Rattle.std.proofs.lemmas.List.Sums.{passes_at_first, split_at_first}
use Rattle.std.specs.List.{after_first, before_first, position_or_len}
use Rattle.std.specs.Prelude.{nat_eq}
use Rattle.plir_data.specs.Identifier.{is_letter, is_digit, all_in_identifier, is_identifier}
use Rattle.plir_attr_text.specs.Bytes.{all_pass, is_in_name}
use Rattle.plir_attr_text.specs.laws.Printed.{has_one_point, is_word}
use Rattle.plir_read_own.specs.OwnGrammar.{has_point}
use Rattle.plir_roundtrip.specs.IrReadable.{IsId}

-- ---- a point

or_right : (a b : Bool) → b ≡ true → (a || b) ≡ true
or_right true b e = refl
or_right false b e = e

point_in : (w rest : List ℕ) → has_point (w ++ 46 ∷ rest) ≡ true
point_in [] rest = refl
point_in (b ∷ w) rest = or_right (nat_eq b 46) (has_point (w ++ 46 ∷ rest)) (point_in w rest)

pub id_has_point : (id : List ℕ) → IsId id → has_point id ≡ true
id_has_point id i = ap has_point i.parts ∙ point_in i.dialect i.name

-- ---- a word

name_passes : (w : List ℕ) → all_in_identifier w ≡ true → all_pass is_in_name w ≡ true
name_passes [] h = refl
name_passes (b ∷ w) h = let g = and_parts (is_letter b || is_digit b) (all_in_identifier w) h in
    rw (g.0, name_passes w g.1) refl

behind_point : (w : List ℕ) → is_identifier w ≡ true → has_one_point (46 ∷ w) ≡ true
behind_point [] h = absurd cc
behind_point (b ∷ w) h = let g = and_parts (is_letter b) (all_in_identifier w) h in
    rw (g.0, name_passes w g.1) refl

one_point : (w rest : List ℕ) → all_in_identifier w ≡ true → has_one_point (46 ∷ rest) ≡ true
    → has_one_point (w ++ 46 ∷ rest) ≡ true
one_point [] rest h p = p
one_point (b ∷ w) rest h p = let g = and_parts (is_letter b || is_digit b) (all_in_identifier w) h in
    rw (g.0, one_point w rest g.1 p) refl

joined_word : (w rest : List ℕ) → is_identifier w ≡ true → has_one_point (46 ∷ rest) ≡ true
    → is_word (w ++ 46 ∷ rest) ≡ true
joined_word [] rest h p = absurd cc
joined_word (b ∷ w) rest h p = let g = and_parts (is_letter b) (all_in_identifier w) h in
    rw (g.0, one_point w rest g.1 p) refl

pub id_is_word : (id : List ℕ) → IsId id → is_word id ≡ true
id_is_word id i = ap is_word i.parts ∙ joined_word i.dialect i.name i.is_dialect (behind_point i.name i.is_name)

-- ---- the parts of an id

-- a point
abbrev pub is_dot : ℕ → Bool
is_dot b = eqb b 46

no_dot : (b : ℕ) → (is_letter b || is_digit b) ≡ true → eqb b 46 ≡ false
no_dot b h = grind (arith, nat_tests)

dot_behind : (w rest : List ℕ) → all_in_identifier w ≡ true → position_or_len is_dot (w ++ 46 ∷ rest) ≡ length w
dot_behind [] rest h = refl
dot_behind (b ∷ w) rest h =
    let g = and_parts (is_letter b || is_digit b) (all_in_identifier w) h in
    rw (no_dot b g.0, dot_behind w rest g.1) (omega arith)

in_identifier : (w : List ℕ) → is_identifier w ≡ true → all_in_identifier w ≡ true
in_identifier [] h = absurd cc
in_identifier (b ∷ w) h =
    let g = and_parts (is_letter b) (all_in_identifier w) h in rw (g.0, g.1) refl

module _ (id : List ℕ) (i : IsId id) where
  dot_at : position_or_len is_dot id ≡ length i.dialect
  dot_at = ap (position_or_len is_dot) i.parts ∙ dot_behind i.dialect i.name (in_identifier i.dialect i.is_dialect)

  pub dialect_is : before_first is_dot id ≡ i.dialect
  dialect_is =
      ap (λ n. take n id) dot_at ∙ ap (take (length i.dialect)) i.parts ∙ take-append_seam i.dialect (46 ∷ i.name)

  pub name_is : after_first is_dot id ≡ i.name
  name_is =
      ap (λ n. drop (n + 1) id) dot_at ∙ ap (drop (length i.dialect + 1)) i.parts ∙ one_past i.dialect i.name
    where
      one_past : (w rest : List ℕ) → drop (length w + 1) (w ++ 46 ∷ rest) ≡ rest
      one_past w rest = rw add-one (past_it w rest)
        where
          past_it : (w rest : List ℕ) → drop (suc (length w)) (w ++ 46 ∷ rest) ≡ rest
          past_it [] rest = refl
          past_it (b ∷ w) rest = past_it w rest

  pub dot_within : position_or_len is_dot id ≡ length id → ⊥
  dot_within e =
      let long : length id ≡ length i.dialect + suc (length i.name) =
      ap (λ (l : List ℕ). length l) i.parts ∙ length-append i.dialect (46 ∷ i.name) in
      let at = dot_at in
      omega (arith, e, at, long)

-- what is split at its first point is an id, if both parts are names
pub id_from : (id dialect name : List ℕ) → position_or_len is_dot id < length id → dialect ≡ before_first is_dot id
    → name ≡ after_first is_dot id → is_identifier dialect ≡ true → is_identifier name ≡ true → IsId id
id_from id dialect name lt e f h g =
    let dot : get_or id (position_or_len is_dot id) 0 ≡ 46 =
    eqb-true (get_or id (position_or_len is_dot id) 0) 46 (passes_at_first is_dot id 0 lt) in
    record {
      dialect = dialect;
      name = name;
      is_dialect = h;
      is_name = g;
      parts =
          split_at_first is_dot id 0 lt
          ∙ ap (λ b. before_first is_dot id ++ b ∷ after_first is_dot id) dot
          ∙ ap₂ (λ x y. x ++ 46 ∷ y) (sym e) (sym f);
    }
