-- Where the parts of a text stand in which types are written.
use Rattle.std.proofs.Common.{◌≡◌, ℕ, zero, suc, ◌-◌, ◌<◌, List, Ok, inl, inr, subst, arith}
use Rattle.plir_attr_text.specs.TypesIn.{IsInTypeBody, IsInType, IsInFunction, IsInTypes, IsInEntry, IsInAttr}
use Rattle.plir_attr_text.specs.TypesIn.{IsBehindId}
use Rattle.plir_attr_text.specs.{declared.words.TypeKind.TypeKind, declared.attr_words.AttrKind.AttrKind}
use Rattle.plir_attr_text.specs.{Terms.TypeTerm, Lists.sign_at, Lists.items_at, TypeReading.arrow_at}
use Rattle.plir_attr_text.specs.{TypeReading.type_head, TypeReading.type_at, AttrReading.name_at, AttrReading.attr_head}

-- behind the id of a type
pub in_type : (n : ℕ) (bytes rest : List ℕ) (k : TypeKind) → 0 < n → type_head bytes ≡ Ok (k, rest) → (t : TypeTerm) →
    IsInTypeBody (type_at (n - 1)) (IsInType (n - 1)) k rest t → IsInType n bytes t
unfolding IsInType
in_type zero bytes rest k lt e t w = absurd (omega arith)
in_type (suc n) bytes rest k lt e t w = let m : suc n - 1 ≡ n = omega arith in
    ((k, rest), e, subst (λ j. IsInTypeBody (type_at j) (IsInType j) k rest t) m w)

pub in_arguments : (n : ℕ) (bytes start : List ℕ) → sign_at 60 bytes ≡ Ok start → (t : TypeTerm) → IsInTypes n start t →
    IsInFunction n bytes t
in_arguments n bytes start e t w = inr (start, e, inl w)

pub in_results : (n : ℕ) (bytes start first behind : List ℕ) (as_ : List TypeTerm) → sign_at 60 bytes ≡ Ok start →
    items_at 40 41 (type_at n) start ≡ Ok (as_, first) → arrow_at first ≡ Ok behind → (t : TypeTerm) →
    IsInTypes n behind t → IsInFunction n bytes t
in_results n bytes start first behind as_ e i a t w = inr (start, e, inr ((as_, first), behind, i, a, w))

pub in_entry : (is_in : List ℕ → TypeTerm → Type 0) (bytes key rest behind : List ℕ) → name_at bytes ≡ Ok (key, rest) →
    sign_at 61 rest ≡ Ok behind → (t : TypeTerm) → is_in behind t → IsInEntry is_in bytes t
in_entry is_in bytes key rest behind n s t w = ((key, rest), behind, n, s, w)

-- behind the id of an attribute
pub in_attr : (n : ℕ) (bytes rest : List ℕ) (k : AttrKind) → 0 < n → attr_head bytes ≡ Ok (k, rest) → (t : TypeTerm) →
    IsBehindId (n - 1) k rest t → IsInAttr n bytes t
unfolding IsInAttr
in_attr zero bytes rest k lt e t w = absurd (omega arith)
in_attr (suc n) bytes rest k lt e t w = let m : suc n - 1 ≡ n = omega arith in
    ((k, rest), e, subst (λ j. IsBehindId j k rest t) m w)
