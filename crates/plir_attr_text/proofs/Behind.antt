-- What stands behind the id of an attribute, or of a type, as the whole is read.
use Rattle.std.specs.Borrow.{Bor}
use Rattle.std.proofs.Common.{◌≡◌, ℕ, ◌-◌, ◌≤◌, List, Result, ap, ◌∙◌, arith}
use Rattle.plir_data.specs.{AttrSeen.attr_view, AttrView.AttrView, Types.TypeView, declared.attributes.AttrObj.AttrObj}
use Rattle.plir_attr_text.specs.declared.{fault.Fault.Fault, fault.Stop.Stop, words.TypeKind.TypeKind}
use Rattle.plir_attr_text.specs.declared.attr_words.AttrKind.{AttrKind}
use Rattle.plir_attr_text.specs.laws.{AttrSteps.attr_at-body, AttrSteps.Reads-from, AttrSteps.leaf_read}
use Rattle.plir_attr_text.specs.laws.{TypeSteps.type_at-body, Growth.Adds-on, Growth.Adds-as}
use Rattle.plir_attr_text.specs.{Terms.TypeTerm, Terms.AttrTerm, Meaning.IsMeant, MeantBy.IsMeantBy, Steps.read_as}
use Rattle.plir_attr_text.specs.{AttrReading.attr_head, AttrReading.attr_body, AttrReading.attr_at, Reading.Gives}
use Rattle.plir_attr_text.specs.{TypeReading.type_head, TypeReading.type_body, TypeReading.type_at}
use Rattle.plir_attr_text.specs.{TypeReading.arrow_at, TypesIn.IsInTypes, TypesIn.IsInFunction, Lists.sign_at}
use Rattle.plir_attr_text.specs.{Lists.items_at, TypesIn.IsInTypeBody, TypesIn.IsInType, TypesIn.IsInAttr}
use Rattle.plir_attr_text.specs.{TypesIn.IsBehindId, Names.Adds, Reading.Reads, Reading.ReadsFirst, laws.StepLaws.done}
use Rattle.plir_attr_text.proofs.TypesIn.{in_type, in_attr, in_arguments, in_results}

module _ (n : ℕ) (bytes : List ℕ) {rest : List ℕ} {j k : AttrKind} (some : 1 ≤ n)
    (head : attr_head bytes ≡ done (j, rest)) (is : j ≡ k) where
  attr_id : attr_head bytes ≡ done (k, rest)
  attr_id = head ∙ ap (λ i. done (i, rest)) is

  pub attr_behind : attr_at n bytes ≡ attr_body (n - 1) (attr_at (n - 1)) k rest
  attr_behind = attr_at-body n bytes rest k (omega (arith, some)) attr_id

  pub attr_reads : {X : Type 0} (means : X → AttrTerm × List ℕ → Type 0) (r : Result X Stop) →
      Reads means r (attr_body (n - 1) (attr_at (n - 1)) k rest) → Reads means r (attr_at n bytes)
  attr_reads means r p = Reads-from means r _ _ attr_behind p

  pub attr_kept : {S T : Type 0} {types : S → List (TypeView T)} {same : S → S → Type 0} {a b : S} →
      Adds types same (IsBehindId (n - 1) k rest) a b → Adds types same (IsInAttr n bytes) a b
  attr_kept p = Adds-as (in_attr n bytes rest k (omega (arith, some)) attr_id) _ _ p

  -- an attribute that holds no other
  pub leaf_reads : {W D K A T E : Type 0} (table : List (TypeView T)) (view : W → AttrView A) (term : W → AttrTerm) →
      ((w : W) → IsMeant table (term w) (view w)) → (read : Result (W × List ℕ) Fault) →
      attr_body (n - 1) (attr_at (n - 1)) k rest ≡ read_as term read →
      (r : Result (AttrObj D K A T E × Bor (List ℕ)) Stop) →
      Gives (λ x. (attr_view x.0, x.1.now)) r (read_as view read) → ReadsFirst (IsMeantBy table) r (attr_at n bytes)
  leaf_reads table view term meant read same r given =
      leaf_read table (λ x. attr_view x.0) (λ x. x.1.now) view term meant r read _ (attr_behind ∙ same) given

module _ (n : ℕ) (bytes : List ℕ) {rest : List ℕ} {j k : TypeKind} (some : 1 ≤ n)
    (head : type_head bytes ≡ done (j, rest)) (is : j ≡ k) where
  type_id : type_head bytes ≡ done (k, rest)
  type_id = head ∙ ap (λ i. done (i, rest)) is

  pub type_behind : type_at n bytes ≡ type_body (type_at (n - 1)) k rest
  type_behind = type_at-body n bytes rest k (omega (arith, some)) type_id

  pub in_type_behind : (t : TypeTerm) → IsInTypeBody (type_at (n - 1)) (IsInType (n - 1)) k rest t → IsInType n bytes t
  in_type_behind t w = in_type n bytes rest k (omega (arith, some)) type_id t w

-- the types of arguments, and then those of results, are written in a function type
pub both_kept : {S T : Type 0} {types : S → List (TypeView T)} {same : S → S → Type 0} →
    ((a b c : S) → same a b → same b c → same a c) → (n : ℕ) → (bytes : List ℕ) →
    {start first behind : List ℕ} → {as_ : List TypeTerm} → {a b c : S} → sign_at 60 bytes ≡ done start →
    items_at 40 41 (type_at n) start ≡ done (as_, first) → arrow_at first ≡ done behind →
    Adds types same (IsInTypes n start) a b → Adds types same (IsInTypes n behind) b c →
    Adds types same (IsInFunction n bytes) a c
both_kept on n bytes e i w p q =
    Adds-on on _ _ _ (Adds-as (in_arguments n _ _ e) _ _ p) (Adds-as (in_results n _ _ _ _ _ e i w) _ _ q)
