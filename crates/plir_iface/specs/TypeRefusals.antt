-- How the rules of types are refused: a fault of the types, and what an error reports of it.
use Rattle.std.specs.Prelude.{◌≡◌, ◌<◌, ℕ, List, [], length, Bool, Option, string_bytes}
use Rattle.std.specs.Option.{option_map_or, option_and_then}
use Rattle.plir_data.specs.OwnParts.{Part}
use Rattle.plir_data.specs.Types.{TypeView, type_at, type_id}
use Rattle.plir_data.specs.TypeText.{type_text}
use Rattle.plir_data.specs.declared.location.VerifyErr.{VerifyErr}
use Rattle.plir_core.specs.declared.ptr.Ptr.{Ptr}
use Rattle.plir_core.specs.declared.ptr.Operation.{Operation as OperationKind}
use Rattle.plir_core.specs.ContextView.{ContextView}
use Rattle.plir_iface.specs.Sides.{type_in, types_on}
use Rattle.plir_iface.specs.Places.{NeedsMore, IsLongEnough, IsAmong, signed}
use Rattle.plir_iface.specs.TypeRules.{FailsFirst}
use Rattle.plir_iface.specs.Verdict.{IsRefusal, IsRefusalMemoryAside}
use Rattle.plir_iface.specs.declared.places.Places.TheVariants.{At, Within}
use Rattle.plir_iface.specs.declared.{places.Places.Places, side.Side.Side}
use Rattle.plir_iface.specs.declared.side.Side.TheVariants.{Operands, Results}
use Rattle.plir_iface.specs.declared.counts.NotEnoughOperandsErr.{NotEnoughOperandsErr}
use Rattle.plir_iface.specs.declared.counts.NotEnoughResultsErr.{NotEnoughResultsErr}
use Rattle.plir_iface.specs.declared.type_errors.AllOperandsOfTypeVerifyErr.{AllOperandsOfTypeVerifyErr}
use Rattle.plir_iface.specs.declared.type_errors.AllResultsOfTypeVerifyErr.{AllResultsOfTypeVerifyErr}
use Rattle.plir_iface.specs.declared.type_errors.{OtherKind.OtherKind, TooFew.TooFew as FewValues, TypeFault.TypeFault}
use Rattle.plir_iface.specs.declared.type_errors.{TypeMismatch.TypeMismatch, TypeRuleErr.TypeRuleErr}
use Rattle.plir_iface.specs.declared.type_errors.TypeFault.TheVariants.{Few, Wrong}
use Rattle.plir_iface.specs.declared.type_errors.TypeInterfaceImplsErr.{TypeInterfaceImplsErr}
use Rattle.plir_iface.specs.declared.type_errors.TypeInterfaceImplsErr.TheVariants.{Operand, Result, Segment}
use Rattle.plir_iface.specs.declared.type_errors.OperandNOfTypeError.{OperandNOfTypeError}
use Rattle.plir_iface.specs.declared.type_errors.OperandNOfTypeError.TheVariants.{
  AllOperandsOfTypeVerifyErr as OperandOfOtherKind,
}
use Rattle.plir_iface.specs.declared.type_errors.ResultNOfTypeError.{ResultNOfTypeError}
use Rattle.plir_iface.specs.declared.type_errors.ResultNOfTypeError.TheVariants.{
  AllResultsOfTypeVerifyErr as ResultOfOtherKind,
}
use Rattle.plir_iface.specs.declared.type_errors.OperandsMNOfTypeError.{OperandsMNOfTypeError}
use Rattle.plir_iface.specs.declared.type_errors.OperandsMNOfTypeError.TheVariants.{NotEnoughOperands}
use Rattle.plir_iface.specs.declared.type_errors.OperandsMNOfTypeError.TheVariants.{
  UnexpectedType as UnexpectedOperandType,
}
use Rattle.plir_iface.specs.declared.type_errors.ResultsMNOfTypeError.{ResultsMNOfTypeError}
use Rattle.plir_iface.specs.declared.type_errors.ResultsMNOfTypeError.TheVariants.{NotEnoughResults}
use Rattle.plir_iface.specs.declared.type_errors.ResultsMNOfTypeError.TheVariants.{
  UnexpectedType as UnexpectedResultType,
}
use Rattle.plir_iface.specs.declared.type_errors.TypeRuleErr.TheVariants.{TooFew, WrongType}

-- the id of the type at an index, and its text
abbrev pub id_in : {K A T : Type 0} (own_id : T → List ℕ) → ContextView K A T → List (Option ℕ) → ℕ → List ℕ
id_in own_id s ts i = option_map_or (type_id own_id) (option_and_then (type_at s.types) (type_in ts i)) []

abbrev pub text_in : {K A T : Type 0} (own_id : T → List ℕ) (own_body : T → List Part)
    → ContextView K A T →
    List (Option ℕ) → ℕ → List ℕ
text_in own_id own_body s ts i = option_map_or (type_text own_id own_body s.types) (type_in ts i) []

module _ {K A T : Type 0} (passes : TypeView T → Bool) (name : List ℕ) (own_id : T → List ℕ)
    (s : ContextView K A T) where
  -- the first of these indices whose type fails the test, with the name of what is asked for and the id of that type
  abbrev pub IsMisfit : Side → (among : ℕ → Type 0) → List (Option ℕ) → TypeMismatch → Type 0
  IsMisfit side among ts m = (m.side ≡ side) × FailsFirst passes s among ts m.place × (m.wanted.now ≡ name) ×
      (m.found.now ≡ id_in own_id s ts m.place)

  -- How types break the rule of some indices: there are too few, and so many are needed; or there are enough, and this
  -- is the first that fails.
  abbrev pub IsFault : Side → Places → List (Option ℕ) → TypeFault → Type 0
  IsFault side places ts (Few few) = (few.found ≡ length ts) × NeedsMore places (length ts) few.needed
  IsFault side places ts (Wrong m) = IsLongEnough places (length ts) × IsMisfit side (IsAmong places (length ts)) ts m

  -- An error reports, as R says, of the first type of an operation's side that fails the test; or of how they break the
  -- rule of some indices.
  abbrev pub ReportsMisfit : {E : Type 0} → Ptr OperationKind → Side → (R : TypeMismatch → E → Type 0) → E → Type 0
  ReportsMisfit op side R e = let ts = types_on side s op in (m : TypeMismatch) ×
      (IsMisfit side (λ i. i < length ts) ts m × R m e)

  abbrev pub ReportsTypeFault : {E : Type 0} → Ptr OperationKind → Side → Places → (R : TypeFault → E → Type 0) → E →
      Type 0
  ReportsTypeFault op side places R e = (f : TypeFault) × (IsFault side places (types_on side s op) f × R f e)

  -- the same of the first that fails, by its text
  abbrev pub IsOtherKind : (own_body : T → List Part) → List (Option ℕ) → OtherKind → Type 0
  IsOtherKind own_body ts o =
      (o.wanted.now ≡ name) × ((i : ℕ) × (FailsFirst passes s (λ i. i < length ts) ts i ×
      (string_bytes o.found ≡ text_in own_id own_body s ts i)))

  abbrev pub ReportsOtherKind : {E : Type 0} → (own_body : T → List Part) → Ptr OperationKind → Side →
      (R : OtherKind → E → Type 0) → E → Type 0
  ReportsOtherKind own_body op side R e = (o : OtherKind) × (IsOtherKind own_body (types_on side s op) o × R o e)

-- What an error reports of a fault.
abbrev pub ReportsFewOperands : FewValues → NotEnoughOperandsErr → Type 0
ReportsFewOperands few e = (e.0 ≡ few.found) × (e.1 ≡ few.needed)

abbrev pub ReportsFewResults : FewValues → NotEnoughResultsErr → Type 0
ReportsFewResults few e = (e.0 ≡ few.found) × (e.1 ≡ few.needed)

abbrev pub ReportsOtherOperand : OtherKind → AllOperandsOfTypeVerifyErr → Type 0
ReportsOtherOperand o e = (e.0 ≡ o.wanted) × (string_bytes e.1 ≡ string_bytes o.found)

abbrev pub ReportsOtherResult : OtherKind → AllResultsOfTypeVerifyErr → Type 0
ReportsOtherResult o e = (e.0 ≡ o.wanted) × (string_bytes e.1 ≡ string_bytes o.found)

abbrev pub ReportsImpls : TypeMismatch → TypeInterfaceImplsErr → Type 0
ReportsImpls m (Operand i name id) = (m.side ≡ Operands) × (i ≡ m.place) × (name ≡ m.wanted) × (id ≡ m.found)
ReportsImpls m (Result i name id) = (m.side ≡ Results) × (i ≡ m.place) × (name ≡ m.wanted) × (id ≡ m.found)
ReportsImpls m (Segment i name id) = ⊥

abbrev pub ReportsOperandN : TypeMismatch → OperandNOfTypeError → Type 0
ReportsOperandN m (OperandOfOtherKind name id) = (name ≡ m.wanted) × (id ≡ m.found)

abbrev pub ReportsResultN : TypeMismatch → ResultNOfTypeError → Type 0
ReportsResultN m (ResultOfOtherKind name id) = (name ≡ m.wanted) × (id ≡ m.found)

abbrev pub ReportsOperandsMN : TypeFault → OperandsMNOfTypeError → Type 0
ReportsOperandsMN (Few few) (NotEnoughOperands found needed) = (found ≡ few.found) × (needed ≡ few.needed)
ReportsOperandsMN (Wrong m) (UnexpectedOperandType i name id) = (i ≡ m.place) × (name ≡ m.wanted) × (id ≡ m.found)
ReportsOperandsMN _ _ = ⊥

abbrev pub ReportsResultsMN : TypeFault → ResultsMNOfTypeError → Type 0
ReportsResultsMN (Few few) (NotEnoughResults found needed) = (found ≡ few.found) × (needed ≡ few.needed)
ReportsResultsMN (Wrong m) (UnexpectedResultType i name id) = (i ≡ m.place) × (name ≡ m.wanted) × (id ≡ m.found)
ReportsResultsMN _ _ = ⊥

-- too few values are reported as P says, and a wrong type as Q does
abbrev pub ReportsRule : {F E : Type 0} → (P : FewValues → F → Type 0) (Q : TypeMismatch → E → Type 0) → TypeFault →
    TypeRuleErr F E → Type 0
ReportsRule P Q (Few few) (TooFew e) = P few e
ReportsRule P Q (Wrong m) (WrongType e) = Q m e
ReportsRule P Q _ _ = ⊥

-- How an operation breaks a rule of types: the refusal is at the operation's location.
module _ {K A T : Type 0} (marks : TypeView T → Bool) (name : List ℕ) (own_id : T → List ℕ) (s : ContextView K A T)
    (op : Ptr OperationKind) where
  -- by the first type of a side that is of another kind, or does not implement an interface; or by how they break the
  -- rule of some indices: an error reports it as R says
  abbrev pub IsKindRefusal : {E : Type 0} → Side → (R : OtherKind → E → Type 0) (own_body : T → List Part) →
      VerifyErr E → Type 0
  IsKindRefusal side R own_body = IsRefusalMemoryAside s op (ReportsOtherKind marks name own_id s own_body op side R)

  abbrev pub IsEachRefusal : Side → VerifyErr TypeInterfaceImplsErr → Type 0
  IsEachRefusal side = IsRefusal s op (ReportsMisfit marks name own_id s op side ReportsImpls)

  abbrev pub IsPlacesRefusal : {E : Type 0} → Side → Places → (R : TypeFault → E → Type 0) → VerifyErr E → Type 0
  IsPlacesRefusal side places R = IsRefusal s op (ReportsTypeFault marks name own_id s op side places R)

  -- each word named after its interface
  abbrev pub IsAllOperandsOfTypeRefusal : (own_body : T → List Part) → VerifyErr AllOperandsOfTypeVerifyErr → Type 0
  IsAllOperandsOfTypeRefusal = IsKindRefusal Operands ReportsOtherOperand

  abbrev pub IsAllResultsOfTypeRefusal : (own_body : T → List Part) → VerifyErr AllResultsOfTypeVerifyErr → Type 0
  IsAllResultsOfTypeRefusal = IsKindRefusal Results ReportsOtherResult

  abbrev pub IsAllOperandsImplsTyRefusal : VerifyErr TypeInterfaceImplsErr → Type 0
  IsAllOperandsImplsTyRefusal = IsEachRefusal Operands

  abbrev pub IsAllResultsImplsTyRefusal : VerifyErr TypeInterfaceImplsErr → Type 0
  IsAllResultsImplsTyRefusal = IsEachRefusal Results

  abbrev pub IsOperandNOfTypeRefusal : ℕ → VerifyErr (TypeRuleErr NotEnoughOperandsErr OperandNOfTypeError) → Type 0
  IsOperandNOfTypeRefusal n = IsPlacesRefusal Operands (At n) (ReportsRule ReportsFewOperands ReportsOperandN)

  abbrev pub IsResultNOfTypeRefusal : ℕ → VerifyErr (TypeRuleErr NotEnoughResultsErr ResultNOfTypeError) → Type 0
  IsResultNOfTypeRefusal n = IsPlacesRefusal Results (At n) (ReportsRule ReportsFewResults ReportsResultN)

  abbrev pub IsOperandNImplsTyRefusal : ℕ → VerifyErr (TypeRuleErr NotEnoughOperandsErr TypeInterfaceImplsErr) → Type 0
  IsOperandNImplsTyRefusal n = IsPlacesRefusal Operands (At n) (ReportsRule ReportsFewOperands ReportsImpls)

  abbrev pub IsResultNImplsTyRefusal : ℕ → VerifyErr (TypeRuleErr NotEnoughResultsErr TypeInterfaceImplsErr) → Type 0
  IsResultNImplsTyRefusal n = IsPlacesRefusal Results (At n) (ReportsRule ReportsFewResults ReportsImpls)

  abbrev pub IsOperandsMNOfTypeRefusal : (m n : ℕ) → VerifyErr OperandsMNOfTypeError → Type 0
  IsOperandsMNOfTypeRefusal m n = IsPlacesRefusal Operands (Within m (signed n)) ReportsOperandsMN

  abbrev pub IsResultsMNOfTypeRefusal : (m n : ℕ) → VerifyErr ResultsMNOfTypeError → Type 0
  IsResultsMNOfTypeRefusal m n = IsPlacesRefusal Results (Within m (signed n)) ReportsResultsMN

  abbrev pub IsOperandsMNImplsTyRefusal : (m n : ℕ) →
      VerifyErr (TypeRuleErr NotEnoughOperandsErr TypeInterfaceImplsErr) → Type 0
  IsOperandsMNImplsTyRefusal m n = IsPlacesRefusal Operands (Within m (signed n))
      (ReportsRule ReportsFewOperands ReportsImpls)

  abbrev pub IsResultsMNImplsTyRefusal : (m n : ℕ) → VerifyErr (TypeRuleErr NotEnoughResultsErr TypeInterfaceImplsErr) →
      Type 0
  IsResultsMNImplsTyRefusal m n = IsPlacesRefusal Results (Within m (signed n))
      (ReportsRule ReportsFewResults ReportsImpls)
