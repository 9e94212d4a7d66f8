-- When a module or a function can be read.
use Rattle.std.proofs.Common.{◌≡◌, ◌↔◌, ℕ, Bool, List, length, All, IsTrue, subst, sym}
use Rattle.std.proofs.lemmas.List.{nil_from_length}
use Rattle.plir_data.specs.AttrView.{AttrView}
use Rattle.plir_data.specs.Dictionary.{IsDictionary}
use Rattle.plir_core.specs.declared.ptr.Ptr.{Ptr}
use Rattle.plir_core.specs.declared.ptr.Operation.{Operation as OperationKind}
use Rattle.plir_core.specs.declared.ptr.IRNode.TheVariants.{Operation}
use Rattle.plir_core.specs.ContextView.{ContextView, children, attributes_of, result_types_of}
use Rattle.plir_roundtrip.specs.Readable.{IsEntryReadable, IsBodyReadable}
use Rattle.plir_roundtrip.proofs.Asked.{one_long}

pub body_when : {K A T : Type 0} (s : ContextView K A T) (p : Ptr OperationKind) (es : List (List ℕ × AttrView A))
    (r : Bool) → length (result_types_of s p) ≡ 0 → length (children s (Operation p)) ≡ 1 → es ≡ attributes_of s p
    → IsDictionary es
    → (IsTrue r ↔ All (λ e. IsEntryReadable s.types e.0 e.1) es) → IsTrue r ↔ IsBodyReadable s p
body_when s p es r none one is ascending each =
    let only = one_long (children s (Operation p)) one in (
      λ t. record {
        results = nil_from_length (result_types_of s p) none;
        region = only.0;
        body = only.1;
        dictionary = subst IsDictionary is ascending;
        entries = subst (All (λ e. IsEntryReadable s.types e.0 e.1)) is (each.0 t);
      },
      λ b. each.1 (subst (All (λ e. IsEntryReadable s.types e.0 e.1)) (sym is) b.entries),
    )
