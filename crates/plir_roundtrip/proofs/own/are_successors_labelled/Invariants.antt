use Rattle.std.proofs.Common.{◌≡◌, ◌<◌, ℕ, Some}
use Rattle.std.specs.Prelude.{slice_get}
use Rattle.plir_core.specs.ContextView.{label_of, successors_of}
use Rattle.plir_core.specs.declared.ptr.Ptr.{Ptr}
use Rattle.plir_core.specs.declared.ptr.BasicBlock.{BasicBlock as BlockKind}
use Rattle.plir_attr_text.specs.Writable.{IsNameOrMark}
use Rattle.plir_roundtrip.proofs.own.are_successors_labelled.Given as goal

abbrev pub invariant-successors : goal.invariant-successors
invariant-successors g l =
    (j : ℕ) (b : Ptr BlockKind) → j < l.place → slice_get (successors_of l.ctx l.op) j ≡ Some b →
    IsNameOrMark (label_of l.ctx b)
