-- What stays of an operation where its operands alone are edited.
use Rattle.std.specs.Prelude.{[], Option, Some, None}
use Rattle.plir_core.specs.Contents.{OpView}

-- what an operation holds but for its operands
abbrev pub but_operands : {K A : Type 0} → Option (OpView K A) → Option (OpView K A)
but_operands None = None
but_operands (Some v) = Some (record v { operands = [] })
