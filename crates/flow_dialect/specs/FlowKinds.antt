-- The dialect of flow.
use Rattle.std.specs.Prelude.{ℕ, List, Bool, true, false, codes}
use Rattle.flow_dialect.specs.declared.kinds.FlowKind.{FlowKind}
use Rattle.flow_dialect.specs.declared.kinds.FlowKind.TheVariants.{Call, CallValue, Return, CondBranch, Scope}
use Rattle.flow_dialect.specs.declared.kinds.FlowKind.TheVariants.{Leave}

-- the id of a kind
abbrev pub id_of : FlowKind → List ℕ
id_of Call = codes "flow.call"
id_of CallValue = codes "flow.call_value"
id_of Return = codes "flow.return"
id_of CondBranch = codes "flow.cond_branch"
id_of Scope = codes "flow.scope"
id_of Leave = codes "flow.leave"

-- whether an operation of the kind ends its block
abbrev pub ends_block : FlowKind → Bool
ends_block Call = false
ends_block CallValue = false
ends_block Return = true
ends_block CondBranch = true
ends_block Scope = false
ends_block Leave = true
