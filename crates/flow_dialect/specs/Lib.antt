-- What the contracts of this crate cite.
--
--   FlowKinds      id_of, ends_block: what the queries of the kinds answer
--   FlowCalls      call_of, returned_of: what operations call and hand back; IsNamedCall: a call of a name
--   FlowBranches   forwards_of: what branches forward; IsCondBranch: a conditional branch
--   Scopes         scope_edges: the edges of a scope, read from the context
--   FlowLaws       laws: the op set tells of these operations what their interfaces say
pub mod FlowKinds
pub mod FlowCalls
pub mod FlowBranches
pub mod Scopes
pub mod FlowLaws
