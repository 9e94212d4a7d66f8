-- What the contracts of this crate cite.
--
--   Told       told_of: what is told of an operation by what it holds; by_own_kind, told_by_kind: as its own kind
--              tells; IsAmongOperands: places among its operands
--   Calls      CallView: a call; IsCallLive: what it names is there; arguments_of: its arguments; IsToldCall: what an
--   op set tells is what an interface says
--   Branches   forwarded_to: what a successor gets; IsToldBranch: what an op set tells is what an interface says
--   Sites      AreCallSites: which operations call the function of a name
--
-- What private functions share.
--
--   Finding    IsSitePut: what one step of the search for call sites leaves
pub mod Told
pub mod Calls
pub mod Branches
pub mod Sites
pub mod Finding
