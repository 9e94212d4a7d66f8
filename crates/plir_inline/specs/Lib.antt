-- What the contracts of this crate cite.
--
--   Given    given: the values of an operation or a block are given others; IsGiven: everywhere, and nothing else
--   Taken    IsTaken: a node without children is gone, and nothing else has changed
--   Branches NoBranchBack: no operation below a block branches to it; the walk that looks for one
--   Put      CanPut, IsPut: a block that stands alone is put in place of a call
--   Inlined  CanInline, IsInlined: a copy of a block is put in place of a call
pub mod Given
pub mod Taken
pub mod Branches
pub mod Put
pub mod Inlined
