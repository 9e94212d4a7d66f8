-- What the contracts of this crate cite.
--
--   Suffixes     given_name: the name that a text gives, without the suffix that says where a value stands
--   OpTerms      operations as they are written
--   OpGrammar    which tokens stand for an operation
--   OpReading    op_at: operations as they are read, with the first fault that is met
--   FaultsMet    Meets: which fault a text meets
--   Heads        what operations and blocks hold, by what is written before their bodies
--   OpsStanding  IsOpAt: the written operation that a node of a context stands for; StandsForOp: the one that a text
--                stands for
--   Keeping      KeepsOlder: what reading leaves of a context as it was
--   Slots        IsMadeInOrder: a tree's nodes come in the order of a text, each in the next slot of its kind
--   Room         op_count: how many nodes a text stands for; BeginsTooMany: those with which it begins have no room
--   Stopping     ReadsOn: reading into a context
--   HeldTypes    IsHeldByOp: the types that an operation holds
--   OpsRead      ReadsOp: what the reader's own functions answer
--   laws         laws of these words, which no contract cites
pub mod Suffixes
pub mod OpTerms
pub mod OpGrammar
pub mod OpReading
pub mod FaultsMet
pub mod Room
pub mod Stopping
pub mod Heads
pub mod OpsStanding
pub mod Keeping
pub mod Slots
pub mod HeldTypes
pub mod OpsRead
pub mod laws
