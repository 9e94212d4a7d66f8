-- What the contracts of this crate cite.
--
--   SymbolNames   names_in, is_private_in: the names that operations use, and which symbols are private
--   BuiltinNames  names_held, is_marked_private: the same of the builtin operations
--   DeadSymbols   IsReached, IsDead, HasNoDead: which symbols of a table are reached, which are dead, and that none is
--   SweptSymbols  IsSweep, AreSweeps, AreSwept: dead symbols were erased; AreScansLeft: what scans then find
--   Reaching      what the search for reached symbols reaches, step by step
--   Sweeping      what one step and one round of the pass leave
--   CallGraph     IsCallGraph, IsGraphRefusal: call graphs; callees_in, callers_in: what is read of them
--   Chained       AreChains: what a call graph keeps, so that the edges of one operation are found
--   Calling       what one step of making a call graph leaves
--   CachedTables  AreBrought, IsOwnCached: what a pass leaves of the tables that are cached
pub mod SymbolNames
pub mod DeadSymbols
pub mod Reaching
pub mod SweptSymbols
pub mod Sweeping
pub mod CachedTables
pub mod CallGraph
pub mod Chained
pub mod Calling
pub mod BuiltinNames
