-- What the walks promise, from the ground up; what a callback may do to a context; laws for the proofs of passes; walks
-- of operations alone; and the names that are given to results and arguments.
--
--   Lists, Tree      Pairs; Tree, Place, IsUnder, NodeBefore: trees, places in them, and the order of places
--   Config           order_of, direction_of: how a setting takes each node
--   Lawful           Lawful: how a call at a node may change what a walk sees of a context
--   Calls            Call, Chain, CallsBack: calls of a callback, one after another; ReadsBack: of one that reads
--   ShutOut          IsShutOut: what the answer Skip leaves out
--   Walk             IsWalk, IsWalkWithin: what it is for calls and an answer to be a walk of a tree, also within a
--                    limit
--   AsRead           tree_read: the tree as a list of calls reads it
--   Walked           Walked, WalkedOver: the contracts of the walkers
--   LawfulChanges    LawfulChanges: which changes of a context are lawful at a node
--   ChangedBelow     ChangedBelow, StepsBelow: what a callback has done so far, in many steps
--   Additions        IsNewBefore: a tree was made and put before a mark; Additions: how such changes compose;
--                    AdditionLaws: their laws
--   Step             Hops, Runs: the cursor of a walk, step by step
--   Laws, CallLaws, TreeLaws, NodeLaws, WalkLaws
--                    laws of settings and traversals, of what calls keep, of trees, of nodes, of whole walks
--   Thinned          IsThinned: trees of nodes are gone, and nothing else has changed; ThinnedLaws: its laws
--   OperationWalks   WalkedOperations: the contract of walks that call at operations alone; OperationSteps: their
--                    steps; OperationLaws: their laws
--   GivenNames       names_of, named: names of results and arguments; Placing: how one comes among the others
--   Unnamed          IsUnnamed: what is left where all names under a node are erased
pub mod Lists
pub mod Config
pub mod Tree
pub mod Lawful
pub mod Calls
pub mod ShutOut
pub mod Walk
pub mod AsRead
pub mod Walked
pub mod LawfulChanges
pub mod ChangedBelow
pub mod Additions
pub mod AdditionLaws
pub mod Step
pub mod Laws
pub mod CallLaws
pub mod TreeLaws
pub mod NodeLaws
pub mod WalkLaws
pub mod Thinned
pub mod ThinnedLaws
pub mod OperationWalks
pub mod OperationSteps
pub mod OperationLaws
pub mod GivenNames
pub mod Placing
pub mod Unnamed
