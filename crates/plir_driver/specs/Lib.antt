-- What the contracts of this crate cite.
--
--   PassRules    RunRule, StopRule: what passes say of themselves
--   PassEnds     IsEnd: whether a pass has changed anything, as it says
--   Named        is_named: which nodes bear names
--   LibraryPasses  IsPassed, IsPassRefusal: what those of the library say
--   OneOfPasses  what those of one of two kinds say
--   Passed       AreRun: what passes leave, one after another
--   Excerpt      excerpt_of: a line of a text, and a caret below one of its characters
--   Reading      ReadRule, RefusalRule: what ways to read texts say of themselves; IsPlacedOnce, IsBuiltinRefusal,
--                IsMadeOfText: what those of the library say
--   Transformed  IsTransformed: what is printed for a text
--   StopOf       which errors are told as which
--   Stopped      IsStopped: why nothing is printed for a text
--   Told         IsTold: what is told of that
--   NodeLines    IsListed: a text lists the nodes of a tree
--   OpLocations  AreLocated: a text lists operations with their places
--   Dumps        IsLogged: what is told of passes as they run
--   Parts        parts_of: the parts of an input
--   Counts       IsCount: how many operations there are; AreCountsPut: what is told of that
--   Traces       IsTraced: a text lists the calls of a walk
pub mod PassRules
pub mod PassEnds
pub mod Named
pub mod LibraryPasses
pub mod OneOfPasses
pub mod Passed
pub mod Excerpt
pub mod Reading
pub mod Transformed
pub mod StopOf
pub mod Stopped
pub mod Told
pub mod NodeLines
pub mod OpLocations
pub mod Dumps
pub mod Parts
pub mod Counts
pub mod Traces
