-- Laws of these words, proved beside them so that the crates above can cite them. No contract cites these modules.
--
--   StepLaws     steps that did not fail, and choices
--   Lexing, Quoted, Begun       tokens that stand first in a text
--   ListsFound, TypesFound, LeavesFound, AttrsFound   what is read stands there
--   ListsAgain, TypesAgain, LeavesAgain, AttrsAgain   what stands there is read
--   Fronts, TypeSteps, AttrSteps   reading step by step, as loops and readers do
--   PartsFound   the types that are read in a text are held by what the text stands for
-- Ends, WrittenFound what is left of a text behind its first tokens; types that are read in a text are written in it
--   Growth, Meanings   what is named and meant in tables that grow
--   Handles, SameNames, SameMeanings   what one text names and means is one handle, one attribute
--   Printed, Runs, QuotedAgain, TypesShown, AttrsShown   printed names, numbers, strings, types and attributes are
--   tokens that stand for them
pub mod StepLaws
pub mod Lexing
pub mod Quoted
pub mod Fronts
pub mod Growth
pub mod TypeSteps
pub mod Begun
pub mod ListsFound
pub mod TypesFound
pub mod ListsAgain
pub mod TypesAgain
pub mod LeavesFound
pub mod LeavesAgain
pub mod AttrSteps
pub mod AttrsFound
pub mod AttrsAgain
pub mod Meanings
pub mod Handles
pub mod SameNames
pub mod SameMeanings
pub mod Printed
pub mod Runs
pub mod QuotedAgain
pub mod TypesShown
pub mod AttrsShown
pub mod PartsFound
pub mod Ends
pub mod WrittenFound
