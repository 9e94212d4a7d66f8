-- What the contracts of this crate cite. A word takes the answers of the op set's queries whole, as `D.OpSet` gives
-- them.
--
--   ValueNames   value_name, block_name: the names of values and blocks in texts; results_of, arguments_of: these
--                values in order
--   HeaderAttrs  has_header: an operation has the attributes that its header needs; IsPrintable: each one at or under a
--                node has
--   Dictionaries dictionary: the attributes of an operation that its text shows
--   Headers      header: what stands before the attributes and regions of an operation
--   OpText       op_text: the text of an operation with all below it
--   WholeText    TextsAreWhole: the text of a node has the texts of all that stands in it
--   EdgeText     edge_text: the text of an edge
--
-- What private functions share.
--
--   ValueLists   values_in: the operands, the results or the arguments
--   HeaderWalk   header_answer: how the walk that looks at headers goes on
--   Steps        Steps: one step of a printer through a tree, from a node that is entered or left to the next
pub mod ValueNames
pub mod HeaderAttrs
pub mod Dictionaries
pub mod Headers
pub mod OpText
pub mod WholeText
pub mod EdgeText
pub mod ValueLists
pub mod HeaderWalk
pub mod Steps
