-- What the contracts of this crate cite.
--
--   Labels       label_text: a text as labels have it
--   NodeNames    node_name: how a node is named
--   Nested       nested: the text of a tree, by what opens and closes each node
--   Seats        seat, origin: where arrows begin and end
--   Boxes        block_box: a block as a box, with its operations in rows
--   Clusters     cluster_front, cluster_end: what is drawn of each node of a graph
--   Arrows       arrows_of: the arrows of each node
--   Graph        graph: the graph of an operation with all below it
--   DrawnCalls   IsDrawn: a text draws the call graph of a tree
--
-- What private functions share.
--
--   Ends         has_end: operations at which arrows end
--   Steps        Steps: one step of what goes through a tree, from a node that is entered or left to the next
pub mod Labels
pub mod NodeNames
pub mod Nested
pub mod Seats
pub mod Boxes
pub mod Clusters
pub mod Arrows
pub mod Graph
pub mod DrawnCalls
pub mod Ends
pub mod Steps
