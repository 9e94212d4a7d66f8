-- What the contracts of this crate cite.
--
--   Segments         segments_of: an operation's operands in segments; HasSegments: the rule; with_segments: the edits
--   SegmentRefusals  IsSegmentFault: how the rule of segments is refused
--   SegmentTypes     the rules of the types in one segment, and how they are refused
--   Layout           IsLayoutRefusal: how the check of a layout refuses
--   Branches         the rules of branches and of successors, and how they are refused
--   Calls            the rule of calls, and how it is refused
--   Taken            AreThose, IsOnceEach, AreTakenOnce: lists that are taken from other lists
--   Paths            LeadsTo: paths of steps
--   RegionEdges      EdgeView: an edge between an operation and its regions; Reach: which regions paths of edges lead
--                    to
--   EdgeEquality     same_edge: when two edges are equal
--   RegionRule       HasEdgeRule: the rule of region edges, and how it is refused
--
-- What private functions share.
--
--   EdgeVerdicts     IsEdgesVerdict and its kin: the first fault of edges, as far as they have been looked at
--   Hops             how the steps between regions are kept, while those that are reached are looked for
pub mod Segments
pub mod SegmentRefusals
pub mod SegmentTypes
pub mod Layout
pub mod Branches
pub mod Calls
pub mod Taken
pub mod Paths
pub mod RegionEdges
pub mod EdgeEquality
pub mod RegionRule
pub mod EdgeVerdicts
pub mod Hops
