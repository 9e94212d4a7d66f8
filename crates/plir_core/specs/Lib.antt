-- What the contracts of this crate cite.
--
--   ContextView  ContextView K A T: what contracts see of a context; is_live, given_out, num_live, children, parent_of,
--                first_child, last_child, next_sibling, prev_sibling, IsAncestor; op_at, block_at and the parts of what
--                they hold; is_value_live, type_of_value
--   Contents     OpView K A, BlockView A: what operations and blocks hold; op_view: an operation without a location
--   Texts        pointer_text, node_text: pointers as texts write them, as op3v1
--   WellFormed   IsWellFormed: what holds of every context
--   Forest       Shape, look: what can be seen of a context's nodes; IsBelow; IsForest: the live nodes make a forest
--   Standing     IsStanding: what every context keeps of its nodes
--   Measures     depth; IsMeasured: how deep nodes stand and how many are live, for loops and recursions
--   Interfaces   implements: which interfaces a kind of operations implements
--   Changes      what the calls that change a context make of it; SameLive: no live node has changed
--   Edits        what they make of the nodes
--   Nodes        the nodes with their slots, and the words of ContextView over them
--   Stored       IsStored: what holds of the slots and lists in which the nodes are kept
--   Above        climb, Reaches: what stands above what; EndsWithin, IsGrounded: each climb ends
--   Made         IsMade: a tree is new, and nothing else has changed; IsRegionAdded: one region is;
--                HasNewRegions: the regions of a new operation
--   Room         IsFullForOp and its kin: when there is no room for a new node; NodeCount, IsFullFor: for several;
--                HaveCome: so many have come
--   RoomLaws     laws of these, for the proofs above
--   Placed       IsPlaced: a node has come under another one, and nothing else has changed (IsPlacedFirst and its kin:
--                where); IsUnlinked: it has left its parent
--   Points       put_at: where a node is put among others; CanBePut: what that asks; IsPutAt: what it leaves
--   Moved        IsMovedBefore and its kin: a node was moved; IsTransferred: children of one node have come under
--                another one; IsSplit: a node has got the last children of another one
--   Held         IsOpEdited, IsBlockEdited: what an operation or a block holds is edited, and nothing else has changed
--   ButOperands  but_operands: what an operation holds but for its operands
--   Grown        IsGrown: nodes are new below a node; Growth: how trees grow in many steps
--   Lends        what a `&mut` into a node leaves
--   Refused      IsUnmade: what a refused make leaves of the slots
--   NewOps       IsOpMade, IsOpUnmade: what making an operation leaves, and a refusal of that
--   Erase        erased: the nodes without a tree; IsErased: what that leaves as it was; LosesOneChild: the children
--                that are left
--   Lasting      StandsBesideAfter: what stood beside an operation stays where that is erased
--   Replaced     with_uses_replaced: a value has come in place of another one
--   Rewired      IsRewired: a value has come in place of another one, and nothing else has changed
--   Unused       IsUnusedOutside: nothing outside a tree uses a value or a block of it
--   Results      HasNoUsedResult: no result of an operation is used
--   Uses         uses_of: how often what is in a slot is used; Counts: that counts which are kept say so; IsSound
--   SameValue    same_ptr, same_value: whether two pointers and two values are the same
--   ValueUses    HasUses: a value is an operand of a live operation; num_uses_of: how many operands are
--   Noted        AreSeen: what is seen of the uses of a value in some slots
--   ListedUses   value_uses, block_uses: where a value and a block are used; AreListed: some of these places are listed
--   Walked       IsCome: how far a walk through a tree has come
--   Terminator   terminator_of: the operation that ends a block
--   InsertionPoint insertion_block: the block that an insertion point is in
pub mod Above
pub mod Nodes
pub mod Stored
pub mod Edits
pub mod Lends
pub mod Contents
pub mod ContextView
pub mod Measures
pub mod Forest
pub mod Texts
pub mod WellFormed
pub mod Standing
pub mod Interfaces
pub mod Changes
pub mod Made
pub mod Room
pub mod RoomLaws
pub mod Placed
pub mod Points
pub mod Held
pub mod ButOperands
pub mod Grown
pub mod Erase
pub mod Lasting
pub mod Refused
pub mod NewOps
pub mod Replaced
pub mod Unused
pub mod Uses
pub mod Walked
pub mod SameValue
pub mod ValueUses
pub mod Noted
pub mod ListedUses
pub mod Terminator
pub mod InsertionPoint
pub mod Rewired
pub mod Results
pub mod Moved
