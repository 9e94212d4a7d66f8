-- What the contracts of this crate cite.
--
--   Images      Images: what stands in place of values and blocks; AreImagesLive
--   Copied      op_under: what the copy of an operation holds; with_values_of
--   BlockLaws   labelled: what a block holds with a label; live_holds: a live block holds something
--   Telling     ptr_told, entity_told: whether two things are the same; replaced_hit, replaced_miss
--   Staying     keeps_same, keeps_both, same_live: what stays where nothing has changed, and by two changes
--   ListLaws    take_next: one more of the first elements of a list
--   RefusalLaws if_err, passed_on, on_err: what is said of a refusal that a `?` passes on
--   Trees       IsCopyOfTree: a tree was copied; HoldsCopies: what a map holds then
--   Room        count_of, tree_count: how many nodes of each kind stand in a list, and in a tree
--   Twins       IsCopying: how far a copy of a tree has come
pub mod Images
pub mod Copied
pub mod BlockLaws
pub mod Telling
pub mod Staying
pub mod ListLaws
pub mod RefusalLaws
pub mod Trees
pub mod Room
pub mod Twins
