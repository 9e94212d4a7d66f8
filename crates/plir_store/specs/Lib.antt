-- What the contracts of this crate cite, and laws of these words for the proofs of the crates above.
--
--   Members      Has, Distinct: what is in a list, and that it is there once
--   Table        Table, content_at, next_slot: slots, what each holds, and which is used next; is_live_at: whether the item
--                of a slot and a version is there; IsTable: what holds of every table
--   Lists        Lists, children, held: what contracts see of `Chains`; children_at, next_in, last_of: its parts; IsAgreed:
--                children and parents tell the same
--   Lends        LendsContent: what slots end as where a `&mut` into one is returned
--   Few          items_of: how `Few` holds its items
--   Hops         code_of, hop_of: how a `Hop` codes a number or none
--   Places       IsSound: how `Slots` lays out its slots
--   Links        IsLinked: how `Chains` lays out its lists
--   TableLaws, MemberLaws, FilterLaws, ListLaws
--                laws of these words, which no contract cites
pub mod Members
pub mod Lists
pub mod Links
pub mod Table
pub mod Places
pub mod Lends
pub mod Hops
pub mod Few
pub mod TableLaws
pub mod MemberLaws
pub mod FilterLaws
pub mod ListLaws
