-- What the contracts of this crate cite.
--
--   Inlined   IsInlinedWithin: what a run of the pass that inlines leaves; IsInlineStop: why it stops; budget_rule: its
--             option
--   Folded    AreFolded: what a run of the pass that folds leaves; IsFoldStop: why it stops
pub mod Inlined
pub mod Folded
